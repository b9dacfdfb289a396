use Rattle.mk_why.proofs.Vocabulary.{IsNoted, IsWay, PointsIntoAllocation, Start, View, is_still_word, is_word}
use Rattle.mk_why.proofs.{Vocabulary.{named_word, view_by, world_in}, Explored.{root_is_still, root_is_word}}
use Rattle.mk_why.proofs.{Explored.root_named, Searches.{looks_search, part_noted, view_search}}
use Rattle.mk_sweep.proofs.Below.Laws.Vocabulary.{ap, refl, subst, sym, ◌∙◌}
use Rattle.mk_why.proofs.searching.search_root.Goals as goal

pub look_at-value-requires-clause-word : goal.look_at-value-requires-clause-word
look_at-value-requires-clause-word c =
    ap (is_word c.args.words.now.config) c.root_word.ensures
    ∙ root_is_word c.args.words.now.config c.args.root c.requires.root

pub look_at-value-requires-clause-name : goal.look_at-value-requires-clause-name
look_at-value-requires-clause-name c = ap is_still_word c.root_word.ensures ∙ root_is_still c.args.root

pub note_value-requires-clause-search : goal.note_value-requires-clause-search
note_value-requires-clause-search c = view_search c.look_at-value.ensures.on c.requires.search

pub note_value-requires-clause-way : goal.note_value-requires-clause-way
note_value-requires-clause-way c b points =
    let k = c.args.words.now.config in
    let v = view_by c.args.stop.now.pass in
    subst (λ (y : View). IsWay k y c.args.tables.now.found.items (Start c.args.root) 0 b)
    (sym c.look_at-value.ensures.on.view) (
      refl,
      c.requires.root,
      subst (λ u. PointsIntoAllocation k (world_in v) u b) (c.look_at-value.ensures.found ∙ ap (named_word v.words)
          c.root_word.ensures ∙ root_named v.words c.args.root) (subst (λ (y : View). PointsIntoAllocation k
          (world_in y) c.look_at-value.result b) c.look_at-value.ensures.on.view points),
    )

pub returns-clause-on : goal.returns-clause-on
returns-clause-on c = looks_search c.look_at-value.ensures.on c.note_value.ensures.on

pub returns-clause-noted : goal.returns-clause-noted
returns-clause-noted c =
    let k = c.args.words.now.config in
    let v = view_by c.args.stop.now.pass in
    subst (λ u. IsNoted k v c.note_value.new.tables.found.items u 0) (c.look_at-value.ensures.found ∙ ap (named_word
    v.words) c.root_word.ensures ∙ root_named v.words c.args.root) (part_noted k c.note_value.new.tables.found.items
    (λ y. c.look_at-value.result) 0 c.look_at-value.ensures.on c.note_value.ensures.noted)
