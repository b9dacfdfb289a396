use Rattle.mk_why.proofs.Vocabulary.{IsNoted, IsWay, Link, PointsIntoAllocation, View, view_by, world_in}
use Rattle.mk_why.proofs.Searches.{looks_search, more_noted, part_noted, searches_nothing, searches_then, through_stays}
use Rattle.mk_why.proofs.{Searches.view_search, Explored.onward_way, Looks.looks_then}
use Rattle.mk_sweep.proofs.Below.Laws.Vocabulary.{arith, slice_index, subst, sym, ◌*◌, ◌+◌, ◌∙◌, ◌≡◌}
use Rattle.mk_why.proofs.searching.search_words.Goals as goal

pub loop-i-init : goal.loop-i-init
loop-i-init c = record {
  on = searches_nothing c.args.stop.now c.requires.still c.requires.search;
  noted = λ i lt. absurd (omega arith);
}

pub note_value-requires-clause-search : goal.note_value-requires-clause-search
note_value-requires-clause-search c = grind (arith, view_search)

pub note_value-requires-clause-way : goal.note_value-requires-clause-way
note_value-requires-clause-way c b points =
    let k = c.args.words.now.config in
    let v = view_by c.args.stop.now.pass in
    let same = c.look_at-value.ensures.on.view ∙ c.loop-i.invariant.on.on.view in
    let value : c.look_at-value.result ≡ slice_index v.words.heap (c.args.base + c.loop-i.i) = grind arith in
    subst (λ (y : View). IsWay k y c.loop-i.tables.found.items
    (Link (65536 + 8 * (c.args.base + c.loop-i.i)) c.args.base) (c.args.links + 1) b) (sym same)
    (onward_way k v (c.args.base + c.loop-i.i) b (c.requires.scanned c.loop-i.i (omega arith))
    (through_stays c.args.tables.now.found.items c.loop-i.tables.found.items c.loop-i.invariant.on.grows.stays
    c.args.base c.args.links c.requires.found) c.look_at-value.result value
    (subst (λ (y : View). PointsIntoAllocation k (world_in y) c.look_at-value.result b) same points))

pub loop-i-preserved : goal.loop-i-preserved
loop-i-preserved c =
    let k = c.args.words.now.config in
    let v = view_by c.args.stop.now.pass in
    let found = c.note_value.new.tables.found.items in
    let value : c.look_at-value.result ≡ slice_index v.words.heap (c.args.base + c.loop-i.i) = grind arith in
    record {
      on = searches_then c.loop-i.invariant.on (looks_search c.look_at-value.ensures.on c.note_value.ensures.on);
      noted = more_noted k v c.loop-i.tables.found.items found c.note_value.ensures.on.grows.stays (λ i. slice_index
          v.words.heap (c.args.base + i)) (c.args.links + 1) c.loop-i.i c.loop-i.invariant.noted (subst (λ u. IsNoted k
          v found u (c.args.links + 1)) value (part_noted k found (λ y. c.look_at-value.result) (c.args.links + 1)
          (looks_then c.loop-i.invariant.on.on c.look_at-value.ensures.on) c.note_value.ensures.noted));
    }
