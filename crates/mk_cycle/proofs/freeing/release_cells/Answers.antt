-- A page's quarantine and mark words are looked at once each, and say what is released on it.
use Rattle.mk_words.proofs.Below.Laws.Vocabulary.{ap, header_at, sym, without, ℕ, ◌∙◌, ◌≡◌}
use Rattle.mk_cycle.proofs.Vocabulary.{GivesNothingBack, Released, left_unmarked, now_of, released_on}
use Rattle.mk_cycle.proofs.CountedPages.{counted_on, held_by_header, snapshot_told, told_none}
use Rattle.mk_cycle.proofs.SettledPages.{free_cells_stay, gives_none, gives_then, marked_gone, none_left_on}
use Rattle.mk_cycle.proofs.{FreeingSteps.freed_turn, GivingSteps.{none_at_once, none_then}, PageSteps.same_header}
use Rattle.mk_cycle.proofs.freeing.release_cells.Goals.{After-without-gone, else-gone-ne0, then-gone-ne0}
use Rattle.mk_cycle.proofs.freeing.release_cells.Goals as goal

pub returns-then-snapshot-eq0-clause-told : goal.returns-then-snapshot-eq0-clause-told
returns-then-snapshot-eq0-clause-told c =
    let x = c.look-quarantine.ensures in
    told_none (now_of c.args.turn.now.pass).words _
    (sym (snapshot_told _ c.look-quarantine.result c.look-quarantine.new.turn.in_order x.frees x.reads)
    ∙ sym c.of-snapshot.ensures.snapshot ∙ c.if-snapshot-eq0.true)

pub returns-then-snapshot-eq0-clause-gives : goal.returns-then-snapshot-eq0-clause-gives
returns-then-snapshot-eq0-clause-gives c =
    let x = c.look-quarantine.ensures in
    gives_none _ x.frees
    (none_left_on _ c.look-quarantine.result c.look-quarantine.new.turn.in_order x.reads
    (sym c.of-snapshot.ensures.snapshot ∙ c.if-snapshot-eq0.true))

-- with both words
both : (c : After-without-gone) → GivesNothingBack c.args.turn.now.pass c.look-marks.new.turn.pass
both c = none_then c.look-quarantine.ensures.frees c.look-marks.ensures.frees

header : (c : After-without-gone) → c.args.header.now ≡ header_at (now_of c.look-marks.new.turn.pass).words c.args.page
header c =
    c.requires.may.is_header
    ∙ sym (same_header c.args.turn.now.pass c.look-marks.new.turn.pass c.args.page ((both c).same c.args.page))

gone : (c : After-without-gone)
    → c.without-gone.result ≡ left_unmarked (now_of c.look-marks.new.turn.pass).words c.args.page
gone c =
    let x = c.look-quarantine.ensures in
    let y = c.look-marks.ensures in
    c.without-gone.ensures ∙ ap (λ (n : ℕ). without n c.look-marks.result) c.of-snapshot.ensures.snapshot
    ∙ marked_gone _ c.look-quarantine.result c.look-marks.result c.look-quarantine.new.turn.in_order y.frees x.reads
    y.reads

pub returns-clause-told : goal.returns-clause-told
returns-clause-told c =
    let x = (goal.at.returns-clause-told c).After-without-gone in
    let r = c.released_cells-released.ensures in
    let words = c.held_words-held.ensures in
    let counted : c.released_cells-released.result ≡ released_on (now_of c.args.turn.now.pass).words c.args.page =
    counted_on c.args.page c.of-snapshot.result.snapshot c.look-marks.result c.args.header.now
    c.released_cells-released.result (both x) (none_at_once c.look-marks.new.turn.pass)
    (c.of-snapshot.ensures.snapshot
    ∙ snapshot_told c.args.page c.look-quarantine.result c.look-quarantine.new.turn.in_order
    c.look-quarantine.ensures.frees c.look-quarantine.ensures.reads) c.look-marks.ensures.reads (header x) r.count
    r.words r.kept in
    record {
      released = counted;
      held = words.is ∙ held_by_header (now_of c.args.turn.now.pass).words c.args.page c.args.header.now
          c.released_cells-released.result.words c.requires.may.is_header (ap (λ (r : Released). r.words) counted);
      few = r.few;
      part = words.part;
    }

pub returns-clause-gives : goal.returns-clause-gives
returns-clause-gives c =
    let x = (goal.at.returns-clause-gives c).After-without-gone in
    elim c.if-gone-ne0.branch [
      | then-gone-ne0 w ↦ rw w.turn-is (gives_then (both x) w.give_back.ensures)
      | else-gone-ne0 w ↦ rw w.turn-is (gives_none c.args.page (both x) (sym (gone x) ∙ w.if-gone-ne0.false))
    ]

pub give_back-requires-clause-may : goal.give_back-requires-clause-may
give_back-requires-clause-may c =
    let x = (goal.at.give_back-requires-clause-may c).After-without-gone in
    let may = c.requires.may in
    record {
      turn = record { is_turn = freed_turn (both x).frees may.turn.is_turn; count = may.turn.count };
      within = may.within;
      is_header = header x;
      cells = free_cells_stay c.args.page (both x).frees ((both x).same c.args.page) may.cells;
    }

pub give_back-requires-clause-gone : goal.give_back-requires-clause-gone
give_back-requires-clause-gone c = gone (goal.at.give_back-requires-clause-gone c).After-without-gone
