use Rattle.mk_run.proofs.Below.Laws.Vocabulary.{is_held, sym, true, ◌∙◌, ◌≡◌}
use Rattle.mk_heap_tests.proofs.{Vocabulary.now_of, LateMarkers.{HasHeld, all_held, may_hold, may_want, on_ok}}
use Rattle.mk_heap_tests.proofs.{LateMarkers.stop_table, late_markers.want_close.Goals.Else-is_err}
use Rattle.mk_heap_tests.proofs.late_markers.want_close.Goals as goal

pub try_hold-requires-clause-enabled : goal.try_hold-requires-clause-enabled
try_hold-requires-clause-enabled c =
    may_hold c.args.words.now c.requires.turn c.requires.one c.args.turn.in_order

held : (c : Else-is_err) → HasHeld c.args.words.now c.args.turn.pass c.try_hold.new.self.pass
held c = record {
  marking = c.requires.turn;
  one = c.requires.one;
  turn = c.args.turn.in_order;
  after = c.try_hold.new.self.in_order;
  acts = c.try_hold.ensures.acts;
  held = on_ok c.try_hold.result (is_held (now_of c.try_hold.new.self.pass).words 0 ≡ true)
      (sym c.is_err.ensures.value ∙ c.if-is_err.false) c.try_hold.ensures.held;
}

pub stopped-stop-requires : goal.stopped-stop-requires
stopped-stop-requires c = all_held (held (goal.at.stopped-stop-requires c).Else-is_err)

pub want-requires-clause-one_table : goal.want-requires-clause-one_table
want-requires-clause-one_table c =
    cc (c.stopped-stop.ensures, stop_table (held (goal.at.want-requires-clause-one_table c).Else-is_err))

pub want-requires-clause-enabled : goal.want-requires-clause-enabled
want-requires-clause-enabled c =
    rw c.stopped-stop.ensures (may_want (held (goal.at.want-requires-clause-enabled c).Else-is_err))
