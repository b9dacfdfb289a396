use Rattle.mk_words.proofs.Below.Laws.Vocabulary.{arith, ◌≡◌}
use Rattle.mk_cycle.proofs.closing.close_marks.Goals as goal
use Rattle.mk_cycle.proofs.{Closes.{marks_closed_now, may_close_now}, Wants.{wanted_once_then, wants_by}}
use Rattle.mk_cycle.specs.Grays.{TracesReached}

pub returns-clause-wants : goal.returns-clause-wants
returns-clause-wants g c = wants_by c.want_and_wait.ensures.wants c.mark_in_stop.ensures.on.traces.does

pub returns-clause-traces : goal.returns-clause-traces
returns-clause-traces g c =
    wanted_once_then TracesReached _ _ _ c.want_and_wait.ensures.traces c.mark_in_stop.ensures.on.traces

pub returns-clause-closes : goal.returns-clause-closes
returns-clause-closes g c =
    let t = c.mark_in_stop.new.stop in
    let m = c.mark_in_stop.ensures in
    let sized : c.of.result.pages ≡ t.pass.table.config.pages = grind arith in
    may_close_now t m.on.wanted (λ pg lt. m.black pg (rw sized lt)) (λ pg lt. m.clean pg (rw sized lt))
    (rw sized at m.roots)

pub returns-clause-closed : goal.returns-clause-closed
returns-clause-closed g c = marks_closed_now c.mark_in_stop.new.stop (returns-clause-closes g c)
