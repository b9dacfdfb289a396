use Rattle.mk_heap.proofs.Below.Laws.Vocabulary.{ap, arith, subst, sym, [], ◌∙◌, ◌∷◌, ◌≡◌}
use Rattle.mk_run.proofs.Vocabulary.{IsChecked, PassState, StaysAdmitted, answers_in, keeps_then, rules}
use Rattle.mk_run.proofs.ScriptCalls.{asked_stays_admitted, exists_on, follows_now, has_room, refused_within, runs_on}
use Rattle.mk_run.proofs.{ScriptCalls.seat_is, AtOnceOrLater.{IsAnsweredAs, answered_at_once, answered_later}}
use Rattle.mk_run.proofs.scripts.run_script.Goals.{After-answer_put_off-answer, In-None, In-Some}
use Rattle.mk_run.proofs.scripts.run_script.Goals.{In-Some-answer_at_once}
use Rattle.mk_run.specs.Running.{script_of}
use Rattle.mk_heap.proofs.{Below.Objects.UnsweptTurns.keeps_still, Dispatched.{put_off_waits, stays_admitted_after}}
use Rattle.mk_heap.proofs.Dispatched.{then_seen}
use Rattle.mk_run.proofs.scripts.run_script.Goals as goal

-- the script's next operation is admitted
next_admitted : (g : _) (c : In-Some g) → StaysAdmitted c.instructions.caller.pass c.in-Some.op
next_admitted g c =
    let p = c.args.caller.now.pass in
    let q = c.instructions.caller.pass in
    let program = c.args.program.now in
    let k = c.args.k in
    let run = c.instructions.invariant.running in
    let known = c.program-well_typed.ensures in
    let checked : IsChecked program = record { well_typed = known.well_typed; of_some_text = known.of_some_text } in
    asked_stays_admitted run
    (seat_is p k run.is (c.instructions.caller.in_order c.instructions.invariant.home) c.requires.number) c.in-Some.op
    (sym (c.in-Some.ensures.next program k _ run.fed.feed)) checked c.requires.script c.requires.config

pub answer_at_once-requires-clause-admitted : goal.answer_at_once-requires-clause-admitted
answer_at_once-requires-clause-admitted g c =
    next_admitted g (goal.at.answer_at_once-requires-clause-admitted g c).In-Some

-- The operation is answered at once,
at_once : (g : _) (c : In-Some-answer_at_once g)
    → IsAnsweredAs g.E.Engine.ways
    c.instructions.caller.pass
    c.in-Some.op c.in-Some-answer_at_once.answer c.answer_at_once.new.caller
at_once g c =
    let now = c.answer_at_once.ensures in
    answered_at_once c.answer_at_once.new.caller now.home c.in-Some-answer_at_once.ensures.answers now.beside

-- or later.
later : (g : _) (c : After-answer_put_off-answer g)
    → IsAnsweredAs g.E.Engine.ways
    c.instructions.caller.pass
    c.in-Some.op c.answer_put_off-answer.result c.answer_put_off-answer.new.caller
later g c =
    let done = c.answer_put_off-answer in
    answered_later c.answer_at_once.new.caller done.new.caller c.in-None.ensures.put_off done.ensures.home
    done.ensures.answers done.ensures.keeps

-- what the pass is where an operation was put off
put_off : (g : _) (c : In-None g)
    → c.answer_at_once.new.caller.pass ≡ record c.args.caller.now.pass { seen = c.answer_at_once.new.caller.pass.seen }
put_off g c =
    let p = c.args.caller.now.pass in
    let q = c.instructions.caller.pass in
    then_seen p q c.answer_at_once.new.caller.pass c.instructions.invariant.running.is
    (put_off_waits c.in-None.ensures.put_off).is

pub answer_put_off-answer-requires-clause-admitted : goal.answer_put_off-answer-requires-clause-admitted
answer_put_off-answer-requires-clause-admitted g c κs within =
    stays_admitted_after c.in-Some.op
    (next_admitted g (goal.at.answer_put_off-answer-requires-clause-admitted g c).In-Some)
    (put_off_waits c.in-None.ensures.put_off)

pub answer_put_off-answer-requires-clause-may : goal.answer_put_off-answer-requires-clause-may
answer_put_off-answer-requires-clause-may g c κs within =
    let x = goal.at.answer_put_off-answer-requires-clause-may g c in
    let is = put_off g x.In-None in
    record {
      home = c.answer_at_once.ensures.home;
      exists = exists_on c.args.caller.now.pass c.answer_at_once.new.caller.pass c.args.k c.args.program.now
          is c.requires.number c.requires.script c.requires.config;
      alone = subst (λ (q : PassState). q.seats ≡ q.seat ∷ []) (sym is) c.requires.alone;
      made_for = c.instructions.invariant.made_for ∙ c.requires.ready.engine
          ∙ ap (λ (q : PassState). q.table.config.pages) (sym is);
    }

pub take_answer-requires-clause-room : goal.take_answer-requires-clause-room
take_answer-requires-clause-room g c =
    let known = c.program-well_typed.ensures in
    let checked : IsChecked c.args.program.now =
    record { well_typed = known.well_typed; of_some_text = known.of_some_text } in
    has_room c.instructions.feed c.instructions.counts checked c.instructions.invariant.running.fed

pub take_late_answer-requires-clause-room : goal.take_late_answer-requires-clause-room
take_late_answer-requires-clause-room g c =
    let known = c.program-well_typed.ensures in
    let checked : IsChecked c.args.program.now =
    record { well_typed = known.well_typed; of_some_text = known.of_some_text } in
    has_room c.instructions.feed c.instructions.counts checked c.instructions.invariant.running.fed

pub instructions-preserved-in-Continue-1 : goal.instructions-preserved-in-Continue-1
instructions-preserved-in-Continue-1 g c =
    let p = c.args.caller.now.pass in
    let q = c.instructions.caller.pass in
    let program = c.args.program.now in
    let k = c.args.k in
    let i = c.instructions.invariant in
    let run = i.running in
    let seat = seat_is p k run.is (c.instructions.caller.in_order i.home) c.requires.number in
    let next = sym (c.in-Some.ensures.next program k (answers_in p.table.config k q.seen) run.fed.feed) in
    let now = c.answer_at_once.ensures in
    let j = answered_at_once c.answer_at_once.new.caller now.home c.in-Some-answer_at_once.ensures.answers now.beside in
    let on = runs_on run seat c.in-Some.op next (script_of c.take_answer.new.feed c.take_answer.new.counts) j.answers
    c.in_ok-take_answer-in-Some-answer_at_once.ensures.takes in
    record {
      home = j.home;
      running = on;
      made_for = i.made_for;
      refused = refused_within on.fed;
      keeps = keeps_then run.is i.keeps j.keeps;
    }

pub instructions-preserved : goal.instructions-preserved
instructions-preserved g c =
    let p = c.args.caller.now.pass in
    let q = c.instructions.caller.pass in
    let program = c.args.program.now in
    let k = c.args.k in
    let i = c.instructions.invariant in
    let run = i.running in
    let seat = seat_is p k run.is (c.instructions.caller.in_order i.home) c.requires.number in
    let next = sym (c.in-Some.ensures.next program k (answers_in p.table.config k q.seen) run.fed.feed) in
    let done = c.answer_put_off-answer in
    let j = answered_later c.answer_at_once.new.caller done.new.caller c.in-None.ensures.put_off done.ensures.home
    done.ensures.answers done.ensures.keeps in
    let on = runs_on run seat c.in-Some.op next
    (script_of c.take_late_answer.new.feed c.take_late_answer.new.counts) j.answers
    c.in_ok-take_late_answer-in-None.ensures.takes in
    record {
      home = j.home;
      running = on;
      made_for = done.ensures.made_for ∙ i.made_for;
      refused = refused_within on.fed;
      keeps = keeps_then run.is i.keeps j.keeps;
    }

pub returns-in_err-take_answer-in-Some-answer_at_once : goal.returns-in_err-take_answer-in-Some-answer_at_once
returns-in_err-take_answer-in-Some-answer_at_once g c =
    let p = c.args.caller.now.pass in
    let program = c.args.program.now in
    let k = c.args.k in
    let run = c.instructions.invariant.running in
    let j = at_once g (goal.at.returns-in_err-take_answer-in-Some-answer_at_once g c).In-Some-answer_at_once in
    record {
      home = j.home;
      pass = then_seen p c.instructions.caller.pass c.answer_at_once.new.caller.pass run.is j.answers.is;
      follows =
          follows_now run
          (seat_is p k run.is (c.instructions.caller.in_order c.instructions.invariant.home) c.requires.number)
          c.in-Some.op (sym (c.in-Some.ensures.next program k _ run.fed.feed)) j.answers;
      ends = search rules;
      text = search rules;
      keeps = keeps_then run.is c.instructions.invariant.keeps j.keeps;
    }

pub returns-in_err-take_late_answer-in-None : goal.returns-in_err-take_late_answer-in-None
returns-in_err-take_late_answer-in-None g c =
    let p = c.args.caller.now.pass in
    let program = c.args.program.now in
    let k = c.args.k in
    let run = c.instructions.invariant.running in
    let j = later g (goal.at.returns-in_err-take_late_answer-in-None g c).After-answer_put_off-answer in
    record {
      home = j.home;
      pass = then_seen p c.instructions.caller.pass c.answer_put_off-answer.new.caller.pass run.is j.answers.is;
      follows =
          follows_now run
          (seat_is p k run.is (c.instructions.caller.in_order c.instructions.invariant.home) c.requires.number)
          c.in-Some.op (sym (c.in-Some.ensures.next program k _ run.fed.feed)) j.answers;
      ends = search rules;
      text = search rules;
      keeps = keeps_then run.is c.instructions.invariant.keeps j.keeps;
    }

pub instructions-init : goal.instructions-init
instructions-init g c = record {
  home = grind arith;
  running = grind (arith, refused_within);
  made_for = grind arith;
  refused = grind (arith, refused_within);
  keeps = keeps_still;
}
