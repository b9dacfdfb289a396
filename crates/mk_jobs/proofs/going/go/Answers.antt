use Rattle.mk_heap.proofs.Below.Laws.Vocabulary.{Bool, ap, refl, subst, sym, true, [], ◌<◌, ◌∙◌, ◌∷◌, ◌≡◌}
use Rattle.mk_jobs.proofs.RunVocabulary.{Answer, Answers, CallerState, Op, PassState, StaysAdmitted, caller_of_pass}
use Rattle.mk_jobs.proofs.{RunVocabulary.{next_by, op_of}, Walking.{advances, goes_nowhere, goes_through, may_ask}}
use Rattle.mk_jobs.proofs.{Walking.ready_on, going.go.Goals.{In-Some-op_of, Joined-answer_at_once}}
use Rattle.mk_jobs.proofs.going.go.Goals.{in-None-answer_at_once, in-Some-answer_at_once}
use Rattle.mk_heap.proofs.Dispatched.{put_off_then, put_off_waits, stays_admitted_after}
use Rattle.mk_jobs.proofs.going.go.Goals as goal

-- The caller is told this of an operation, at once or later.
record IsAnswered (on : Bool) (p : PassState) (o : Op) (told : Answer) (q : CallerState) : Type 0 where
  home : q.home ≡ true
  answers : Answers on p o told q.pass

-- what the point asks for is admitted
asked_admitted : (g : _) (c : In-Some-op_of g) → StaysAdmitted c.points.caller.pass c.in-Some-op_of.op
asked_admitted g c =
    let ready = c.points.invariant.ready in
    may_ask g.O.Object.plan g.met.O.Object.typed c.points.point ready.may ready.made
    (ap op_of (sym c.step-asked.ensures) ∙ sym c.op_of.ensures ∙ c.in-Some-op_of.is) c.points.invariant.holds

pub answer_at_once-requires-clause-admitted : goal.answer_at_once-requires-clause-admitted
answer_at_once-requires-clause-admitted g c =
    asked_admitted g (goal.at.answer_at_once-requires-clause-admitted g c).In-Some-op_of

pub answer_put_off-told-requires-clause-admitted : goal.answer_put_off-told-requires-clause-admitted
answer_put_off-told-requires-clause-admitted g c κs within =
    stays_admitted_after c.in-Some-op_of.op
    (asked_admitted g (goal.at.answer_put_off-told-requires-clause-admitted g c).In-Some-op_of)
    (put_off_waits c.in-None-answer_at_once.ensures.put_off)

pub answer_put_off-told-requires-clause-may : goal.answer_put_off-told-requires-clause-may
answer_put_off-told-requires-clause-may g c κs within =
    let may = c.points.invariant.ready.may in
    let is = (put_off_waits c.in-None-answer_at_once.ensures.put_off).is in
    record {
      home = c.answer_at_once.ensures.home;
      exists = subst (λ (q : PassState). caller_of_pass q < q.table.config.callers) (sym is) may.exists;
      alone = subst (λ (q : PassState). q.seats ≡ q.seat ∷ []) (sym is) may.alone;
      made_for = may.made_for ∙ ap (λ (q : PassState). q.table.config.pages) (sym is);
    }

-- the operation is answered, at once or later
joined : (g : _) (c : Joined-answer_at_once g) → IsAnswered g.E.Engine.ways.on c.points.caller.pass c.in-Some-op_of.op
    c.match-answer_at_once.told c.match-answer_at_once.caller
joined g c =
    let now = c.answer_at_once.ensures in
    elim c.match-answer_at_once.branch [
      | in-Some-answer_at_once w ↦
          rw (w.caller-is, w.told-is)
          (record { home = now.home; answers = w.in-Some-answer_at_once.ensures.answers g.E.Engine.ways.on })
      | in-None-answer_at_once w ↦
          let later = w.answer_put_off-told.ensures in
          rw (w.caller-is, w.told-is) (record {
            home = later.home;
            answers = put_off_then w.in-None-answer_at_once.ensures.put_off later.answers;
          })
    ]

pub points-init : goal.points-init
points-init g c = record {
  ready = c.requires.ready;
  goes = goes_nowhere g.O.Object.plan c.args.caller.now.pass c.args.from;
  holds = c.requires.holds;
  exact = λ before. before;
}

pub points-preserved : goal.points-preserved
points-preserved g c =
    let plan = g.O.Object.plan in
    let before = c.points.invariant in
    let answered = joined g (goal.at.points-preserved g c).Joined-answer_at_once in
    let after = c.match-answer_at_once in
    let on = advances plan g.met.O.Object.typed c.points.point
    (c.next_by-point.ensures
    ∙ ap (λ st. next_by plan.with_number c.points.point st after.told) c.step-asked.ensures)
    before.ready.made (after.caller.in_order answered.home).pass.history
    (ap op_of (sym c.step-asked.ensures) ∙ sym c.op_of.ensures ∙ c.in-Some-op_of.is) before.holds answered.answers in
    let made_for : g.E.Engine.made_for after.engine ≡ g.E.Engine.made_for c.points.engine = elim after.branch [
      | in-Some-answer_at_once w ↦ rw w.engine-is refl
      | in-None-answer_at_once w ↦ cc (w.engine-is, w.answer_put_off-told.ensures.made_for)
    ] in
    record {
      ready = ready_on plan after.engine before.ready answered.home on.goes.is made_for;
      goes = goes_through plan before.goes on.goes;
      holds = on.holds;
      exact = λ first. answered.answers.exact (before.exact first);
    }
