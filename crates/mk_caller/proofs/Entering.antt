-- The first step: it begins the call, or finds the gate held.
use Rattle.std.proofs.Common.{Err, Ok, OnErr, OnOk, Result}
use Rattle.mk_words.proofs.Below.Laws.Vocabulary.{None, Op, Step, ap, append-nil, begun, refl, still, ◌∙◌}
use Rattle.mk_caller.proofs.{OneStep.one_step, Onward.enters}
use Rattle.mk_caller.specs.{Called.{own_calls, FindsGateHeld}, Moves.{CallMoves, MayBeginCall}}
use Rattle.mk_words.specs.{States.{PassState, call_of}, Steps.{FindsHeld, Goes}, declared.call_steps.Held.Held}

pub entered : {p : PassState} {o : Op} (q : PassState) (r : Result (Unit {0}) Held) → MayBeginCall p o
    → OnOk r (Goes p (Step.Enter o) (record { flight = begun o; answer = None }) q)
    → OnOk r (CallMoves p o (Step.Enter o) (record { flight = begun o; answer = None }) q)
entered q (Ok u) ready g = enters ready g
entered q (Err e) ready g = tt

pub held : {p : PassState} {o : Op} (q : PassState) (r : Result (Unit {0}) Held) → MayBeginCall p o
    → OnErr r (FindsHeld p o q) → OnErr r (Goes p (Step.Enter o) (still (call_of p)) q) → OnErr r (FindsGateHeld p o q)
held q (Ok u) ready finds stays = tt
held {p} {o} q (Err e) ready finds stays =
    let m = one_step p o (Step.Enter o) (still (call_of p)) q ready.caller ready.seat stays ready.entered refl in
    record {
      finds = finds;
      entries = ap (λ (r : PassState). own_calls p r.seen) m.is ∙ m.entry ∙ append-nil (own_calls p p.seen);
      registers = rw m.is m.decided;
      rest = stays.call ∙ ready.rest;
      pass = stays.makes.pass;
    }
