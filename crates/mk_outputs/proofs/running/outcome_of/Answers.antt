use Rattle.std.proofs.{Common.{false, ◌≡◌}, lemmas.Result.IfOk-weaker}
use Rattle.mk_check.specs.Declarations.{config_of}
use Rattle.mk_run.specs.Below.{Cycles.BeginCycle.CyclesHoldGatesFirst, Heaps.Hosts.history_of}
use Rattle.mk_run.specs.Headline.{cycles_go_on}
use Rattle.mk_run.proofs.SweptRuns.{run_sweeps}
use Rattle.std.specs.Prelude.{Err, IfOk, Ok, Result}
use Rattle.std.proofs.Common.{refl}
use Rattle.mk_outputs.proofs.running.outcome_of.Goals as goal

-- An engine that marks in the stop does nothing as a cycle begins.

pub returns-in-Stop-clause-stops : goal.returns-in-Stop-clause-stops
returns-in-Stop-clause-stops g c =
    rw c.in-Stop.is (IfOk-weaker c.run_by.result
    (λ ran. CyclesHoldGatesFirst (config_of c.args.program.now 0) (history_of ran.0.report)) (λ ran. cycles_go_on 0
    ≡ false → CyclesHoldGatesFirst (config_of c.args.program.now 0) (history_of ran.0.report)) (λ ran holds off. holds)
    c.run_by.ensures.begun)

pub returns-in-Sweep-clause-stops : goal.returns-in-Sweep-clause-stops
returns-in-Sweep-clause-stops g c =
    rw c.in-Sweep.is (IfOk-weaker c.run_by-in-Sweep.result
    (λ ran. CyclesHoldGatesFirst (config_of c.args.program.now 0) (history_of ran.0.report)) (λ ran. cycles_go_on 0
    ≡ false → CyclesHoldGatesFirst (config_of c.args.program.now 0) (history_of ran.0.report)) (λ ran holds off. holds)
    c.run_by-in-Sweep.ensures.begun)

-- One that sweeps marks what is swept, and releases all else.

all_ok : {A B : Type 0} {P Q R S T U : A → Type 0} (r : Result A B)
    → ((x : A) → P x → Q x → R x → S x → T x → U x) → IfOk r P → IfOk r Q → IfOk r R → IfOk r S → IfOk r T
    → IfOk r U
all_ok (Ok x) so a b c d e = so x a b c d e
all_ok (Err e) so a b c d f = tt

pub returns-in-Sweep-clause-swept : goal.returns-in-Sweep-clause-swept
returns-in-Sweep-clause-swept g c =
    let ran = c.run_by-in-Sweep.ensures in
    rw c.in-Sweep.is (all_ok c.run_by-in-Sweep.result (λ x runs below holds said finished on.
    run_sweeps runs.whole.history below holds said (finished refl)) ran.runs ran.markers ran.begun ran.said
    ran.finished)
