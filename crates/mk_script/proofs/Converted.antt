-- A fault of a line that a `?` hands on.
use Rattle.std.{proofs.Common.Result, specs.Result.IsErrAnd}
use Rattle.mk_script.proofs.Vocabulary.{Err, Item, LineFault, List, arith, ◌≡◌}
use Rattle.mk_script.specs.{Lines.Reads, declared.faults.LineStop.LineStop}
use Rattle.mk_script.specs.declared.{faults.LineStop.TheVariants.Fault, scope.Scope.Scope}

pub hands_fault : {A : Type 0} (before : List Item) (expected : Result Item LineFault) (found : Result A LineStop)
    (items : List Item) (scope : Scope) (fault : LineFault) → expected ≡ Err fault
    → IsErrAnd found (λ stop. stop ≡ Fault fault) → Reads before expected found items scope
hands_fault before expected x2 items scope fault is handed = grind arith
