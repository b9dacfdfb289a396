use Rattle.mk_check.proofs.{Vocabulary.around, FaultLemmas.IfOk-map}
use Rattle.mk_check.proofs.checking.line_fault.Goals as goal

pub returns-in-Script : goal.returns-in-Script
returns-in-Script c =
    rw c.in-Script.is (IfOk-map c.length_fault.result
    (λ fault is line. is (around c.args.lookups.now) line c.in-Script.name) c.length_fault.ensures)
