use Rattle.std.proofs.lemmas.List.{take_rest}
use Rattle.mk_check.proofs.{Vocabulary.{◌+◌, ◌∙◌}, FaultLemmas.{fault_from-none, fault_from-some}}
use Rattle.mk_check.proofs.checking.check_lines.Goals as goal

pub returns-in-Some-clause-first_fault : goal.returns-in-Some-clause-first_fault
returns-in-Some-clause-first_fault c =
    let i = c.loop-place.place in
    let item = c.index-items-place in
    c.loop-place.invariant.no_fault ∙ fault_from-some _ i item.result c.loop-place-test.true item.is _
    c.loop-place.invariant.read _ (take_rest _ (i + 1)) c.in_ok-kind.field-0 c.in-Some.kind (c.in_ok-kind.ensures (i +
    1)) c.in-Some.is

pub loop-place-preserved : goal.loop-place-preserved
loop-place-preserved c =
    let i = c.loop-place.place in
    let item = c.index-items-place in
    record {
      read = rw c.loop-place.invariant.read at c.in_ok-read.ensures;
      no_fault = c.loop-place.invariant.no_fault ∙ fault_from-none _ i item.result c.loop-place-test.true item.is _
          c.loop-place.invariant.read _ (take_rest _ (i + 1)) c.in_ok-kind.field-0 (c.in_ok-kind.ensures (i + 1))
          c.in_default.is;
    }
