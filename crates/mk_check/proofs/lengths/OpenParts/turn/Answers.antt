use Rattle.mk_check.proofs.{Vocabulary.{PartCount, arith}, CountLemmas.{reverse-none, reverse-set}}
use Rattle.mk_check.proofs.lengths.OpenParts.turn.Goals.{in-Some, in_default}
use Rattle.mk_check.proofs.lengths.OpenParts.turn.Goals as goal

pub returns : goal.returns
returns c =
    let parts = c.self.inside.outermost_first in
    let turned = λ (count : PartCount). let t : PartCount = record { lines = 0; second = count.lines } in t in
    elim c.match-last_mut.branch [
      | in-Some w ↦ rw (w.self-inside-is, ← c.self.view_is) (reverse-set turned parts.items parts.len
          w.in-Some.innermost.now parts.ok.0 (omega (arith, w.in-Some.ensures.item)) w.in-Some.ensures.value)
      | in_default w ↦ rw (w.self-inside-is, ← c.self.view_is)
          (reverse-none turned parts.items parts.len parts.ok.0 (omega (arith, w.in_default.ensures.item)))
    ]
