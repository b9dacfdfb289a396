use Rattle.mk_check.proofs.{Vocabulary.{PartCount, arith, ◌+◌}, CountLemmas.{reverse-none, reverse-set}}
use Rattle.mk_check.{proofs.lengths.OpenParts.add.Goals.{in-Some, in_default}, specs.Blocks.{saturated_count}}
use Rattle.mk_check.proofs.lengths.OpenParts.add.Goals as goal

pub returns : goal.returns
returns c =
    let parts = c.self.inside.outermost_first in
    let more = λ (count : PartCount). record count { lines = saturated_count (count.lines + c.args.instructions) } in
    elim c.match-last_mut.branch [
      | in-Some w ↦ rw (w.self-inside-is, ← c.self.view_is, w.saturating_add-innermost.ensures)
          (reverse-set more parts.items parts.len w.in-Some.innermost.now parts.ok.0
          (omega (arith, w.in-Some.ensures.item)) w.in-Some.ensures.value)
      | in_default w ↦ rw (w.self-inside-is, ← c.self.view_is)
          (reverse-none more parts.items parts.len parts.ok.0 (omega (arith, w.in_default.ensures.item)))
    ]
