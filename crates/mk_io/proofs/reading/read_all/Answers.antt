use Rattle.std.proofs.{Common.{arith, length-take, length-take-le, take, ◌++◌, ◌+◌, ◌≡◌}, lemmas.Grind.common_steps}
use Rattle.mk_io.proofs.Told.{Takes-append, TakesCount-append}
use Rattle.mk_io.proofs.reading.read_all.Goals as goal

pub returns-then-count-len-clause-too_long : goal.returns-then-count-len-clause-too_long
returns-then-count-len-clause-too_long g c _ =
    let part = length-take-le _ c.read.new.buf c.in-Ok.ensures.within in
    let asked = length-take c.min-want.result c.loop-count.buffer in
    TakesCount-append _ _ _ _ _ _ c.loop-count.invariant.taken c.in-Ok.ensures.bytes
    (omega (arith, c.loop-count.bytes.ok.0, part, asked, c.in-Ok.ensures.within))

pub returns-then-is_err-clause-no_memory : goal.returns-then-is_err-clause-no_memory
returns-then-is_err-clause-no_memory g c _ =
    let part = length-take-le _ c.read.new.buf c.in-Ok.ensures.within in (
      c.len-in-loop-count.result + c.in-Ok.count,
      omega (arith, part),
      TakesCount-append _ _ _ _ _ _ c.loop-count.invariant.taken c.in-Ok.ensures.bytes
          (omega (arith, c.loop-count.bytes.ok.0, part)),
    )

pub loop-count-preserved : goal.loop-count-preserved
loop-count-preserved g c = record {
  within = grind (arith, common_steps);
  taken =
      let part = take c.in-Ok.count c.read.new.buf in
      let kept : c.extend_from_slice.new.self.items ≡ c.loop-count.bytes.items ++ part = grind (arith, common_steps) in
      rw kept (Takes-append _ _ _ _ _ c.loop-count.invariant.taken c.in-Ok.ensures.bytes);
  sound = λ h. c.in-Ok.ensures.stays_sound (c.loop-count.invariant.sound h);
  no_fault = omega (arith, c.in-Ok.ensures.no_fault, c.loop-count.invariant.no_fault);
}
