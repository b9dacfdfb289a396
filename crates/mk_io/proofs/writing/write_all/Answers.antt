use Rattle.std.proofs.Common.{arith, length-drop, subst, true, ◌+◌, ◌≡◌}
use Rattle.mk_io.proofs.Told.{Appends-next}
use Rattle.mk_io.proofs.writing.write_all.Goals as goal

pub loop-written-preserved : goal.loop-written-preserved
loop-written-preserved g c =
    let call = c.in_ok-written.ensures in
    let before = c.loop-written.invariant in record {
      within = omega (arith, call.within, length-drop c.loop-written.written c.args.bytes.now);
      appended = Appends-next _ _ _ c.args.bytes.now c.loop-written.written _ before.appended call.bytes;
      room = λ more h. call.keeps_room more
          (before.room (c.in_ok-written.field-0 + more)
          (subst (λ n. g.K.Sink.has_room c.args.sink.now n ≡ true) (omega arith) h));
      no_fault = omega (arith, call.no_fault, before.no_fault);
    }
