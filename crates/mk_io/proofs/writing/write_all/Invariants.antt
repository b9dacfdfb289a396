use Rattle.std.proofs.Common.{length, take, ◌-◌, ◌≡◌, ◌≤◌}
use Rattle.mk_io.specs.Bytes.{Appends, KeepsRoom}
use Rattle.mk_io.proofs.writing.write_all.Given as goal

abbrev pub invariant-loop-written : goal.invariant-loop-written
invariant-loop-written g l = record {
  within : l.written ≤ length l.bytes;
  appended : Appends (g.K.Sink.taken l.fn.sink) (g.K.Sink.taken l.sink) (take l.written l.bytes);
  room : KeepsRoom (g.K.Sink.has_room l.fn.sink) (g.K.Sink.has_room l.sink) l.written;
  no_fault : g.K.Sink.faults l.sink ≡ g.K.Sink.faults l.fn.sink;
}

abbrev pub decreases-loop-written : goal.decreases-loop-written
decreases-loop-written g l = length l.bytes - l.written
