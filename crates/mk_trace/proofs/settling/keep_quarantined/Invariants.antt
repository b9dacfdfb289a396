use Rattle.mk_trace.proofs.Vocabulary.{CallerIsHome, HostOnlyLooks, aged, fold, left, still_kept, with_one}
use Rattle.mk_heap.proofs.Below.Laws.Vocabulary.{map, take, ◌≡◌}
use Rattle.mk_trace.specs.Ledgers.{ages_let_go}
use Rattle.mk_trace.proofs.settling.keep_quarantined.Given as goal

-- of the objects so far those are kept whose cells were freed at the first look, and the ages of the others are counted
abbrev pub invariant-loop-object : goal.invariant-loop-object
invariant-loop-object g l = record {
  home : CallerIsHome l.heap l.host;
  looks : HostOnlyLooks l.heap.config l.fn.host.pass.seen l.host.pass.seen;
  kept : l.kept.items
      ≡ still_kept (left l.heap.config l.fn.host.pass.seen).now.words.freed (map aged (take l.object-index l.found));
  ages : l.ages.items ≡ fold with_one l.fn.ages.items
      (ages_let_go (left l.heap.config l.fn.host.pass.seen).now.words.freed (map aged (take l.object-index l.found)));
}
