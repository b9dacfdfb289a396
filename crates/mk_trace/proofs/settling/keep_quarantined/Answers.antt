use Rattle.mk_trace.proofs.{Vocabulary.left, SettledLedgers.{ages_all, ages_more, kept_all, kept_more}}
use Rattle.mk_trace.proofs.FoundCells.{freed_looked, looks_twice}
use Rattle.mk_heap.proofs.Below.Laws.Vocabulary.{◌∙◌}
use Rattle.mk_trace.proofs.settling.keep_quarantined.Goals as goal

pub loop-object-preserved : goal.loop-object-preserved
loop-object-preserved g c =
    let d = c.args.heap.now.config in
    let es = c.args.host.now.pass.seen in
    record {
      home = c.is_quarantined-is_kept.ensures.home;
      looks = looks_twice c.loop-object.invariant.looks c.is_quarantined-is_kept.ensures.looks;
      kept = kept_more (left d es).now.words.freed _ c.loop-object.object-index _ c.aged.result c.loop-object.kept.items
          c.keep_or_count.new.kept.items c.is_quarantined-is_kept.result c.loop-object-test.true
          c.loop-object.invariant.kept c.aged.ensures (c.is_quarantined-is_kept.ensures.finds ∙ freed_looked
          c.loop-object.invariant.looks _) c.in_ok-keep_or_count.ensures.kept;
      ages = ages_more (left d es).now.words.freed _ c.loop-object.object-index _ c.aged.result c.args.ages.now.items
          c.loop-object.ages.items c.keep_or_count.new.ages.items c.is_quarantined-is_kept.result
          c.loop-object-test.true c.loop-object.invariant.ages c.aged.ensures (c.is_quarantined-is_kept.ensures.finds ∙
          freed_looked c.loop-object.invariant.looks _) c.in_ok-keep_or_count.ensures.ages;
    }

pub returns-clause-kept : goal.returns-clause-kept
returns-clause-kept g c =
    kept_all (left c.args.heap.now.config c.args.host.now.pass.seen).now.words.freed c.args.found.now
    c.loop-object.object-index c.loop-object.kept.items c.loop-object-test.false c.loop-object.invariant.kept

pub returns-clause-ages : goal.returns-clause-ages
returns-clause-ages g c =
    ages_all (left c.args.heap.now.config c.args.host.now.pass.seen).now.words.freed _ c.loop-object.object-index
    c.args.ages.now.items c.loop-object.ages.items c.loop-object-test.false c.loop-object.invariant.ages
