use Rattle.mk_trace.proofs.Vocabulary.{AllTurnsAreExact, Config, quarantined_words, reserved_words}
use Rattle.mk_heap.proofs.Below.Laws.Vocabulary.{ap, arith, length, subst, sym, ◌∙◌}
use Rattle.mk_trace.proofs.LedgerCalls.{ages_of, first_held, first_idle, first_keeps, most_of}
use Rattle.mk_trace.proofs.Played.{closed, refused_at}
use Rattle.mk_trace.proofs.{ExactPlays.first_exact, FewEvents.none_ended, HeldCalls.most_told, OneCaller.home_joined}
use Rattle.mk_trace.proofs.playing.play_by.Goals as goal

pub close-report-requires-clause-joined : goal.close-report-requires-clause-joined
close-report-requires-clause-joined g c = home_joined c.in_ok-refused.ensures.between.home

played : goal.returns-clause-played
played g c =
    let es = c.play_events.new.player.host.pass.seen in
    let at = c.in_ok-heap.ensures.config ∙ c.in_ok-config.ensures.config in
    closed c.close-report.ensures.history (c.close-report.ensures.config ∙ at) c.in_ok-refused.ensures.played
    c.close-report.ensures.whole (subst (λ (d : Config). AllTurnsAreExact d es) at (c.in_ok-refused.ensures.exact
    (first_exact c.in_ok-heap.heap.config c.in_ok-heap.host.pass.seen c.in_ok-heap.ensures.empty)))

pub returns-clause-played : goal.returns-clause-played
returns-clause-played g c = played g c

pub returns-clause-peaks : goal.returns-clause-peaks
returns-clause-peaks g c =
    let trace = c.args.trace.now in
    let d = c.in_ok-heap.heap.config in
    let es = c.play_events.new.player.host.pass.seen in
    let at = c.in_ok-heap.ensures.config ∙ c.in_ok-config.ensures.config in
    let keeps = c.in_ok-refused.ensures.between.keeps in
    record {
      events = ap length c.events.ensures.events;
      refused = refused_at _ c.close-report.ensures.history c.in_ok-refused.ensures.played;
      held =
          most_told trace d es _ c.held_at_most-held.result c.close-report.ensures.history at
          (c.held_at_most-held.ensures.same ∙ c.in_ok-refused.ensures.between.held) c.held_at_most-held.ensures.fits;
      quarantined =
          most_of trace d quarantined_words es _ _ c.close-report.ensures.history at keeps.quarantined.most;
      reserved = most_of trace d reserved_words es _ _ c.close-report.ensures.history at keeps.reserved.most;
      cycles = c.close-report.ensures.counts.cycles;
      ages = ages_of trace d es c.close-report.ensures.history at (played g c).whole.history keeps.ages;
    }

pub play_events-requires-clause-between : goal.play_events-requires-clause-between
play_events-requires-clause-between g c κs within =
    let w = c.in_ok-heap.heap in
    let es = c.in_ok-heap.host.pass.seen in
    let empty = c.in_ok-heap.ensures.empty in
    let ledger = c.new.ensures in
    record {
      home = c.in_ok-heap.ensures.home;
      idle = first_idle w.config es empty;
      made = grind arith;
      held = ledger.held ∙ sym (first_held w.config es empty);
      keeps =
          first_keeps w.config es c.new.result.freed empty ledger.quarantined ledger.reserved ledger.objects ledger.ages
          ledger.ends;
    }

pub play_events-requires-clause-none_ended : goal.play_events-requires-clause-none_ended
play_events-requires-clause-none_ended g c κs within = none_ended c.in_ok-heap.host.pass.seen c.in_ok-heap.ensures.empty
