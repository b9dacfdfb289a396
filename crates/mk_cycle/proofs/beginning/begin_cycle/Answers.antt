use Rattle.mk_words.proofs.Below.Laws.Vocabulary.{Step, World, ap, refl, subst, ◌<◌}
use Rattle.mk_cycle.proofs.Vocabulary.{WordsState, clears, does_sweep, only_seen_by, other_step_sweeps, sweeps_then}
use Rattle.mk_cycle.proofs.{Allowed.tally_allowed, BeginSteps.{IsCleared, begin_allowed, begins_cycle, begun_free}}
use Rattle.mk_cycle.proofs.Begun.{begin_begun, begins_none, begun_then, does_begin_none}
use Rattle.mk_cycle.proofs.{CleaningSteps.{clean_stays, cleaned_turn, cleans_then, tallied}, Sweepless.marks_nothing}
use Rattle.mk_cycle.proofs.{Undirty.undirty_later, beginning.begin_cycle.Goals.After-tally}
use Rattle.mk_cycle.proofs.beginning.begin_cycle.Goals as goal

pub tally-requires-clause-enabled : goal.tally-requires-clause-enabled
tally-requires-clause-enabled g c =
    tally_allowed _ c.clean_pages.new.turn.in_order (cleaned_turn c.clean_pages.ensures.cleans
    (record { one_table = c.requires.one_table; free = c.requires.free; phase = c.requires.phase })).free _ _

-- All words are cleaned, and nothing is fresh.
cleared : (g : _) (c : After-tally g) → IsCleared c.args.words.now c.args.turn.now.pass c.tally.new.self.pass
cleared g c =
    let first = cleaned_turn c.clean_pages.ensures.cleans
    (record { one_table = c.requires.one_table; free = c.requires.free; phase = c.requires.phase }) in
    let next = tallied first c.tally.ensures in
    let turn = cleaned_turn next first in
    record {
      cleans = cleans_then c.clean_pages.ensures.cleans next;
      turn = turn;
      holds = c.tally.new.self.in_order;
      clean = λ page lt. clean_stays next (c.clean_pages.ensures.ready page
          (subst (λ (w : WordsState). page < w.config.pages) turn.one_table lt)).clean;
      fresh = ap (λ (w : World). w.now.words.fresh) c.tally.ensures.world;
    }

pub begin-requires-clause-one_table : goal.begin-requires-clause-one_table
begin-requires-clause-one_table g c =
    (cleared g (goal.at.begin-requires-clause-one_table g c).After-tally).turn.one_table

pub begin-requires-clause-enabled : goal.begin-requires-clause-enabled
begin-requires-clause-enabled g c = begin_allowed (cleared g (goal.at.begin-requires-clause-enabled g c).After-tally)

pub begin-requires-2-clause-free : goal.begin-requires-2-clause-free
begin-requires-2-clause-free g c =
    let x = cleared g (goal.at.begin-requires-2-clause-free g c).After-tally in
    begun_free x.holds x.turn.free x.turn.phase c.begin.new.self.in_order c.begin.ensures

pub returns-clause-law : goal.returns-clause-law
returns-clause-law g c =
    let x = cleared g (goal.at.returns-clause-law g c).After-tally in
    begins_cycle x (λ page lt. undirty_later (c.clean_pages.ensures.ready page
    (subst (λ (w : WordsState). page < w.config.pages) c.requires.one_table lt)).undirty
    (tallied (cleaned_turn c.clean_pages.ensures.cleans (record {
      one_table = c.requires.one_table;
      free = c.requires.free;
      phase = c.requires.phase;
    })) c.tally.ensures)) c.begin.ensures
    c.begin-2.ensures.law

pub returns-clause-reached : goal.returns-clause-reached
returns-clause-reached g c none =
    let p = c.args.turn.now.pass in
    let b = c.tally.new.self.pass in
    let d = c.begin.new.self.pass in
    let q = c.begin-2.new.turn.pass in
    let all = (cleared g (goal.at.returns-clause-reached g c).After-tally).cleans in
    let begin = c.begin.ensures.makes in
    sweeps_then p b q all.keeps.call.pass (does_sweep clears p b (marks_nothing clears (λ page v. refl)) all.does)
    (sweeps_then b d q (only_seen_by b d Step.Begin begin) (other_step_sweeps b d Step.Begin begin refl)
    (c.begin-2.ensures.reached none))

pub returns-clause-begun : goal.returns-clause-begun
returns-clause-begun g c =
    let p = c.args.turn.now.pass in
    let b = c.tally.new.self.pass in
    let q = c.begin-2.new.turn.pass in
    let all = (cleared g (goal.at.returns-clause-begun g c).After-tally).cleans in
    let begins = g.E.Engine.ways.begins in
    begun_then begins p b q all.keeps.call.pass (does_begin_none begins clears p b (begins_none clears refl) all.does)
    (begin_begun begins b c.begin.new.self.pass q c.tally.new.self.in_order.own c.begin.ensures.makes
    c.begin-2.ensures.law.does c.begin-2.ensures.begun)

pub returns-clause-last : goal.returns-clause-last
returns-clause-last g c = record {
  cleared = c.tally.new.self.pass;
  begun = c.begin.new.self.pass;
  before = ((cleared g (goal.at.returns-clause-last g c).After-tally).cleans).does;
  begin = c.begin.ensures.makes;
  part = c.begin-2.ensures.begun;
}
