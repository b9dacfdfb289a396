use Rattle.mk_words.proofs.Below.Laws.Vocabulary.{Step, ap, append_assoc, refl, ◌∙◌}
use Rattle.mk_cycle.proofs.Vocabulary.{PassState, only_seen_by, other_step_sweeps, sweeps_then}
use Rattle.mk_cycle.proofs.ReleasedStops.{StopReleases, stop_holds, stop_leaves_cells, stop_leaves_occupied}
use Rattle.mk_cycle.proofs.{ReleasedStops.{stop_releases, stop_tells}, Told.{told_closing, told_earlier, told_later}}
use Rattle.mk_cycle.proofs.{ClosedBy.closed_in_stop, releasing.release_unmarked.Goals.After-release}
use Rattle.mk_cycle.proofs.releasing.release_unmarked.Goals as goal

-- the three parts
parts : (g : _) (c : After-release g)
    → StopReleases c.args.stop.now.pass c.close_marks.new.stop.pass c.close_phase.new.self.pass c.release.new.self.pass
parts g c = record {
  begun = c.args.stop.now.in_order;
  free = c.requires.free;
  marks = c.close_marks.ensures.law;
  marked = c.close_marks.new.stop.in_order;
  close = c.close_phase.ensures;
  closed = c.close_phase.new.self.in_order;
  release = c.release.ensures;
}

pub returns-clause-releases : goal.returns-clause-releases
returns-clause-releases g c = stop_releases (parts g (goal.at.returns-clause-releases g c).After-release)

pub returns-clause-cells : goal.returns-clause-cells
returns-clause-cells g c = stop_leaves_cells (parts g (goal.at.returns-clause-cells g c).After-release)

pub returns-clause-occupied : goal.returns-clause-occupied
returns-clause-occupied g c = stop_leaves_occupied (parts g (goal.at.returns-clause-occupied g c).After-release)

pub returns-clause-told : goal.returns-clause-told
returns-clause-told g c = stop_tells (parts g (goal.at.returns-clause-told g c).After-release) c.requires.one_table

pub returns-clause-held : goal.returns-clause-held
returns-clause-held g c = stop_holds (parts g (goal.at.returns-clause-held g c).After-release) c.requires.one_table

pub returns-clause-promised : goal.returns-clause-promised
returns-clause-promised g c =
    let p = c.args.stop.now.pass in
    let b = c.close_marks.new.stop.pass in
    let d = c.close_phase.new.self.pass in
    let q = c.release.new.self.pass in
    let close = c.close_phase.ensures.makes in
    let release = c.release.ensures.makes in
    let marks = c.close_marks.ensures in
    record {
      reached = λ none. sweeps_then p b q marks.law.keeps.call.pass (marks.reached none)
          (sweeps_then b d q (only_seen_by b d Step.Close close) (other_step_sweeps b d Step.Close close refl)
          (other_step_sweeps d q Step.Release release refl));
      told = told_earlier p marks.law.does.more marks.law.does.is
          (told_later q _ (ap (λ (x : PassState). x.seen) release.is ∙ append_assoc d.seen _ _)
          (told_closing _ c.close_marks.new.stop.in_order.own close close.pass.history marks.told));
      closed = closed_in_stop _ p q
          (record { closing = b; closed = d; marks = marks.law; close = close; release = release }) marks.closed;
    }
