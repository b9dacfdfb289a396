use Rattle.mk_words.proofs.Below.Laws.Vocabulary.{subst}
use Rattle.mk_core.proofs.PhaseTests.{not_in_word}
use Rattle.mk_marker.{proofs.Worked.finds_phase, specs.Markers.FindsPhase}
use Rattle.mk_words.specs.States.{PassState}
use Rattle.mk_marker.proofs.markers.Marker.attend.Goals as goal

pub returns-else-is_in-clause-not_marking : goal.returns-else-is_in-clause-not_marking
returns-else-is_in-clause-not_marking c =
    let a = c.attend-found in
    subst (λ (p : PassState). FindsPhase p c.phase_in.result c.quit.new.pass) c.self.view_is
    (finds_phase c.phase_in.result c.quit.new.pass a.ensures.moves
    c.quit.ensures c.phase_in.ensures (not_in_word a.result 1 c.is_in.result c.is_in.ensures c.if-is_in.false))
