-- The phase says that all is over only after an `over`.
use Rattle.std.proofs.lemmas.Bool.{true_from_ne_false}
use Rattle.mk_laws.proofs.Vocabulary.{AreEnabledFrom, Config, Event, List, Step, World, ℕ, arith, false, or_parts}
use Rattle.mk_laws.proofs.Vocabulary.{phase_of, sym, world_behind, [], ◌∙◌, ◌∷◌, ◌≡◌, ◌≢◌}
use Rattle.mk_core.specs.History.{left_from}
use Rattle.mk_laws.proofs.CyclePhases.{moves_phase, phase_behind}
use Rattle.mk_words.specs.{Laws.EndIsBehindOver, States.{has_over, is_over}}

not_over : (x : Step) (p : ℕ) → is_over x ≡ false → p ≢ 5 → phase_behind x p ≢ 5
not_over x0 p out ne = grind arith

never_over : (c : Config) (w : World) (es : List Event) → AreEnabledFrom c w es → has_over es ≡ false
    → phase_of w.now.words ≢ 5 → phase_of (left_from c w es).now.words ≢ 5
unfolding left_from
never_over c w [] on none ne = ne
never_over c w (e ∷ es) on none ne =
    let outs = or_parts (is_over e.step) (has_over es) none in
    let moves = moves_phase c w e es on in
    never_over c (world_behind c w e) es moves.2 outs.1
    (λ h. not_over e.step (phase_of w.now.words) outs.0 ne (sym moves.1 ∙ h))

pub end_is_behind_over : EndIsBehindOver
end_is_behind_over c es h five = grind (arith, true_from_ne_false, never_over)
