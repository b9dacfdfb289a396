-- Gates are held one after the other.
use Rattle.mk_words.proofs.Below.Laws.Vocabulary.{Bool, List, Step, World, ℕ, and_from, ap, arith, cases_eq}
use Rattle.mk_words.proofs.Below.Laws.Vocabulary.{cases_lt, eq-eqb, eqb-true, false, get_or-set_other, get_or-set_same}
use Rattle.mk_words.proofs.Below.Laws.Vocabulary.{if◌then◌else◌, inl, inr, is_held, is_number_of, length, lt-ltb}
use Rattle.mk_words.proofs.Below.Laws.Vocabulary.{ne_eqb, not, others_are_held, refl, set_past, slice_index, slice_set}
use Rattle.mk_words.proofs.Below.Laws.Vocabulary.{sym, true, ◌<◌, ◌==◌, ◌||◌, ◌∙◌, ◌≡◌}
use Rattle.mk_cycle.proofs.Vocabulary.{Acts, HoldsGates, IsEnabledTo, IsFreeForCycle, IsTurn, PassState, WordsState}
use Rattle.mk_cycle.proofs.Vocabulary.{does_nothing, does_step, does_then, holds_gates, now_of, world_at}
use Rattle.mk_cycle.proofs.{Allowed.protocol, BeginSteps.all_from, CleaningSteps.calm_keeps}
use Rattle.mk_cycle.proofs.{KeptInParts.{free_then, keeps_at_once, keeps_then}, MayAct.may_act}
use Rattle.mk_cycle.specs.{Stops.IsHeldOrOwn, TurnKeeps.unchanged}

pub holds_nothing : (p : PassState) → HoldsGates p p
holds_nothing p = record { does = does_nothing holds_gates p; keeps = keeps_at_once unchanged p; held = λ j h. h }

pub holds_then : {p q r : PassState} → HoldsGates p q → HoldsGates q r → HoldsGates p r
holds_then {p} {q} {r} a b = record {
  does = does_then holds_gates p q r a.does b.does;
  keeps = keeps_then unchanged p q r a.keeps b.keeps;
  held = λ j h. b.held j (a.held j h);
}

pub held_free : (p q : PassState) → HoldsGates p q → IsFreeForCycle p → IsFreeForCycle q
held_free p q k free = free_then p q k.keeps.call free

pub held_table : (p q : PassState) (w : WordsState) → HoldsGates p q → p.table ≡ w → q.table ≡ w
held_table p q w k is = ap (λ (x : PassState). x.table) k.keeps.call.pass ∙ is

pub hold_allowed : (p : PassState) → IsTurn p → IsFreeForCycle p → (j : ℕ) → j < p.table.config.callers
    → is_number_of p.seat j ≡ false → is_held (now_of p).words j ≡ false → IsEnabledTo p (Step.Hold j)
hold_allowed p t free j lt other none =
    may_act p (Step.Hold j) (protocol p t free) t.holds free.decided refl
    (and_from _ (not _) (lt-ltb j _ lt) (ap not other)) (ap not none) refl refl

-- A gate that is held stays so where one that was found open is held.
pub stays_held : (gs : List ℕ) (i j : ℕ) → slice_index gs j ≡ 2
    → slice_index (slice_set gs i (if slice_index gs i == 0 then 2 else slice_index gs i)) j ≡ 2
stays_held gs i j two = elim (cases_eq j i) [
  | inr ne ↦ get_or-set_other gs i j _ 0 ne ∙ two
  | inl e ↦ elim (cases_lt i (length gs)) [
    | inr past ↦ ap (λ (ys : List ℕ). slice_index ys j) (set_past gs i _ past) ∙ two
    | inl near ↦
        let here : slice_index gs i ≡ 2 = ap (λ (k : ℕ). slice_index gs k) (sym e) ∙ two in
        ap (λ (k : ℕ). slice_index (slice_set gs i (if slice_index gs i == 0 then 2 else slice_index gs i)) k) e
        ∙ get_or-set_same gs i _ 0 near ∙ ap (λ (b : Bool). if b then 2 else slice_index gs i)
        (ne_eqb (slice_index gs i) 0 (λ z. absurd (omega arith))) ∙ here
  ]
]

pub hold_holds : (p q : PassState) (t : IsTurn p) (free : IsFreeForCycle p) (u : IsTurn q) (j : ℕ)
    → Acts p (Step.Hold j) q → HoldsGates p q
hold_holds p q t free u j a = record {
  does = does_step holds_gates p q (Step.Hold j) a.makes refl;
  keeps = calm_keeps p (Step.Hold j) q a t u.history refl free unchanged refl;
  held = λ i h. eq-eqb _ 2 (ap (λ (w : World). slice_index w.now.words.gates i) a.world
      ∙ stays_held (world_at a.makes).now.words.gates j i (a.turn.held_gates i (eqb-true _ 2 h)));
}

pub all_held_below : (p : PassState) (callers : ℕ) → ((j : ℕ) → j < callers → IsHeldOrOwn p j)
    → others_are_held callers (now_of p).words p.seat ≡ true
all_held_below p callers h = all_from callers (λ j. is_number_of p.seat j || is_held (now_of p).words j) h

pub still_held_or_own : {p q : PassState} (j : ℕ) → HoldsGates p q → IsHeldOrOwn p j → IsHeldOrOwn q j
still_held_or_own j k h = grind arith
