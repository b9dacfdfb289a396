-- What is reached after a small history: by a register, by a word of another object, and not at all.
use Rattle.mk_core.proofs.Vocabulary.{Bool, NeverState, Null, Ptr, Value, ℕ, all_below, and_parts, arith, calls_from}
use Rattle.mk_core.proofs.Vocabulary.{false, false≢true, left_from, list_all, never_behind, not, pointed_cell, refl}
use Rattle.mk_core.proofs.Vocabulary.{replicate, subst, suc, sym, true, zero, [], ◌&&◌, ◌||◌, ◌∷◌, ◌≡◌}
use Rattle.mk_core.proofs.ListTests.{implied, list_all-at, numbered_all, numbered_all-at}
use Rattle.mk_core.proofs.SmallCycles.{begun_in_stop, small, three_objects}
use Rattle.mk_never.{proofs.Reached.{reached_is_in}, specs.NeverHeap.{Allocation, is_unmapped, no_allocation}}
use Rattle.mk_never.specs.Laws.{IsClosedUnderPointers, IsReachable, LeadsTo, by_register, by_word}
use Rattle.mk_never.specs.declared.values.Value.TheVariants.{Num}

-- A set is closed under pointers, as a test.

abbrev pub leads_into : (ℕ → Bool) → Value → Bool
leads_into S Null = true
leads_into S (Num m) = true
leads_into S (Ptr number ty offset) = S number

abbrev pub words_lead_into : (ℕ → Bool) → ℕ → Allocation → Bool
words_lead_into S from a = not (S from && not (is_unmapped a)) || list_all (leads_into S) a.words

abbrev pub is_closed_under_pointers : NeverState → (ℕ → Bool) → Bool
is_closed_under_pointers n S = list_all (leads_into S) n.registers && list_all (leads_into S) n.globals
    && numbered_all (words_lead_into S) n.allocations

pub led_into : (S : ℕ → Bool) (v : Value) (number : ℕ) → leads_into S v ≡ true → LeadsTo v number → S number ≡ true
led_into x0 x1 number h leads = grind arith

of_none : (S : ℕ → Bool) (from : ℕ) → words_lead_into S from no_allocation ≡ true
of_none x0 from = grind arith

both_are : (a b : Bool) → a ≡ true → b ≡ false → (a && not b) ≡ true
both_are a b h k = rw (h, k) refl

pub closed_by_test : (n : NeverState) (S : ℕ → Bool)
    → is_closed_under_pointers n S ≡ true → IsClosedUnderPointers n (λ number. S number ≡ true)
closed_by_test n x1 h =
    grind (
      arith,
      and_parts,
      leads_into,
      led_into,
      list_all-at,
      numbered_all-at,
      words_lead_into,
      of_none,
      implied,
      both_are,
    )

-- after a pointer that was written to the first object, and the second register cleared

abbrev pub first_and_second : NeverState
first_and_second = record {
  types = small.types;
  allocations =
      record { ty = 0; words = Ptr 1 0 0 ∷ Num 0 ∷ []; freed = false } ∷ record {
        ty = 0;
        words = Null ∷ Num 0 ∷ [];
        freed = false;
      }
      ∷ record { ty = 0; words = Null ∷ Num 0 ∷ []; freed = true } ∷ [];
  registers = Ptr 0 0 0 ∷ replicate 7 Null;
  globals = replicate 64 Null;
}

pub never_is : never_behind small begun_in_stop ≡ first_and_second
unfolding left_from calls_from all_below pointed_cell begun_in_stop three_objects
never_is = refl

pub first_is_reached : IsReachable (never_behind small begun_in_stop) 0
first_is_reached = subst (λ n. IsReachable n 0) (sym never_is) (by_register 0 0 refl)

pub second_is_reached : IsReachable (never_behind small begun_in_stop) 1
second_is_reached = subst (λ n. IsReachable n 1) (sym never_is) (by_word 0 0 1 (by_register 0 0 refl) (refl, refl))

abbrev pub below_two : ℕ → Bool
below_two zero = true
below_two (suc zero) = true
below_two (suc (suc number)) = false

third_is_outside : IsReachable first_and_second 2 → ⊥
unfolding numbered_all
third_is_outside reached = false≢true (reached_is_in first_and_second (λ number. below_two number ≡ true)
    (closed_by_test first_and_second below_two refl) 2 reached)

pub third_is_not_reached : IsReachable (never_behind small begun_in_stop) 2 → ⊥
third_is_not_reached reached = third_is_outside (subst (λ n. IsReachable n 2) never_is reached)
