-- What is reached is the least set that is closed under pointers; and a small state, in which a freed large
-- allocation ends the reach.
use Rattle.std.proofs.Common.{Bool, ℕ, arith, false, get_or, refl, replicate, suc, true, zero, [], ◌∷◌, ◌≡◌}
use Rattle.std.proofs.lemmas.Bool.{false≢true}
use Rattle.mk_never.specs.Laws.{IsClosedUnderPointers, IsReachable, LeadsTo, ReachIsLeast, WordLeadsTo, by_global}
use Rattle.mk_never.specs.{Laws.{by_register, by_word}, declared.values.Value.TheVariants.{Null, Num, Ptr}}
use Rattle.mk_never.specs.NeverHeap.{NeverState}

pub reach_is_closed : (n : NeverState) → IsClosedUnderPointers n (IsReachable n)
reach_is_closed n = record { registers = by_register; globals = by_global; words = by_word }

pub reached_is_in : (n : NeverState) (S : ℕ → Type 0) → IsClosedUnderPointers n S → (number : ℕ) → IsReachable n number
    → S number
reached_is_in n S closed _ (by_register r number leads) = closed.registers r number leads
reached_is_in n S closed _ (by_global g number leads) = closed.globals g number leads
reached_is_in n S closed _ (by_word from place number reached leads) =
    closed.words from place number (reached_is_in n S closed from reached) leads

pub reach_is_least : (n : NeverState) (S : ℕ → Bool) → ReachIsLeast n S
reach_is_least n S closed = reached_is_in n (λ number. S number ≡ true) closed

-- A register points to 0, whose word points to 1, though it was freed. 1 is large and freed; a word of it points to 2,
-- and so does 2's own.
abbrev pub example : NeverState
example = record {
  types = [];
  allocations = record { ty = 0; words = Ptr 1 1 0 ∷ []; freed = true }
      ∷ record { ty = 1; words = Ptr 2 2 0 ∷ replicate 32 (Num 0); freed = true }
      ∷ record { ty = 2; words = Ptr 2 2 0 ∷ []; freed = false } ∷ [];
  registers = Ptr 0 0 0 ∷ [];
  globals = [];
}

pub first_is_reached : IsReachable example 0
first_is_reached = by_register 0 0 refl

pub second_is_reached : IsReachable example 1
second_is_reached = by_word 0 0 1 first_is_reached (refl, refl)

-- the first two
abbrev both : ℕ → Bool
both zero = true
both (suc zero) = true
both (suc (suc number)) = false

lone_register : (r number : ℕ) → LeadsTo (get_or example.registers r Null) number → both number ≡ true
lone_register x0 number leads = grind (arith, both)

words_lead_to_both : (from place number : ℕ) → both from ≡ true → WordLeadsTo example from place number
    → both number ≡ true
words_lead_to_both x0 place number inside leads = grind (arith, both)

pub third_is_not_reached : IsReachable example 2 → ⊥
third_is_not_reached reached = false≢true (reach_is_least example both
    record { registers = lone_register; globals = λ g number leads. absurd leads; words = words_lead_to_both } 2
    reached)
