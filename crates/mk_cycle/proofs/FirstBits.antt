-- The first cell among those that a word has as bits.
use Rattle.std.proofs.{Common.{IfNone, IfSome, bit_and, ltb-false, w64}, lemmas.Nat.Bits.bit_at-trailing_zeros}
use Rattle.std.specs.{Bool.then_some, Int.trailing_zeros}
use Rattle.mk_words.proofs.Below.Laws.Vocabulary.{Bool, Option, Words, ℕ, ap, arith, bit_at, cells_under, eq-eqb, false}
use Rattle.mk_words.proofs.Below.Laws.Vocabulary.{has_bit, has_bit_without, header_at, header_of, ltb-true, nat_lt}
use Rattle.mk_words.proofs.Below.Laws.Vocabulary.{no_bit, refl, slice_index, subst, sym, true, without, ◌-◌, ◌<◌, ◌==◌}
use Rattle.mk_words.proofs.Below.Laws.Vocabulary.{◌^◌, ◌≡◌, ◌≤◌}
use Rattle.mk_cycle.proofs.NoGrays.{no_gray, no_gray_found}
use Rattle.mk_cycle.specs.Grays.{HasNoGray, IsGray, gray_bits}

-- what holds of a value that is told where a test holds, and what holds where it doesn't

pub if_told : {A : Type 0} (P : A → Type 0) (test : Bool) (x : A) (o : Option A) → o ≡ then_some test x
    → (test ≡ true → P x) → IfSome o P
if_told {A} P test x o is told = grind arith

if_untold : (Q : Type 0) (test : Bool) (x : ℕ) (o : Option ℕ) → o ≡ then_some test x → (test ≡ false → Q) → IfNone o Q
if_untold Q test x o is untold = grind arith

-- the first cell of a word that has one, if it is one of this many

pub first_is_known : (x n : ℕ) (o : Option ℕ) → o ≡ then_some (nat_lt x n) x → IfSome o (λ k. k < n)
first_is_known x n o is = if_told (λ k. k < n) (nat_lt x n) x o is (ltb-true x n)

pub first_is_one : (cells x n : ℕ) (o : Option ℕ) → 0 < cells → cells < 2 ^ 64 → x ≡ trailing_zeros w64 cells
    → o ≡ then_some (nat_lt x n) x → IfSome o (λ k. has_bit cells k ≡ true)
first_is_one cells x n o some fits lowest is =
    if_told (λ k. has_bit cells k ≡ true) _ x o is (λ less. subst (λ k. has_bit cells k ≡ true) (sym lowest)
    (eq-eqb (bit_at cells (trailing_zeros w64 cells)) 1 (bit_at-trailing_zeros w64 cells some fits).1))

pub none_is_first : (cells x n : ℕ) (o : Option ℕ) → 0 < cells → cells < 2 ^ 64 → x ≡ trailing_zeros w64 cells
    → o ≡ then_some (nat_lt x n) x → IfNone o ((k : ℕ) → k < n → has_bit cells k ≡ false)
none_is_first cells x n o some fits lowest is =
    if_untold ((k : ℕ) → k < n → has_bit cells k ≡ false) (nat_lt x n) x o is (λ more k lt.
    let far : n ≤ x = ltb-false x n more in
    ap (λ b. b == 1) ((bit_at-trailing_zeros w64 cells some fits).2 k (omega arith)))

-- Each marked cell is black where no cell is marked, or none that isn't black.

pub ungray_are_black : (marks blacks n : ℕ) → ((k : ℕ) → k < n → has_bit (without marks blacks) k ≡ false)
    → (k : ℕ) → k < n → has_bit marks k ≡ true → has_bit blacks k ≡ true
ungray_are_black marks blacks n none k lt marked = grind (arith, has_bit_without)

-- A gray cell is marked and isn't black.

pub gray_is_not_black : (marks blacks k : ℕ) → has_bit (without marks blacks) k ≡ true → has_bit blacks k ≡ false
gray_is_not_black marks blacks k one = grind (arith, has_bit_without)

-- the bits of a page as they were found, with no gray cell

pub no_marks : (w : Words) (p : ℕ) → slice_index w.marks p ≡ 0 → 0 ≡ gray_bits w p
no_marks w p none =
    let zero : slice_index w.marks p - bit_and (slice_index w.marks p) (slice_index w.blacks p) ≡ 0 =
    omega (arith, none) in
    sym zero

pub no_gray_there : (w : Words) (p : ℕ) → gray_bits w p ≡ 0 → HasNoGray w p
no_gray_there w p none = no_gray w p (ungray_are_black _ _ _ (λ k lt. no_bit (gray_bits w p) k none))

pub no_gray_under : (w : Words) (p header grays : ℕ) → header ≡ header_at w p → grays ≡ gray_bits w p
    → ((k : ℕ) → k < cells_under (header_of header) → has_bit grays k ≡ false) → HasNoGray w p
no_gray_under w p header grays h is none =
    no_gray_found w p header _ _ h refl refl
    (ungray_are_black _ _ _ (λ k lt. subst (λ n. has_bit n k ≡ false) is (none k lt)))

-- and with one

pub gray_there : (pages : ℕ) (w : Words) (p k header grays : ℕ) → p < pages → header ≡ header_at w p
    → grays ≡ gray_bits w p → k < cells_under (header_of header) → has_bit grays k ≡ true
    → IsGray pages w (record { page = p; index = k })
gray_there pages w p k header grays within h is known one = grind (arith, gray_is_not_black, has_bit_without)
