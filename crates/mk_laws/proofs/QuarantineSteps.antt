-- The quarantine after each kind of step.
use Rattle.std.proofs.{Common.bit_and, lemmas.Nat.and_le_r, lemmas.Nat.Bits.bit_at_and, lemmas.Nat.Bits.same_from_bits}
use Rattle.mk_laws.proofs.Vocabulary.{Among, Bool, Claim, Config, Drops, Ground, HasQuarantine, List, Object, Option}
use Rattle.mk_laws.proofs.Vocabulary.{Page, Place, Placing, RunPages, Used, World, ℕ, and_parts, and_right, ap, arith}
use Rattle.mk_laws.proofs.Vocabulary.{cases_eq, cell_of_allocation, claims_on, false, false_from_ne_true, fewer_bits}
use Rattle.mk_laws.proofs.Vocabulary.{get_or-set_other, get_or-set_same, ground_of, has_bit, has_bit_without, inl, inr}
use Rattle.mk_laws.proofs.Vocabulary.{is_released_in, length, not, not-true, placed_at, refl, slice_index, slice_set}
use Rattle.mk_laws.proofs.Vocabulary.{sym, true, used_on, without, ◌&&◌, ◌-◌, ◌<◌, ◌^◌, ◌∙◌, ◌≡◌, ◌≢◌, ◌⊎◌}
use Rattle.mk_core.proofs.{PageSteps.left_bits, WordBits.rest_bits}
use Rattle.mk_laws.proofs.{Claims.claim_is, Serving.among_parts}

-- the bits of a word that another hasn't, if the other's are all its own
rest_bit : (n m k : ℕ) → bit_and n m ≡ n → has_bit (m - n) k ≡ (has_bit m k && not (has_bit n k))
rest_bit n m k sub =
    let same : m - n ≡ without m n = ap (λ x. m - x) (sym
    (same_from_bits _ _ (λ i. bit_at_and m n i ∙ (omega arith) ∙ sym (bit_at_and n m i)) ∙ sub)) in
    rw same (has_bit_without m n k)

pub and_both : (a b : Bool) → a ≡ true → b ≡ false → (a && not b) ≡ true
and_both a b x y = rw x (ap not y)

-- one page's word is changed
pub set_cases : (xs : List ℕ) (p n q : ℕ) → p < length xs → ((q ≡ p) × (slice_index (slice_set xs p n) q ≡ n))
    ⊎ ((q ≢ p) × (slice_index (slice_set xs p n) q ≡ slice_index xs q))
set_cases xs p n q lt = elim (cases_eq q p) [
  | inr ne ↦ inr (ne, get_or-set_other xs p q n 0 ne)
  | inl e ↦ inl (e, rw e (get_or-set_same xs p n 0 lt))
]

pub least_set : (xs : List ℕ) (p n i : ℕ) → p < length xs → n < 2 ^ 32 → slice_index xs i < 2 ^ 32
    → slice_index (slice_set xs p n) i < 2 ^ 32
least_set xs p n i lt l was = grind (arith, set_cases)

-- a bit after a change of a page's word
pub bit_cases : (xs : List ℕ) (p n q k : ℕ) → p < length xs
    → ((q ≡ p) × (has_bit (slice_index (slice_set xs p n) q) k ≡ has_bit n k))
    ⊎ ((q ≢ p) × (has_bit (slice_index (slice_set xs p n) q) k ≡ has_bit (slice_index xs q) k))
bit_cases xs p n q k lt = grind (arith, set_cases)

-- what says that a cell is released
pub released_bits : (snapshot marks : List ℕ) (p k : ℕ) → is_released_in true snapshot marks p k ≡ true
    → (has_bit (slice_index snapshot p) k ≡ true) × (has_bit (slice_index marks p) k ≡ false)
released_bits snapshot marks p k r = grind (arith, and_parts, not-true)

-- `quar` (c): on one page some released bits go, of both halves
module _ (c : Config) (w : World) {p f n : ℕ} (lf : p < length w.now.words.freed) (ls : p < length w.now.words.snapshot)
    (q : HasQuarantine c true w.now.words.marks (ground_of w)) (d : Drops w.now.words p f n) where
  abbrev rest : ℕ
  rest = slice_index w.now.words.snapshot p - n

  n_small : n < 2 ^ 32
  n_small = let le = and_le_r n (slice_index w.now.words.snapshot p) in let is = d.fewer in omega arith

  f_small : f < 2 ^ 32
  f_small = omega arith

  f_bit : (k : ℕ) → has_bit f k ≡ (has_bit (slice_index w.now.words.freed p) k && not (has_bit rest k))
  f_bit k = rw d.is (has_bit_without _ rest k)

  was_freed : (k : ℕ) → has_bit f k ≡ true → has_bit (slice_index w.now.words.freed p) k ≡ true
  was_freed k x = (and_parts _ _ (sym (f_bit k) ∙ x)).0

  was_snap : (i k : ℕ) → has_bit (slice_index (slice_set w.now.words.snapshot p n) i) k ≡ true
      → has_bit (slice_index w.now.words.snapshot i) k ≡ true
  was_snap i k x = grind (arith, bit_cases, fewer_bits)

  within : (i k : ℕ) → has_bit (slice_index (slice_set w.now.words.snapshot p n) i) k ≡ true
      → has_bit (slice_index (slice_set w.now.words.freed p f) i) k ≡ true
  within i k x = grind (arith, bit_cases, was_snap, rest_bit, and_right, f_bit, and_both)

  -- what isn't released stays freed
  stays : (i k : ℕ) → has_bit (slice_index w.now.words.freed i) k ≡ true
      → is_released_in true w.now.words.snapshot w.now.words.marks i k ≡ false
      → has_bit (slice_index (slice_set w.now.words.freed p f) i) k ≡ true
  stays i k x out = elim (bit_cases w.now.words.freed p f i k lf) [
    | inr other ↦ other.1 ∙ x
    | inl here ↦ grind (arith, false_from_ne_true, left_bits, rest, and_both, f_bit)
  ]

  -- what is still freed and was released is released still
  still_released : (i k : ℕ) → has_bit (slice_index (slice_set w.now.words.freed p f) i) k ≡ true
      → has_bit (slice_index w.now.words.snapshot i) k ≡ true
      → has_bit (slice_index (slice_set w.now.words.snapshot p n) i) k ≡ true
  still_released i k x was = grind (arith, bit_cases, and_parts, f_bit, rest_bits, not-true)

  ruleset drop_kept_facts = (false_from_ne_true, was_freed, released_bits, and_both, was_snap, still_released)

  pub drop_kept : HasQuarantine c true w.now.words.marks
      (record (ground_of w) { freed = slice_set w.now.words.freed p f; snapshot = slice_set w.now.words.snapshot p n })
  drop_kept = grind (arith, drop_kept_facts, least_set, f_small, n_small, within, stays, bit_cases)

-- `quar` (b): the freed cells are the snapshot
pub snapshot_kept : (c : Config) (marks : List ℕ) (t : Ground) (p : ℕ) → p < length t.snapshot
    → HasQuarantine c false marks t
    → HasQuarantine c false marks (record t { snapshot = slice_set t.snapshot p (slice_index t.freed p) })
snapshot_kept c marks t p ls q = grind (arith, least_set, bit_cases)

-- `end`
pub end_kept : (c : Config) (marks : List ℕ) (t : Ground) → ((p k : ℕ)
    → is_released_in true t.snapshot marks p k ≡ false) → HasQuarantine c true marks t → HasQuarantine c false marks t
end_kept c marks t none q = grind arith

-- While the phase isn't releasing, the marks don't matter.
pub unmarked : {c : Config} {marks : List ℕ} (other : List ℕ) {t : Ground} → HasQuarantine c false marks t
    → HasQuarantine c false other t
unmarked other q = grind arith

-- Headers, used words and runs aren't read, and no step but one takes a cell.
pub replaced : (c : Config) (releasing : Bool) (marks : List ℕ) (t : Ground) (pages : List Page) (placing : Placing)
    (run : Option RunPages)
    → ((place : Place) → placing ≡ Used place → t.placing ≡ Used place) → HasQuarantine c releasing marks t
    → HasQuarantine c releasing marks (record t { pages = pages; placing = placing; run = run })
replaced c releasing marks t pages placing run from q = grind arith

-- `used` (a): a cell without a used bit is in no quarantine
pub take_kept : (c : Config) (marks : List ℕ) (t : Ground) (pages : List Page) (place : Place)
    → ((i : ℕ) → (placed_at t.allocations i).released ≡ false → has_bit (used_on t.pages (cell_of_allocation c
    (placed_at t.allocations i)).page) (cell_of_allocation c (placed_at t.allocations i)).index ≡ true)
    → has_bit (used_on t.pages place.page) place.index ≡ false → HasQuarantine c false marks t
    → HasQuarantine c false marks (record t { pages = pages; placing = Used place })
take_kept c marks t pages place used unset q = grind (arith, false_from_ne_true)

-- what the layout asks of the quarantine while cells are released
pub none_released : (c : Config) (o : Object) (marks : List ℕ) (t : Ground) → HasQuarantine c true marks t → (x : Claim)
    → Among x (claims_on c o t) → is_released_in true t.snapshot marks x.page x.index ≡ false
none_released c o marks t q x i = elim (among_parts _ _ x i) [
  | inl j ↦
      let n = claim_is c t.run t.allocations x j in
      rw n.is (q.kept refl n.number n.unreleased)
  | inr j ↦ grind (arith, false_from_ne_true, released_bits)
]
