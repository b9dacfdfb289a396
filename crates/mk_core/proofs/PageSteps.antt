-- What the steps that change a page's header, used and quarantine words find and store.
use Rattle.mk_core.proofs.Vocabulary.{Bool, Config, Flight, Moment, None, Option, Some, Words, ℕ, and_parts, ap, arith}
use Rattle.mk_core.proofs.Vocabulary.{bit_and, cell_words, eqb-true, false, first_word, has_bit, if◌then◌else◌, inl}
use Rattle.mk_core.proofs.Vocabulary.{inr, is_phase, not, not-true, object_made, place_now, quarantine_word, refl}
use Rattle.mk_core.proofs.Vocabulary.{slice_index, sym, true, unmapped_header, words_are_zero, ◌%◌, ◌-◌, ◌/◌, ◌<◌, ◌^◌}
use Rattle.mk_core.proofs.{Vocabulary.{◌||◌, ◌∙◌, ◌≡◌, ◌⊎◌}, ServingSteps.{Carves, IsNextHeader, TakesCell, carves_is}}
use Rattle.mk_core.proofs.{ServingSteps.{four_hold, next_header, takes_is}, WordBits.{fewer_bits, no_common, rest_bits}}
use Rattle.mk_core.proofs.{WordBits.without_none, AllBelow.all_below-at, BitsWithout.has_bit_without}
use Rattle.mk_core.specs.{Cells.{are_left_unmarked, head_page, left_unmarked}, TurnConditions.{are_wiped, carves}}
use Rattle.mk_core.specs.TurnConditions.{empties, frees, gives_back, is_used_once, may_head, may_quarantine, may_use}
use Rattle.mk_core.specs.{TurnConditions.{takes_snapshot, unmaps}, Words.{without, used_at}, NewPlaces.target}
use Rattle.mk_core.specs.declared.seats.RunPages.{RunPages}

-- one of two tests holds
either_holds : (a b : Bool) → (a || b) ≡ true → (a ≡ true) ⊎ (b ≡ true)
either_holds true b h = inl refl
either_holds false b h = inr h

-- what follows from each of two tests, if a third says which of them is asked
by_test : {A : Type 0} (b x y : Bool) → (if b then x else y) ≡ true → (b ≡ true → x ≡ true → A)
    → (b ≡ false → y ≡ true → A) → A
by_test true x y h on_true on_false = on_true refl h
by_test false x y h on_true on_false = on_false refl h

-- Header words.

pub record Unmaps (w : Words) (freed : Option RunPages) (page value : ℕ) : Type 0 where
  pub run : RunPages
  pub there : freed ≡ Some run
  pub next : IsNextHeader w run.page run.count (unmapped_header run.count) page value

pub unmaps_is : (w : Words) (freed : Option RunPages) (page value : ℕ) → unmaps w freed page value ≡ true
    → Unmaps w freed page value
unmaps_is w None page value h = cc
unmaps_is w (Some run) page value h =
    record { run = run; there = refl; next = next_header w run.page run.count (unmapped_header run.count) page value h }

pub record Empties (w : Words) (page value : ℕ) : Type 0 where
  pub is : value ≡ 0
  pub unused : used_at w (head_page w page) ≡ 0
  pub unfreed : slice_index w.freed (head_page w page) ≡ 0
  pub outside : slice_index w.snapshot (head_page w page) ≡ 0

pub empties_is : (w : Words) (page value : ℕ) → empties w page value ≡ true → Empties w page value
empties_is w page value h =
    let a = four_hold _ _ _ _ h in
    record { is = eqb-true _ 0 a.0; unused = eqb-true _ 0 a.1; unfreed = eqb-true _ 0 a.2; outside = eqb-true _ 0 a.3 }

-- A `head` that may come carves a page, unmaps one, or empties one.
pub data HeadStep (c : Config) (m : Moment) (f : Flight) (page value : ℕ) : Type 0 where
  ItCarves : is_phase m.words 4 ≡ false → Carves m.words (object_made c f.op) (place_now c m f) page value
      → HeadStep c m f page value
  ItUnmaps : is_phase m.words 4 ≡ false → Unmaps m.words m.seats.holding.freed page value → HeadStep c m f page value
  ItEmpties : is_phase m.words 4 ≡ true → Empties m.words page value → HeadStep c m f page value

pub head_step : (c : Config) (m : Moment) (f : Flight) (page value : ℕ) → may_head c m f page value ≡ true
    → HeadStep c m f page value
head_step c m f page value h = by_test _ _ _ h (λ is empty. ItEmpties is (empties_is m.words page value empty))
    (λ is either. elim (either_holds (carves m.words (object_made c f.op) (place_now c m f) page value)
    (unmaps m.words m.seats.holding.freed page value) either) [
      | inl x ↦ ItCarves is (carves_is m.words (object_made c f.op) (place_now c m f) page value x)
      | inr x ↦ ItUnmaps is (unmaps_is m.words m.seats.holding.freed page value x)
    ])

-- Used words.

-- cells that are left unmarked: in the snapshot, with no mark
pub left_bits : (w : Words) (page bits k : ℕ) → are_left_unmarked w page bits ≡ true → has_bit bits k ≡ true
    → (has_bit (slice_index w.snapshot page) k ≡ true) × (has_bit (slice_index w.marks page) k ≡ false)
left_bits w page bits k h bit =
    let none = without_none bits (left_unmarked w page) (eqb-true _ 0 h) in
    let left : has_bit (left_unmarked w page) k ≡ true = fewer_bits bits (left_unmarked w page) k none bit in
    let parts =
    and_parts _ _ (sym (has_bit_without (slice_index w.snapshot page) (slice_index w.marks page) k) ∙ left) in
    (parts.0, not-true _ parts.1)

-- cells whose words are 0
pub wiped_cell : (w : Words) (page bits k : ℕ) → are_wiped w page bits ≡ true → k < 32 → has_bit bits k ≡ true
    → words_are_zero w (first_word w (record { page = page; index = k }))
    (cell_words w (record { page = page; index = k })) ≡ true
wiped_cell w page bits k h lt bit =
    let zero_words = words_are_zero w (first_word w (record { page = page; index = k }))
    (cell_words w (record { page = page; index = k })) in
    ap (λ b. not b || zero_words) (sym bit) ∙ all_below-at 32 k (λ i. not (has_bit bits i) || words_are_zero w
    (first_word w (record { page = page; index = i })) (cell_words w (record { page = page; index = i }))) h lt

pub record GivesBack (w : Words) (page value : ℕ) : Type 0 where
  pub fewer : bit_and value (used_at w page) ≡ value
  pub left : are_left_unmarked w page (used_at w page - value) ≡ true
  pub wiped : are_wiped w page (used_at w page - value) ≡ true
  -- a bit that goes
  pub gone : (k : ℕ) → has_bit (used_at w page) k ≡ true → has_bit value k ≡ false
      → (has_bit (slice_index w.snapshot page) k ≡ true) × (has_bit (slice_index w.marks page) k ≡ false)

pub gives_back_is : (w : Words) (page value : ℕ) → gives_back w page value ≡ true → GivesBack w page value
gives_back_is w page value h =
    let a = and_parts _ _ h in
    let b = and_parts _ _ a.0 in
    let sub : bit_and value (used_at w page) ≡ value = eqb-true _ _ b.0 in
    record {
      fewer = sub;
      left = b.1;
      wiped = a.1;
      gone = λ k bit out. left_bits w page (used_at w page - value) k b.1
          (rest_bits value (used_at w page) k sub bit out);
    }

-- A `used` that may come takes the cell of a place, once, or gives cells back.
pub data UsedStep (c : Config) (m : Moment) (f : Flight) (page value : ℕ) : Type 0 where
  ItTakes : is_phase m.words 4 ≡ false → is_used_once m.seats.holding.placing ≡ false
      → TakesCell m.words (object_made c f.op) (place_now c m f) page value → UsedStep c m f page value
  ItGivesBack : is_phase m.words 4 ≡ true → GivesBack m.words page value → UsedStep c m f page value

pub used_step : (c : Config) (m : Moment) (f : Flight) (page value : ℕ) → may_use c m f page value ≡ true
    → UsedStep c m f page value
used_step c m f page value h = by_test _ _ _ h (λ is back. ItGivesBack is (gives_back_is m.words page value back))
    (λ is both. let a = and_parts _ _ both in
    ItTakes is (not-true _ a.0) (takes_is m.words (object_made c f.op) (place_now c m f) page value a.1))

-- Quarantine words.

pub record TakesSnapshot (w : Words) (page value : ℕ) : Type 0 where
  pub phase : is_phase w 0 ≡ true
  pub is : value ≡ quarantine_word (slice_index w.freed page) (slice_index w.freed page)

pub takes_snapshot_is : (w : Words) (page value : ℕ) → takes_snapshot w page value ≡ true → TakesSnapshot w page value
takes_snapshot_is w page value h =
    let a = and_parts _ _ h in record { phase = a.0; is = eqb-true _ _ a.1 }

pub record Drops (w : Words) (page freed snapshot : ℕ) : Type 0 where
  pub fewer : bit_and snapshot (slice_index w.snapshot page) ≡ snapshot
  pub left : are_left_unmarked w page (slice_index w.snapshot page - snapshot) ≡ true
  pub unused : bit_and (used_at w page) (slice_index w.snapshot page - snapshot) ≡ 0
  pub is : freed ≡ without (slice_index w.freed page) (slice_index w.snapshot page - snapshot)
  -- a bit that goes
  pub gone : (k : ℕ) → has_bit (slice_index w.snapshot page) k ≡ true → has_bit snapshot k ≡ false
      → (has_bit (slice_index w.marks page) k ≡ false) × (has_bit (used_at w page) k ≡ false)

-- A `quar` that may come frees the target of a Free, takes a snapshot, or drops cells.
pub data QuarantineStep (c : Config) (m : Moment) (f : Flight) (page value : ℕ) : Type 0 where
  ItFrees : is_phase m.words 4 ≡ false → frees m.words (target c.pages m.words f) page value ≡ true
      → QuarantineStep c m f page value
  ItTakesSnapshot : TakesSnapshot m.words page value → QuarantineStep c m f page value
  ItDrops : is_phase m.words 4 ≡ true → Drops m.words page (value % 2 ^ 32) (value / 2 ^ 32)
      → QuarantineStep c m f page value

pub quarantine_step : (c : Config) (m : Moment) (f : Flight) (page value : ℕ) → may_quarantine c m f page value ≡ true
    → QuarantineStep c m f page value
quarantine_step c m f page value h =
    grind (
      arith,
      by_test,
      either_holds,
      takes_snapshot_is,
      ItDrops,
      ItFrees,
      ItTakesSnapshot,
      four_hold,
      eqb-true,
      rest_bits,
      left_bits,
      no_common,
    )
