-- The sets of blocks, by class and sort.
use Rattle.std.proofs.{lemmas.Bool.{and_parts, cond-false, cond-true, lt-leb, not-true}, Common.{eqb-true, le-leb}}
use Rattle.std.proofs.{Common.{lt-ltb, nat_le}, Math.Nat.div-le_self}
use Rattle.mk_books.proofs.Vocabulary.{Bool, IsInItsSets, List, Nothing, PageUse, PartOfRun, PutsPage, SortsPage, ℕ, ap}
use Rattle.mk_books.proofs.Vocabulary.{arith, cases_eq, cases_lt, false, first_where, has_free_cell, inl, inr}
use Rattle.mk_books.proofs.Vocabulary.{is_free_page, is_member, is_of_set, is_some, nat_lt, not, refl, sym, true}
use Rattle.mk_books.proofs.Vocabulary.{use_of_kind, ◌%◌, ◌<◌, ◌∙◌, ◌≡◌, ◌≤◌}
use Rattle.mk_books.specs.{PageSets.PutsFree, declared.kinds.PageKind.TheVariants.Block}
use Rattle.mk_geom.specs.{Addresses.{cells_of, class_words_of}, PageUses.{Cells, is_same_sort, bits_of}}
use Rattle.mk_books.{proofs.FreeCellLemmas.{cells_taken_alike}, specs.Cells.{class_place}}

pub of_block_set : (set : ℕ) (use' : PageUse) → set < 16
    → is_of_set set use' ≡ has_free_cell (set % 8) (nat_le 8 set) use'
of_block_set set use' block = cond-true (nat_lt set 16) _ _ (lt-ltb set 16 block)

sort_of_place : (class : ℕ) (leaf : Bool) → class < 8 → nat_le 8 (class_place class leaf) ≡ leaf
sort_of_place class _ known = grind (arith, le-leb, lt-leb)

place_within : (class : ℕ) (leaf : Bool) → class < 8 → class_place class leaf < 16
place_within class _ known = grind arith

-- a block's own set
pub of_own_set : (class : ℕ) (leaf : Bool) (use' : PageUse) → class < 8
    → is_of_set (class_place class leaf) use' ≡ has_free_cell class leaf use'
of_own_set class leaf use' known = grind (arith, of_block_set, place_within, sort_of_place)

pub free_in_own_set : (class : ℕ) (leaf : Bool) (used : ℕ) → class < 8 → is_of_set (class_place class leaf)
    (Cells class leaf (bits_of (cells_of class) used)) ≡ is_some (first_where not (bits_of (cells_of class) used))
free_in_own_set class leaf used known = of_own_set class leaf (Cells class leaf (bits_of (cells_of class) used)) known
    ∙ ap (λ taken. is_some (first_where not taken))
    (cells_taken_alike (Cells class leaf (bits_of (cells_of class) used)) class class leaf leaf used refl refl refl)

same_sorts : (a b : Bool) → is_same_sort a b ≡ true → a ≡ b
same_sorts a b same = grind (arith, not-true)

-- no other set of blocks is its own
pub of_other_set : (set class : ℕ) (leaf : Bool) (taken : List Bool) → set < 16 → (set ≡ class_place class leaf → ⊥)
    → is_of_set set (Cells class leaf taken) ≡ false
of_other_set set class leaf taken block other =
    grind (arith, of_block_set, and_parts, eqb-true, same_sorts, cond-false, cases_lt, lt-leb, le-leb)

-- a free page is in no set of blocks
pub nothing_of_set : (set : ℕ) → set < 16 → is_of_set set Nothing ≡ false
nothing_of_set set block = of_block_set set Nothing block

pub cells_few : (class : ℕ) → class < 8 → cells_of class ≤ 64
cells_few class known = div-le_self 64 (class_words_of class)

-- each set of the first 18
pub each_set : (P : ℕ → Type 0) → ((set : ℕ) → set < 16 → P set) → P 16 → P 17 → (set : ℕ) → set < 18 → P set
each_set P blocks free in_use set is_set = grind (arith, cases_lt)

-- a page of a run is only in the set of the pages in use
pub run_of_set : (set : ℕ) → set < 16 → is_of_set set (PartOfRun false) ≡ false
run_of_set set block = of_block_set set (PartOfRun false) block

-- but for one set the page is where a page of a run is
abbrev pub IsRunElsewhere : ℕ → PageUse → Type 0
IsRunElsewhere place stands =
    (set : ℕ) → set < 18 → (set ≡ place → ⊥) → is_of_set set stands ≡ is_of_set set (PartOfRun false)

pub block_elsewhere : {place : ℕ} (class used : ℕ) (leaf : Bool) → place ≡ class_place class leaf
    → IsRunElsewhere place (use_of_kind (Block class leaf) used)
block_elsewhere class used leaf is set is_set other = each_set (λ s. (s ≡ class_place class leaf → ⊥)
    → is_of_set s (use_of_kind (Block class leaf) used) ≡ is_of_set s (PartOfRun false))
    (λ s block differ. of_other_set s class leaf (bits_of (cells_of class) used) block differ
    ∙ sym (run_of_set s block)) (λ _. refl) (λ _. refl) set is_set (λ same. other (same ∙ sym is))

-- a page is sorted by its put into the one set in which it may be, and no page of a run is
pub sorted_in_place : {before after : List ℕ} {page place : ℕ} (was stands : PageUse) {inside : Bool} → place < 16
    → PutsPage before after place page inside → inside ≡ is_of_set place stands → IsRunElsewhere place was
    → IsRunElsewhere place stands → IsInItsSets before page was → SortsPage before after page stands
sorted_in_place {after} {page} {place} was stands block puts own run_before run_now sorted = record {
  are_sets = puts.are_sets;
  sorted = λ set is_set. elim (cases_eq set place) [
    | inl same ↦ ap (λ s. is_member after s page) same ∙ puts.this ∙ own ∙ ap (λ s. is_of_set s stands) (sym same)
    | inr other ↦ puts.other_sets set (omega arith) other ∙ sorted set is_set ∙ run_before set is_set other
        ∙ sym (run_now set is_set other)
  ];
  quarantined = puts.other_sets 18 (omega arith) (λ same. absurd (omega arith));
  other_pages = puts.other_pages;
}

-- a block leaves its own set, and a page joins that of the block that it is now
pub left_blocks : {before after : List ℕ} {page place : ℕ} (class used : ℕ) (leaf : Bool) → class < 8
    → place ≡ class_place class leaf → PutsPage before after place page false
    → IsInItsSets before page (use_of_kind (Block class leaf) used) → SortsPage before after page (PartOfRun false)
left_blocks {place} class used leaf known is puts sorted =
    let block : place < 16 = omega (arith, is, place_within class leaf known) in
    sorted_in_place (use_of_kind (Block class leaf) used) (PartOfRun false) block puts (sym (run_of_set place block))
    (block_elsewhere class used leaf is) (λ _ _ _. refl) sorted

pub joined_blocks : {before after : List ℕ} {page place : ℕ} (class used : ℕ) (leaf : Bool) {free : Bool}
    (was : PageUse) → class < 8 → place ≡ class_place class leaf
    → free ≡ is_some (first_where not (bits_of (cells_of class) used)) → PutsPage before after place page free
    → IsRunElsewhere place was → IsInItsSets before page was
    → SortsPage before after page (use_of_kind (Block class leaf) used)
joined_blocks class used leaf was known is is_free puts run_before sorted =
    sorted_in_place was (use_of_kind (Block class leaf) used) (omega (arith, is, place_within class leaf known)) puts
    (is_free ∙ sym (free_in_own_set class leaf used known) ∙ ap (λ s. is_of_set s
    (use_of_kind (Block class leaf) used)) (sym is)) run_before (block_elsewhere class used leaf is) sorted

-- the three puts of a page that gets free, or in use
pub puts_free : {first second third last : List ℕ} {page : ℕ} {is_free : Bool} → PutsPage first second 16 page is_free
    → PutsPage second third 17 page (not is_free) → PutsPage third last 19 page is_free
    → PutsFree first last page is_free
puts_free free in_use uncleaned = record {
  are_sets = uncleaned.are_sets;
  free = uncleaned.other_sets 16 (omega arith) (λ same. absurd (omega arith))
      ∙ in_use.other_sets 16 (omega arith) (λ same. absurd (omega arith)) ∙ free.this;
  in_use = uncleaned.other_sets 17 (omega arith) (λ same. absurd (omega arith)) ∙ in_use.this;
  uncleaned = uncleaned.this;
  other_sets = λ s is_set not_free not_in_use. grind arith;
  other_pages = λ s number is_set few differ. grind arith;
}

-- and how it is sorted then
pub sorted_free : {before after : List ℕ} {page : ℕ} (was stands : PageUse)
    → PutsFree before after page (is_free_page stands)
    → ((set : ℕ) → set < 16 → is_of_set set was ≡ is_of_set set stands) → IsInItsSets before page was
    → SortsPage before after page stands
sorted_free {after} {page} was stands puts same sorted = record {
  are_sets = puts.are_sets;
  sorted = each_set (λ s. is_member after s page ≡ is_of_set s stands)
      (λ s block. puts.other_sets s (omega arith) (omega arith) (omega arith) ∙ sorted s (omega arith) ∙ same s block)
      puts.free puts.in_use;
  quarantined = puts.other_sets 18 (omega arith) (omega arith) (omega arith);
  other_pages = puts.other_pages;
}

-- a page leaves its sets, and then joins those that it is of
pub sorts_then : {before between after : List ℕ} {page : ℕ} {meanwhile now stands : PageUse}
    → SortsPage before between page meanwhile → SortsPage between after page now → stands ≡ now
    → SortsPage before after page stands
sorts_then left joined same = record {
  are_sets = joined.are_sets;
  sorted = λ set is_set. joined.sorted set is_set ∙ ap (is_of_set set) (sym same);
  quarantined = joined.quarantined ∙ left.quarantined;
  other_pages = λ s number is_set few differ.
      joined.other_pages s number is_set few differ ∙ left.other_pages s number is_set few differ;
}
