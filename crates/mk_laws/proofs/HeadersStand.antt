-- While nothing is on its way, the headers and used words are those of the unreleased storage.
use Rattle.std.proofs.{Common.{Contains, pow-suc}, lemmas.Nat.Bits.{bit_at_above, bit_at_lowest, same_from_bits}}
use Rattle.std.proofs.{lemmas.List.get_or_default, lemmas.List.Elements.Contains-get_or}
use Rattle.mk_laws.proofs.Vocabulary.{Bool, Claim, Config, HasHeader, IsClaimed, IsLaidOn, List, None, Object}
use Rattle.mk_laws.proofs.Vocabulary.{PlacedAllocation, ShowsPart, Storage, Words, ℕ, ap, arith, bit_at, block_header}
use Rattle.mk_laws.proofs.Vocabulary.{cases_Bool, cases_eq, cases_lt, cell_ends, cell_of_allocation, cells_of}
use Rattle.mk_laws.proofs.Vocabulary.{cells_under, claim_of, claims_of, class_known, class_made, class_words_of, false}
use Rattle.mk_laws.proofs.Vocabulary.{false_from_ne_true, free_page, get_or, has_bit, header_at, header_made, inl, inr}
use Rattle.mk_laws.proofs.Vocabulary.{is_mapped, is_released_in, is_small_object, large_cells, large_is_not_small}
use Rattle.mk_laws.proofs.Vocabulary.{large_words, later_cells, length, mode_of, not, object_placed, pages_made}
use Rattle.mk_laws.proofs.Vocabulary.{pages_some, placed_at, refl, run_header, shows_on, slice_index_or, small}
use Rattle.mk_laws.proofs.Vocabulary.{small_cells, small_pages, small_words, standing_has_storage, stands, stands_on}
use Rattle.mk_laws.proofs.Vocabulary.{storage_is_of, storage_of, storage_words, subst, suc, sym, taken, true}
use Rattle.mk_laws.proofs.Vocabulary.{true≢false, unreleased_storage, used_at, word_of, words_within, zero, [], ◌%◌}
use Rattle.mk_laws.proofs.Vocabulary.{◌&&◌, ◌*◌, ◌+◌, ◌-◌, ◌/◌, ◌<◌, ◌^◌, ◌∙◌, ◌∷◌, ◌≡◌, ◌≤◌, ◌⊎◌}
use Rattle.mk_laws.proofs.Apart.{Lies, Rests, index_is, lie_apart, lie_in_pairs, lies, on_its_pages, quiet_scene}
use Rattle.mk_laws.proofs.{Apart.{same_block, small_is}, LayoutReadings.{cellless_unused, free_unused}}
use Rattle.mk_laws.proofs.{Basics.{claimed, claimed_some}, Claims.claim_is, Released.large_index}
use Rattle.mk_laws.proofs.{Unmapping.{cells_at_claim, shares_run}, WholeRuns.{IsOn, on_claim}}
use Rattle.mk_geom.proofs.{Standing.{class_of_words, stands_from}, StoredWords.{words_at, words_by_large}}
use Rattle.mk_geom.proofs.{StoredWords.{words_by_small, words_free}, TakenCells.{cell_taken_by, cell_taken_from}}
use Rattle.mk_geom.proofs.TakenCells.{get_or-taken_cells, length-taken_cells, same_from_both, same_index}
use Rattle.mk_geom.proofs.{ClassTable.class_words_within, UsedWords.bit_at-used_word}
use Rattle.mk_geom.specs.Storages.{AreLaidOut, PagesStandFor, block_page, first_page, is_cell_taken, run_page, run_used}
use Rattle.mk_geom.specs.Storages.{taken_cells, used_word, words_of_storages}
use Rattle.mk_core.proofs.{ObjectHeaders.{large_header, small_header}, UnreleasedStorage.has_its_storage}
use Rattle.mk_core.proofs.WordBits.{bit_is_none, bit_is_one}

pub laid_out : {c : Config} {w : Words} {xs : List PlacedAllocation} → Rests c w xs
    → AreLaidOut (length w.pages) (unreleased_storage c xs)
laid_out {c} {w} {xs} r = record {
  each = λ i d within.
      let h = storage_is_of c xs (get_or _ i d) (Contains-get_or (unreleased_storage c xs) i d within) in
      rw h.storage (rw r.lengths (standing_has_storage c _ r.limits (lies r h.number h.unreleased).stands));
  apart = lie_in_pairs c xs r.laid.apart (λ i j u v other. lie_apart r.laid (lies r i u) (lies r j v) other);
}

-- Pages of a run.

one_bit : (n : ℕ) → has_bit n 0 ≡ true → ((k : ℕ) → has_bit n k ≡ true → k ≡ 0) → n ≡ 1
one_bit n low only = same_from_bits n 1 (λ k. elim (cases_eq k 0) [
  | inl z ↦ ap (bit_at n) z ∙ bit_is_one n 0 low ∙ sym (bit_at_lowest 1) ∙ ap (bit_at 1) (sym z)
  | inr ne ↦ grind (arith, bit_is_none, bit_at_above)
])

unmapped_run : (count : ℕ) (leaf : Bool) (d : ℕ) → run_header count false false d ≡ run_header count false leaf d
unmapped_run count true zero = refl
unmapped_run count _ _ = cc

-- the header word of a large claim's page, mapped if the allocation isn't freed
run_word : (o : Object) (freed : Bool) (d h : ℕ) → is_small_object o ≡ false → HasHeader
    (mode_of (freed && true) false) o d h → h ≡ word_of (run_header (pages_made o) (not (freed && true)) o.leaf d)
run_word o true d h large has = has.1 ∙ ap word_of (unmapped_run (pages_made o) o.leaf d)
run_word o false d h large has = has ∙ large_header o d large

mapped_is : (c : Config) (a : PlacedAllocation) → a.released ≡ false → is_small_object (object_placed c a) ≡ false
    → is_mapped c a ≡ not (a.freed && true)
mapped_is c a u large = rw u (rw (large_is_not_small _ ∙ ap not large))

same_bits : (n m k : ℕ) → has_bit n k ≡ has_bit m k → bit_at n k ≡ bit_at m k
same_bits n m k e = grind (arith, bit_is_one, bit_is_none)

used_below : (bits : List Bool) → used_word bits < 2 ^ length bits
used_below [] = omega arith
used_below (true ∷ bits) = omega (arith, used_below bits, pow-suc 2 (length bits))
used_below (false ∷ bits) = omega (arith, used_below bits, pow-suc 2 (length bits))

used_past : (bits : List Bool) (k : ℕ) → length bits ≤ k → bit_at (used_word bits) k ≡ 0
used_past bits k le = bit_at_above _ (length bits) k (used_below bits) le

-- What stands on the page of a small object is small, and of its class.
alike_at : {c : Config} {w : Words} {xs : List PlacedAllocation} {a b : PlacedAllocation}
    → IsLaidOn (quiet_scene c w xs) → Lies c w xs a → Lies c w xs b → is_small_object (object_placed c a) ≡ true
    → (p : ℕ) → a.base / 64 ≡ p → b.base / 64 ≡ p → (is_small_object (object_placed c b) ≡ true)
    × (class_made (object_placed c b) ≡ class_made (object_placed c a))
alike_at {c} {w} {xs} {a} {b} laid x y small p page at = elim (cases_Bool (is_small_object (object_placed c b))) [
  | inl s ↦ (s, (same_block y x s small (at ∙ sym page)).0)
  | inr l ↦
      let pa = pages_some (object_placed c a) x.shown.sized in
      let pb = pages_some (object_placed c b) y.shown.sized in
      let one = shares_run (claim_of c None b) (claim_of c None a) 0 0 laid y.among x.among l
      (omega arith) (omega arith) (omega arith) in
      absurd (true≢false (sym small ∙ ap (λ (z : Claim). is_small_object z.object) one ∙ l))
]

-- the header of a block's page
block_shown : {c : Config} {w : Words} {xs : List PlacedAllocation} {a : PlacedAllocation} → Lies c w xs a
    → is_small_object (object_placed c a) ≡ true → header_at w (a.base / 64)
    ≡ word_of (block_header (class_made (object_placed c a)) (object_placed c a).leaf)
block_shown {c} {w} {a} x s =
    let o : Object = object_placed c a in
    let one = small_pages o s in
    let zero : a.base / 64 + 0 ≡ a.base / 64 = omega arith in
    let has : HasHeader (mode_of (a.freed && false) false) o 0 (header_at w (a.base / 64)) =
    rw s at (rw zero at (x.shown.headers 0 (omega arith))) in
    made a.freed o (header_at w (a.base / 64)) has ∙ small_header o 0 s
  where
    made : (b : Bool) (o : Object) (h : ℕ) → HasHeader (mode_of (b && false) false) o 0 h → h ≡ header_made o 0
    made true o h has = has
    made false o h has = has

module _ (c : Config) (w : Words) (xs : List PlacedAllocation) (i p : ℕ) (r : Rests c w xs)
    (u : (placed_at xs i).released ≡ false) where
  abbrev a : PlacedAllocation
  a = placed_at xs i

  abbrev o : Object
  o = object_placed c a

  abbrev class : ℕ
  class = class_made o

  x : Lies c w xs a
  x = lies r i u

  abbrev PageStands : Type 0
  PageStands = slice_index_or w.pages p free_page ≡ words_of_storages (unreleased_storage c xs) p

  -- Pages of a run.
  run_words : (d : ℕ) → is_small_object o ≡ false → d < pages_made o → a.base / 64 + d ≡ p → PageStands
  run_words d large ld at =
      let s : Storage = storage_of c a in
      let words : storage_words c a ≡ 64 * pages_made o = large_words o large in
      let count : s.words / 64 ≡ pages_made o = omega arith in
      let distance : p - first_page s ≡ d = omega arith in
      let stands : stands_on p s ≡ true = stands_from p s (omega arith) (omega arith) in
      page_is ∙ rw (← count) (rw (← (mapped_is c a u large))
      (rw (← distance) (sym (words_by_large p (unreleased_storage c xs) s (small_is c a x.shown.sized ∙ large)) ∙ sym
      (words_at (length w.pages) p (unreleased_storage c xs) s (laid_out r) (has_its_storage c xs i u) stands))))
    where
      header : header_at w p ≡ word_of (run_header (pages_made o) (not (a.freed && true)) o.leaf d)
      header = run_word o a.freed d (header_at w p) large (rw large at
          (subst (λ q. HasHeader (claim_of c None a).mode o d (header_at w q)) at (x.shown.headers d ld)))

      used_by : (e : ℕ) → d ≡ e → used_at w p ≡ run_used e
      used_by zero z =
          let first : a.base / 64 ≡ p = omega arith in
          let cells : cells_under (shows_on w.pages p) ≡ 1 =
          rw (← first) (cells_at_claim (quiet_scene c w xs) x.shown ∙ large_cells o large) in
          let low : (cell_of_allocation c a).index ≡ 0 = large_index c a x.shown.sized large in
          one_bit (used_at w p) (rw (← first) (ap (λ k. has_bit (used_at w (a.base / 64)) k) (sym low) ∙ x.shown.used))
          (λ k h. let t = (r.laid.used p k h).0 in omega arith)
      used_by (suc e) z = cellless_unused p r.laid (later_cells o d _ (subst (λ q. ShowsPart o d
          (shows_on w.pages q)) at (claimed _ _ d x.shown ld)) (omega arith))

      page_is : slice_index_or w.pages p free_page ≡ run_page (pages_made o) (not (a.freed && true)) o.leaf d
      page_is = ap (λ h. record { header = h; used = used_at w p }) header ∙ rw (used_by d refl)

  -- Pages of a block.
  block_words : is_small_object o ≡ true → a.base / 64 ≡ p → PageStands
  block_words small at =
      let s : Storage = storage_of c a in
      let some : 1 ≤ storage_words c a = (words_within o x.shown.sized).0 in
      let stands : stands_on p s ≡ true = stands_from p s (omega arith) (omega arith) in
      let same = class_of_words s class (class_known o x.shown.sized small).0 (small_words o small) in
      ap (λ h. record { header = h; used = used_at w p }) (ap (header_at w) (sym at) ∙ block_shown x small)
      ∙ ap (λ v. record { header = word_of (block_header class o.leaf); used = v }) used
      ∙ ap (λ m. block_page m o.leaf (used_word (taken_cells (unreleased_storage c xs) p m))) (sym same)
      ∙ sym (words_by_small p (unreleased_storage c xs) s (small_is c a x.shown.sized ∙ small))
      ∙ sym (words_at (length w.pages) p (unreleased_storage c xs) s (laid_out r) (has_its_storage c xs i u) stands)
    where
      known : class < 8
      known = (class_known o x.shown.sized small).0

      cells : cells_under (shows_on w.pages p) ≡ cells_of class
      cells = ap (λ q. cells_under (shows_on w.pages q)) (sym at)
          ∙ cells_at_claim (quiet_scene c w xs) x.shown ∙ small_cells o small

      -- where a small object of the class begins
      begins_at : (j : ℕ) → (v : (placed_at xs j).released ≡ false) → is_small_object (object_placed c (placed_at xs j))
          ≡ true → class_made (object_placed c (placed_at xs j)) ≡ class → (placed_at xs j).base % 64
          ≡ (cell_of_allocation c (placed_at xs j)).index * class_words_of class
      begins_at j v s same =
          let y = lies r j v in
          cc (
            y.begins.first,
            small_words (object_placed c (placed_at xs j)) s,
            same,
            index_is c (placed_at xs j) y.shown.sized y.begins,
          )

      -- whose cell it is
      there : (n : ℕ) → n < cells_of class → has_bit (used_at w p) n ≡ true
          → is_cell_taken (unreleased_storage c xs) p (class_words_of class) n ≡ true
      there n ln h = by (r.laid.used p n h).1
        where
          by : IsClaimed (claims_of c None xs) p n ⊎ (is_released_in false w.snapshot w.marks p n ≡ true)
              → is_cell_taken (unreleased_storage c xs) p (class_words_of class) n ≡ true
          by (inr released) = absurd (true≢false (sym released))
          by (inl k) =
              let y = claim_is c None xs k.claim k.among in
              let j : ℕ = y.number in
              let page : (placed_at xs j).base / 64 ≡ p = ap (λ (z : Claim). z.page) (sym y.is) ∙ k.page in
              let index : (cell_of_allocation c (placed_at xs j)).index ≡ n = cc (y.is, k.index) in
              let same = alike_at r.laid x (lies r j y.unreleased) small p at page in
              let first = begins_at j y.unreleased same.0 same.1 ∙ ap (λ m. m * class_words_of class) index in
              cell_taken_from p (class_words_of class) n _ _ (has_its_storage c xs j y.unreleased) (omega arith)

      back : (n : ℕ) → n < cells_of class → is_cell_taken (unreleased_storage c xs) p (class_words_of class) n ≡ true
          → has_bit (used_at w p) n ≡ true
      back n ln taken =
          let k : ℕ = class_words_of class in
          let t = cell_taken_by (length w.pages) p class n (unreleased_storage c xs) known ln (laid_out r).each taken in
          let h = storage_is_of c xs t.0 t.1 in
          let j : ℕ = h.number in
          let base : (placed_at xs j).base ≡ 64 * p + n * k = ap (λ (s : Storage). s.first) (sym h.storage) ∙ t.2 in
          let ends : n * k + k ≤ 64 = cell_ends n k ln in
          let some = (class_words_within class known).0 in
          let page : (placed_at xs j).base / 64 ≡ p = omega arith in
          let same = alike_at r.laid x (lies r j h.unreleased) small p at page in
          let first = begins_at j h.unreleased same.0 same.1 in
          let is_n : (cell_of_allocation c (placed_at xs j)).index ≡ n =
          same_index k (cell_of_allocation c (placed_at xs j)).index n (omega arith) (sym first
          ∙ (let rest : (placed_at xs j).base % 64 ≡ n * k = omega arith in rest)) in
          cc (page, is_n, (lies r j h.unreleased).shown.used)

      used : used_at w p ≡ used_word (taken_cells (unreleased_storage c xs) p class)
      used =
          let k : ℕ = class in
          let taken : List Bool = taken_cells (unreleased_storage c xs) p k in
          let long : length taken ≡ cells_of k = length-taken_cells (unreleased_storage c xs) p k in
          same_from_bits (used_at w p) (used_word taken) (λ n. elim (cases_lt n (cells_of k)) [
            | inl ln ↦ same_bits _ _ n (same_from_both _ _ (there n ln) (back n ln) ∙ sym (get_or-taken_cells _ p k n
                false ln) ∙ sym (bit_at-used_word taken n false (omega arith)))
            | inr past ↦
                let none : has_bit (used_at w p) n ≡ false = false_from_ne_true (has_bit (used_at w p) n)
                (λ h. let t = (r.laid.used p n h).0 in let m = cells in omega arith) in
                bit_is_none (used_at w p) n none ∙ sym (used_past taken n (omega arith))
          ])

-- All pages.

nothing_there : {c : Config} {w : Words} {xs : List PlacedAllocation} (p : ℕ) → Rests c w xs → header_at w p ≡ 0
    → (s : Storage) → Contains (unreleased_storage c xs) s → stands_on p s ≡ true → ⊥
nothing_there {c} {w} {xs} p r z s inside stands =
    let h = storage_is_of c xs s inside in
    let a : PlacedAllocation = placed_at xs h.number in
    let x = lies r h.number h.unreleased in
    let range = on_its_pages c a p x.shown.sized x.begins (rw h.storage at stands) in
    let at : a.base / 64 + (p - a.base / 64) ≡ p = omega arith in
    claimed_some w.pages _ _ x.shown (omega arith) (ap (header_at w) at ∙ z)

pub pages_stand : {c : Config} {w : Words} {xs : List PlacedAllocation} → Rests c w xs
    → PagesStandFor w.pages (unreleased_storage c xs)
pages_stand {c} {w} {xs} r = record {
  laid_out = laid_out r;
  words = λ p d lt. get_or_default w.pages p d free_page lt ∙ elim (cases_eq (header_at w p) 0) [
    | inl z ↦ ap (λ h. record { header = h; used = used_at w p }) z ∙ rw (free_unused _ p r.laid z)
        (sym (words_free p _ (λ s inside. false_from_ne_true (stands_on p s) (nothing_there p r z s inside))))
    | inr some ↦
        let on : IsOn (quiet_scene c w xs) p = on_claim p r.laid refl refl some in
        let y = claim_is c None xs on.claim on.among in
        let o : Object = object_placed c (placed_at xs y.number) in
        let near : on.distance < pages_made o = rw y.is at on.near in
        let at : (placed_at xs y.number).base / 64 + on.distance ≡ p = cc (y.is, on.at) in
        elim (cases_Bool (is_small_object o)) [
          | inl s ↦ let one = small_pages o s in block_words c w xs y.number p r y.unreleased s (omega arith)
          | inr l ↦ run_words c w xs y.number p r y.unreleased on.distance l near at
        ]
  ];
}
