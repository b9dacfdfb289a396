-- The storages of unreleased allocations are apart while nothing is on its way.
use Rattle.std.proofs.{Common.le_refl, lemmas.Bool.cases_order, lemmas.List.Elements.Contains-get_or}
use Rattle.mk_laws.proofs.Vocabulary.{Among, AreApart, BeginsAtCell, Bool, Cell, Claim, Config, Header, IsAtCell}
use Rattle.mk_laws.proofs.Vocabulary.{IsLaidOn, IsOfOneCell, IsShown, IsSized, IsWithinLimits, LayoutScene, List, None}
use Rattle.mk_laws.proofs.Vocabulary.{NoPlot, Object, OfBlock, OfLater, OfLeafBlock, OfLeafRun, OfRun, Option}
use Rattle.mk_laws.proofs.Vocabulary.{PlacedAllocation, ShowsPart, StandsOnHeap, Storage, Words, ℕ, ap, arith}
use Rattle.mk_laws.proofs.Vocabulary.{cases_Bool, cases_eq, cases_lt, cell_of_allocation, claim_of, claims_of}
use Rattle.mk_laws.proofs.Vocabulary.{class_made, class_words_of, false, first_page_shows, get_or, header_in, inl, inr}
use Rattle.mk_laws.proofs.Vocabulary.{is_small, is_small_object, length, mul-le, object_placed, pages_made, pages_some}
use Rattle.mk_laws.proofs.Vocabulary.{placed_at, refl, small_pages, small_words, stands_on, storage_is_of, storage_of}
use Rattle.mk_laws.proofs.Vocabulary.{storage_words, suc, sym, true, true≢false, unreleased_storage, words_within, []}
use Rattle.mk_laws.proofs.Vocabulary.{◌%◌, ◌*◌, ◌+◌, ◌-◌, ◌/◌, ◌<◌, ◌∙◌, ◌∷◌, ◌≡◌, ◌≢◌, ◌≤◌}
use Rattle.mk_geom.{proofs.Standing.stands_parts, specs.Storages.LieApart}
use Rattle.mk_core.proofs.UnreleasedStorage.{released_front, unreleased_front}
use Rattle.mk_core.proofs.{Sizes.words_are_small, StandingAllocations.placed_cell}
use Rattle.mk_laws.proofs.Basics.{claim_among, ends_on_pages}
use Rattle.mk_laws.proofs.{Claims.first_apart, Claims.rest_apart, Released.stands_there, Unmapping.shares_run}

-- a scene in which nothing is on its way: no place, no run, no released cell
abbrev pub quiet_scene : Config → Words → List PlacedAllocation → LayoutScene
quiet_scene c w xs = record {
  pages = w.pages;
  claims = claims_of c None xs;
  plot = NoPlot;
  releasing = false;
  snapshot = w.snapshot;
  marks = w.marks;
}

pub record Rests (c : Config) (w : Words) (xs : List PlacedAllocation) : Type 0 where
  pub limits : IsWithinLimits c
  pub lengths : length w.pages ≡ c.pages
  pub laid : IsLaidOn (quiet_scene c w xs)
  pub cells : (i : ℕ) → (placed_at xs i).released ≡ false → IsAtCell c (placed_at xs i)

-- what is known of an unreleased allocation
pub record Lies (c : Config) (w : Words) (xs : List PlacedAllocation) (a : PlacedAllocation) : Type 0 where
  pub among : Among (claim_of c None a) (claims_of c None xs)
  pub shown : IsShown w.pages (claim_of c None a)
  pub stands : StandsOnHeap c a
  pub begins : BeginsAtCell (object_placed c a) a.base
  pub part : ShowsPart (object_placed c a) 0 (header_in w (a.base / 64))

pub lies : {c : Config} {w : Words} {xs : List PlacedAllocation} → Rests c w xs → (i : ℕ)
    → (placed_at xs i).released ≡ false → Lies c w xs (placed_at xs i)
lies {c} {w} {xs} r i u =
    let a : PlacedAllocation = placed_at xs i in
    let shown : IsShown w.pages (claim_of c None a) = r.laid.shown (claim_of c None a) (claim_among c None xs i u) in
    let s = stands_there None w r.lengths shown u (r.cells i u) in
    grind (arith, claim_among, first_page_shows)

-- the pages of its storage
pub on_its_pages : (c : Config) (a : PlacedAllocation) (p : ℕ) → IsSized (object_placed c a)
    → BeginsAtCell (object_placed c a) a.base → stands_on p (storage_of c a) ≡ true
    → (a.base / 64 ≤ p) × (p < a.base / 64 + pages_made (object_placed c a))
on_its_pages c a p sized b h =
    let parts = stands_parts p (storage_of c a) h in
    let low : a.base / 64 ≤ p = parts.0 in
    let high = ends_on_pages (object_placed c a) a.base sized b in
    let some : 1 ≤ storage_words c a = (words_within (object_placed c a) sized).0 in
    (low, omega arith)

-- Two small objects whose first pages show one header are of one class and sort.
same_block_by : {o u : Object} {x y : Option Header} → x ≡ y → ShowsPart o 0 x → ShowsPart u 0 y
    → is_small_object o ≡ true → is_small_object u ≡ true → (class_made o ≡ class_made u) × (o.leaf ≡ u.leaf)
same_block_by e (OfBlock f s l) (OfBlock g t m) so su = grind arith
same_block_by {o} {u} e (OfLeafBlock f s l) (OfLeafBlock g t m) so su =
    (let k : class_made o ≡ class_made u = cc in k, l ∙ sym m)
same_block_by e (OfBlock f s l) (OfLeafBlock g t m) so su = absurd (true≢false (let k : true ≡ false = cc in k))
same_block_by e (OfLeafBlock f s l) (OfBlock g t m) so su = absurd (true≢false (let k : true ≡ false = cc in k))
same_block_by e (OfRun d f l k) any so su = absurd (true≢false (sym so ∙ l))
same_block_by e (OfLeafRun f l k) any so su = absurd (true≢false (sym so ∙ l))
same_block_by e (OfLater d f l) any so su = absurd (true≢false (sym so ∙ l))
same_block_by e any (OfRun d f l k) so su = absurd (true≢false (sym su ∙ l))
same_block_by e any (OfLeafRun f l k) so su = absurd (true≢false (sym su ∙ l))
same_block_by e any (OfLater d f l) so su = absurd (true≢false (sym su ∙ l))

pub same_block : {c : Config} {w : Words} {xs : List PlacedAllocation} {a b : PlacedAllocation} → Lies c w xs a
    → Lies c w xs b → is_small_object (object_placed c a) ≡ true → is_small_object (object_placed c b) ≡ true
    → a.base / 64 ≡ b.base / 64 → (class_made (object_placed c a) ≡ class_made (object_placed c b))
    × ((object_placed c a).leaf ≡ (object_placed c b).leaf)
same_block x y small_a small_b page = same_block_by (rw page) x.part y.part small_a small_b

-- The cell's index is that at which the object begins.
pub index_is : (c : Config) (a : PlacedAllocation) → IsSized (object_placed c a)
    → (b : BeginsAtCell (object_placed c a) a.base) → (cell_of_allocation c a).index ≡ b.index
index_is c a sized b = ap (λ (x : Cell). x.index) (placed_cell c a sized b)

pub small_is : (c : Config) (a : PlacedAllocation) → IsSized (object_placed c a)
    → is_small (storage_of c a) ≡ is_small_object (object_placed c a)
small_is c a sized = words_are_small (object_placed c a) sized

-- two of them lie apart
module _ {c : Config} {w : Words} {xs : List PlacedAllocation} {a b : PlacedAllocation}
    (laid : IsLaidOn (quiet_scene c w xs)) (x : Lies c w xs a) (y : Lies c w xs b)
    (other : IsOfOneCell (claim_of c None a) (claim_of c None b) → ⊥) where
  -- if they share no page
  far : ((d e : ℕ) → d < pages_made (object_placed c a) → e < pages_made (object_placed c b)
      → a.base / 64 + d ≢ b.base / 64 + e) → LieApart (storage_of c a) (storage_of c b)
  far none =
      let pa = pages_some (object_placed c a) x.shown.sized in
      let pb = pages_some (object_placed c b) y.shown.sized in
      let ha = ends_on_pages (object_placed c a) a.base x.shown.sized x.begins in
      let hb = ends_on_pages (object_placed c b) b.base y.shown.sized y.begins in
      record {
        apart = elim (cases_lt (b.base / 64) (a.base / 64 + pages_made (object_placed c a))) [
          | inr ge ↦ inl (omega arith)
          | inl lt ↦ elim (cases_lt (a.base / 64) (b.base / 64 + pages_made (object_placed c b))) [
            | inr ge ↦ inr (omega arith)
            | inl lt2 ↦ absurd (elim (cases_lt (a.base / 64) (b.base / 64)) [
              | inl less ↦ none (b.base / 64 - a.base / 64) 0 (omega arith) (omega arith) (omega arith)
              | inr more ↦ none 0 (a.base / 64 - b.base / 64) (omega arith) (omega arith) (omega arith)
            ])
          ]
        ];
        alike = λ p ha2 hb2.
            let ra = on_its_pages c a p x.shown.sized x.begins ha2 in
            let rb = on_its_pages c b p y.shown.sized y.begins hb2 in
            let a1 = ra.1 in
            let b0 = rb.0 in
            let b1 = rb.1 in
            absurd (none (p - a.base / 64) (p - b.base / 64) (omega arith) (omega arith) (omega arith));
      }

  -- two cells of one page
  near : is_small_object (object_placed c a) ≡ true → is_small_object (object_placed c b) ≡ true
      → a.base / 64 ≡ b.base / 64 → LieApart (storage_of c a) (storage_of c b)
  near small_a small_b page =
      let same = same_block x y small_a small_b page in
      let k : ℕ = class_words_of (class_made (object_placed c b)) in
      let wa : storage_words c a ≡ k = small_words (object_placed c a) small_a ∙ rw same.0 in
      let wb : storage_words c b ≡ k = small_words (object_placed c b) small_b in
      let first_a : a.base % 64 ≡ x.begins.index * k = x.begins.first ∙ rw wa in
      let first_b : b.base % 64 ≡ y.begins.index * k = y.begins.first ∙ rw wb in
      record {
        apart = elim (cases_order x.begins.index y.begins.index) [
          | inl e ↦ absurd (other (
            page,
            index_is c a x.shown.sized x.begins ∙ e ∙ sym (index_is c b y.shown.sized y.begins),
          ))
          | inr (inl lt) ↦ let m = mul-le (suc x.begins.index) k y.begins.index k lt (le_refl k) in inl (omega arith)
          | inr (inr gt) ↦ let m = mul-le (suc y.begins.index) k x.begins.index k gt (le_refl k) in inr (omega arith)
        ];
        alike = λ p ha hb. (
          small_is c a x.shown.sized ∙ small_a,
          small_is c b y.shown.sized ∙ small_b,
          wa ∙ sym wb,
          same.1,
        );
      }

  by : (s t : Bool) → is_small_object (object_placed c a) ≡ s → is_small_object (object_placed c b) ≡ t
      → LieApart (storage_of c a) (storage_of c b)
  by false t l m = far (λ d e ld le at.
      let same = shares_run _ _ d e laid x.among y.among l ld le (sym at) in
      other (ap (λ (z : Claim). z.page) (sym same), ap (λ (z : Claim). z.index) (sym same)))
  by true false l m = far (λ d e ld le at.
      let same = shares_run _ _ e d laid y.among x.among m le ld at in
      other (ap (λ (z : Claim). z.page) same, ap (λ (z : Claim). z.index) same))
  by true true l m = elim (cases_eq (a.base / 64) (b.base / 64)) [
    | inl page ↦ near l m page
    | inr ne ↦ far (λ d e ld le at.
        let one = small_pages (object_placed c a) l in let two = small_pages (object_placed c b) m in ne (omega arith))
  ]

  pub lie_apart : LieApart (storage_of c a) (storage_of c b)
  lie_apart = by _ _ refl refl

-- the storages of the list, in pairs
abbrev LieInPairs : List Storage → Type 0
LieInPairs ss = (i j : ℕ) (d : Storage) → i < length ss → j < length ss → i ≢ j
    → LieApart (get_or ss i d) (get_or ss j d)

pub lie_in_pairs : (c : Config) (xs : List PlacedAllocation) → AreApart (claims_of c None xs)
    → ((i j : ℕ) → (placed_at xs i).released ≡ false → (placed_at xs j).released ≡ false
    → (IsOfOneCell (claim_of c None (placed_at xs i)) (claim_of c None (placed_at xs j)) → ⊥)
    → LieApart (storage_of c (placed_at xs i)) (storage_of c (placed_at xs j))) → LieInPairs (unreleased_storage c xs)
unfolding unreleased_storage
lie_in_pairs c [] apart lie = λ i j d li lj ne. absurd (omega arith)
lie_in_pairs c (x ∷ xs) apart lie =
    let rest = lie_in_pairs c xs (rest_apart c None x xs apart) (λ i j. lie (suc i) (suc j)) in
    elim (cases_Bool x.released) [
      | inl gone ↦ rw (released_front c x xs gone) rest
      | inr u ↦ rw (unreleased_front c x xs u) (λ x3 x4 d li lj ne. grind (arith, beside))
    ]
  where
    beside : x.released ≡ false → (j : ℕ) (d : Storage) → j < length (unreleased_storage c xs)
        → LieApart (storage_of c x) (get_or (unreleased_storage c xs) j d)
    beside u j d lj =
        let h = storage_is_of c xs (get_or _ j d) (Contains-get_or (unreleased_storage c xs) j d lj) in
        rw h.storage (lie 0 (suc h.number) u h.unreleased (first_apart c None x xs u apart h.number h.unreleased))
