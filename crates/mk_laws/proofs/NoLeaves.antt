-- Pages on which no leaf begins, and that they stay so while they show cells.
use Rattle.mk_laws.proofs.Vocabulary.{Config, Header, HeadStep, IsMarking, ItCarves, ItEmpties, ItUnmaps, NeverState}
use Rattle.mk_laws.proofs.Vocabulary.{Object, Option, Page, PlacedAllocation, Seat, Step, World, ℕ, ap, arith}
use Rattle.mk_laws.proofs.Vocabulary.{cells_under, eqb-true, false, first_page_shows, flight_of, free_page}
use Rattle.mk_laws.proofs.Vocabulary.{has_no_pointers, head_step, header_at, header_in, header_made, header_of, inl}
use Rattle.mk_laws.proofs.Vocabulary.{inr, is_leaf_header, is_mapped, is_unmapped_header, large_count, length}
use Rattle.mk_laws.proofs.Vocabulary.{made_is_mapped, object_made, object_placed, or_parts, pages_some}
use Rattle.mk_laws.proofs.Vocabulary.{part_has_no_pointers, placed_at, refl, set_by, shown, storage_of, subst, sym}
use Rattle.mk_laws.proofs.Vocabulary.{true, unmapped_is_unmapped, ◌+◌, ◌-◌, ◌/◌, ◌∙◌, ◌≡◌, ◌≢◌}
use Rattle.mk_core.proofs.ChangedAllocations.{granted_at}
use Rattle.mk_laws.proofs.Basics.{Came, IsNew, Meets, Stayed, WorldBehind, headers_kind, is_head}
use Rattle.mk_laws.proofs.Precise.{HasNoLeaf, Steps, came_behind, precision_scene_of, same_leaf}
use Rattle.mk_laws.proofs.{InvariantHistories.told_to_guard, Worlds.Told, Worlds.headers, Worlds.not_leaf, Worlds.sized}

-- What a header that is scanned shows.
pub scanned_has_none : {c : Config} {w : World} {n : NeverState} (p : ℕ) → Told c w n
    → has_no_pointers (header_in w.now.words p) ≡ false → HasNoLeaf c (precision_scene_of w) p
scanned_has_none {c} {w} {n} p t scanned = record {
  header = (or_parts _ _ scanned).0;
  allocations = λ a u at. not_leaf c w n t a u (ap (λ q. has_no_pointers (header_in w.now.words q)) at ∙ scanned);
}

-- A mapped allocation whose page shows no leaf isn't one.
mapped_not_leaf : {c : Config} {w : World} {n : NeverState} (i : ℕ) → Told c w n
    → (placed_at w.allocations i).released ≡ false → is_mapped c (placed_at w.allocations i) ≡ true
    → is_leaf_header (header_in w.now.words ((placed_at w.allocations i).base / 64)) ≡ false
    → (storage_of c (placed_at w.allocations i)).leaf ≡ false
mapped_not_leaf {c} {w} {n} i t u mapped shown =
    let a : PlacedAllocation = placed_at w.allocations i in
    let o : Object = object_placed c a in
    let size = sized c w n t i u in
    let some = pages_some o size in
    let here : a.base / 64 + 0 ≡ a.base / 64 = omega arith in
    let made : header_at w.now.words (a.base / 64) ≡ header_made o 0 =
    rw (← here) (((told_to_guard c w n t.known t.all).mapped i mapped).headers 0 some) in
    let x : Option Header = header_in w.now.words (a.base / 64) in
    let on : is_unmapped_header x ≡ false = rw made (made_is_mapped o 0 size some) in
    let part = first_page_shows c w.now.words a size (headers c w n t i u) in
    (or_parts o.leaf _ (sym (part_has_no_pointers o x part) ∙ rw shown on)).0

-- Pages that show cells keep it that no leaf is there.

unmapped_no_leaf : (x : Option Header) → is_unmapped_header x ≡ true → is_leaf_header x ≡ false
unmapped_no_leaf x h = grind arith

-- a header that a `head` stores while the cycle marks
stored_no_leaf : {c : Config} {w : World} {n : NeverState} (seat : Seat) (p v : ℕ) → Told c w n
    → IsMarking w.now.words → Meets c w.now seat (Step.Head p v)
    → cells_under (header_in w.now.words p) ≢ 0 → is_leaf_header (header_of v) ≡ false
stored_no_leaf {c} {w} {n} seat p v t early h cells = by (head_step c w.now _ p v h.holder)
  where
    o : Object
    o = object_made c (flight_of w.now seat).op

    by : HeadStep c w.now (flight_of w.now seat) p v → is_leaf_header (header_of v) ≡ false
    by (ItCarves four k) =
        let here : k.place.page + (p - k.place.page) ≡ p = omega arith in
        let place = (told_to_guard c w n t.known t.all).place early seat k.place k.there in
        elim (place.headers _ k.next.near) [
          | inl free ↦
              absurd (cells (ap (λ y. cells_under (header_of y)) (ap (λ q. header_at w.now.words q) (sym here) ∙ free)))
          | inr made ↦ absurd (k.next.not_yet (ap (λ q. header_at w.now.words q) (sym here) ∙ made))
        ]
    by (ItUnmaps four u) =
        let r = (told_to_guard c w n t.known t.all).freed early u.run u.there in
        grind (arith, large_count, unmapped_no_leaf, unmapped_is_unmapped)
    by (ItEmpties four k) =
        let z = eqb-true _ 4 four in
        elim early [ inl e ↦ absurd (omega arith) | inr e ↦ absurd (omega arith) ]

module _ {c : Config} {w : World} {n : NeverState} {seat : Seat} {x : Step} {after : NeverState} {T : ℕ → Type 0}
    (s : Steps c w n seat x after T) where
  header_behind : (p : ℕ) → cells_under (header_in w.now.words p) ≢ 0 → is_leaf_header (header_in w.now.words p) ≡ false
      → is_leaf_header (header_in (WorldBehind c w seat x).now.words p) ≡ false
  header_behind p cells none = by x refl s.meets
    where
      by : (y : Step) → x ≡ y → Meets c w.now seat y
          → is_leaf_header (header_in (WorldBehind c w seat y).now.words p) ≡ false
      by (Step.Head q v) is h =
          set_by (λ (y : Page). is_leaf_header (header_of y.header) ≡ false) w.now.words.pages q p _ free_page
          (λ e. stored_no_leaf seat q v s.before s.early h
          (subst (λ i. cells_under (header_in w.now.words i) ≢ 0) e cells)) none
      by y is h = rest y refl
        where
          rest : (y : Step) → is_head y ≡ false
              → is_leaf_header (header_in (WorldBehind c w seat y).now.words p) ≡ false
          rest y out = ap (λ z. is_leaf_header (header_of z)) (headers_kind c w.now seat y out p) ∙ none

  pub no_leaf_behind : {p : ℕ} → cells_under (header_in w.now.words p) ≢ 0 → HasNoLeaf c (precision_scene_of w) p
      → HasNoLeaf c (precision_scene_of (WorldBehind c w seat x)) p
  no_leaf_behind {p} cells none = record {
    header = header_behind p cells none.header;
    allocations = λ a u at. by a u at (came_behind c w seat x a u);
  }
    where
      v : World
      v = WorldBehind c w seat x

      by : (a : ℕ) → (placed_at v.allocations a).released ≡ false → (placed_at v.allocations a).base / 64 ≡ p
          → Came w.allocations v.allocations x a → (storage_of c (placed_at v.allocations a)).leaf ≡ false
      by a u at (Stayed was same) = same_leaf c same ∙ none.allocations a was (rw (← same.base) at)
      by a u at (IsNew grant is) = mapped_not_leaf a s.behind u (new_is_mapped a grant is)
          (ap (λ q. is_leaf_header (header_in v.now.words q)) at ∙ header_behind p cells none.header)
        where
          new_is_mapped : (a : ℕ) → x ≡ Step.Grant → a ≡ length w.allocations
              → is_mapped c (placed_at v.allocations a) ≡ true
          new_is_mapped a grant is = rw is (rw grant (rw (granted_at w.allocations _)))
