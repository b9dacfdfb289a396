-- A run that is unmapped and wiped stays so, up to the `give` of its call.
use Rattle.mk_laws.proofs.Vocabulary.{Bool, Config, HeadStep, IsNextHeader, IsWordOfMapped, ItCarves, ItEmpties}
use Rattle.mk_laws.proofs.Vocabulary.{ItUnmaps, LayoutStands, Option, Page, PlacedAllocation, RunPages, Seat, Some}
use Rattle.mk_laws.proofs.Vocabulary.{Step, Words, World, ℕ, all_below-at, and_parts, ap, arith, eq-eqb, eqb-true}
use Rattle.mk_laws.proofs.Vocabulary.{false, flight_of, free_page, get_or-set_other, ground_of, head_page, head_step}
use Rattle.mk_laws.proofs.Vocabulary.{header_at, header_of, is_heap_store, is_run_gone, is_run_unmapped}
use Rattle.mk_laws.proofs.Vocabulary.{is_unmapped_header, large_count, made_is_mapped, object_now, object_placed}
use Rattle.mk_laws.proofs.Vocabulary.{pages_made, placed_at, placed_now, refl, set_by, slice_index, subst, sym}
use Rattle.mk_laws.proofs.Vocabulary.{true, true≢false, typed_size, undecided_new, unmapped_header}
use Rattle.mk_laws.proofs.Vocabulary.{unmapped_is_unmapped, used_at, word_met, words_are_zero, ◌*◌, ◌+◌, ◌-◌, ◌/◌, ◌<◌}
use Rattle.mk_laws.proofs.Vocabulary.{◌∙◌, ◌≡◌, ◌≢◌}
use Rattle.mk_laws.proofs.Basics.{Behind, KnownWorld, Meets, Table, WorldBehind, ends_on_pages, headers_kind, is_head}
use Rattle.mk_laws.proofs.Basics.{mapped_stays, new_has_turn, no_run, own_claim, reg_table, tally_table}
use Rattle.mk_laws.proofs.{ForImages.laid_out, ForImages.run_of, LayoutReadings.claimed_used, Tests.all_below_from}

gone_from : (v : Words) (r : RunPages) → ((d : ℕ) → d < r.count → header_at v (r.page + d) ≡ unmapped_header r.count d)
    → ((i : ℕ) → i < 64 * r.count → slice_index v.heap (64 * r.page + i) ≡ 0) → is_run_gone v (Some r) ≡ true
gone_from v r headers words = grind (arith, all_below_from, eq-eqb)

abbrev pub is_wipe : Step → Bool
is_wipe (Step.Wipe n) = true
is_wipe _ = false

-- Only the holder changes a word of no mapped allocation.
pub heap_after : (c : Config) (w : World) (seat : Seat) (x : Step) → (is_wipe x ≡ false)
    → (is_heap_store x ≡ true → IsWordOfMapped c w.allocations (word_met (flight_of w.now seat)))
    → (n : ℕ) → (IsWordOfMapped c w.allocations n → ⊥)
    → slice_index (WorldBehind c w seat x).now.words.heap n ≡ slice_index w.now.words.heap n
heap_after c w seat Step.Reg no_wipe stored n none = ap (λ (t : Table). slice_index t.heap n) (reg_table c w.now seat)
heap_after c w seat (Step.Tally t v) no_wipe stored n none =
    ap (λ (t : Table). slice_index t.heap n) (tally_table w.now.words t v)
heap_after c w seat Step.Write no_wipe stored n none = get_or-set_other _ _ n _ 0 (λ e. none (rw e (stored refl)))
heap_after c w seat Step.Cas no_wipe stored n none = get_or-set_other _ _ n _ 0 (λ e. none (rw e (stored refl)))
heap_after c w seat _ no_wipe stored n none = cc

module _ (c : Config) (w : World) (known : KnownWorld c w) (laid : LayoutStands c w) (r : RunPages)
    (is : w.now.seats.holding.freed ≡ Some r) (gone : is_run_gone w.now.words w.now.seats.holding.freed ≡ true) where
  gone_parts : (is_run_unmapped w.now.words r ≡ true) × (words_are_zero w.now.words (64 * r.page) (64 * r.count) ≡ true)
  gone_parts = and_parts _ _ (ap (λ (x : Option RunPages). is_run_gone w.now.words x) (sym is) ∙ gone)

  headers_gone : (d : ℕ) → d < r.count → header_at w.now.words (r.page + d) ≡ unmapped_header r.count d
  headers_gone d lt = eqb-true _ _ (all_below-at r.count d _ gone_parts.0 lt)

  words_gone : (i : ℕ) → i < 64 * r.count → slice_index w.now.words.heap (64 * r.page + i) ≡ 0
  words_gone i lt = eqb-true _ _ (all_below-at (64 * r.count) i _ gone_parts.1 lt)

  -- No page of it gets another header.
  head_elsewhere : (seat : Seat) (p n : ℕ) → Meets c w.now seat (Step.Head p n) → (d : ℕ) → d < r.count → r.page + d ≢ p
  head_elsewhere seat p n h d lt at = by (head_step c w.now (flight_of w.now seat) p n h.holder)
    where
      by : HeadStep c w.now (flight_of w.now seat) p n → ⊥
      by (ItCarves off x) =
          let new = (placed_now c w.now (flight_of w.now seat) x.place x.there).new in
          no_run c w.now seat known.now (new_has_turn c w.now seat h.seat new)
          (undecided_new (flight_of w.now seat) new).stage r is
      by (ItUnmaps off x) =
          let both : Some x.run ≡ Some r = sym x.there ∙ is in
          let same : x.run ≡ r = cc in
          let next : IsNextHeader w.now.words r.page r.count (unmapped_header r.count) p n =
          subst (λ (y : RunPages). IsNextHeader w.now.words y.page y.count (unmapped_header y.count) p n) same x.next in
          let distance : p - r.page ≡ d = omega arith in
          next.not_yet (ap (λ q. header_at w.now.words q) (sym at) ∙ headers_gone d lt
          ∙ ap (λ e. unmapped_header r.count e) (sym distance))
      by (ItEmpties on x) =
          let y = run_of c w known laid r is in
          let shown = laid.scene.shown y.claim (own_claim c (object_now c w.now) (ground_of w) y.claim y.among) in
          let page = y.page in
          let count = y.count in
          let here : y.claim.page + d ≡ p = omega arith in
          claimed_used d shown (omega arith)
          (subst (λ q. used_at w.now.words (head_page w.now.words q) ≡ 0) (sym here) x.unused)

  -- No word of it is one of a mapped allocation.
  not_mapped : (i : ℕ) → i < 64 * r.count → IsWordOfMapped c w.allocations (64 * r.page + i) → ⊥
  not_mapped i lt m =
      let a : PlacedAllocation = placed_at w.allocations m.number in
      let l = laid_out c w known laid m.number (mapped_stays c a m.mapped) in
      let sized = typed_size c a known.limits l.stands.typed in
      let end = ends_on_pages _ a.base sized l.stands.begins in
      let to = m.word.1 in
      let d : ℕ = r.page + i / 64 - a.base / 64 in
      let near : d < pages_made (object_placed c a) = omega arith in
      let there : a.base / 64 + d ≡ r.page + i / 64 = omega arith in
      let y = run_of c w known laid r is in
      let shown = laid.scene.shown y.claim (own_claim c _ (ground_of w) y.claim y.among) in
      let range = large_count y.claim.object shown.sized y.large in
      let low = range.0 in
      let high = range.1 in
      let count = y.count in
      let some : i / 64 < r.count = omega arith in
      true≢false (sym (unmapped_is_unmapped r.count (i / 64) (omega arith, omega arith) some)
      ∙ ap (λ h. is_unmapped_header (header_of h)) (sym (headers_gone (i / 64) some)
      ∙ ap (λ q. header_at w.now.words q) (sym there) ∙ l.mapped m.mapped d near) ∙ made_is_mapped _ d sized near)

  headers_behind : (seat : Seat) (x : Step) → Meets c w.now seat x → (d : ℕ) → d < r.count
      → header_at (Behind c w.now seat x).words (r.page + d) ≡ unmapped_header r.count d
  headers_behind seat (Step.Head p n) h d lt = ap (λ (y : Page). y.header)
      (get_or-set_other w.now.words.pages p (r.page + d) (record { header = n; used = used_at w.now.words p })
      free_page (head_elsewhere seat p n h d lt)) ∙ headers_gone d lt
  headers_behind seat x h d lt = rest x refl
    where
      rest : (x : Step) → is_head x ≡ false
          → header_at (Behind c w.now seat x).words (r.page + d) ≡ unmapped_header r.count d
      rest x other = headers_kind c w.now seat x other (r.page + d) ∙ headers_gone d lt

  words_behind : (seat : Seat) (x : Step) → Meets c w.now seat x
      → (is_heap_store x ≡ true → IsWordOfMapped c w.allocations (word_met (flight_of w.now seat)))
      → (i : ℕ) → i < 64 * r.count → slice_index (Behind c w.now seat x).words.heap (64 * r.page + i) ≡ 0
  words_behind seat (Step.Wipe n) h stored i lt =
      set_by (λ y. y ≡ 0) w.now.words.heap n _ 0 0 (λ e. refl) (words_gone i lt)
  words_behind seat x h stored i lt =
      heap_after c w seat x refl stored (64 * r.page + i) (not_mapped i lt) ∙ words_gone i lt

  pub gone_behind : (seat : Seat) (x : Step) → Meets c w.now seat x
      → (is_heap_store x ≡ true → IsWordOfMapped c w.allocations (word_met (flight_of w.now seat)))
      → is_run_gone (Behind c w.now seat x).words (Some r) ≡ true
  gone_behind seat x h stored = gone_from (Behind c w.now seat x).words r (headers_behind seat x h)
      (words_behind seat x h stored)
