-- What an event may do to headers while a call of another seat is in flight outside the turn: it unmaps no page.
use Rattle.mk_laws.proofs.Vocabulary.{Caller, Config, List, Moment, Page, Seat, Step, Words, ℕ, all_below-at, ap, arith}
use Rattle.mk_laws.proofs.Vocabulary.{cases_eq, cases_lt, eqb-true, false, free_page, get_or-set_other, get_or-set_same}
use Rattle.mk_laws.proofs.Vocabulary.{header_at, header_in, header_of, inl, inr, is_held, is_number_of}
use Rattle.mk_laws.proofs.Vocabulary.{is_unmapped_header, length, not, not-true, or_cases, others_are_held, set_by}
use Rattle.mk_laws.proofs.Vocabulary.{set_past, slice_index, slice_index_or, slice_set, true, used_at, ◌<◌, ◌||◌, ◌∙◌}
use Rattle.mk_laws.proofs.{Vocabulary.{◌≡◌, ◌≢◌}, Basics.{Behind, Meets}}
use Rattle.mk_core.proofs.RegisterAccesses.{register_leaves, tally_leaves}

-- what becomes of the pages
pub data HeaderStep (w : Words) : List Page → Type 0 where
  KeepsPages : HeaderStep w w.pages
  SetsUsed : (p n : ℕ) → HeaderStep w (slice_set w.pages p (record { header = header_at w p; used = n }))
  SetsHeader : (p v : ℕ) → is_unmapped_header (header_of v) ≡ false
      → HeaderStep w (slice_set w.pages p (record { header = v; used = used_at w p }))

-- One of the other gates isn't held, so no page is unmapped.
not_unmapped : (c : Config) (w : Words) (seat : Seat) (k v : ℕ) → k < c.callers → seat ≢ Caller k
    → slice_index w.gates k ≡ 1 → (not (is_unmapped_header (header_of v)) || others_are_held c.callers w seat) ≡ true
    → is_unmapped_header (header_of v) ≡ false
not_unmapped c w seat k v lt ne one h = elim (or_cases _ _ h) [
  | inl is ↦ not-true _ is
  | inr all ↦ elim (or_cases _ (is_held w k)
      (all_below-at c.callers k (λ j. is_number_of seat j || is_held w j) all lt)) [
        | inl own ↦ absurd (ne (seat_is seat k own))
        | inr two ↦ let g = eqb-true _ 2 two in absurd (omega arith)
      ]
]
  where
    seat_is : (seat : Seat) (k : ℕ) → is_number_of seat k ≡ true → seat ≡ Caller k
    seat_is (Caller j) k h = ap Caller (eqb-true j k h)
    seat_is _ k h = cc

pub header_step : (c : Config) (m : Moment) (seat : Seat) (x : Step) (k : ℕ) → Meets c m seat x → k < c.callers
    → seat ≢ Caller k → slice_index m.words.gates k ≡ 1 → HeaderStep m.words (Behind c m seat x).words.pages
header_step c m seat (Step.Head p v) k h lt ne one = SetsHeader p v (not_unmapped c m.words seat k v lt ne one h.gates)
header_step c m seat x4 k h lt ne one = grind (arith, tally_leaves, register_leaves, SetsUsed, KeepsPages)

-- a page's header after a change of one page
pub page_set : (ps : List Page) (p q : ℕ) (x : Page) → (P : ℕ → Type 0) → (p < length ps → P x.header)
    → P (slice_index_or ps q free_page).header → P (slice_index_or (slice_set ps p x) q free_page).header
page_set ps p q x P mine other = elim (cases_eq q p) [
  | inl e ↦ elim (cases_lt p (length ps)) [
    | inl lt ↦ rw (ap (λ j. slice_index_or (slice_set ps p x) j free_page) e
        ∙ get_or-set_same ps p x free_page lt) (mine lt)
    | inr le ↦ rw (set_past ps p x le) other
  ]
  | inr ne ↦ rw (get_or-set_other ps p q x free_page ne) other
]

-- a header stays if only the used word changes
pub used_set : (w : Words) (p q n : ℕ) → (P : ℕ → Type 0) → P (header_at w q)
    → P (slice_index_or (slice_set w.pages p (record { header = header_at w p; used = n })) q free_page).header
used_set w p q n P is = set_by (λ (y : Page). P y.header) w.pages p q (record { header = header_at w p; used = n })
    free_page (λ e. rw e at is) is

pub stays_mapped : {w : Words} {ps : List Page} (q : ℕ) → HeaderStep w ps → is_unmapped_header (header_in w q) ≡ false
    → is_unmapped_header (header_of (slice_index_or ps q free_page).header) ≡ false
stays_mapped q KeepsPages h = h
stays_mapped {w} q (SetsUsed p n) h = used_set w p q n (λ y. is_unmapped_header (header_of y) ≡ false) h
stays_mapped {w} q (SetsHeader p v is) h =
    page_set w.pages p q (record { header = v; used = used_at w p }) (λ y. is_unmapped_header (header_of y) ≡ false)
    (λ lt. is) h
