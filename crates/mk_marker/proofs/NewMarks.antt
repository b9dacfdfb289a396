-- The marks that an event adds are of cells, or of those that a New is to carve.
use Rattle.std.proofs.lemmas.Nat.Bits.{bit_at_ones_above}
use Rattle.mk_words.proofs.Below.Laws.Vocabulary.{Among, AsChosen, AsUsed, Bool, ByFit, Caller, Cell, Chosen, Config}
use Rattle.mk_words.proofs.Below.Laws.Vocabulary.{Granted, Hand, HeaderGoesOn, Host, IsMarking, IsPlaced}
use Rattle.mk_words.proofs.Below.Laws.Vocabulary.{IsWithinLimits, LayoutStands, List, Marker, MarkerStands, Moment}
use Rattle.mk_words.proofs.Below.Laws.Vocabulary.{None, Object, Option, Place, Placing, Seat, SeenHeader, Some, Step}
use Rattle.mk_words.proofs.Below.Laws.Vocabulary.{Unplaced, Used, World, ℕ, and_parts, ap, arith, cases_Bool, cases_lt}
use Rattle.mk_words.proofs.Below.Laws.Vocabulary.{cell_at, cell_seen, cells_made, cells_of, cells_under, chosen}
use Rattle.mk_words.proofs.Below.Laws.Vocabulary.{claims_placed, class_made, eqb-true, false, flight_of, ground_of}
use Rattle.mk_words.proofs.Below.Laws.Vocabulary.{has_bit, has_place, header_at, header_in, header_made, if◌then◌else◌}
use Rattle.mk_words.proofs.Below.Laws.Vocabulary.{inl, inr, is_attending, is_phase, is_small_object, is_some, marker_at}
use Rattle.mk_words.proofs.Below.Laws.Vocabulary.{marker_of, marks_is, marks_place, object_made, object_now, or_cases}
use Rattle.mk_words.proofs.Below.Laws.Vocabulary.{page_at_address, pages_some, place_claim, place_now, placed_now}
use Rattle.mk_words.proofs.Below.Laws.Vocabulary.{pointed_cell, refl, seen_bit, seen_page, slice_index, subst, sym}
use Rattle.mk_words.proofs.Below.Laws.Vocabulary.{true, true≢false, ◌+◌, ◌-◌, ◌<◌, ◌==◌, ◌^◌, ◌∙◌, ◌≡◌, ◌⊎◌}
use Rattle.mk_words.proofs.Below.Laws.Changes.{reg_table, tally_table}
use Rattle.mk_words.proofs.Below.Laws.LayoutHolders.{first_header, holding_object, new_has_turn}
use Rattle.mk_words.proofs.Below.Laws.{Actors.Meets, Behind.object_kind, Known.Known}
use Rattle.mk_words.proofs.Below.Laws.{OthersMoves.WorldBehind, Serving.placed_claim}
use Rattle.mk_words.proofs.Below.Laws.PointedCells.{found_is_cell, pointed_is_cell}
use Rattle.mk_marker.proofs.MarkBits.{IsCell}
use Rattle.mk_core.proofs.{WordBits.{bit_is_one, bit_of_cell, bit_of_power, more_bits}, PlacesNow.PlacedNow}
use Rattle.mk_core.proofs.ServingSteps.{MarksPlace}
use Rattle.mk_core.specs.{NewPlaces.bits_made, MarkingConditions.{is_bit_of, marks_by_hand}}

-- no other kind changes the marks while a cycle marks
abbrev pub is_marking_step : Step → Bool
is_marking_step (Step.Mark p n) = true
is_marking_step Step.Mmark = true
is_marking_step (Step.Clear p) = true
is_marking_step _ = false

marks_same : (c : Config) (w : World) (seat : Seat) (x : Step) → is_marking_step x ≡ false
    → (WorldBehind c w seat x).now.words.marks ≡ w.now.words.marks
marks_same c w seat x3 u = grind (arith, reg_table, tally_table)

-- the bits of a New's cells
bits_of_cells : (o : Object) (k : ℕ) → has_bit (bits_made o) k ≡ true → k < cells_made o
bits_of_cells o k is = by (is_small_object o) is
  where
    by : (b : Bool) → has_bit (if b then 2 ^ cells_of (class_made o) - 1 else 1) k ≡ true
        → k < (if b then cells_of (class_made o) else 1)
    by true is = grind (arith, cases_lt, bit_at_ones_above, bit_is_one)
    by false is = let e : k ≡ 0 = bit_of_power 0 k is in omega arith

-- the header that a marker has seen where it marks

seen_none : {c : Config} {m : Moment} (seat : Seat) → Known c m → is_attending (marker_at m seat).presence ≡ false
    → (marker_at m seat).seen ≡ None
seen_none (Marker k) known off = (known.orderly.idle k off).seen
seen_none (Caller k) known off = refl
seen_none Host known off = refl

marker_stands : (c : Config) (m : Moment) (seat : Seat)
    → ((j : ℕ) → is_attending (marker_of m j).presence ≡ true → MarkerStands c m (marker_of m j))
    → is_attending (marker_at m seat).presence ≡ true → MarkerStands c m (marker_at m seat)
marker_stands c m (Marker k) markers on = markers k on
marker_stands c m (Caller k) markers on = cc
marker_stands c m Host markers on = cc

seen_header_goes_on : {c : Config} {m : Moment} (seat : Seat) → Known c m
    → ((j : ℕ) → is_attending (marker_of m j).presence ≡ true → MarkerStands c m (marker_of m j))
    → is_some (cell_seen c (marker_at m seat).seen (marker_at m seat).hand) ≡ true
    → (s : SeenHeader) → (marker_at m seat).seen ≡ Some s → HeaderGoesOn c.pages s.header (header_at m.words s.page)
seen_header_goes_on {c} {m} seat known markers some s is =
    elim (cases_Bool (is_attending (marker_at m seat).presence)) [
      | inl on ↦ (marker_stands c m seat markers on).seen s is
      | inr off ↦
          let none = seen_none seat known off in
          absurd (true≢false (sym some ∙ ap (λ (y : Option SeenHeader). is_some
          (cell_seen c y (marker_at m seat).hand)) none))
    ]

module _ {c : Config} (w : World) (seat : Seat) (limits : IsWithinLimits c) (known : Known c w.now)
    (laid : LayoutStands c w) (on : is_phase w.now.words 4 ≡ false) where
  -- by a hand
  by_hand : (hand : Option Hand) (p n k : ℕ) → marks_by_hand c.pages w.now.words hand p n ≡ true → has_bit n k ≡ true
      → k < cells_under (header_in w.now.words p)
  by_hand None p n k h is = cc
  by_hand (Some hand) p n k h is = at (pointed_cell c.pages w.now.words.pages hand.value) refl h
    where
      at : (cell : Option Cell) → pointed_cell c.pages w.now.words.pages hand.value ≡ cell → is_bit_of cell p n ≡ true
          → k < cells_under (header_in w.now.words p)
      at None there h = cc
      at (Some cell) there h =
          let parts = and_parts (p == cell.page) (n == 2 ^ cell.index) h in
          let page : p ≡ cell.page = eqb-true p cell.page parts.0 in
          let value : n ≡ 2 ^ cell.index = eqb-true n (2 ^ cell.index) parts.1 in
          let same : k ≡ cell.index = bit_of_power cell.index k (subst (λ (i : ℕ). has_bit i k ≡ true) value is) in
          subst (λ (i : ℕ). i < cells_under (header_in w.now.words p)) (sym same) (subst (λ (q : ℕ). cell.index
          < cells_under (header_in w.now.words q)) (sym page) (pointed_is_cell c w laid on hand.value cell there))

  -- for the place of a New
  by_place : (p n k : ℕ) → Meets c w.now seat (Step.Mark p n) → marks_place w.now.words
      (object_made c (flight_of w.now seat).op) (place_now c w.now (flight_of w.now seat)) p n ≡ true
      → has_bit n k ≡ true → IsCell c (WorldBehind c w seat (Step.Mark p n)).now p k
  by_place p n k h may is = at w.now.seats.holding.placing refl now.placed
    where
      m : MarksPlace w.now.words (object_made c (flight_of w.now seat).op)
          (place_now c w.now (flight_of w.now seat)) p n
      m = marks_is w.now.words (object_made c (flight_of w.now seat).op)
          (place_now c w.now (flight_of w.now seat)) p n may

      now : PlacedNow c w.now (flight_of w.now seat) m.place
      now = placed_now c w.now (flight_of w.now seat) m.place m.there

      same : object_now c w.now ≡ object_made c (flight_of w.now seat).op
      same = holding_object c w.now seat known (new_has_turn c w.now seat h.seat now.new)

      cell : k < cells_made (object_now c w.now)
      cell = subst (λ (o : Object). k < cells_made o) (sym same) (bits_of_cells
          (object_made c (flight_of w.now seat).op) k (subst (λ (i : ℕ). has_bit i k ≡ true) m.marked.is is))

      behind : Placing → Option Place → Bool → Placing
      behind placing found b = if b then chosen placing found else placing

      placed : (placing : Placing) → w.now.seats.holding.placing ≡ placing → chosen placing (Some m.place)
          ≡ Chosen m.place → (WorldBehind c w seat (Step.Mark p n)).now.seats.holding.placing ≡ Chosen m.place
      placed placing e is =
          ap (λ (b : Bool). if b then chosen w.now.seats.holding.placing (place_now c w.now (flight_of w.now seat)) else
          w.now.seats.holding.placing) may ∙ ap (λ (y : Placing). chosen y (place_now c w.now (flight_of w.now seat))) e
          ∙ ap (λ (y : Option Place). chosen placing y) m.there ∙ is

      carved : (placing : Placing) → w.now.seats.holding.placing ≡ placing
          → chosen placing (Some m.place) ≡ Chosen m.place → IsCell c (WorldBehind c w seat (Step.Mark p n)).now p k
      carved placing e is =
          let there = placed placing e is in
          let kept = object_kind c w seat (Step.Mark p n) known h (ap (λ (y : Placing). has_place y) there) in
          inr (record {
            place = m.place;
            chosen = there;
            page = sym m.marked.at;
            cell = subst (λ (o : Object). k < cells_made o) (sym kept) cell;
          })

      used : w.now.seats.holding.placing ≡ Used m.place → ⊥
      used e =
          let o : Object = object_now c w.now in
          let there : Among (place_claim o m.place) (claims_placed o w.now.seats.holding.placing) =
          subst (λ (y : Placing). Among (place_claim o m.place) (claims_placed o y)) (sym e) (inl refl) in
          let shown = laid.scene.shown (place_claim o m.place)
          (placed_claim c o (ground_of w) (place_claim o m.place) there) in
          let some = pages_some o shown.sized in
          let header : header_at w.now.words (m.place.page + 0) ≡ header_made o 0 = shown.headers 0 (omega arith) in
          let first : m.place.page + 0 ≡ p = let at = m.marked.at in omega arith in
          first_header o shown.sized (sym (subst (λ (q : ℕ). header_at w.now.words q ≡ header_made o 0) first header)
          ∙ m.marked.free)

      at : (placing : Placing) → w.now.seats.holding.placing ≡ placing
          → IsPlaced c.resident w.now.words.pages (object_made c (flight_of w.now seat).op) m.place placing
          → IsCell c (WorldBehind c w seat (Step.Mark p n)).now p k
      at Unplaced e (ByFit fits) = carved Unplaced e refl
      at (Chosen y) e AsChosen = carved (Chosen m.place) e refl
      at (Used y) e AsUsed = absurd (used e)
      at Granted e x3 = elim x3 [ ]

  -- by a marker
  seen_is : (seen : Option SeenHeader) (hand : Option ℕ)
      → ((s : SeenHeader) → seen ≡ Some s → HeaderGoesOn c.pages s.header (header_at w.now.words s.page)) → (p k : ℕ)
      → is_some (cell_seen c seen hand) ≡ true → p ≡ seen_page (cell_seen c seen hand)
      → has_bit (seen_bit (cell_seen c seen hand)) k ≡ true → k < cells_under (header_in w.now.words p)
  seen_is None hand goes p k some page bit = cc
  seen_is (Some s) None goes p k some page bit = cc
  seen_is (Some s) (Some value) goes p k some page bit = by (s.page == page_at_address value) refl
      (cell_at c.pages s.header value) refl some page bit
    where
      by : (b : Bool) → (s.page == page_at_address value) ≡ b → (cell : Option Cell) → cell_at c.pages s.header value
          ≡ cell → is_some (if b then cell else None) ≡ true → p ≡ seen_page (if b then cell else None)
          → has_bit (seen_bit (if b then cell else None)) k ≡ true → k < cells_under (header_in w.now.words p)
      by false here cell is some page bit = cc
      by true here None is some page bit = cc
      by true here (Some cell) is some page bit =
          let now : cell_at c.pages (header_at w.now.words s.page) value ≡ Some cell =
          (goes s refl).cell value cell is in
          let there : cell_at c.pages (header_at w.now.words (page_at_address value)) value ≡ Some cell =
          subst (λ (q : ℕ). cell_at c.pages (header_at w.now.words q) value ≡ Some cell)
          (eqb-true s.page (page_at_address value) here) now in
          let same : k ≡ cell.index = bit_of_cell cell.index k bit in
          subst (λ (i : ℕ). i < cells_under (header_in w.now.words p)) (sym same) (subst (λ (q : ℕ). cell.index
          < cells_under (header_in w.now.words q)) (sym page) (found_is_cell c w laid on value cell there))

  -- The mark that a step adds.
  pub new_mark : (x : Step) (p k : ℕ) → Meets c w.now seat x → IsMarking w.now.words
      → ((j : ℕ) → is_attending (marker_of w.now j).presence ≡ true → MarkerStands c w.now (marker_of w.now j))
      → ((p : ℕ) → HeaderGoesOn c.pages (header_at w.now.words p) (header_at (WorldBehind c w seat x).now.words p))
      → has_bit (slice_index (WorldBehind c w seat x).now.words.marks p) k ≡ true
      → (has_bit (slice_index w.now.words.marks p) k ≡ true) ⊎ IsCell c (WorldBehind c w seat x).now p k
  new_mark (Step.Mark q n) p k h early markers goes is = elim (more_bits w.now.words.marks q n p k is) [
    | inl old ↦ inl old
    | inr new ↦
        let may = or_cases (marks_by_hand c.pages w.now.words w.now.seats.holding.hand q n) (marks_place w.now.words
        (object_made c (flight_of w.now seat).op) (place_now c w.now (flight_of w.now seat)) q n) h.holder in
        subst (λ (i : ℕ). (has_bit (slice_index w.now.words.marks p) k ≡ true) ⊎ IsCell c
        (WorldBehind c w seat (Step.Mark q n)).now i k) (sym new.0) (elim may [
          | inl hand ↦ inr (inl (by_hand w.now.seats.holding.hand q n k hand new.1))
          | inr place ↦ inr (by_place q n k h place new.1)
        ])
  ]
  new_mark Step.Mmark p k h early markers goes is =
      elim (more_bits w.now.words.marks (seen_page (cell_seen c (marker_at w.now seat).seen (marker_at w.now
      seat).hand)) (seen_bit (cell_seen c (marker_at w.now seat).seen (marker_at w.now seat).hand)) p k is) [
        | inl old ↦ inl old
        | inr new ↦
            inr (inl (seen_is (marker_at w.now seat).seen (marker_at w.now seat).hand
            (seen_header_goes_on seat known markers h.marker) p k h.marker new.0 new.1))
      ]
  new_mark (Step.Clear q) p k h early markers goes is = grind (arith, eqb-true)
  new_mark x p k h early markers goes is = rest x refl is
    where
      rest : (y : Step) → is_marking_step y ≡ false → has_bit (slice_index (WorldBehind c w seat y).now.words.marks p) k
          ≡ true → (has_bit (slice_index w.now.words.marks p) k ≡ true) ⊎ IsCell c (WorldBehind c w seat y).now p k
      rest y u there = inl (subst (λ (ys : List ℕ). has_bit (slice_index ys p) k ≡ true)
          (marks_same c w seat y u) there)
