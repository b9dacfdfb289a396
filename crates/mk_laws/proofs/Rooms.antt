-- No more pages are resident than may be, after each event.
use Rattle.mk_laws.proofs.Vocabulary.{Bool, ByFit, Chosen, Config, HeadStep, IsClaimedRun, IsNextHeader, IsPlaced}
use Rattle.mk_laws.proofs.Vocabulary.{IsSized, ItCarves, ItEmpties, ItUnmaps, LayoutStands, List, None, NoPlot, Object}
use Rattle.mk_laws.proofs.Vocabulary.{Option, Page, Place, Placing, Plotted, RunPages, RunStands, Seat, Some, Step}
use Rattle.mk_laws.proofs.Vocabulary.{Unplaced, World, ℕ, and_from, ap, arith, cases_Bool, cases_eq, chosen}
use Rattle.mk_laws.proofs.Vocabulary.{claims_of, false, flight_of, found, ground_of, has_place, head_step, header_at}
use Rattle.mk_laws.proofs.Vocabulary.{header_made, header_of, if◌then◌else◌, inl, inr, is_phase, is_resident_page}
use Rattle.mk_laws.proofs.Vocabulary.{is_unmapped_header, large_count, le-leb, length, lt-ltb, marks_is, marks_place}
use Rattle.mk_laws.proofs.Vocabulary.{object_made, object_now, or_left, or_right, pages_made, place_now, placed_now}
use Rattle.mk_laws.proofs.Vocabulary.{plot_of, refl, seat_exists, subst, sym, taken, true, undecided_new}
use Rattle.mk_laws.proofs.Vocabulary.{unmapped_is_unmapped, use_under, used_on, ◌-◌, ◌<◌, ◌∙◌, ◌≡◌}
use Rattle.mk_laws.proofs.Basics.{Before, Laid, Meets, WorldBehind, first_header, holding_object, made_sized}
use Rattle.mk_laws.proofs.Basics.{new_has_turn, no_run, own_claim, page_within, reg_leaves_ground, tally_ground}
use Rattle.mk_laws.proofs.{Basics.{with_header_on, with_used_on}, ResidentPages.{RoomOn, count_range, is_resident}}
use Rattle.mk_laws.proofs.ResidentPages.{resident_count, resident_gone, resident_other, resident_used, room_same}
use Rattle.mk_laws.proofs.{ResidentPages.{room_unplaced, unmapped_use}, Serving.{OnChosen, OnFree, Stands, not_again}}
use Rattle.mk_laws.proofs.{Serving.placed_for, Behind.object_kind, Fits.{FitsOnFreePages, fits}, Sorts.chosen_none}
use Rattle.mk_laws.proofs.Room.{HasRoom}

-- The place is chosen, if this many pages are free.
chosen_room : (c : Config) {o : Object} {pages : List Page} {place : Place} → length pages ≡ c.pages
    → FitsOnFreePages c.resident pages o place → RoomOn c o pages (Chosen place)
chosen_room c {o = o} {pages = pages} {place = place} len fit =
    let range = count_range c.pages place.page (pages_made o) (is_resident pages) in
    grind (arith, is_resident, resident_count)

-- A page of the plot gets its header.
carved_room : (c : Config) (o : Object) (w : World) (place : Place) {p n : ℕ}
    → IsNextHeader w.now.words place.page (pages_made o) (header_made o) p n
    → RoomOn c o w.now.words.pages (Chosen place) → RoomOn c o (with_header_on w.now.words.pages p n) (Chosen place)
carved_room c o w place {p = p} {n = n} next room =
    room_same c o w.now.words.pages (with_header_on w.now.words.pages p n) (Chosen place)
    (λ q lt r. elim (cases_eq q p) [
      | inr ne ↦ grind (arith, or_left, is_resident, resident_other, Plotted)
      | inl e ↦ grind (arith, or_right, is_resident, and_from, le-leb, lt-ltb)
    ]) room

abbrev HeadRoom : Config → World → Seat → ℕ → ℕ → Bool → Type 0
HeadRoom c w seat p n four =
    RoomOn c (object_now c w.now) (with_header_on w.now.words.pages p n) (if four then w.now.seats.holding.placing
    else chosen w.now.seats.holding.placing (place_now c w.now (flight_of w.now seat)))

head_room : {c : Config} {w : World} (seat : Seat) {p n : ℕ} → Before c w → seat_exists c seat ≡ true
    → p < length w.now.words.pages → LayoutStands c w → HasRoom c w → HeadStep c w.now (flight_of w.now seat) p n
    → RoomOn c (object_now c w.now) (with_header_on w.now.words.pages p n) (if is_phase w.now.words 4 then
    w.now.seats.holding.placing else chosen w.now.seats.holding.placing (place_now c w.now (flight_of w.now seat)))
head_room {c} {w} seat {p = p} {n = n} b there lt laid room (ItCarves off x) =
    let placed = placed_now c w.now (flight_of w.now seat) x.place x.there in
    let own = holding_object c w.now seat b.known (new_has_turn c w.now seat there placed.new) in
    let o : Object = object_made c (flight_of w.now seat).op in
    let sized = made_sized c w.now seat b.limits b.known placed.new in
    let st : Laid c o false w (ground_of w) = rw own at (rw off at laid) in
    rw off (rw x.there (rw own (elim (placed_for c false w st sized placed.placed) [
      | OnFree is fit ↦
          rw is (carved_room c o w x.place x.next (chosen_room c b.lengths.pages fit))
      | OnChosen is ↦ rw is (carved_room c o w x.place x.next (rw is at (rw own at room)))
      | Stands headers _ ↦ absurd (not_again o w x.place headers x.next)
    ])))
head_room {c} {w} seat {p = p} {n = n} b there lt laid room (ItUnmaps off x) =
    subst (λ four. HeadRoom c w seat p n four) (sym off) (by (place_now c w.now (flight_of w.now seat)) refl)
  where
    out : is_resident_page (use_under (header_of n) (used_on w.now.words.pages p)) ≡ false
    out =
        let r : IsClaimedRun (claims_of c w.now.seats.holding.freed w.allocations) x.run =
        subst (λ (y : Option RunPages). RunStands (claims_of c w.now.seats.holding.freed w.allocations) y) x.there
        laid.gone in
        let sized = (laid.scene.shown r.claim (own_claim c (object_now c w.now) (ground_of w) r.claim r.among)).sized in
        let range = large_count r.claim.object sized r.large in
        let low = range.0 in
        let high = range.1 in
        let count = r.count in
        unmapped_use (header_of n) (used_on w.now.words.pages p) (ap (λ v. is_unmapped_header (header_of v)) x.next.is
        ∙ unmapped_is_unmapped x.run.count (p - x.run.page) (omega arith, omega arith) x.next.near)

    by : (place : Option Place) → place_now c w.now (flight_of w.now seat) ≡ place → RoomOn c (object_now c w.now)
        (with_header_on w.now.words.pages p n) (chosen w.now.seats.holding.placing place)
    by (Some place) at =
        let placed = placed_now c w.now (flight_of w.now seat) place at in
        let turn = new_has_turn c w.now seat there placed.new in
        absurd (no_run c w.now seat b.known turn (undecided_new (flight_of w.now seat) placed.new).stage x.run x.there)
    by None at = grind (arith, with_header_on, chosen_none, room_same, or_left, is_resident, resident_gone, out)
head_room seat b there lt laid room (ItEmpties on x) =
    grind (arith, room_same, with_header_on, or_left, is_resident, resident_gone)

mark_room : {c : Config} {w : World} (seat : Seat) (p n : ℕ) → Before c w → seat_exists c seat ≡ true → HasRoom c w
    → (t : Bool) → marks_place w.now.words (object_made c (flight_of w.now seat).op)
    (place_now c w.now (flight_of w.now seat)) p n ≡ t → RoomOn c (object_now c w.now) w.now.words.pages (if t then
    chosen w.now.seats.holding.placing (place_now c w.now (flight_of w.now seat)) else w.now.seats.holding.placing)
mark_room seat p n b there room false is = room
mark_room {c} {w} seat p n b there room true is =
    let x = marks_is w.now.words (object_made c (flight_of w.now seat).op) (place_now c w.now (flight_of w.now seat)) p
    n is in
    let placed = placed_now c w.now (flight_of w.now seat) x.place x.there in
    let own = holding_object c w.now seat b.known (new_has_turn c w.now seat there placed.new) in
    let o : Object = object_made c (flight_of w.now seat).op in
    let sized = made_sized c w.now seat b.limits b.known placed.new in
    let free = ap (λ q. header_at w.now.words q) (sym x.marked.at) ∙ x.marked.free in
    rw x.there (rw own (by o sized own x.place free w.now.seats.holding.placing refl placed.placed))
  where
    by : (o : Object) → IsSized o → object_now c w.now ≡ o → (place : Place) → header_at w.now.words place.page ≡ 0
        → (placing : Placing) → w.now.seats.holding.placing ≡ placing
        → IsPlaced c.resident w.now.words.pages o place placing
        → RoomOn c o w.now.words.pages (chosen placing (Some place))
    by o sized own place free Unplaced is (ByFit at) = grind (arith, fits, chosen_room, first_header)
    by o sized own place free placing is out = grind arith

used_room : (c : Config) (w : World) (p n : ℕ) (four : Bool) (found : Option Place) → HasRoom c w
    → RoomOn c (object_now c w.now) (with_used_on w.now.words.pages p n) (if four then w.now.seats.holding.placing
    else taken w.now.seats.holding.placing found)
used_room c w p n four found room = by four found
  where
    by : (four : Bool) (found : Option Place) → RoomOn c (object_now c w.now) (with_used_on w.now.words.pages p n)
        (if four then w.now.seats.holding.placing else taken w.now.seats.holding.placing found)
    by four found = grind (arith, room_unplaced, with_used_on, resident_used, room_same, or_left, is_resident)

-- each kind of event, whatever the seat
room_by_kind : {c : Config} {w : World} (seat : Seat) (x : Step) → Before c w → Meets c w.now seat x → LayoutStands c w
    → HasRoom c w → RoomOn c (object_now c w.now) (WorldBehind c w seat x).now.words.pages
    (WorldBehind c w seat x).now.seats.holding.placing
room_by_kind seat (Step.Take o) b h laid room = grind (arith, room_unplaced)
room_by_kind {c} {w} seat Step.Give b h laid room =
    room_unplaced c (object_now c w.now) (object_now c w.now) w.now.words.pages w.now.words.pages
    w.now.seats.holding.placing Unplaced refl (λ q lt r. r) room
room_by_kind {c} {w} seat Step.Reg b h laid room = rw (reg_leaves_ground c w seat).pages room
room_by_kind {w} seat (Step.Tally n v) b h laid room = rw (tally_ground w.now.words n v).pages room
room_by_kind seat (Step.Head p n) b h laid room = grind (arith, head_room, page_within, head_step)
room_by_kind {c} {w} seat (Step.Used p n) b h laid room =
    used_room c w p n (is_phase w.now.words 4) (place_now c w.now (flight_of w.now seat)) room
room_by_kind seat Step.Grant b h laid room = grind (arith, room_unplaced)
room_by_kind seat (Step.Mark p n) b h laid room = grind (arith, mark_room)
room_by_kind seat _ b h laid room = room

no_plot : (o : Object) (placing : Placing) → has_place placing ≡ false → plot_of o placing ≡ NoPlot
no_plot o placing none = grind arith

pub room_behind : {c : Config} {w : World} (seat : Seat) (x : Step) → Before c w → Meets c w.now seat x
    → LayoutStands c w → HasRoom c w → HasRoom c (WorldBehind c w seat x)
room_behind {c} {w} seat x b h laid room =
    let v : World = WorldBehind c w seat x in
    let kind = room_by_kind seat x b h laid room in
    elim (cases_Bool (has_place v.now.seats.holding.placing)) [
      | inl has ↦ rw (object_kind c w seat x b.known h has) kind
      | inr none ↦ room_unplaced c _ _ v.now.words.pages v.now.words.pages v.now.seats.holding.placing
          v.now.seats.holding.placing (no_plot _ v.now.seats.holding.placing none) (λ q lt r. r) kind
    ]
