-- All is in order after every list of enabled events.
use Rattle.std.proofs.Common.{IsSome}
use Rattle.mk_laws.proofs.Vocabulary.{AreOfPages, Bool, Config, Empties, Event, Flight, HasQuarantine, Header, HeadStep}
use Rattle.mk_laws.proofs.Vocabulary.{IsClaimedRun, IsEnabled, IsHeaderWord, IsQuarantined, IsWithinLimits, ItCarves}
use Rattle.mk_laws.proofs.Vocabulary.{ItEmpties, ItUnmaps, Later, LayoutPremises, LayoutPremisesFrom, LayoutStands}
use Rattle.mk_laws.proofs.Vocabulary.{List, Object, OfBlock, Option, Page, QuarantineStep, Seat, ShowsPart, Some}
use Rattle.mk_laws.proofs.Vocabulary.{StandsInOrder, Step, World, ℕ, and_parts, ap, arith, cases_Bool, cases_eq}
use Rattle.mk_laws.proofs.Vocabulary.{cells_under, claims_of, enabled_meets, false, first_world, flight_of, ground_of}
use Rattle.mk_laws.proofs.Vocabulary.{has_bit, has_bit_without, head_page_under, head_step, header_in, header_on}
use Rattle.mk_laws.proofs.Vocabulary.{histories_keep_lengths, inl, inr, is_phase, left, length, ltb-true, made_shows}
use Rattle.mk_laws.proofs.Vocabulary.{object_made, object_now, pages_made, placed_now, quarantine_step, refl}
use Rattle.mk_laws.proofs.Vocabulary.{seat_exists, shows_on, slice_index, slice_set, sym, true, true≢false}
use Rattle.mk_laws.proofs.Vocabulary.{unmapped_header, world_behind, ◌%◌, ◌-◌, ◌<◌, ◌^◌, ◌∙◌, ◌≡◌}
use Rattle.mk_laws.proofs.Basics.{Before, Known, Meets, WorldBehind, at_first, bit_cases, headed_other}
use Rattle.mk_laws.proofs.Basics.{is_releasing_behind, made_sized, none_set, own_claim, page_within}
use Rattle.mk_laws.proofs.Basics.{reg_leaves_ground, tally_ground, used_header, with_header_on}
use Rattle.mk_laws.proofs.{Behind.{layout_behind, phase_kind, releasing_marks}, Known.along_enabled}
use Rattle.mk_laws.proofs.{LayoutByKind.off_at, QuarantineByKind.{quarantine_by_kind, shown_at}}
use Rattle.mk_laws.proofs.{QuarantineSteps.{none_released, unmarked}, Releasing.headed_here}
use Rattle.mk_laws.proofs.{ResidentPages.{count_none, resident_few}, Rooms.room_behind, SnapshotKinds.snapshot_behind}
use Rattle.mk_laws.proofs.{Unmapping.cells_at_claim, WholeRuns.whole_behind}
use Rattle.mk_core.proofs.{ObjectHeaders.unmapped_shows}
use Rattle.mk_laws.proofs.LayoutLaws.{HistoriesAreLaidOut, LayoutHasFewResidentPages}
use Rattle.mk_laws.proofs.{LayoutLaws.LayoutHasHeaderWords, Quarantine.FreedCellsAreKnown, Room.HasHeaderWords}

-- Each freed bit is that of a cell of its page, after each event.

-- While the phase isn't releasing, a freed bit is that of an allocation's cell, which its page has.
known_quiet : (c : Config) (w : World) → is_phase w.now.words 4 ≡ false → LayoutStands c w → IsQuarantined c w
    → FreedCellsAreKnown w
known_quiet c w off laid q p k h = grind (arith, shown_at, cells_at_claim)

-- `head` (d): a page that is emptied has no freed cell
emptied : (w : World) {p n : ℕ} → p < length w.now.words.pages → Empties w.now.words p n → FreedCellsAreKnown w
    → (q k : ℕ) → has_bit (slice_index w.now.words.freed q) k ≡ true
    → k < cells_under (shows_on (with_header_on w.now.words.pages p n) q)
emptied w {p = p} {n = n} lt x known q k h = elim (cases_eq q p) [
  | inr ne ↦ rw (headed_other w.now.words.pages p n q ne) (known q k h)
  | inl e ↦ absurd (none (header_in w.now.words p) refl (rw (← e) h) x.unfreed)
]
  where
    none : (y : Option Header) → header_in w.now.words p ≡ y → has_bit (slice_index w.now.words.freed p) k ≡ true
        → slice_index w.now.words.freed (head_page_under (header_in w.now.words p) p) ≡ 0 → ⊥
    none (Some (Later d m)) is bit z = let lt = known p k bit in let cells = ap cells_under is in omega arith
    none y is bit z = grind (arith, none_set)

abbrev KnownOn : List Page → List ℕ → Type 0
KnownOn pages freed = (p k : ℕ) → has_bit (slice_index freed p) k ≡ true → k < cells_under (shows_on pages p)

head_kind : {c : Config} (w : World) {f : Flight} {p n : ℕ} → p < length w.now.words.pages
    → is_phase w.now.words 4 ≡ true → HeadStep c w.now f p n → FreedCellsAreKnown w
    → KnownOn (with_header_on w.now.words.pages p n) w.now.words.freed
head_kind w lt four (ItCarves off x) known = absurd (true≢false (sym four ∙ off))
head_kind w lt four (ItUnmaps off x) known = absurd (true≢false (sym four ∙ off))
head_kind w {p = p} {n = n} lt four (ItEmpties on x) known = emptied w lt x known

quar_kind : {c : Config} (w : World) {f : Flight} {p n : ℕ} → p < length w.now.words.freed
    → is_phase w.now.words 4 ≡ true → QuarantineStep c w.now f p n → FreedCellsAreKnown w
    → KnownOn w.now.words.pages (slice_set w.now.words.freed p (n % 2 ^ 32))
quar_kind w lf four x8 known = grind (arith, off_at, bit_cases, and_parts, has_bit_without)

-- what each kind does while the phase is releasing, and as it becomes so
known_by_kind : {c : Config} {w : World} (seat : Seat) (x : Step) → Before c w → Meets c w.now seat x
    → is_releasing_behind x (is_phase w.now.words 4) ≡ true → FreedCellsAreKnown w
    → KnownOn (WorldBehind c w seat x).now.words.pages (WorldBehind c w seat x).now.words.freed
known_by_kind {c} {w} seat (Step.Head p n) b h on known =
    head_kind w (page_within c w p b h.range) on (head_step c w.now (flight_of w.now seat) p n h.holder) known
known_by_kind {c} {w} seat (Step.Used p n) b h on known =
    λ q k bit. rw (used_header w.now.words.pages p n q (page_within c w p b h.range)) (known q k bit)
known_by_kind {c} {w} seat (Step.Quar p n) b h on known = quar_kind w (let lt = ltb-true p c.pages h.range in let len =
    b.lengths.freed in omega arith) on (quarantine_step c w.now (flight_of w.now seat) p n h.holder) known
known_by_kind {c} {w} seat Step.Reg b h on known =
    rw (reg_leaves_ground c w seat).pages (rw (reg_leaves_ground c w seat).freed known)
known_by_kind {w} seat (Step.Tally n v) b h on known =
    let g = tally_ground w.now.words n v in
    rw g.pages (rw g.freed known)
known_by_kind seat _ b h on known = known

-- Each page has a header word, after each event.

part_is : {o : Object} {d : ℕ} {x : Option Header} → ShowsPart o d x → IsSome x
part_is (OfBlock f s l) = refl
part_is _ = cc

-- the header that a `head` stores
stored_word : {c : Config} {w : World} (seat : Seat) {p n : ℕ} → Before c w → seat_exists c seat ≡ true
    → LayoutStands c w → HeadStep c w.now (flight_of w.now seat) p n → IsHeaderWord n
stored_word {c} {w} seat {p = p} b there laid (ItCarves off x) =
    let placed = placed_now c w.now (flight_of w.now seat) x.place x.there in
    let o : Object = object_made c (flight_of w.now seat).op in
    rw x.next.is (part_is
    (made_shows o (p - x.place.page) (made_sized c w.now seat b.limits b.known placed.new) x.next.near))
stored_word {c} {w} seat {p = p} {n = n} b there laid (ItUnmaps off x) =
    let r : IsClaimedRun (claims_of c w.now.seats.holding.freed w.allocations) x.run = grind arith in
    let o : Object = r.claim.object in
    let sized = (laid.scene.shown r.claim (own_claim c (object_now c w.now) (ground_of w) r.claim r.among)).sized in
    let near : p - x.run.page < pages_made o = (let count = r.count in let lt = x.next.near in omega arith) in
    let value : unmapped_header (pages_made o) (p - x.run.page) ≡ n = rw r.count (sym x.next.is) in
    rw value at (part_is (unmapped_shows o (p - x.run.page) sized near r.large))
stored_word seat b there laid (ItEmpties on x) = rw x.is refl

abbrev HaveWords : List Page → Type 0
HaveWords pages = (p : ℕ) → IsHeaderWord (header_on pages p)

pub words_behind : (c : Config) (w : World) (seat : Seat) (x : Step) → Before c w → Meets c w.now seat x
    → LayoutStands c w → HasHeaderWords w → HasHeaderWords (WorldBehind c w seat x)
words_behind c w seat (Step.Head p n) b h laid words = λ q. elim (cases_eq q p) [
  | inl e ↦ rw e (rw (headed_here w.now.words.pages p n (page_within c w p b h.range))
      (stored_word seat b h.seat laid (head_step c w.now _ p n h.holder)))
  | inr ne ↦ rw (headed_other w.now.words.pages p n q ne) (words q)
]
words_behind c w seat x3 b h laid words = grind (arith, used_header, page_within, reg_leaves_ground, tally_ground)

pub in_order_at_first : (c : Config) → StandsInOrder c (first_world c)
in_order_at_first c = grind (arith, none_set, at_first, count_none)

pub known_before : {c : Config} {w : World} → IsWithinLimits c → AreOfPages c.pages w.now.words → Known c w.now
    → LayoutPremises c w → IsQuarantined c w → Before c w
known_before {c} {w} limits lengths known others q = record {
  limits = limits;
  lengths = lengths;
  known = known;
  others = others;
  unreleased = λ four. none_released c _ w.now.words.marks (ground_of w) (rw four at q);
}

quarantine_behind : {c : Config} {w : World} (seat : Seat) (x : Step) → Before c w → Meets c w.now seat x
    → LayoutStands c w → IsQuarantined c w → IsQuarantined c (WorldBehind c w seat x)
quarantine_behind {c} {w} seat x b h laid q =
    let v : World = WorldBehind c w seat x in
    rw (phase_kind c w seat x h) (marks _ refl (quarantine_by_kind seat x b h laid q))
  where
    marks : (r : Bool) → is_releasing_behind x (is_phase w.now.words 4) ≡ r
        → HasQuarantine c r w.now.words.marks (ground_of (WorldBehind c w seat x))
        → HasQuarantine c r (WorldBehind c w seat x).now.words.marks (ground_of (WorldBehind c w seat x))
    marks true is q = rw (releasing_marks w seat x b.known h is) q
    marks false is q = unmarked _ q

-- One event, from the world before it.
pub order_behind : {c : Config} {w : World} (e : Event) → IsWithinLimits c → AreOfPages c.pages w.now.words
    → Known c w.now → IsEnabled c w.now e → LayoutPremises c w
    → StandsInOrder c w → StandsInOrder c (world_behind c w e)
order_behind {c} {w} e limits lengths known on others all =
    let h = enabled_meets c w.now e on in
    let b = known_before limits lengths known others all.quarantined in
    let laid = layout_behind e.seat e.step b h all.laid in
    let quarantined = quarantine_behind e.seat e.step b h all.laid all.quarantined in
    record {
      laid = laid;
      quarantined = quarantined;
      known = elim (cases_Bool (is_releasing_behind e.step (is_phase w.now.words 4))) [
        | inl on ↦ known_by_kind e.seat e.step b h on all.known
        | inr off ↦ known_quiet c (world_behind c w e) (phase_kind c w e.seat e.step h ∙ off) laid quarantined
      ];
      snapshot = snapshot_behind e.seat e.step b h all.laid all.quarantined all.snapshot;
      runs = whole_behind e.seat e.step b h all.runs laid;
      words = words_behind c w e.seat e.step b h all.laid all.words;
      room = room_behind e.seat e.step b h all.laid all.room;
    }

pub histories_are_laid_out : HistoriesAreLaidOut
unfolding LayoutPremisesFrom
histories_are_laid_out c es limits on others = (along_enabled (λ w xs. LayoutPremisesFrom c w xs × StandsInOrder c w)
    (λ w e xs lengths known here p. (p.0.1, order_behind e limits lengths known here p.0.0 p.1)) es limits on
    (others, in_order_at_first c)).1

pub pages_have_header_words : LayoutHasHeaderWords
pages_have_header_words c es limits on others = (histories_are_laid_out c es limits on others).words

pub few_pages_are_resident : LayoutHasFewResidentPages
few_pages_are_resident c es limits on others =
    resident_few c (left c es) (histories_keep_lengths c es).pages (histories_are_laid_out c es limits on others).room

pub ruleset pages_are_in_order_facts = (pages_have_header_words, few_pages_are_resident)
