-- What each kind of event makes of the quarantine.
use Rattle.mk_laws.proofs.Vocabulary.{Bool, Cell, Claim, Config, Flight, Ground, HasQuarantine, IsQuarantined, IsShown}
use Rattle.mk_laws.proofs.Vocabulary.{ItDrops, ItFrees, ItGivesBack, ItTakes, ItTakesSnapshot, LayoutStands, List, None}
use Rattle.mk_laws.proofs.Vocabulary.{Option, Page, Place, PlacedAllocation, Placing, QuarantineStep, Seat, Some, Step}
use Rattle.mk_laws.proofs.Vocabulary.{Unplaced, Used, UsedStep, Words, World, ℕ, and_from, ap, arith, cases_lt}
use Rattle.mk_laws.proofs.Vocabulary.{cell_freed, cell_of_allocation, chosen, claim_of, cond-true, eqb-true, false}
use Rattle.mk_laws.proofs.Vocabulary.{false_from_ne_true, flight_of, found, freed_cell, frees, get_or_past, ground_of}
use Rattle.mk_laws.proofs.Vocabulary.{has_place, if◌then◌else◌, inl, inr, is_phase, is_released_in, is_undecided_free}
use Rattle.mk_laws.proofs.Vocabulary.{is_undecided_new, length, ltb-true, may_end, none_freed, object_now}
use Rattle.mk_laws.proofs.Vocabulary.{object_placed, or_cases, phase_of, place_now, placed_at, quarantine_step, refl}
use Rattle.mk_laws.proofs.Vocabulary.{set-get_or, slice_index, slice_set, stands_in_its_cell, taken, target, true}
use Rattle.mk_laws.proofs.Vocabulary.{undecided_free, undecided_new, used_step, ◌%◌, ◌/◌, ◌<◌, ◌==◌, ◌^◌, ◌||◌, ◌∙◌}
use Rattle.mk_laws.proofs.{Vocabulary.◌≡◌, Basics.{Before, Laid, Meets, WorldBehind, all_stand, claim_among}}
use Rattle.mk_laws.proofs.Basics.{free_has_turn, is_releasing_behind, none_set, own_claim, placed_undecided}
use Rattle.mk_laws.proofs.{Basics.{reg_leaves_ground, tally_ground}, Freed.{settled_page, standing_cell}}
use Rattle.mk_laws.proofs.QuarantineChanges.{FreesHere, begin_kept, free_kept, grant_kept, index_small, release_kept}
use Rattle.mk_laws.proofs.QuarantineSteps.{drop_kept, end_kept, released_bits, replaced, snapshot_kept, take_kept}
use Rattle.mk_laws.proofs.{Ground.{KeepsGround, with_quarantine}, LayoutByKind.{off_at, with_halves}}
use Rattle.mk_core.proofs.{EvaluatedPlaces.full, PlacesNow.{FreesCell, chosen_used}}

abbrev pub QuarantinedAs : Config → Bool → World → Ground → Type 0
QuarantinedAs c releasing w t = HasQuarantine c releasing w.now.words.marks t

abbrev pub QuarantinedNow : Config → World → Ground → Type 0
QuarantinedNow c w t = QuarantinedAs c (is_phase w.now.words 4) w t

-- What the layout says of an unreleased allocation's cell.
pub shown_at : (c : Config) (w : World) (i : ℕ) → LayoutStands c w → (placed_at w.allocations i).released ≡ false
    → IsShown w.now.words.pages (claim_of c w.now.seats.holding.freed (placed_at w.allocations i))
shown_at c w i laid u =
    let x : Claim = claim_of c w.now.seats.holding.freed (placed_at w.allocations i) in
    laid.scene.shown x (own_claim c _ (ground_of w) x (claim_among c w.now.seats.holding.freed w.allocations i u))

-- `quar`

-- a step that frees, frees a cell
pub frees_some : (pages : ℕ) (w : Words) (f : Flight) (p n : ℕ) → is_phase w 4 ≡ false
    → frees w (target pages w f) p n ≡ true → cell_freed pages w f p n ≡ None → ⊥
frees_some pages w f p n off h none = grind (arith, cond-true, and_from)

-- a New and a Free aren't the same call
not_both : (f : Flight) → is_undecided_new f ≡ true → is_undecided_free f ≡ true → ⊥
not_both f new free = grind (arith, undecided_new, undecided_free, full)

quar_none : (c : Config) (w : World) (f : Flight) (p n : ℕ) → p < length w.now.words.freed
    → p < length w.now.words.snapshot → cell_freed c.pages w.now.words f p n ≡ None
    → QuarantineStep c w.now f p n → IsQuarantined c w → QuarantinedNow c w (with_halves w p n)
quar_none c w f p n lf ls none (ItFrees off x) q = absurd (frees_some c.pages w.now.words f p n off x none)
quar_none c w f p n lf ls none (ItDrops on x) q = rw on (drop_kept c w lf ls (rw on at q) x)
quar_none c w f p n lf ls none (ItTakesSnapshot x) q =
    let low : n % 2 ^ 32 ≡ slice_index w.now.words.freed p = omega arith in
    let high : n / 2 ^ 32 ≡ slice_index w.now.words.freed p = omega arith in
    let same : slice_set w.now.words.freed p (n % 2 ^ 32) ≡ w.now.words.freed = rw low (set-get_or _ p 0) in
    let off = off_at w 0 x.phase (λ e. absurd (omega arith)) in
    rw off (rw same (rw high (snapshot_kept c _ (ground_of w) p ls (rw off at q))))

-- what a step that frees finds
pub frees_here : {c : Config} {w : World} (seat : Seat) {p n : ℕ} {cell : Cell} → Before c w
    → Meets c w.now seat (Step.Quar p n) → LayoutStands c w
    → FreesCell c.pages w.now.words (flight_of w.now seat) p n cell → FreesHere c w cell n
frees_here {c} {w} seat {p = p} {cell = cell} b h laid x =
    let own = b.others.target seat cell x.at in
    let a : PlacedAllocation = placed_at w.allocations own.number in
    let off : Laid c (object_now c w.now) false w (ground_of w) = rw x.phase at laid in
    let s = all_stand c (object_now c w.now) false w b.lengths.pages off own.number own.unreleased in
    let shown = shown_at c w own.number laid own.unreleased in
    let known : (cell_of_allocation c a).index < 32 =
    index_small (object_placed c a) (cell_of_allocation c a).index shown.sized shown.known in
    let index : (cell_of_allocation c a).index ≡ cell.index = ap (λ (y : Cell). y.index) own.is in
    let page = x.page in
    let lt = ltb-true p c.pages h.range in
    let turn = free_has_turn c w.now seat h.seat x.free in
    record {
      page = omega arith;
      in_snapshot = omega arith;
      index = omega arith;
      own = own;
      stands = cc (own.is, stands_in_its_cell c w.now.words a b.limits s.stands s.headers);
      others = standing_cell (object_now c w.now) w b.lengths.pages own off;
      unset = x.unfreed;
      value = x.value ∙ rw page;
      unplaced = false_from_ne_true (has_place w.now.seats.holding.placing)
          (λ has. not_both (flight_of w.now seat) (placed_undecided c w.now seat b.known turn has) x.free);
    }

quar_kept : {c : Config} {w : World} (seat : Seat) (p n : ℕ) → Before c w → Meets c w.now seat (Step.Quar p n)
    → LayoutStands c w → IsQuarantined c w → QuarantinedNow c w (ground_of (WorldBehind c w seat (Step.Quar p n)))
quar_kept {c} {w} seat p n b h laid q = by (cell_freed c.pages w.now.words (flight_of w.now seat) p n) refl
  where
    lf : p < length w.now.words.freed
    lf = let lt = ltb-true p c.pages h.range in let len = b.lengths.freed in omega arith

    ls : p < length w.now.words.snapshot
    ls = let lt = ltb-true p c.pages h.range in let len = b.lengths.snapshot in omega arith

    by : (cell : Option Cell) → cell_freed c.pages w.now.words (flight_of w.now seat) p n ≡ cell
        → QuarantinedNow c w (with_quarantine w p n cell)
    by None is = rw (none_freed w.now.words w.allocations)
        (quar_none c w (flight_of w.now seat) p n lf ls is (quarantine_step c w.now _ p n h.holder) q)
    by (Some cell) is =
        let x = freed_cell c.pages w.now.words _ p n cell is in
        rw x.phase (rw x.page (free_kept _ (frees_here seat b h laid x) (rw x.phase at q)))

-- `head` and `used`
head_from : (four : Bool) (placing : Placing) (found : Option Place) (place : Place)
    → (if four then placing else chosen placing found) ≡ Used place → placing ≡ Used place
head_from four placing found place e = grind (arith, chosen_used)

abbrev UsedAs : Config → World → List Page → Bool → Option Place → Type 0
UsedAs c w pages four found = QuarantinedAs c four w (record (ground_of w) {
  pages = pages;
  placing = if four then w.now.seats.holding.placing else taken w.now.seats.holding.placing found;
})

used_kept : (c : Config) (w : World) (seat : Seat) (p n : ℕ) (pages : List Page) → LayoutStands c w → IsQuarantined c w
    → UsedStep c w.now (flight_of w.now seat) p n
    → UsedAs c w pages (is_phase w.now.words 4) (place_now c w.now (flight_of w.now seat))
used_kept c w seat p n pages laid q (ItTakes off once x) =
    rw off (rw x.there (take_kept c w.now.words.marks (ground_of w) pages x.place (λ i u. (shown_at c w i laid u).used)
    (rw (← x.taken.at) x.taken.unused) (rw off at q)))
used_kept c w seat p n pages laid q (ItGivesBack on x) =
    rw on (replaced c true _ (ground_of w) pages _ _ (λ place e. e) (rw on at q))

-- words that leave the quarantine
kept_ground : (c : Config) (w : World) (x : Words) → KeepsGround w.now.words x → IsQuarantined c w
    → QuarantinedNow c w (record (ground_of w) { pages = x.pages; freed = x.freed; snapshot = x.snapshot })
kept_ground c w x g q = rw g.pages (rw g.freed (rw g.snapshot q))

-- `grant` and `end`
pub grants_early : (w : World) → ((phase_of w.now.words == 0) || (phase_of w.now.words == 1)) ≡ true
    → is_phase w.now.words 4 ≡ false
grants_early w h = grind (arith, or_cases, off_at)

none_left : {c : Config} {w : World} → Before c w → may_end c.pages w.now.words ≡ true → (p k : ℕ)
    → is_released_in true w.now.words.snapshot w.now.words.marks p k ≡ false
none_left {c} {w} b own p k = elim (cases_lt p c.pages) [
  | inl lt ↦ (settled_page w.now.words c.pages p own lt).none k
  | inr past ↦ grind (arith, false_from_ne_true, released_bits, none_set, get_or_past)
]

-- each kind of event, whatever the seat
pub quarantine_by_kind : {c : Config} {w : World} (seat : Seat) (x : Step) → Before c w → Meets c w.now seat x
    → LayoutStands c w → IsQuarantined c w
    → QuarantinedAs c (is_releasing_behind x (is_phase w.now.words 4)) w (ground_of (WorldBehind c w seat x))
quarantine_by_kind seat (Step.Take o) b h laid q = grind (arith, eqb-true)
quarantine_by_kind {c} {w} seat Step.Give b h laid q = replaced c _ _ (ground_of w) _ Unplaced None (λ place e. cc) q
quarantine_by_kind {c} {w} seat Step.Reg b h laid q = kept_ground c w _ (reg_leaves_ground c w seat) q
quarantine_by_kind {c} {w} seat (Step.Tally n v) b h laid q = kept_ground c w _ (tally_ground w.now.words n v) q
quarantine_by_kind {c} {w} seat (Step.Head p n) b h laid q =
    replaced c _ _ (ground_of w) _ _ _ (λ place e. head_from _ _ _ place e) q
quarantine_by_kind {c} {w} seat (Step.Used p n) b h laid q =
    used_kept c w seat p n _ laid q (used_step c w.now _ p n h.holder)
quarantine_by_kind {c} {w} seat (Step.Quar p n) b h laid q = quar_kept seat p n b h laid q
quarantine_by_kind {c} {w} seat Step.Grant b h laid q =
    rw (grants_early w h.phase) (grant_kept c w.now.words.marks (ground_of w) _ refl (rw (grants_early w h.phase) at q))
quarantine_by_kind seat (Step.Mark p n) b h laid q = grind (arith, replaced, chosen_used)
quarantine_by_kind {c} {w} seat Step.Begin b h laid q = begin_kept q
quarantine_by_kind {c} {w} seat Step.Release b h laid q =
    let off = off_at w 3 h.phase (λ e. absurd (omega arith)) in
    release_kept w b.limits (all_stand c _ false w b.lengths.pages (rw off at laid)) (rw off at q)
quarantine_by_kind {c} {w} seat Step.End b h laid q =
    end_kept c w.now.words.marks (ground_of w) (none_left b h.holder) (rw h.phase at q)
quarantine_by_kind seat _ b h laid q = q
