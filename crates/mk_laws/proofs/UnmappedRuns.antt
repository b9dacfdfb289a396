-- The pages of a freed large allocation aren't resident, until they get other headers.
use Rattle.mk_laws.proofs.Vocabulary.{Bool, Config, Event, HasHeader, Invariant, IsHistory, IsShown, List, Moment}
use Rattle.mk_laws.proofs.Vocabulary.{NeverState, None, Object, OfHistories, Option, PlacedAllocation, RunPages, Seat}
use Rattle.mk_laws.proofs.Vocabulary.{Some, Step, World, ℕ, and_from, and_parts, ap, arith, cases_Bool, cases_lt}
use Rattle.mk_laws.proofs.Vocabulary.{claim_of, earlier_part_is_history, eq-eqb, eqb-true, false, false_from_ne_true}
use Rattle.mk_laws.proofs.Vocabulary.{ground_of, header_at, header_of, inl, inr, is_phase, is_small_object}
use Rattle.mk_laws.proofs.Vocabulary.{is_unmapped_header, is_unmapping, large_count, large_words, left, left_append}
use Rattle.mk_laws.proofs.Vocabulary.{left_from, list_any, ne_eqb, not, not-true, object_now, object_placed, or_parts}
use Rattle.mk_laws.proofs.Vocabulary.{pages_made, placed_at, refl, run_begins, set_past, storage_words, subst, sym}
use Rattle.mk_laws.proofs.Vocabulary.{true, true≢false, unmapped_header, unmapped_is_unmapped, world_behind, [], ◌&&◌}
use Rattle.mk_laws.proofs.{Vocabulary.{◌*◌, ◌+◌, ◌-◌, ◌/◌, ◌<◌, ◌∙◌, ◌∷◌, ◌≡◌}, Basics.{Behind, KnownWorld, Laid}}
use Rattle.mk_laws.proofs.Basics.{Table, claim_among, gone_terrain, known_world, own_claim, reg_table, tally_table}
use Rattle.mk_laws.proofs.{ForImages.{gone_is, shown_claim, standing}, ResidentPages.{is_resident, resident_gone}}
use Rattle.mk_laws.proofs.ResidentPages.{resident_other, resident_used, unmapped_use}
use Rattle.mk_laws.proofs.InvariantHistories.{histories_keep_the_invariant}
use Rattle.mk_laws.specs.WordLaws.{IsOfUnmappedRun, UnmappedRunsTakeNoMemory, gives_header, is_resident_in}

-- A page stays out of memory at each step that gives it no header.

stays_out : (c : Config) (m : Moment) (seat : Seat) (x : Step) (p : ℕ) → gives_header p x ≡ false
    → is_resident m.words.pages p ≡ false → is_resident (Behind c m seat x).words.pages p ≡ false
stays_out c m seat Step.Reg p none out = ap (λ (t : Table). is_resident t.pages p) (reg_table c m seat) ∙ out
stays_out c m seat (Step.Tally n v) p none out =
    ap (λ (t : Table). is_resident t.pages p) (tally_table m.words n v) ∙ out
stays_out c m seat (Step.Used q n) p none out = false_from_ne_true _
    (λ resident. true≢false (sym (resident_used m.words.pages q n p resident) ∙ out))
stays_out c m seat (Step.Head q n) p none out = false_from_ne_true _ (λ resident. true≢false (sym (
    grind (arith, resident_other, cases_lt, resident_gone, zero_there, is_resident, set_past)) ∙ out))
  where
    zero_there : p ≡ q → n ≡ 0
    zero_there e = grind (arith, and_from, eq-eqb, ne_eqb)
stays_out c m seat _ p none out = out

stays_along : (c : Config) (w : World) (es : List Event) (p : ℕ) → list_any (λ (e : Event). gives_header p e.step)
    es ≡ false → is_resident w.now.words.pages p ≡ false → is_resident (left_from c w es).now.words.pages p ≡ false
unfolding left_from
stays_along c w [] p none out = out
stays_along c w (e ∷ es) p none out =
    let parts = or_parts (gives_header p e.step) (list_any (λ (x : Event). gives_header p x.step) es) none in
    stays_along c (world_behind c w e) es p parts.1 (stays_out c w.now e.seat e.step p parts.0 out)

-- The pages of the run have the headers of an unmapped one.

not_false : (b : Bool) → not b ≡ false → b ≡ true
not_false b h = grind arith

module _ {c : Config} {w : World} {n : NeverState} (known : KnownWorld c w) (all : Invariant c w n) {p : ℕ}
    (x : IsOfUnmappedRun c w p) where
  abbrev a : PlacedAllocation
  a = placed_at w.allocations x.number

  abbrev o : Object
  o = object_placed c a

  gone : (a.freed && not (is_small_object o)) ≡ true
  gone = not_false _ (sym (gone_is c a x.unreleased) ∙ x.freed)

  large : is_small_object o ≡ false
  large = not-true _ (and_parts a.freed (not (is_small_object o)) gone).1

  -- how far the page is after the first one
  record OnRun : Type 0 where
    distance : ℕ
    near : distance < pages_made o
    there : a.base / 64 + distance ≡ p

  on_run : OnRun
  on_run =
      let s = standing c w known all.order.laid x.number x.unreleased in
      let aligned = (run_begins o a.base large s.stands.begins).1 in
      let words : storage_words c a ≡ 64 * pages_made o = large_words o large in
      record { distance = p - a.base / 64; near = omega arith; there = omega arith }

  sized_shown : IsShown w.now.words.pages (claim_of c w.now.seats.holding.freed a)
  sized_shown = shown_claim c w known all.order.laid x.number x.unreleased

  -- by the call under way, or by an earlier one
  header_there : header_at w.now.words p ≡ unmapped_header (pages_made o) on_run.distance
  header_there = elim (cases_Bool (is_unmapping w.now.seats.holding.freed (a.base / 64))) [
    | inr other ↦ by w.now.seats.holding.freed other (sized_shown.headers on_run.distance on_run.near)
    | inl going ↦
        let rested : Laid c (object_now c w.now) (is_phase w.now.words 4) w (record (ground_of w) { run = None }) =
        gone_terrain c (object_now c w.now) (is_phase w.now.words 4) w
        (λ run is. x.unmapped run is (page_of_run w.now.seats.holding.freed run is going)) all.order.laid in
        let shown = rested.scene.shown (claim_of c None a) (own_claim c (object_now c w.now) (record
        (ground_of w) { run = None }) (claim_of c None a) (claim_among c None w.allocations x.number x.unreleased)) in
        by None refl (shown.headers on_run.distance on_run.near)
  ]
    where
      page_of_run : (freed : Option RunPages) (run : RunPages) → freed ≡ Some run
          → is_unmapping freed (a.base / 64) ≡ true → run.page ≡ a.base / 64
      page_of_run freed run is going =
          eqb-true run.page (a.base / 64) (ap (λ (y : Option RunPages). is_unmapping y (a.base / 64)) (sym is) ∙ going)

      by : (freed : Option RunPages) → is_unmapping freed (a.base / 64) ≡ false → HasHeader (claim_of c freed a).mode
          o on_run.distance (header_at w.now.words (a.base / 64 + on_run.distance)) → header_at w.now.words p
          ≡ unmapped_header (pages_made o) on_run.distance
      by freed other has = grind (arith, on_run, gone)

  not_resident : is_resident_in w p ≡ false
  not_resident = unmapped_use _ _ (ap (λ h. is_unmapped_header (header_of h)) header_there
      ∙ unmapped_is_unmapped (pages_made o) on_run.distance (large_count o sized_shown.sized large) on_run.near)

pub unmapped_runs_take_no_memory : OfHistories UnmappedRunsTakeNoMemory
unmapped_runs_take_no_memory c es h front more p is x none =
    let before = earlier_part_is_history c front more (subst (IsHistory c) is h) in
    let out = not_resident
    (known_world c front before.within_limits before.enabled) (histories_keep_the_invariant c front before) x in
    ap (λ (xs : List Event). is_resident_in (left c xs) p) is
    ∙ ap (λ (w : World). is_resident_in w p) (left_append c _ front more) ∙ stays_along c _ more p none out
