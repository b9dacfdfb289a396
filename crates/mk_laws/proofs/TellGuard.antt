-- What the layout and the zero words tell the guard.
use Rattle.mk_laws.proofs.Vocabulary.{AreOfPages, Bool, Config, GuardPremises, HasZeros, IsClaimedRun, IsHeaderOf}
use Rattle.mk_laws.proofs.Vocabulary.{IsMarking, IsPlaced, IsPlotShown, IsSized, LayoutStands, Mapped, Moment, Object}
use Rattle.mk_laws.proofs.Vocabulary.{Place, PlacedAllocation, Placing, PlotStands, RunPages, RunStands, Seat, Some}
use Rattle.mk_laws.proofs.Vocabulary.{World, ℕ, and_parts, ap, arith, cases_lt, claims_of, false, flight_of}
use Rattle.mk_laws.proofs.Vocabulary.{get_or_past, ground_of, head_page_under, header_on, heads_run, inl, inr, is_large}
use Rattle.mk_laws.proofs.Vocabulary.{is_mapped, is_small_object, is_undecided_new, is_unmapping, kinds_of}
use Rattle.mk_laws.proofs.Vocabulary.{large_is_not_small, left, lt-ltb, mode_of, ne_eqb, not, not-true, object_placed}
use Rattle.mk_laws.proofs.Vocabulary.{pages_some, placed_at, placed_now, plot_of, refl, seat_exists, subst, sym, true}
use Rattle.mk_laws.proofs.Vocabulary.{◌&&◌, ◌*◌, ◌+◌, ◌/◌, ◌==◌, ◌∙◌, ◌≡◌, ◌⊎◌}
use Rattle.mk_laws.proofs.{BarePages.{Unreleasing, bare_page, plot_page, shown_there}, Basics.{Known, KnownWorld, Laid}}
use Rattle.mk_laws.proofs.Basics.{all_stand, first_header, holding_object, known_world, made_sized, mapped_stays}
use Rattle.mk_laws.proofs.{Basics.new_has_turn, Serving.{OnChosen, OnFree, Stands, placed_for}}
use Rattle.mk_laws.proofs.{LayoutReadings.header_of_mode, QuarantineByKind.shown_at, WholeRuns.whole_quiet}
use Rattle.mk_laws.proofs.Kept.{LaterPagesAreKnown, PlaceIsBare, RunHasObject, StandsMapped}
use Rattle.mk_laws.proofs.ZerosTell.{ZerosTellTheGuard}

-- The pages of a run after its head

pub later_pages : (c : Config) (w : World) → Unreleasing c w → LaterPagesAreKnown w.now.words
later_pages c w q p count distance is some lt =
    let run = whole_quiet q.laid.scene refl p (ap heads_run is) in
    elim (run.later distance some (rw is lt)) [
      | inl later ↦ inl (ap (λ x. head_page_under x (p + distance)) later.1 ∙ omega arith)
      | inr free ↦ inr (λ i li. bare_page (p + distance) (64 * (p + distance) + i) q free.0 (omega arith))
    ]

-- The place of a New

-- who is in a New is there
new_exists : {c : Config} {m : Moment} (seat : Seat) → Known c m → is_undecided_new (flight_of m seat) ≡ true
    → seat_exists c seat ≡ true
new_exists seat known new = grind (arith, cases_lt, lt-ltb, get_or_past)

bare_place : {c : Config} {w : World} {o : Object} {place : Place} → Unreleasing c w → Laid c o false w (ground_of w)
    → IsSized o
    → IsPlaced c.resident w.now.words.pages o place w.now.seats.holding.placing → PlaceIsBare w.now.words o place
bare_place {c} {w} {o} {place} q st sized placed = elim (placed_for c false w st sized placed) [
  | OnFree is fit ↦ record {
    headers = λ d lt. inl (fit.free d lt);
    words = λ free i li. bare_page (place.page + i / 64) _ q (fit.free (i / 64) (omega arith)) (omega arith);
  }
  | OnChosen is ↦
      let plot : IsPlotShown w.now.words.pages place.page o =
      subst (λ (x : Placing). PlotStands w.now.words.pages (plot_of o x)) is st.scene.plot in
      record { headers = plot.headers; words = λ free i li. plot_page (i / 64) _ q plot (omega arith) (omega arith) }
  | Stands headers _ ↦
      let zero : place.page + 0 ≡ place.page = omega arith in
      record {
        headers = λ d lt. inr (headers d lt);
        words = λ free i li. absurd (first_header o sized (sym (headers 0 (pages_some o sized))
            ∙ ap (header_on w.now.words.pages) zero ∙ free));
      }
]

-- The run that a call freed, and mapped allocations

run_has_object : {c : Config} {w : World} (run : RunPages) → Unreleasing c w → w.now.seats.holding.freed ≡ Some run
    → RunHasObject w.now.words run
run_has_object {c} {w} run q is =
    let x : IsClaimedRun (claims_of c w.now.seats.holding.freed w.allocations) run =
    subst (RunStands (claims_of c w.now.seats.holding.freed w.allocations)) is q.laid.gone in
    let shown = shown_there c w x.claim q x.among in
    let count = x.count in
    record {
      object = x.claim.object;
      sized = shown.sized;
      large = x.large;
      count = x.count;
      headers = λ d lt. subst (λ p. IsHeaderOf x.claim.object d (header_on w.now.words.pages (p + d))) x.page
          (header_of_mode x.claim.mode x.claim.object d _ (shown.headers d (omega arith)));
    }

mapped_stands : (c : Config) (w : World) (i : ℕ) → AreOfPages c.pages w.now.words → LayoutStands c w
    → is_mapped c (placed_at w.allocations i) ≡ true → StandsMapped c w.now.words (placed_at w.allocations i)
mapped_stands c w i lengths laid mapped =
    let a : PlacedAllocation = placed_at w.allocations i in
    let going : Bool = is_unmapping w.now.seats.holding.freed (a.base / 64) in
    let unmapped : (a.freed && is_large (kinds_of c.types a.ty)) ≡ false = not-true _ (and_parts _ _ mapped).1 in
    let mode : mode_of (a.freed && not (is_small_object (object_placed c a))) going ≡ Mapped =
    ap (λ b. mode_of (a.freed && b) going) (sym (large_is_not_small _)) ∙ ap (λ b. mode_of b going) unmapped in
    record {
      stands = (all_stand c _ _ w lengths.pages laid i (mapped_stays c a mapped)).stands;
      headers = grind (arith, shown_at, mapped_stays);
    }

-- All of it
not_releasing : (n : ℕ) → (n ≡ 1) ⊎ (n ≡ 2) → (n == 4) ≡ false
not_releasing n h = grind (arith, ne_eqb)

pub guard_in : (c : Config) (w : World) → KnownWorld c w → LayoutStands c w → HasZeros c w → GuardPremises c w
guard_in c w known laid zeros = record {
  place = λ early seat place now.
      let placed = placed_now c w.now (flight_of w.now seat) place now in
      let there = new_exists seat known.now placed.new in
      let own = holding_object c w.now seat known.now (new_has_turn c w.now seat there placed.new) in
      bare_place (quiet early) (subst (λ (o : Object). Laid c o false w (ground_of w)) own (quiet
      early).laid) (made_sized c w.now seat known.limits known.now placed.new) placed.placed;
  freed = λ early run is. run_has_object run (quiet early) is;
  later = λ early. later_pages c w (quiet early);
  mapped = λ i is. mapped_stands c w i known.lengths laid is;
}
  where
    quiet : IsMarking w.now.words → Unreleasing c w
    quiet early = grind (arith, not_releasing)

pub zeros_tell_the_guard : ZerosTellTheGuard
zeros_tell_the_guard c es limits on = guard_in c (left c es) (known_world c es limits on)
