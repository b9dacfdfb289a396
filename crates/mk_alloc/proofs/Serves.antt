-- The turn's holder serves its New, step by step.
use Rattle.mk_caller.proofs.Below.Laws.Vocabulary.{Config, Flight, IsHistory, IsSized, List, Moment, Object, Page}
use Rattle.mk_caller.proofs.Below.Laws.Vocabulary.{Place, Seat, Some, Steady, Step, Unplaced, World, ℕ, and_from, ap}
use Rattle.mk_caller.proofs.Below.Laws.Vocabulary.{arith, eq-eqb, eqb-false, eqb-true, false, flight_of, ground_of}
use Rattle.mk_caller.proofs.Below.Laws.Vocabulary.{has_bit, header_at, header_made, histories_keep_lengths, inl, inr}
use Rattle.mk_caller.proofs.Below.Laws.Vocabulary.{is_phase, is_undecided_new, is_used_once, layout_scene_of, left}
use Rattle.mk_caller.proofs.Below.Laws.Vocabulary.{length, made_is_mapped, made_shows, no_bit, object_made, object_now}
use Rattle.mk_caller.proofs.Below.Laws.Vocabulary.{pages_made, pages_some, part_not_free, phase_of, place_now}
use Rattle.mk_caller.proofs.Below.Laws.Vocabulary.{place_on_pages, refl, small_pages, subst, sym, true, used_at, ◌+◌}
use Rattle.mk_caller.proofs.Below.Laws.Vocabulary.{◌<◌, ◌==◌, ◌∙◌, ◌≡◌, ◌≢◌, ◌⊎◌}
use Rattle.mk_caller.proofs.{Below.Laws.Fits.{FitsInBlock, FitsOnFreePages, fits}, Below.Laws.LayoutHolders.made_sized}
use Rattle.mk_caller.proofs.Below.Laws.LayoutReadings.{free_unused}
use Rattle.mk_alloc.proofs.ObjectVocabulary.{Acts, Carving, GoesTo, HasCarved, IsAsLeft, IsCellReady, IsEnabledTo}
use Rattle.mk_alloc.proofs.ObjectVocabulary.{IsOutOfStop, IsTurn, MayTake, PassState, Serving, bits_made, call_of}
use Rattle.mk_alloc.proofs.ObjectVocabulary.{histories_keep_the_invariant, known_left, now_of, object_for, world_of}
use Rattle.mk_alloc.proofs.{Looks.{acting_caller, acting_now, acts_there}, MayAct.{IsActing, may_carve, may_mark_place}}
use Rattle.mk_alloc.proofs.{MayAct.new_is_acting, Reaching.{IsCallers, reaches_first, reaches_nothing, reaches_still}}
use Rattle.mk_alloc.proofs.Serving.{carving_carves, carving_left, carving_marked, carving_more, carving_unmarked}
use Rattle.mk_alloc.proofs.{Serving.{ready_carved, serving_left, serving_marks}, FoundPlaces.found_clear}
use Rattle.mk_alloc.{proofs.{JoinedLooks.reaches_so, Unchanged.acting_has_call}, specs.Placing.{serves_at}}

-- What is known of the place before the first step that serves.
pub record KnowsPlace (p : PassState) (place : Place) : Type 0 where
  pub goes : GoesTo p place
  pub history : IsHistory p.table.config p.seen
  pub acting : IsActing p.table.config (now_of p) p.seat
  pub caller : IsCallers p
  pub sized : IsSized (object_for p)
  pub serving : Serving p.table.config p.seat (object_for p) place (world_of p) (world_of p)
  pub fit : place_on_pages p.table.config.resident (now_of p).words.pages (object_for p) ≡ Some place
  pub unused : header_at (now_of p).words place.page ≡ 0 → used_at (now_of p).words place.page ≡ 0
  pub within : place.page < p.table.config.pages
  pub fits : FitsOnFreePages p.table.config.resident (now_of p).words.pages (object_for p) place ⊎ FitsInBlock
      (now_of p).words.pages (object_for p) place

fit_of : (c : Config) (m : Moment) (f : Flight) (place : Place) → is_undecided_new f ≡ true
    → m.seats.holding.placing ≡ Unplaced
    → place_now c m f ≡ Some place → place_on_pages c.resident m.words.pages (object_made c f.op) ≡ Some place
fit_of c m f place new at placed = grind arith

within_of : (limit : ℕ) (pages : List Page) {o : Object} (place : Place) {n : ℕ} → IsSized o → length pages ≡ n
    → FitsOnFreePages limit pages o place ⊎ FitsInBlock pages o place → place.page < n
within_of limit pages place sized len x5 = grind (arith, pages_some)

pub knows_place : {p : PassState} {place : Place} → IsTurn p → GoesTo p place → KnowsPlace p place
knows_place {p} {place} turn goes =
    let c : Config = p.table.config in
    let h = turn.history in
    let known = known_left c p.seen h.within_limits h.enabled in
    let new = goes.unplaced.new in
    let acts = new_is_acting (call_of p) new in
    let sized = made_sized c (now_of p) p.seat h.within_limits known new in
    let lengths = (histories_keep_lengths c p.seen).pages in
    let fit = fit_of c (now_of p) (call_of p) place new goes.unplaced.placing goes.goes in
    let found = fits c.resident (now_of p).words.pages (object_for p) place sized fit in
    let order = (histories_keep_the_invariant c p.seen h).order in
    record {
      goes = goes;
      history = h;
      acting = acting_now turn acts;
      caller = acting_caller p acts;
      sized = sized;
      serving = record {
        call = refl;
        object = refl;
        steady = refl;
        placed = goes.goes;
        once = ap is_used_once goes.unplaced.placing;
        used = refl;
        pages = lengths;
      };
      fit = fit;
      unused = λ z. free_unused (layout_scene_of c (object_now c (now_of p)) (is_phase (now_of p).words 4)
          (now_of p).words.marks (ground_of (world_of p))) place.page order.laid.scene z;
      within = within_of c.resident (now_of p).words.pages place sized lengths found;
      fits = found;
    }

-- Where its page has no header, all its pages have none.
pub free_pages_of : {p : PassState} {place : Place} → KnowsPlace p place → header_at (now_of p).words place.page ≡ 0
    → FitsOnFreePages p.table.config.resident (now_of p).words.pages (object_for p) place
free_pages_of k z = grind (arith, pages_some, part_not_free, made_shows)

pub block_of : {p : PassState} {place : Place} → KnowsPlace p place → header_at (now_of p).words place.page ≢ 0
    → FitsInBlock (now_of p).words.pages (object_for p) place
block_of {p} {place} k some = elim k.fits [
  | inl free ↦
      let many = pages_some (object_for p) k.sized in
      let zero : place.page + 0 ≡ place.page = omega arith in
      absurd (some (sym (ap (λ i. header_at (now_of p).words i) zero) ∙ free.free 0 (omega arith)))
  | inr block ↦ block
]

-- The cell of the place isn't used.
pub place_unused : {p : PassState} {place : Place} → KnowsPlace p place
    → has_bit (used_at (now_of p).words place.page) place.index ≡ false
place_unused k = grind (arith, no_bit, found_clear)

phase_kept : {s : Seat} {o : Object} {place : Place} {c : Config} {w u v : World} → Serving c s o place w u
    → IsAsLeft s u v → phase_of v.now.words ≡ phase_of w.now.words
phase_kept at kept = ap (λ (x : Steady). x.phase) kept.steady ∙ ap (λ (x : Steady). x.phase) at.steady

pub out_of_stop : (m n : Moment) → phase_of n.words ≡ phase_of m.words → IsOutOfStop m → IsOutOfStop n
out_of_stop m n same x3 = grind arith

pub served_acting : {p : PassState} {place : Place} {v : World} → KnowsPlace p place
    → Serving p.table.config p.seat (object_for p) place (world_of p) v → IsActing p.table.config v.now p.seat
served_acting {p} {v} k at = acts_there (world_of p) v k.acting at.call

pub served_new : {p : PassState} {place : Place} {v : World} → GoesTo p place → Serving p.table.config p.seat
    (object_for p) place (world_of p) v → is_undecided_new (flight_of v.now p.seat) ≡ true
served_new goes at = ap (λ (f : Flight). is_undecided_new f) at.call ∙ goes.unplaced.new

module _ {p : PassState} {place : Place} (k : KnowsPlace p place) (free : header_at (now_of p).words place.page ≡ 0)
  where
    frees : FitsOnFreePages p.table.config.resident (now_of p).words.pages (object_for p) place
    frees = free_pages_of k free

    -- `mark`
    module _ {bits : ℕ} (are : bits ≡ bits_made (object_for p))
        (marking : (phase_of (now_of p).words == 1) ≡ true) where
      one : phase_of (now_of p).words ≡ 1
      one = eqb-true (phase_of (now_of p).words) 1 marking

      pub mark_may : IsEnabledTo p (Step.Mark place.page bits)
      mark_may =
          subst (λ n. IsEnabledTo p (Step.Mark place.page n)) (sym are) (may_mark_place k.acting place.page
          (bits_made (object_for p)) k.within one (serving_marks k.serving one free))

      own_cells : serves_at (object_for p) place (Step.Mark place.page (bits_made (object_for p))) ≡ true
      own_cells = and_from _ _ (eq-eqb place.page _ refl) (eq-eqb (bits_made (object_for p)) _ refl)

      pub marks_first : {q : PassState} → Acts p (Step.Mark place.page bits) q → HasCarved p place 0 q
      marks_first {q} a =
          reaches_first (λ w. Carving p.table.config p.seat (object_for p) place (world_of p) w 0)
          (subst (λ n. Acts p (Step.Mark place.page n) q) are a) own_cells refl k.caller refl (λ v kept known pages.
          let serving = serving_left k.serving kept in
          let call = acting_has_call known.orderly.flights (served_acting k serving) in
          let some = pages_some (object_for p) k.sized in
          carving_marked serving call (served_new k.goes serving) (ap (λ (x : Steady). x.phase) kept.steady ∙ one)
          (λ d lt. grind (arith, frees)) some (let marks = pages.marks in let within = k.within in omega arith))

    pub marks_none : (phase_of (now_of p).words == 1) ≡ false → HasCarved p place 0 p
    marks_none other =
        reaches_nothing (serves_at (object_for p) place) p
        (λ w. Carving p.table.config p.seat (object_for p) place (world_of p) w 0)
        (carving_unmarked k.serving (none k.goes.unplaced.phase) (λ d lt. frees.free d lt))
      where
        none : IsOutOfStop (now_of p) → phase_of (now_of p).words ≡ 0
        none x0 = grind (arith, eqb-false)

    -- `head`
    module _ {n page header : ℕ} (there : page ≡ place.page + n) (made : header ≡ header_made (object_for p) n)
        (lt : n < pages_made (object_for p)) {q : PassState} (reached : HasCarved p place n q) where
      pub head_may : IsEnabledTo q (Step.Head page header)
      head_may =
          let w : World = left p.table.config q.seen in
          let ends = frees.within in
          let lengths = k.serving.pages in
          subst (λ i. IsEnabledTo q (Step.Head i header)) (sym there) (subst (λ i. IsEnabledTo q (Step.Head
          (place.page + n) i)) (sym made) (subst (λ (x : PassState). IsEnabledTo x (Step.Head (place.page + n)
          (header_made (object_for p) n))) (sym reached.same) (may_carve (served_acting k reached.world.serving)
          (place.page + n) (header_made (object_for p) n) (omega arith) (out_of_stop (now_of p) w.now
          (ap (λ (x : Steady). x.phase) reached.world.serving.steady) k.goes.unplaced.phase)
          (made_is_mapped (object_for p) n k.sized lt) (carving_carves k.sized reached.world lt))))

      pub heads_on : {r : PassState} → Acts q (Step.Head page header) r → HasCarved p place (n + 1) r
      heads_on {r} a =
          let ends = frees.within in
          let lengths = k.serving.pages in
          reaches_still (λ w. Carving p.table.config p.seat (object_for p) place (world_of p) w n)
          (λ w. Carving p.table.config p.seat (object_for p) place (world_of p) w (n + 1)) reached (subst
          (λ i. Acts q (Step.Head (place.page + n) i) r) made (subst (λ i. Acts q (Step.Head i header) r) there a))
          refl refl k.caller refl (λ w v here kept known pages.
          let on = carving_left here kept in
          let call = acting_has_call known.orderly.flights (served_acting k on.serving) in
          carving_more on call (served_new k.goes on.serving) (out_of_stop (now_of p) v.now
          (ap (λ (x : Steady). x.phase) on.serving.steady) k.goes.unplaced.phase) lt (omega arith))

    pub carved_all : {q : PassState} → HasCarved p place (pages_made (object_for p)) q → MayTake p place q
    carved_all reached = reaches_so reached (λ at. ready_carved at)

-- A block is ready.
pub block_ready : {p : PassState} {place : Place} → KnowsPlace p place → header_at (now_of p).words place.page ≢ 0
    → MayTake p place p
block_ready {p} {place} k some =
    reaches_nothing (serves_at (object_for p) place) p
    (IsCellReady p.table.config p.seat (object_for p) place (world_of p)) (record {
      serving = k.serving;
      stand = λ d lt.
          let block = block_of k some in
          let one = small_pages (object_for p) block.small in
          let here : place.page + d ≡ place.page = omega arith in
          let zero : 0 ≡ d = omega arith in
          ap (λ i. header_at (now_of p).words i) here ∙ block.header ∙ ap (λ i. header_made (object_for p) i) zero;
    })
