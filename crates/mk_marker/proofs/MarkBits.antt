-- What an event leaves of the marks while a cycle marks: each is of a cell, or of one that a New is to carve.
use Rattle.mk_words.proofs.Below.Laws.Vocabulary.{Bool, Chosen, Config, HeaderGoesOn, Holding, IsMarking, IsPlaced}
use Rattle.mk_words.proofs.Below.Laws.Vocabulary.{IsSized, IsWithinLimits, ItGivesBack, ItTakes, Moment, Object, Place}
use Rattle.mk_words.proofs.Below.Laws.Vocabulary.{Placing, Seat, Stage, Step, Unplaced, UsedStep, World, ℕ}
use Rattle.mk_words.proofs.Below.Laws.Vocabulary.{and_parts, ap, arith, cells_made, cells_under, eqb-true}
use Rattle.mk_words.proofs.Below.Laws.Vocabulary.{false, flight_of, has_bit, has_place, header_at, header_in}
use Rattle.mk_words.proofs.Below.Laws.Vocabulary.{header_made, header_of, held_by_pages, if◌then◌else◌, inl, inr}
use Rattle.mk_words.proofs.Below.Laws.Vocabulary.{is_decided, is_run_gone, made_shows, ne_eqb, nothing_done}
use Rattle.mk_words.proofs.Below.Laws.Vocabulary.{object_made, object_now, pages_some, part_cells, phase_of, placed_now}
use Rattle.mk_words.proofs.Below.Laws.Vocabulary.{slice_index, subst, sym, true, true≢false, undecided_new, used_step}
use Rattle.mk_words.proofs.Below.Laws.Vocabulary.{◌&&◌, ◌+◌, ◌<◌, ◌==◌, ◌∙◌, ◌≡◌, ◌⊎◌}
use Rattle.mk_words.proofs.Below.Laws.LayoutHolders.{giver_has_turn, holding_object, made_sized, new_has_turn}
use Rattle.mk_words.proofs.{Below.Laws.LayoutHolders.placed_undecided, Below.Laws.Actors.Meets}
use Rattle.mk_words.proofs.{Below.Laws.Behind.object_kind, Below.Laws.Known.Known, Below.Laws.OthersMoves.WorldBehind}

-- the cell of a place whose first page is to be carved
pub record IsToCarve (c : Config) (m : Moment) (p k : ℕ) : Type 0 where
  pub place : Place
  pub chosen : m.seats.holding.placing ≡ Chosen place
  pub page : place.page ≡ p
  pub cell : k < cells_made (object_now c m)

abbrev pub IsCell : Config → Moment → ℕ → ℕ → Type 0
IsCell c m p k = (k < cells_under (header_in m.words p)) ⊎ IsToCarve c m p k

-- while a cycle marks, each mark is of one of these
abbrev pub MarksAreOfCells : Config → Moment → Type 0
MarksAreOfCells c m = IsMarking m.words → (p k : ℕ) → has_bit (slice_index m.words.marks p) k ≡ true → IsCell c m p k

-- The header that is made there has the cell.
pub made_has : (o : Object) (header k : ℕ) → IsSized o → header ≡ header_made o 0 → k < cells_made o
    → k < cells_under (header_of header)
made_has o header k sized is lt =
    let some = pages_some o sized in
    let cells = part_cells o (header_of (header_made o 0)) (made_shows o 0 sized (omega arith)) in
    subst (λ (n : ℕ). k < cells_under (header_of n)) (sym is) (subst (λ (n : ℕ). k < n) (sym cells) lt)

-- What a step leaves of a place that is chosen: it stays so, or its headers stand.

either : (b : Bool) (h : Holding) (place : Place) → h.placing ≡ Chosen place → (b ≡ true → h.placing ≡ Unplaced)
    → (if b then nothing_done else h).placing ≡ Chosen place
either true h place is none = grind arith
either false h place is none = is

undecided : (s : Stage) → s ≡ Stage.Turn → is_decided s ≡ true → ⊥
undecided Stage.Turn at h = cc
undecided _ at h = cc

pub marking_not_four : (n : ℕ) → (n ≡ 1) ⊎ (n ≡ 2) → (n == 4) ≡ false
marking_not_four n early = ne_eqb n 4 (λ e. elim early [ inl x ↦ omega arith | inr x ↦ omega arith ])

abbrev pub StaysChosen : Config → World → Seat → Place → Step → Type 0
StaysChosen c w seat place x =
    ((WorldBehind c w seat x).now.seats.holding.placing ≡ Chosen place)
    ⊎ ((header_at w.now.words place.page ≡ header_made (object_now c w.now) 0) × IsSized (object_now c w.now))

module _ {c : Config} (w : World) (seat : Seat) (limits : IsWithinLimits c) (known : Known c w.now)
    (early : IsMarking w.now.words) (place : Place) (is : w.now.seats.holding.placing ≡ Chosen place) where
  takes : {p n : ℕ} → Meets c w.now seat (Step.Used p n) → UsedStep c w.now (flight_of w.now seat) p n
      → StaysChosen c w seat place (Step.Used p n)
  takes h (ItTakes four once t) =
      let now = placed_now c w.now (flight_of w.now seat) t.place t.there in
      let o : Object = object_made c (flight_of w.now seat).op in
      let sized : IsSized o = made_sized c w.now seat limits known now.new in
      let same : object_now c w.now ≡ o = holding_object c w.now seat known
      (new_has_turn c w.now seat h.seat now.new) in
      let there : t.place ≡ place = by w.now.seats.holding.placing is now.placed in
      let some = pages_some o sized in
      let stands : header_at w.now.words (t.place.page + 0) ≡ header_made o 0 = t.taken.headers 0 (omega arith) in
      let first : t.place.page + 0 ≡ place.page = let e = ap (λ (x : Place). x.page) there in omega arith in
      inr (
        subst (λ (y : Object). header_at w.now.words place.page ≡ header_made y 0) (sym same)
            (subst (λ (q : ℕ). header_at w.now.words q ≡ header_made o 0) first stands),
        subst (λ (y : Object). IsSized y) (sym same) sized,
      )
    where
      by : (x : Placing) → x ≡ Chosen place → IsPlaced c.resident w.now.words.pages
          (object_made c (flight_of w.now seat).op) t.place x → t.place ≡ place
      by x0 e x4 = grind arith
  takes h (ItGivesBack four g) = absurd (true≢false (sym four ∙ marking_not_four (phase_of w.now.words) early))

  pub stays_chosen : (x : Step) → Meets c w.now seat x → StaysChosen c w seat place x
  stays_chosen (Step.Take o) h = grind (arith, either, eqb-true)
  stays_chosen Step.Give h = absurd (let t = giver_has_turn c w.now seat known h in
      let new = placed_undecided c w.now seat known t (ap (λ (x : Placing). has_place x) is) in
      let decided = is_decided (flight_of w.now seat).stage in
      let gone = is_run_gone w.now.words w.now.seats.holding.freed in
      let held = w.now.words.held == held_by_pages w.now.words in
      let a = and_parts (decided && gone && held) (w.now.words.fresh == w.now.fresh_words) h.holder in
      let b = and_parts (decided && gone) held a.0 in
      let d = and_parts decided gone b.0 in
      undecided (flight_of w.now seat).stage (undecided_new (flight_of w.now seat) new).stage d.0)
  stays_chosen (Step.Head p n) h = grind arith
  stays_chosen (Step.Used p n) h = takes h (used_step c w.now (flight_of w.now seat) p n h.holder)
  stays_chosen Step.Grant h = grind arith
  stays_chosen (Step.Mark p n) h = grind arith
  stays_chosen _ h = inl is

-- So a mark that was of a cell is of one after a step: headers go on.
pub still_a_cell : {c : Config} (w : World) (seat : Seat) (x : Step) (p k : ℕ) → IsWithinLimits c → Known c w.now
    → IsMarking w.now.words → Meets c w.now seat x → HeaderGoesOn c.pages (header_at w.now.words p)
    (header_at (WorldBehind c w seat x).now.words p) → IsCell c w.now p k → IsCell c (WorldBehind c w seat x).now p k
still_a_cell {c} w seat x p k limits known early h goes is = elim is [
  | inl lt ↦ inl (onward lt)
  | inr t ↦ elim (stays_chosen w seat limits known early t.place t.chosen x h) [
    | inl still ↦
        let same : object_now c (WorldBehind c w seat x).now ≡ object_now c w.now = object_kind c w seat x known h
        (ap (λ (y : Placing). has_place y) still) in
        inr (record {
          place = t.place;
          chosen = still;
          page = t.page;
          cell = subst (λ (o : Object). k < cells_made o) (sym same) t.cell;
        })
    | inr stands ↦
        inl (onward (subst (λ (q : ℕ). k < cells_under (header_in w.now.words q)) t.page
        (made_has (object_now c w.now) (header_at w.now.words t.place.page) k stands.1 stands.0 t.cell)))
  ]
]
  where
    onward : k < cells_under (header_in w.now.words p)
        → k < cells_under (header_in (WorldBehind c w seat x).now.words p)
    onward lt = grind arith
