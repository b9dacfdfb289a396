-- While a cycle marks, each mark on a page that has a header is of a cell.
use Rattle.mk_words.proofs.Below.Laws.Vocabulary.{AreOfPages, Config, Event, GuardPremises, HeaderGoesOn, IsHistory}
use Rattle.mk_words.proofs.Below.Laws.Vocabulary.{IsMarking, IsPlotShown, IsWithinLimits, LayoutStands, List, Placing}
use Rattle.mk_words.proofs.Below.Laws.Vocabulary.{PlotStands, Seat, Step, World, ℕ, all_below, all_below-at, and_parts}
use Rattle.mk_words.proofs.Below.Laws.Vocabulary.{append-nil, append_assoc, arith, cases_lt, cells_under}
use Rattle.mk_words.proofs.Below.Laws.Vocabulary.{earlier_part_is_history, eqb-true, false, get_or_past, has_bit}
use Rattle.mk_words.proofs.Below.Laws.Vocabulary.{has_clean_page, header_at, header_in, header_made, inl, inr, left}
use Rattle.mk_words.proofs.Below.Laws.Vocabulary.{never_behind, no_bit, object_now, pages_some, phase_of, plot_of, refl}
use Rattle.mk_words.proofs.Below.Laws.Vocabulary.{slice_index, subst, sym, true, true≢false, [], ◌&&◌, ◌++◌, ◌+◌, ◌<◌}
use Rattle.mk_words.proofs.Below.Laws.Vocabulary.{◌==◌, ◌∙◌, ◌∷◌, ◌≡◌, ◌≢◌, ◌⊎◌}
use Rattle.mk_words.proofs.{Below.Laws.Phases.{is_phase_step, over_phase, phase_stays}, Below.Laws.Actors.Meets}
use Rattle.mk_words.proofs.Below.Laws.Changes.{headers_kind, is_head}
use Rattle.mk_words.proofs.Below.Laws.FoundHeaders.{head_finds, head_keeps}
use Rattle.mk_words.proofs.{Below.Laws.InvariantHistories.told_to_guard, Below.Laws.KeptGuard.goes_equal}
use Rattle.mk_words.proofs.{Below.Laws.Known.Known, Below.Laws.LastEvents.{comes_last, stands}}
use Rattle.mk_words.proofs.Below.Laws.OthersMoves.{WorldBehind}
use Rattle.mk_words.proofs.Below.Laws.Guard.{Guard, MarksStand}
use Rattle.mk_core.specs.History.{left_from}
use Rattle.mk_marker.proofs.MarkBits.{IsCell, IsToCarve, MarksAreOfCells, made_has, marking_not_four, still_a_cell}
use Rattle.mk_marker.proofs.NewMarks.{new_mark}

-- headers go on while a cycle marks
headers_go_on : {c : Config} {w : World} (seat : Seat) (x : Step) → IsWithinLimits c → Known c w.now
    → AreOfPages c.pages w.now.words → IsMarking w.now.words → GuardPremises c w → Meets c w.now seat x → (p : ℕ)
    → HeaderGoesOn c.pages (header_at w.now.words p) (header_at (WorldBehind c w seat x).now.words p)
headers_go_on {c} {w} seat (Step.Head q n) limits known len early say h p =
    (head_keeps c w.now seat q n len h (head_finds c w seat q n limits known early say h)).headers p
headers_go_on {c} {w} seat x limits known len early say h p = rest x refl
  where
    rest : (y : Step) → is_head y ≡ false → HeaderGoesOn c.pages (header_at w.now.words p)
        (header_at (WorldBehind c w seat y).now.words p)
    rest y no_head = goes_equal c.pages (header_at w.now.words p) (header_at (WorldBehind c w seat y).now.words p)
        (headers_kind c w.now seat y no_head p)

-- after a `begin` nothing is marked
nothing_marked : (c : Config) (w : World) (seat : Seat) → AreOfPages c.pages w.now.words
    → Meets c w.now seat Step.Begin → (p k : ℕ) → has_bit (slice_index w.now.words.marks p) k ≡ true → ⊥
nothing_marked c w seat len h p k is = true≢false (sym is ∙ no_bit (slice_index w.now.words.marks p) k none)
  where
    own : all_below c.pages (has_clean_page w.now.words) ≡ true
    own = (and_parts (all_below c.pages (has_clean_page w.now.words)) (w.now.words.fresh == 0) h.holder).0

    none : slice_index w.now.words.marks p ≡ 0
    none = elim (cases_lt p c.pages) [
      | inl lt ↦
          let clean = all_below-at c.pages p (has_clean_page w.now.words) own lt in
          let a = and_parts ((slice_index w.now.words.marks p == 0) && (slice_index w.now.words.blacks p == 0))
          (slice_index w.now.words.freed p == slice_index w.now.words.snapshot p) clean in
          eqb-true (slice_index w.now.words.marks p) 0
          (and_parts (slice_index w.now.words.marks p == 0) (slice_index w.now.words.blacks p == 0) a.0).0
      | inr past ↦ get_or_past w.now.words.marks p 0 (omega (arith, len.marks))
    ]

cells_kept : {c : Config} {w : World} (seat : Seat) (x : Step) → IsWithinLimits c → Known c w.now
    → AreOfPages c.pages w.now.words → LayoutStands c w → GuardPremises c w → Guard c w.now → IsMarking w.now.words
    → Meets c w.now seat x → MarksAreOfCells c w.now → (p k : ℕ) → has_bit
    (slice_index (WorldBehind c w seat x).now.words.marks p) k ≡ true → IsCell c (WorldBehind c w seat x).now p k
cells_kept {c} {w} seat x limits known len laid say guard early h all p k is =
    let goes = headers_go_on seat x limits known len early say h in
    elim (new_mark w seat limits known laid
    (marking_not_four (phase_of w.now.words) early) x p k h early guard.markers goes is) [
      | inl old ↦ still_a_cell w seat x p k limits known early h (goes p) (all early p k old)
      | inr new ↦ new
    ]

-- One event, whatever it is.
marks_behind : {c : Config} {w : World} (seat : Seat) (x : Step) → IsWithinLimits c → Known c w.now
    → AreOfPages c.pages w.now.words → LayoutStands c w → GuardPremises c w → MarksStand c w.now → Meets c w.now seat x
    → MarksAreOfCells c w.now → MarksAreOfCells c (WorldBehind c w seat x).now
marks_behind {c} {w} seat Step.Begin limits known len laid say g h all early p k is = absurd
    (nothing_marked c w seat len h p k is)
marks_behind {c} {w} seat Step.Want limits known len laid say g h all early p k is =
    let one = eqb-true (phase_of w.now.words) 1 h.phase in
    cells_kept seat Step.Want limits known len laid say (g.guarded (inl one)) (inl one) h all p k is
marks_behind seat Step.Close limits known len laid say g h all early p k is = grind (arith, eqb-true)
marks_behind seat Step.Release limits known len laid say g h all early p k is = grind (arith, eqb-true)
marks_behind seat Step.End limits known len laid say g h all early p k is = grind (arith, eqb-true)
marks_behind {c} {w} seat Step.Over limits known len laid say g h all early p k is =
    let zero = over_phase c w.now seat h in absurd (elim early [ inl e ↦ omega arith | inr e ↦ omega arith ])
marks_behind {c} {w} seat x limits known len laid say g h all early p k is = rest x h refl early is
  where
    rest : (y : Step) → Meets c w.now seat y → is_phase_step y ≡ false → IsMarking (WorldBehind c w seat y).now.words
        → has_bit (slice_index (WorldBehind c w seat y).now.words.marks p) k ≡ true
        → IsCell c (WorldBehind c w seat y).now p k
    rest y hy stays on there =
        let before : IsMarking w.now.words = subst (λ (n : ℕ). (n ≡ 1) ⊎ (n ≡ 2))
        (phase_stays c w.now seat y stays) on in
        cells_kept seat y limits known len laid say (g.guarded before) before hy all p k there

-- and so along each history
along : (c : Config) (done es : List Event) → IsHistory c (done ++ es) → MarksAreOfCells c (left c done).now
    → MarksAreOfCells c (left c (done ++ es)).now
along c done [] h all = subst (λ (xs : List Event). MarksAreOfCells c (left c xs).now) (sym (append-nil done)) all
along c done (e ∷ es) h all =
    let split : done ++ e ∷ es ≡ (done ++ e ∷ []) ++ es = sym (append_assoc done (e ∷ []) es) in
    let parts : IsHistory c ((done ++ e ∷ []) ++ es) = subst (λ (xs : List Event). IsHistory c xs) split h in
    let last = comes_last c done e (earlier_part_is_history c (done ++ e ∷ []) es parts) in
    let st = stands c done last.before in
    let next : MarksAreOfCells c (left c (done ++ e ∷ [])).now = subst (λ (v : World). MarksAreOfCells c v.now)
    (sym last.leaves) (marks_behind e.seat e.step st.known.limits st.known.now st.known.lengths st.all.order.laid
    (told_to_guard c (left c done) (never_behind c done) st.known st.all) st.all.marks last.meets all) in
    subst (λ (xs : List Event). MarksAreOfCells c (left c xs).now) (sym split) (along c (done ++ e ∷ []) es parts next)

none_at_first : (c : Config) → MarksAreOfCells c (left c []).now
unfolding left_from
none_at_first c early p k is = absurd (elim early [ inl e ↦ omega arith | inr e ↦ omega arith ])

-- where the place that is chosen has its first header, that has its cells
to_carve_shown : {c : Config} (w : World) {p k : ℕ} → LayoutStands c w → IsToCarve c w.now p k
    → header_at w.now.words p ≢ 0 → k < cells_under (header_in w.now.words p)
to_carve_shown {c} w {p = p} {k = k} laid t some =
    let plot : IsPlotShown w.now.words.pages t.place.page (object_now c w.now) =
    subst (λ (y : Placing). PlotStands w.now.words.pages (plot_of (object_now c w.now) y)) t.chosen laid.scene.plot in
    let pages = pages_some (object_now c w.now) plot.sized in
    let first : t.place.page + 0 ≡ p = let at = t.page in omega arith in
    elim (plot.headers 0 (omega arith)) [
      | inl free ↦ absurd (some (subst (λ (q : ℕ). header_at w.now.words q ≡ 0) first free))
      | inr made ↦
          made_has (object_now c w.now) (header_at w.now.words p) k plot.sized
          (subst (λ (q : ℕ). header_at w.now.words q ≡ header_made (object_now c w.now) 0) first made) t.cell
    ]

pub marks_are_of_cells : {c : Config} {es : List Event} → IsHistory c es → IsMarking (left c es).now.words
    → (page k : ℕ) → has_bit (slice_index (left c es).now.words.marks page) k ≡ true
    → header_at (left c es).now.words page ≢ 0 → k < cells_under (header_in (left c es).now.words page)
marks_are_of_cells {c} {es} h early page k is some = elim (along c [] es h (none_at_first c) early page k is) [
  | inl lt ↦ lt
  | inr t ↦ to_carve_shown (left c es) (stands c es h).all.order.laid t some
]
