-- Runs are whole, after each event.
use Rattle.mk_laws.proofs.Vocabulary.{Among, Bool, Claim, Config, Empties, Flight, GivesBack, Header, HeadStep, InPlot}
use Rattle.mk_laws.proofs.Vocabulary.{IsLaidOn, ItCarves, ItEmpties, ItGivesBack, ItTakes, ItUnmaps, Later, LayoutScene}
use Rattle.mk_laws.proofs.Vocabulary.{LayoutStands, List, NoPlot, Object, Option, Page, Plot, PlotStands, Plotted, Seat}
use Rattle.mk_laws.proofs.Vocabulary.{ShowsPart, Some, Step, UsedStep, Words, World, ℕ, arith, cases_Bool, cases_eq}
use Rattle.mk_laws.proofs.Vocabulary.{cells_under, false, fewer_bits, flight_of, found, free_page, has_bit, head_on}
use Rattle.mk_laws.proofs.Vocabulary.{head_page, head_page_under, head_step, header_made, header_of, header_on}
use Rattle.mk_laws.proofs.Vocabulary.{heads_run, inl, inr, is_phase, is_small_object, length, length-set, made_shows}
use Rattle.mk_laws.proofs.Vocabulary.{object_now, pages_made, pages_some, plot_of, refl, run_count, set_by, shows_on}
use Rattle.mk_laws.proofs.Vocabulary.{small_heads_none, stands, subst, suc, sym, true, true≢false, used_on, used_step}
use Rattle.mk_laws.proofs.{Vocabulary.{zero, ◌+◌, ◌-◌, ◌<◌, ◌∙◌, ◌≡◌, ◌≢◌, ◌⊎◌}, Basics.{Before, Meets, WorldBehind}}
use Rattle.mk_laws.proofs.Basics.{claimed, headed_other, is_releasing_behind, none_set, page_within, reg_leaves_ground}
use Rattle.mk_laws.proofs.Basics.{tally_ground, used_header, with_header_on, with_used_on, zero_where_none}
use Rattle.mk_laws.proofs.{Releasing.{headed_here, headed_used}, Behind.phase_kind, Unmapping.{part_count, small_count}}
use Rattle.mk_core.proofs.ObjectHeaders.{later_part}
use Rattle.mk_laws.proofs.LaterPages.{HasLaterPage, HaveWholeRuns, RunIsWhole, RunsAreWhole}

-- While nothing is on its way, each page with a header is one of a claim's.

-- a bit below a bound, or none
pub find_bit : (n bound : ℕ) → ((k : ℕ) × (has_bit n k ≡ true)) ⊎ ((k : ℕ) → k < bound → has_bit n k ≡ false)
find_bit n zero = inr (λ k lt. absurd (omega arith))
find_bit n (suc b) = elim (cases_Bool (has_bit n b)) [
  | inl is ↦ inl (b, is)
  | inr out ↦ elim (find_bit n b) [
    | inl found ↦ inl found
    | inr none ↦ inr (λ k lt. elim (cases_eq k b) [ inl e ↦ rw e out | inr ne ↦ none k (omega arith) ])
  ]
]

head_cases : (x : Option Header) (p : ℕ) → (head_page_under x p ≡ p) ⊎ ((d : ℕ) × ((m : Bool) × (x ≡ Some (Later d m))))
head_cases x p = grind arith

-- the page is one of a claim's
pub record IsOn (sc : LayoutScene) (p : ℕ) : Type 0 where
  pub claim : Claim
  pub among : Among claim sc.claims
  pub distance : ℕ
  pub near : distance < pages_made claim.object
  pub at : claim.page + distance ≡ p

pub on_claim : {sc : LayoutScene} (p : ℕ) → IsLaidOn sc → sc.plot ≡ NoPlot → sc.releasing ≡ false
    → header_on sc.pages p ≢ 0 → IsOn sc p
on_claim {sc} p laid none off some =
    elim (find_bit (used_on sc.pages (head_on sc.pages p)) (cells_under (shows_on sc.pages (head_on sc.pages p)))) [
      | inr no_bits ↦
          let empty : used_on sc.pages (head_on sc.pages p) ≡ 0 = zero_where_none (used_on sc.pages (head_on sc.pages
          p)) (λ k h. let t = laid.used (head_on sc.pages p) k h in true≢false (sym h ∙ no_bits k t.0)) in
          absurd (elim (laid.occupied p some empty) [ inl on ↦ true≢false (sym on ∙ off) | inr here ↦ rw none at here ])
      | inl (k, bit) ↦ elim ((laid.used (head_on sc.pages p) k bit).1) [
        | inl o ↦ elim (head_cases (shows_on sc.pages p) p) [
          | inl own ↦
              let page = o.page in
              let some = pages_some o.claim.object (laid.shown o.claim o.among).sized in
              record { claim = o.claim; among = o.among; distance = 0; near = omega arith; at = omega arith }
          | inr (d, (m, is)) ↦ later o.claim o.among o.page d m is
        ]
        | inr r ↦ absurd (true≢false (sym r ∙ rw off))
      ]
    ]
  where
    -- from its head, if the page is a later one
    later : (x : Claim) → Among x sc.claims → x.page ≡ head_on sc.pages p → (d : ℕ) (m : Bool)
        → shows_on sc.pages p ≡ Some (Later d m) → IsOn sc p
    later x ix page d m is =
        let l = laid.later p d m is in
        let low = l.0 in
        let shown = laid.shown x ix in
        let back : x.page ≡ p - d = page ∙ rw is in
        let zero : x.page + 0 ≡ p - d = omega arith in
        let some = pages_some x.object shown.sized in
        let part : ShowsPart x.object 0 (shows_on sc.pages (p - d)) =
        rw zero at (claimed sc.pages x 0 shown (omega arith)) in
        let less : d < run_count (shows_on sc.pages (p - d)) =
        elim l.1 [ inl less ↦ less | inr lost ↦ absurd (true≢false (sym lost.0 ∙ off)) ] in
        elim (cases_Bool (is_small_object x.object)) [
          | inl s ↦ let none = small_count part s in absurd (omega arith)
          | inr large ↦
              let count = part_count part large in
              record { claim = x; among = ix; distance = d; near = omega arith; at = omega arith }
        ]

-- what heads a run is its own head
own_head : (x : Option Header) (p : ℕ) → heads_run x ≡ true → head_page_under x p ≡ p
own_head x p h = grind arith

-- and shows an object's first page
heads_first : {o : Object} {d : ℕ} {x : Option Header} → ShowsPart o d x → heads_run x ≡ true → d ≡ 0
heads_first part h = grind (arith, later_part)

heads_large : {o : Object} {x : Option Header} → ShowsPart o 0 x → heads_run x ≡ true → is_small_object o ≡ false
heads_large part h = grind (arith, small_heads_none)

later_at : (pages : List Page) (releasing : Bool) (plot : Plot) (p q d : ℕ) (x : Option Header) → q ≡ p
    → shows_on pages (q + d) ≡ x → {large : Type 0}
    → (mapped : Bool) × (x ≡ Some (Later d mapped)) × large → HasLaterPage pages releasing plot p d
later_at pages releasing plot p q d x page at (mapped, is, large) = inl (mapped, rw (← page) (at ∙ is))

-- from a claim at its head
claimed_run : {s : LayoutScene} (x : Claim) (p : ℕ) → IsLaidOn s → Among x s.claims → x.page ≡ p
    → heads_run (shows_on s.pages p) ≡ true → RunIsWhole s.pages s.releasing s.plot p
claimed_run {s} x p laid ix page h =
    let shown = laid.shown x ix in
    let some = pages_some x.object shown.sized in
    let zero : x.page + 0 ≡ p = omega arith in
    let part : ShowsPart x.object 0 (shows_on s.pages p) = rw zero at (claimed s.pages x 0 shown (omega arith)) in
    let count = part_count part (heads_large part h) in
    let within = shown.within in
    record {
      within = omega arith;
      later = λ d some lt.
          let near : d < pages_made x.object = omega arith in
          later_at _ s.releasing s.plot p _ d _ page refl (later_part x.object d _ (claimed _ x d shown near) some);
    }

-- from a plot, whose first page it is
plotted_run : (s : LayoutScene) (plot : Plot) (p : ℕ) → s.plot ≡ plot → PlotStands s.pages plot → InPlot plot p
    → heads_run (shows_on s.pages p) ≡ true → RunIsWhole s.pages s.releasing plot p
plotted_run s NoPlot p is stands here h = absurd here
plotted_run s (Plotted first o) p is stands here h =
    let at : first + (p - first) ≡ p = omega arith in
    by (subst (λ q. (header_on s.pages q ≡ 0) ⊎ (header_on s.pages q ≡ header_made o (p - first))) at
    (stands.headers (p - first) (omega arith)))
  where
    made : header_on s.pages p ≡ header_made o (p - first) → RunIsWhole s.pages s.releasing (Plotted first o) p
    made e =
        let low = here.0 in
        let high = here.1 in
        let part : ShowsPart o (p - first) (shows_on s.pages p) = grind (arith, made_shows) in
        let none = heads_first part h in
        let page : p ≡ first = omega arith in
        let front : ShowsPart o 0 (shows_on s.pages p) = rw none at part in
        let count = part_count front (heads_large front h) in
        let within = stands.within in
        let zero : first + 0 ≡ p = omega arith in
        let some = pages_some o stands.sized in
        record {
          within = omega arith;
          later = λ d some_d lt.
              let near : d < pages_made o = omega arith in
              elim (stands.headers d near) [
                | inl z ↦ inr (rw page z, rw (← zero) (stands.used 0 (omega arith)), inr here)
                | inr m ↦ later_at s.pages s.releasing (Plotted first o) p first d _ (sym page)
                    (rw m) (later_part o d _ (made_shows o d stands.sized near) some_d)
              ];
        }

    by : (header_on s.pages p ≡ 0) ⊎ (header_on s.pages p ≡ header_made o (p - first))
        → RunIsWhole s.pages s.releasing (Plotted first o) p
    by (inl z) = absurd (true≢false (sym h ∙ rw z))
    by (inr e) = made e

-- While the phase isn't releasing, they are whole in what is laid out.
pub whole_quiet : {s : LayoutScene} → IsLaidOn s → s.releasing ≡ false → HaveWholeRuns s.pages s.releasing s.plot
whole_quiet {s} laid off p h = elim (find_bit (used_on s.pages p) (cells_under (shows_on s.pages p))) [
  | inr none ↦
      let empty : used_on s.pages p ≡ 0 =
      zero_where_none (used_on s.pages p) (λ k bit. let t = laid.used p k bit in true≢false (sym bit ∙ none k t.0)) in
      let head : used_on s.pages (head_on s.pages p) ≡ 0 = rw (own_head (shows_on s.pages p) p h) empty in
      elim (laid.occupied p (λ z. true≢false (sym h ∙ rw z)) head) [
        | inl on ↦ absurd (true≢false (sym on ∙ off))
        | inr here ↦ plotted_run s s.plot p refl laid.plot here h
      ]
  | inl (k, bit) ↦ elim (laid.used p k bit).1 [
    | inr r ↦ absurd (true≢false (sym r ∙ rw off))
    | inl o ↦ claimed_run o.claim p laid o.among o.page h
  ]
]

-- `head` (d)
emptied : {w : Words} (plot : Plot) {p n : ℕ} → p < length w.pages → Empties w p n → HaveWholeRuns w.pages true plot
    → HaveWholeRuns (with_header_on w.pages p n) true plot
emptied {w} plot {p = p} {n = n} lt x whole q h = elim (cases_eq q p) [
  | inl e ↦ absurd (true≢false (sym h ∙ rw e (rw (headed_here w.pages p n lt) (rw x.is))))
  | inr ne ↦ other ne
]
  where
    other : q ≢ p → RunIsWhole (with_header_on w.pages p n) true plot q
    other ne =
        let same : shows_on (with_header_on w.pages p n) q ≡ shows_on w.pages q = rw (headed_other w.pages p n q ne) in
        let r = whole q (rw (← same) h) in
        let count : run_count (shows_on (with_header_on w.pages p n) q) ≡ run_count (shows_on w.pages q) = rw same in
        let len = length-set w.pages p (record { header = n; used = used_on w.pages p }) in
        let within = r.within in
        record {
          within = omega arith;
          later = λ d some near. page d (r.later d some (omega arith));
        }
      where
        unused : (d : ℕ) → q + d ≡ p → HasLaterPage w.pages true plot q d → used_on w.pages q ≡ 0
        unused d at (inr free) = free.1
        unused d at (inl is) =
            let head : head_page w p ≡ q = rw (← at) (rw is.1 (let back : q + d - d ≡ q = omega arith in back)) in
            rw (← head) x.unused

        page : (d : ℕ) → HasLaterPage w.pages true plot q d → HasLaterPage (with_header_on w.pages p n) true plot q d
        page d l = set_by (λ (y : Page). ((m : Bool) × (header_of y.header ≡ Some (Later d m))) ⊎ ((y.header ≡ 0)
            × (used_on (with_header_on w.pages p n) q ≡ 0) × ((true ≡ true) ⊎ InPlot plot q))) w.pages p (q + d) _
            free_page (λ at. inr (x.is, headed_used w.pages p n q lt ∙ unused d at l, inl refl))
            (elim l [ inl is ↦ inl is | inr free ↦ inr (free.0, headed_used w.pages p n q lt ∙ free.1, free.2) ])

-- `used` (b)
given_back : {w : Words} (plot : Plot) {p n : ℕ} → p < length w.pages → GivesBack w p n
    → HaveWholeRuns w.pages true plot → HaveWholeRuns (with_used_on w.pages p n) true plot
given_back {w} plot {p = p} {n = n} lt x whole q h =
    let same : shows_on (with_used_on w.pages p n) q ≡ shows_on w.pages q = rw (used_header w.pages p n q lt) in
    let r = whole q (rw (← same) h) in
    let count : run_count (shows_on (with_used_on w.pages p n) q) ≡ run_count (shows_on w.pages q) = rw same in
    let len = length-set w.pages p (record { header = header_on w.pages p; used = n }) in
    let within = r.within in
    record { within = omega arith; later = λ d some near. page d (r.later d some (omega arith)) }
  where
    still : used_on w.pages q ≡ 0 → used_on (with_used_on w.pages p n) q ≡ 0
    still z = set_by (λ (y : Page). y.used ≡ 0) w.pages p q _ free_page
        (λ e. zero_where_none n (λ k bit. none_set _ k (rw (← e) z) (fewer_bits n _ k x.fewer bit))) z

    page : (d : ℕ) → HasLaterPage w.pages true plot q d → HasLaterPage (with_used_on w.pages p n) true plot q d
    page d h = grind (arith, used_header, still)

head_whole : {c : Config} (w : World) {f : Flight} (plot : Plot) {p n : ℕ} → p < length w.now.words.pages
    → is_phase w.now.words 4 ≡ true → HeadStep c w.now f p n
    → HaveWholeRuns w.now.words.pages true plot → HaveWholeRuns (with_header_on w.now.words.pages p n) true plot
head_whole w plot lt four (ItCarves off x) whole = absurd (true≢false (sym four ∙ off))
head_whole w plot lt four (ItUnmaps off x) whole = absurd (true≢false (sym four ∙ off))
head_whole w plot {p = p} {n = n} lt four (ItEmpties on x) whole = emptied plot lt x whole

used_whole : (c : Config) (w : World) (f : Flight) (plot : Plot) (p n : ℕ) → p < length w.now.words.pages
    → is_phase w.now.words 4 ≡ true → UsedStep c w.now f p n
    → HaveWholeRuns w.now.words.pages true plot → HaveWholeRuns (with_used_on w.now.words.pages p n) true plot
used_whole c w f plot p n lt four (ItTakes off once x) whole = absurd (true≢false (sym four ∙ off))
used_whole c w f plot p n lt four (ItGivesBack on x) whole = given_back plot lt x whole

-- what each kind does while the phase is releasing, and as it becomes so
whole_by_kind : {c : Config} {w : World} (seat : Seat) (x : Step) (plot : Plot) → Before c w → Meets c w.now seat x
    → is_releasing_behind x (is_phase w.now.words 4) ≡ true
    → HaveWholeRuns w.now.words.pages true plot → HaveWholeRuns (WorldBehind c w seat x).now.words.pages true plot
whole_by_kind {c} {w} seat (Step.Head p n) plot b h on whole =
    head_whole w plot (page_within c w p b h.range) on (head_step c w.now (flight_of w.now seat) p n h.holder) whole
whole_by_kind {c} {w} seat (Step.Used p n) plot b h on whole =
    used_whole c w (flight_of w.now seat) plot p n (page_within c w p b h.range) on
    (used_step c w.now _ p n h.holder) whole
whole_by_kind {c} {w} seat Step.Reg plot b h on whole = rw (reg_leaves_ground c w seat).pages whole
whole_by_kind {w} seat (Step.Tally n v) plot b h on whole = rw (tally_ground w.now.words n v).pages whole
whole_by_kind seat _ plot b h on whole = whole

replotted : (pages : List Page) (plot other : Plot) (before : Bool) → HaveWholeRuns pages before plot
    → HaveWholeRuns pages true other
replotted pages plot other before whole p h = grind arith

pub whole_behind : {c : Config} {w : World} (seat : Seat) (x : Step) → Before c w → Meets c w.now seat x
    → RunsAreWhole c w → LayoutStands c (WorldBehind c w seat x) → RunsAreWhole c (WorldBehind c w seat x)
whole_behind {c} {w} seat x b h whole laid =
    let v : World = WorldBehind c w seat x in
    let plot : Plot = plot_of (object_now c v.now) v.now.seats.holding.placing in
    elim (cases_Bool (is_releasing_behind x (is_phase w.now.words 4))) [
      | inl on ↦ rw (phase_kind c w seat x h ∙ on) (whole_by_kind seat x plot b h on (replotted _ _ plot _ whole))
      | inr off ↦ whole_quiet laid.scene (phase_kind c w seat x h ∙ off)
    ]
