-- The steps of a New and of a Free on the terrain: `head`, `used`, `mark`.
use Rattle.mk_laws.proofs.Vocabulary.{Among, AsChosen, AsUsed, Bool, ByFit, Chosen, Claim, Config, Empties, GivesBack}
use Rattle.mk_laws.proofs.Vocabulary.{Granted, Ground, HasLayout, InPlot, IsClaimedRun, IsLaidOn, IsNextHeader}
use Rattle.mk_laws.proofs.Vocabulary.{IsPlaced, IsPlotShown, IsSized, LayoutScene, List, Object, Option, Place, Placing}
use Rattle.mk_laws.proofs.Vocabulary.{Plotted, RunPages, RunStands, Some, Unplaced, Used, World, ℕ, ap, append-nil}
use Rattle.mk_laws.proofs.Vocabulary.{arith, cells_made, chosen, claims_of, claims_on, claims_placed, false, fewer_bits}
use Rattle.mk_laws.proofs.Vocabulary.{ground_of, header_at, header_made, inl, inr, is_released_in, is_used_once}
use Rattle.mk_laws.proofs.Vocabulary.{layout_scene_of, length, not, pages_made, pages_some, place_claim, plot_of, refl}
use Rattle.mk_laws.proofs.Vocabulary.{small_pages, subst, sym, true, unmapped_header, [], ◌++◌, ◌+◌, ◌-◌, ◌<◌, ◌∙◌, ◌∷◌}
use Rattle.mk_laws.proofs.{Vocabulary.{◌≡◌, ◌≢◌, ◌≤◌, ◌⊎◌}, Placing.{layout_carved, layout_chosen, layout_taken}}
use Rattle.mk_laws.proofs.Releasing.{layout_emptied, layout_given_back, with_header_on, with_used_on}
use Rattle.mk_laws.proofs.{Fits.{FitsInBlock, FitsOnFreePages, fits}, Unmapping.layout_page_unmapped}
use Rattle.mk_core.proofs.{PageSteps.Unmaps, ServingSteps.IsCellTaken, Sizes.cells_some}
pub use Rattle.mk_laws.proofs.Placing.{among_back, among_front, among_parts, apart_across, apart_joined, apart_left}
pub use Rattle.mk_laws.proofs.Placing.{apart_right}

-- a terrain that is laid out, with the marks of this world
abbrev pub Laid : Config → Object → Bool → World → Ground → Type 0
Laid c o releasing w t = HasLayout c o releasing w.now.words.marks t

-- with another placing that is equal to this one
placed_as : (c : Config) (o : Object) (releasing : Bool) (w : World) (t : Ground) (placing : Placing)
    → t.placing ≡ placing → Laid c o releasing w t → Laid c o releasing w (record t { placing = placing })
placed_as c o releasing w t placing is st = rw is at st

-- the claim of an allocation is one of the terrain's
pub own_claim : (c : Config) (o : Object) (t : Ground) (x : Claim) → Among x (claims_of c t.run t.allocations)
    → Among x (claims_on c o t)
own_claim c o t x i = among_front _ _ x i

pub placed_claim : (c : Config) (o : Object) (t : Ground) (x : Claim) → Among x (claims_placed o t.placing)
    → Among x (claims_on c o t)
placed_claim c o t x i = among_back _ _ x i

-- `head` (d): a page with nothing on it is free
pub head_empties : (c : Config) (o : Object) (w : World) {p n : ℕ} → p < length w.now.words.pages
    → Laid c o true w (ground_of w) → Empties w.now.words p n
    → Laid c o true w (record (ground_of w) { pages = with_header_on w.now.words.pages p n })
head_empties c o w {p = p} lt st h = record {
  scene = rw h.is (layout_emptied p st.scene lt refl h.unused);
  gone = st.gone;
  first = st.first;
  cells = st.cells;
}

-- `head` (c): a page of the run that the call freed is unmapped
pub head_unmaps : (c : Config) (o : Object) (releasing : Bool) (w : World) {p n : ℕ}
    → Laid c o releasing w (ground_of w) → Unmaps w.now.words w.now.seats.holding.freed p n
    → Laid c o releasing w (record (ground_of w) { pages = with_header_on w.now.words.pages p n })
head_unmaps c o releasing w {p = p} {n = n} st h =
    let x : IsClaimedRun (claims_of c w.now.seats.holding.freed w.allocations) h.run =
    subst (λ (r : Option RunPages). RunStands (claims_of c w.now.seats.holding.freed w.allocations) r) h.there st.gone
    in
    let next = h.next in
    let at : x.claim.page + (p - h.run.page) ≡ p = omega arith in
    let value : unmapped_header (pages_made x.claim.object) (p - h.run.page) ≡ n = rw x.count (sym next.is) in
    record {
      scene = subst (λ q. IsLaidOn (layout_scene_of c o releasing w.now.words.marks
          (record (ground_of w) { pages = with_header_on w.now.words.pages q n }))) at (rw value at
          (layout_page_unmapped (layout_scene_of c o releasing w.now.words.marks (ground_of w)) x.claim
          (p - h.run.page) st.scene (own_claim c o (ground_of w) x.claim x.among) x.mode x.large (omega arith)));
      gone = st.gone;
      first = st.first;
      cells = st.cells;
    }

-- The place is chosen, if its pages are free.
chosen_free : (c : Config) {o : Object} (releasing : Bool) (w : World) {place : Place}
    → Laid c o releasing w (ground_of w) → w.now.seats.holding.placing ≡ Unplaced → IsSized o
    → FitsOnFreePages c.resident w.now.words.pages o place
    → Laid c o releasing w (record (ground_of w) { placing = Chosen place })
chosen_free c {o = o} releasing w {place = place} st is sized fit = record {
  scene = layout_chosen place.page o (placed_as c o releasing w _ Unplaced is st).scene refl sized fit.within fit.free;
  gone = st.gone;
  first = fit.index;
  cells = st.cells;
}

-- `head` (b), if the place is chosen
carved_on : (c : Config) (o : Object) (w : World) (place : Place) {p n : ℕ}
    → Laid c o false w (record (ground_of w) { placing = Chosen place })
    → IsNextHeader w.now.words place.page (pages_made o) (header_made o) p n
    → Laid c o false w (record (ground_of w) { pages = with_header_on w.now.words.pages p n; placing = Chosen place })
carved_on c o w place {p = p} {n = n} st next =
    let at : place.page + (p - place.page) ≡ p = omega arith in
    record {
      scene = subst (λ q. IsLaidOn (layout_scene_of c o false w.now.words.marks
          (record (ground_of w) { pages = with_header_on w.now.words.pages q n; placing = Chosen place }))) at
          (rw next.is (layout_carved place.page o (p - place.page) st.scene refl refl (grind arith)));
      gone = st.gone;
      first = st.first;
      cells = st.cells;
    }

-- How the place of a New stands in a terrain: its pages are free, or it is chosen, or its headers stand.
pub data PlacedFor (c : Config) (o : Object) (w : World) (place : Place) (placing : Placing) : Type 0 where
  OnFree : placing ≡ Unplaced → FitsOnFreePages c.resident w.now.words.pages o place → PlacedFor c o w place placing
  OnChosen : placing ≡ Chosen place → PlacedFor c o w place placing
  Stands : ((d : ℕ) → d < pages_made o → header_at w.now.words (place.page + d) ≡ header_made o d)
      → ((placing ≡ Unplaced) × FitsInBlock w.now.words.pages o place) ⊎ (placing ≡ Used place)
      → PlacedFor c o w place placing

pub placed_for : (c : Config) {o : Object} (releasing : Bool) (w : World) {place : Place} → Laid c o releasing w
    (ground_of w) → IsSized o → IsPlaced c.resident w.now.words.pages o place w.now.seats.holding.placing
    → PlacedFor c o w place w.now.seats.holding.placing
placed_for c {o = o} releasing w {place = place} st sized placed = by w.now.seats.holding.placing refl placed
  where
    by : (placing : Placing) → w.now.seats.holding.placing ≡ placing
        → IsPlaced c.resident w.now.words.pages o place placing → PlacedFor c o w place placing
    by Unplaced is (ByFit at) = elim (fits c.resident w.now.words.pages o place sized at) [
      | inl fit ↦ OnFree refl fit
      | inr fit ↦ Stands (λ d lt. let first : d ≡ 0 = omega (arith, small_pages o fit.small) in
          let here : place.page + 0 ≡ place.page = omega arith in rw first (rw here fit.header)) (inl (refl, fit))
    ]
    by (Chosen place) is AsChosen = OnChosen refl
    by (Used place) is AsUsed = Stands (st.scene.shown (place_claim o place)
        (placed_claim c o (ground_of w) _ (rw is (inl refl)))).headers (inr refl)
    by Granted is out = elim out [ ]

-- A page of it whose header stands doesn't get it again.
pub not_again : (o : Object) (w : World) (place : Place) {p n : ℕ}
    → ((d : ℕ) → d < pages_made o → header_at w.now.words (place.page + d) ≡ header_made o d)
    → IsNextHeader w.now.words place.page (pages_made o) (header_made o) p n → ⊥
not_again o w place {p = p} headers next = grind arith

-- `head` (a) and (b): a page of the place gets its header
pub head_carves : (c : Config) {o : Object} (w : World) {place : Place} {p n : ℕ} → Laid c o false w (ground_of w)
    → IsSized o → IsPlaced c.resident w.now.words.pages o place w.now.seats.holding.placing
    → IsNextHeader w.now.words place.page (pages_made o) (header_made o) p n → Laid c o false w (record (ground_of w)
    { pages = with_header_on w.now.words.pages p n; placing = chosen w.now.seats.holding.placing (Some place) })
head_carves c {o = o} w {place = place} {p = p} {n = n} st sized placed next =
    elim (placed_for c false w st sized placed) [
      | OnFree is fit ↦ rw is (carved_on c o w place (chosen_free c false w st is sized fit) next)
      | OnChosen is ↦ rw is (carved_on c o w place (placed_as c o false w (ground_of w) (Chosen place) is st) next)
      | Stands headers _ ↦ absurd (not_again o w place headers next)
    ]

-- `mark` (b): the place is chosen before its first header is stored
pub mark_places : (c : Config) {o : Object} (releasing : Bool) (w : World) {place : Place} → Laid c o releasing w
    (ground_of w) → IsSized o → IsPlaced c.resident w.now.words.pages o place w.now.seats.holding.placing
    → header_at w.now.words place.page ≡ 0 → header_made o 0 ≢ 0
    → Laid c o releasing w (record (ground_of w) { placing = chosen w.now.seats.holding.placing (Some place) })
mark_places c {o = o} releasing w {place = place} st sized placed free made =
    elim (placed_for c releasing w st sized placed) [
      | OnFree is fit ↦ rw is (chosen_free c releasing w st is sized fit)
      | OnChosen is ↦ rw is (placed_as c o releasing w (ground_of w) (Chosen place) is st)
      | Stands headers _ ↦
          let here : place.page + 0 ≡ place.page = omega arith in
          absurd (made (sym (headers 0 (pages_some o sized)) ∙ ap (λ q. header_at w.now.words q) here ∙ free))
    ]

-- `used` (a): the cell of the place is taken
no_claims : (xs : List Claim) (x : Claim) → (xs ++ []) ++ x ∷ [] ≡ xs ++ x ∷ []
no_claims xs x = rw (append-nil xs)

taken_at : (c : Config) {o : Object} (releasing : Bool) (w : World) (placing : Placing) {place : Place} {p n : ℕ}
    → Laid c o releasing w (record (ground_of w) { placing = placing })
    → claims_placed o placing ≡ [] → IsCellTaken w.now.words o place p n → IsSized o → place.index < cells_made o
    → place.page + pages_made o ≤ length w.now.words.pages
    → ((q : ℕ) → InPlot (plot_of o placing) q → InPlot (Plotted place.page o) q)
    → Laid c o releasing w (record (ground_of w) { pages = with_used_on w.now.words.pages p n; placing = Used place })
taken_at c {o = o} releasing w placing {place = place} {n = n} st none next sized index within plot =
    let xs : List Claim = claims_of c w.now.seats.holding.freed w.allocations in
    let s : LayoutScene = layout_scene_of c o releasing w.now.words.marks (ground_of w) in
    let was : IsLaidOn (record s { claims = xs ++ []; plot = plot_of o placing }) = rw none at st.scene in
    record {
      scene = rw next.at (rw (no_claims xs (place_claim o place)) at
          (layout_taken (record s { claims = xs ++ []; plot = plot_of o placing }) _ n was (record {
            sized = sized;
            mapped = refl;
            index = index;
            within = within;
            headers = next.headers;
            unset = rw (← next.at) next.unused;
            value = next.is ∙ rw next.at;
            plot = plot;
          })));
      gone = st.gone;
      first = tt;
      cells = st.cells;
    }

pub used_takes : (c : Config) (o : Object) (releasing : Bool) (w : World) (place : Place) (p n : ℕ)
    → Laid c o releasing w (ground_of w) → IsSized o → header_made o 0 ≢ 0
    → is_used_once w.now.seats.holding.placing ≡ false
    → IsPlaced c.resident w.now.words.pages o place w.now.seats.holding.placing → IsCellTaken w.now.words o place p n
    → Laid c o releasing w (record (ground_of w) { pages = with_used_on w.now.words.pages p n; placing = Used place })
used_takes c o releasing w place p n st sized made once placed next = elim (placed_for c releasing w st sized placed) [
  | OnFree is fit ↦
      let some = pages_some o sized in
      absurd (made (sym (next.headers 0 (omega arith)) ∙ fit.free 0 (omega arith)))
  | OnChosen is ↦
      let here = placed_as c o releasing w (ground_of w) (Chosen place) is st in
      let plot : IsPlotShown w.now.words.pages place.page o = here.scene.plot in
      let first : place.index ≡ 0 = here.first in
      taken_at c releasing w (Chosen place) here refl next sized (omega (arith, cells_some o sized))
      plot.within (λ q i. i)
  | Stands headers (inl (is, fit)) ↦
      taken_at c releasing w Unplaced (placed_as c o releasing w (ground_of w) Unplaced is st) refl next
      sized fit.index (omega (arith, small_pages o fit.small, fit.within)) (λ q out. absurd out)
  | Stands headers (inr is) ↦ let e : true ≡ false = ap is_used_once (sym is) ∙ once in cc
]

-- `used` (b): released cells are given back
pub used_gives_back : (c : Config) (o : Object) (w : World) (p n : ℕ) → p < length w.now.words.pages
    → Laid c o true w (ground_of w) → GivesBack w.now.words p n → ((x : Claim) → Among x (claims_on c o (ground_of w))
    → is_released_in true w.now.words.snapshot w.now.words.marks x.page x.index ≡ false)
    → Laid c o true w (record (ground_of w) { pages = with_used_on w.now.words.pages p n })
used_gives_back c o w p n lt st h apart = record {
  scene = layout_given_back p n st.scene lt refl (record {
    fewer = λ k bit. fewer_bits n _ k h.fewer bit;
    gone = λ k bit out.
        let goes = h.gone k bit out in
        rw goes.0 (ap not goes.1);
  }) apart;
  gone = st.gone;
  first = st.first;
  cells = st.cells;
}
