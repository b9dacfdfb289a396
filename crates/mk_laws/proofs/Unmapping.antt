-- The steps that unmap a run: it is freed, its pages get their headers, and the call that freed it ends.
use Rattle.mk_laws.proofs.Vocabulary.{Among, AreApart, Bool, Claim, HasHeader, HasItsHead, Header, IsClaimed, IsLaidOn}
use Rattle.mk_laws.proofs.Vocabulary.{IsOfOneCell, IsPlotShown, IsShown, Later, LayoutScene, List, Mode, NoPlot, Object}
use Rattle.mk_laws.proofs.Vocabulary.{Option, Page, Plot, PlotStands, Plotted, ShowsPart, Some, Unmapping, ℕ, ap, arith}
use Rattle.mk_laws.proofs.Vocabulary.{cases_eq, cells_made, cells_under, false, free_page, head_on, header_made}
use Rattle.mk_laws.proofs.Vocabulary.{header_of, header_on, inl, inr, is_released_on, is_small_object, large_cells}
use Rattle.mk_laws.proofs.Vocabulary.{length, length-set, made_shows, pages_made, pages_some, part_cells, part_head}
use Rattle.mk_laws.proofs.Vocabulary.{refl, run_count, set_by, shown_later, shows_on, stands, sym, true}
use Rattle.mk_laws.proofs.Vocabulary.{unmapped_header, used_on, ◌+◌, ◌-◌, ◌<◌, ◌∙◌, ◌≡◌, ◌≢◌, ◌≤◌, ◌⊎◌}
use Rattle.mk_core.proofs.ObjectHeaders.{later_part, same_cells, unmapped_shows}
use Rattle.mk_laws.proofs.Releasing.{head_of_other, headed_here, headed_other, headed_used, shown_beside}
use Rattle.mk_laws.proofs.Releasing.{with_header_on}
use Rattle.mk_laws.proofs.LayoutReadings.{claimed, claimed_head, claimed_some, none_set, one_claim}

-- How many pages the run has that a header of an object heads.

-- the head of a large object's run has its pages,
pub part_count : {o : Object} {x : Option Header} → ShowsPart o 0 x → is_small_object o ≡ false
    → run_count x ≡ pages_made o
part_count h large = grind arith

-- and no other page of an object has any.
later_count : {o : Object} {distance : ℕ} {x : Option Header} → ShowsPart o distance x → 1 ≤ distance → run_count x ≡ 0
later_count h some = grind arith

pub small_count : {o : Object} {x : Option Header} → ShowsPart o 0 x → is_small_object o ≡ true → run_count x ≡ 0
small_count h is = grind arith

pub same_count : {o : Object} {distance : ℕ} {x y : Option Header} → ShowsPart o distance x → ShowsPart o distance y
    → is_small_object o ≡ false → run_count x ≡ run_count y
same_count px py large = grind (arith, part_count, later_count)

-- a claim's cells are those under its first page's header
pub cells_at_claim : (s : LayoutScene) {x : Claim} → IsShown s.pages x
    → cells_under (shows_on s.pages x.page) ≡ cells_made x.object
cells_at_claim s {x = x} shown =
    let zero : x.page + 0 ≡ x.page = omega arith in
    rw (← zero) (part_cells x.object _ (claimed s.pages x 0 shown (omega (arith, pages_some x.object shown.sized))))

-- a claim that shares a page with a run's is the run's
pub shares_run : {s : LayoutScene} (x y : Claim) (d e : ℕ) → IsLaidOn s → Among x s.claims → Among y s.claims
    → is_small_object x.object ≡ false → d < pages_made x.object
    → e < pages_made y.object → y.page + e ≡ x.page + d → y ≡ x
shares_run {s} x y d e laid ix iy large ld le at =
    let sx = laid.shown x ix in
    let sy = laid.shown y iy in
    let page = sym (claimed_head s.pages y e sy le) ∙ ap (head_on s.pages) at ∙ claimed_head s.pages x d sx ld in
    grind (arith, cells_at_claim, one_claim, large_cells)

-- and the page isn't one of a plot
pub apart_of_plot : {s : LayoutScene} (x : Claim) (d : ℕ) {first : ℕ} (e : ℕ) {o : Object} → IsLaidOn s
    → Among x s.claims
    → d < pages_made x.object → IsPlotShown s.pages first o → e < pages_made o → first + e ≢ x.page + d
apart_of_plot {s} x d {first = first} e {o = o} laid ix ld plot le at =
    let sx = laid.shown x ix in
    by (ap (head_on s.pages) at ∙ claimed_head s.pages x d sx ld) (plot.headers e le)
  where
    by : head_on s.pages (first + e) ≡ x.page
        → (header_on s.pages (first + e) ≡ 0) ⊎ (header_on s.pages (first + e) ≡ header_made o e) → ⊥
    by head (inl z) = claimed_some s.pages x d (laid.shown x ix) ld (rw (← at) z)
    by head (inr is) =
        let own : head_on s.pages (first + e) ≡ first =
        rw is (part_head o e first (header_of (header_made o e)) (made_shows o e plot.sized le)) in
        let zero : first + 0 ≡ first = omega arith in
        grind (arith, none_set, pages_some)

-- `head` (c): a page of the run that is unmapping gets its header
abbrev pub PageUnmapped : LayoutScene → Claim → ℕ → LayoutScene
PageUnmapped s x d = record s { pages = with_header_on s.pages (x.page + d) (unmapped_header (pages_made x.object) d) }

module _ (s : LayoutScene) (x : Claim) (d : ℕ) (laid : IsLaidOn s) (ix : Among x s.claims)
    (mode : x.mode ≡ Unmapping) (large : is_small_object x.object ≡ false) (ld : d < pages_made x.object) where
  abbrev p : ℕ
  p = x.page + d

  abbrev n : ℕ
  n = unmapped_header (pages_made x.object) d

  abbrev after : List Page
  after = with_header_on s.pages p n

  same_or_not : (y x : Claim) → IsOfOneCell y x ⊎ (IsOfOneCell y x → ⊥)
  same_or_not y x = elim (cases_eq y.page x.page) [
    | inl ep ↦ elim (cases_eq y.index x.index) [ inl ei ↦ inl (ep, ei) | inr ni ↦ inr (λ same. ni same.1) ]
    | inr np ↦ inr (λ same. np same.0)
  ]

  sx : IsShown s.pages x
  sx = laid.shown x ix

  lt : x.page + d < length s.pages
  lt = let w = sx.within in let l = ld in omega arith

  len : length after ≡ length s.pages
  len = length-set s.pages p (record { header = unmapped_header (pages_made x.object) d; used = used_on s.pages p })

  old : ShowsPart x.object d (shows_on s.pages p)
  old = claimed s.pages x d sx ld

  new : ShowsPart x.object d (header_of n)
  new = unmapped_shows x.object d sx.sized ld large

  here : header_on after p ≡ unmapped_header (pages_made x.object) d
  here = headed_here s.pages p n lt

  own : IsShown after x
  own = record {
    sized = sx.sized;
    known = sx.known;
    within = let l = len in let w = sx.within in omega arith;
    headers = λ e le. rw mode (grind (arith, here, headed_other, sx));
    used = rw (headed_used s.pages p n x.page lt) sx.used;
  }

  cells : (q : ℕ) → cells_under (shows_on after q) ≡ cells_under (shows_on s.pages q)
  cells q = set_by (λ (y : Page). cells_under (header_of y.header) ≡ cells_under (shows_on s.pages q)) s.pages p q _
      free_page (λ e. same_cells x.object d (header_of n) _ new old ∙ rw e) refl

  counts : (q : ℕ) → run_count (shows_on after q) ≡ run_count (shows_on s.pages q)
  counts q = set_by (λ (y : Page). run_count (header_of y.header) ≡ run_count (shows_on s.pages q)) s.pages p q _
      free_page (λ e. same_count new old large ∙ rw e) refl

  head : (q : ℕ) → head_on after q ≡ head_on s.pages q
  head q = grind (arith, here, part_head, new, old, head_of_other)

  was_some : (q : ℕ) → header_on after q ≢ 0 → header_on s.pages q ≢ 0
  was_some q some z = grind (arith, claimed_some, sx, headed_other)

  plot : (plot : Plot) → PlotStands s.pages plot → PlotStands after plot
  plot NoPlot stands = stands
  plot (Plotted first o) stands = record {
    sized = stands.sized;
    within = let l = len in let w = stands.within in omega arith;
    headers = λ e le. rw (headed_other s.pages p n (first + e) (apart_of_plot x d e laid ix ld stands le))
        (stands.headers e le);
    used = λ e le. headed_used s.pages p n (first + e) lt ∙ stands.used e le;
  }

  -- the page that a later page names keeps its count, and isn't freed
  kept : (q e : ℕ) (m : Bool) → HasItsHead s.pages s.releasing q e → HasItsHead after s.releasing q e
  kept q e m l = (
    l.0,
    elim l.1 [
      | inl less ↦ inl (rw (counts (q - e)) less)
      | inr lost ↦ elim (cases_eq (q - e) p) [
        | inl at ↦ absurd (claimed_some s.pages x d sx ld (rw (← at) lost.1))
        | inr ne ↦ inr (lost.0, headed_other s.pages p n (q - e) ne ∙ lost.1)
      ]
    ],
  )

  own_later : (q e : ℕ) (m : Bool) → q ≡ x.page + d → shows_on after q ≡ Some (Later e m)
      → HasItsHead after s.releasing q e
  own_later q e m same is =
      let at = shown_later x.object d e m (header_of n) new (grind (arith, here, after)) in
      let was = later_part x.object d _ old at.1 in
      kept q e m (laid.later q e was.0 (ap (λ i. shows_on s.pages i) same ∙ was.1
      ∙ ap (λ i. Some (Later i was.0)) (sym at.0)))

  pub layout_page_unmapped : IsLaidOn (PageUnmapped s x d)
  layout_page_unmapped = record {
    shown = λ y iy. elim (same_or_not y x) [
      | inl same ↦ let e = one_claim s.claims y x laid.apart iy ix same in rw e own
      | inr other ↦ shown_beside p n lt (laid.shown y iy)
          (λ e le at. let is = shares_run x y d e laid ix iy large ld le at in other (rw is, rw is))
    ];
    apart = laid.apart;
    used = λ q k h. let t = laid.used q k (rw (← (headed_used s.pages p n q lt)) h) in (rw (cells q) t.0, t.1);
    plot = plot s.plot laid.plot;
    occupied = λ q some empty. laid.occupied q (was_some q some) (rw (← (head q))
        (sym (headed_used s.pages p n (head_on after q) lt) ∙ empty));
    later = λ q e m is. elim (cases_eq q p) [
      | inl same ↦ own_later q e m same is
      | inr ne ↦ kept q e m (laid.later q e m (rw (← (headed_other s.pages p n q ne)) is))
    ];
  }

-- Claims that change how far they are unmapped, if the headers stand for that.
pub record Changes (s : LayoutScene) (claims : List Claim) : Type 0 where
  pub from : (y : Claim) → Among y claims → (m : Mode) × Among (record y { mode = m }) s.claims
  pub to : (x : Claim) → Among x s.claims → (m : Mode) × Among (record x { mode = m }) claims
  pub apart : AreApart claims
  pub headers : (y : Claim) → Among y claims → (d : ℕ) → d < pages_made y.object
      → HasHeader y.mode y.object d (header_on s.pages (y.page + d))

pub layout_changed : {s : LayoutScene} (claims : List Claim) → IsLaidOn s → Changes s claims
    → IsLaidOn (record s { claims = claims })
layout_changed {s} claims laid ch = record {
  shown = λ y iy. let was = laid.shown (record y { mode = (ch.from y iy).0 }) (ch.from y iy).1 in record {
    sized = was.sized;
    known = was.known;
    within = was.within;
    headers = ch.headers y iy;
    used = was.used;
  };
  apart = ch.apart;
  used = λ p k h. let t = laid.used p k h in (t.0, owner p k t.1);
  plot = laid.plot;
  occupied = laid.occupied;
  later = laid.later;
}
  where
    owner : (p k : ℕ) → IsClaimed s.claims p k ⊎ (is_released_on s p k ≡ true)
        → IsClaimed claims p k ⊎ (is_released_on s p k ≡ true)
    owner p k (inr r) = inr r
    owner p k (inl o) = let t = ch.to o.claim o.among in inl
        (record { claim = record o.claim { mode = t.0 }; among = t.1; page = o.page; index = o.index })
