-- The steps that release: `release`, cells given back, pages freed in any order, and `end`.
use Rattle.mk_laws.proofs.Vocabulary.{Among, AreApart, Claim, Header, IsClaimed, IsLaidOn, IsShown, Later, LayoutScene}
use Rattle.mk_laws.proofs.Vocabulary.{List, NoPlot, Option, Page, Plot, PlotStands, Plotted, Some, ℕ, ap, arith}
use Rattle.mk_laws.proofs.Vocabulary.{cases_eq, cases_lt, cells_under, ends, false, free_page, get_or-set_other}
use Rattle.mk_laws.proofs.Vocabulary.{get_or-set_same, get_or_past, has_bit, head_on, head_page_under, header_made}
use Rattle.mk_laws.proofs.Vocabulary.{header_of, header_on, inl, inr, is_released_in, is_released_on, length}
use Rattle.mk_laws.proofs.Vocabulary.{length-set, pages_made, refl, run_count, set_by, shows_on, slice_set, stands, sym}
use Rattle.mk_laws.proofs.Vocabulary.{true, true≢false, used_on, ◌+◌, ◌-◌, ◌<◌, ◌∙◌, ◌≡◌, ◌≢◌, ◌⊎◌}
use Rattle.mk_laws.proofs.LayoutReadings.{cellless_unused, claimed_used, free_unused, none_set, zero_where_none}

-- Pages of which one gets another header or used word.

abbrev pub with_header_on : List Page → ℕ → ℕ → List Page
with_header_on pages p n = slice_set pages p (record { header = n; used = used_on pages p })

abbrev pub with_used_on : List Page → ℕ → ℕ → List Page
with_used_on pages p n = slice_set pages p (record { header = header_on pages p; used = n })

pub headed_here : (pages : List Page) (p n : ℕ) → p < length pages → header_on (with_header_on pages p n) p ≡ n
headed_here pages p n lt =
    ap (λ (x : Page). x.header) (get_or-set_same pages p (record { header = n; used = used_on pages p }) free_page lt)

pub headed_other : (pages : List Page) (p n q : ℕ) → q ≢ p → header_on (with_header_on pages p n) q ≡ header_on pages q
headed_other pages p n q ne = ap (λ (x : Page). x.header)
    (get_or-set_other pages p q (record { header = n; used = used_on pages p }) free_page ne)

pub headed_used : (pages : List Page) (p n q : ℕ) → p < length pages
    → used_on (with_header_on pages p n) q ≡ used_on pages q
headed_used pages p n q lt =
    set_by (λ (x : Page). x.used ≡ used_on pages q) pages p q _ free_page (λ e. ap (used_on pages) (sym e)) refl

pub used_here : (pages : List Page) (p n : ℕ) → p < length pages → used_on (with_used_on pages p n) p ≡ n
used_here pages p n lt =
    ap (λ (x : Page). x.used) (get_or-set_same pages p (record { header = header_on pages p; used = n }) free_page lt)

pub used_other : (pages : List Page) (p n q : ℕ) → q ≢ p → used_on (with_used_on pages p n) q ≡ used_on pages q
used_other pages p n q ne = ap (λ (x : Page). x.used)
    (get_or-set_other pages p q (record { header = header_on pages p; used = n }) free_page ne)

pub used_header : (pages : List Page) (p n q : ℕ) → p < length pages
    → header_on (with_used_on pages p n) q ≡ header_on pages q
used_header pages p n q lt =
    set_by (λ (x : Page). x.header ≡ header_on pages q) pages p q _ free_page (λ e. ap (header_on pages) (sym e)) refl

-- the pages of a claim are others
pub shown_beside : {pages : List Page} (p n : ℕ) {x : Claim} → p < length pages → IsShown pages x
    → ((distance : ℕ) → distance < pages_made x.object → x.page + distance ≢ p) → IsShown (with_header_on pages p n) x
shown_beside {pages} p n {x = x} lt shown apart = record {
  sized = shown.sized;
  known = shown.known;
  within = let len = length-set pages p (record { header = n; used = used_on pages p }) in omega arith;
  headers = λ d ld. rw (headed_other pages p n (x.page + d) (apart d ld)) (shown.headers d ld);
  used = rw (headed_used pages p n x.page lt) shown.used;
}

-- if a page shows what it showed, so does its head
pub head_of_other : (pages : List Page) (p n q : ℕ) → q ≢ p → head_on (with_header_on pages p n) q ≡ head_on pages q
head_of_other pages p n q ne = rw (headed_other pages p n q ne)

abbrev Emptied : LayoutScene → ℕ → LayoutScene
Emptied s p = record s { pages = with_header_on s.pages p 0 }

plot_emptied : (pages : List Page) (p : ℕ) (plot : Plot) → p < length pages → PlotStands pages plot
    → PlotStands (with_header_on pages p 0) plot
plot_emptied pages p NoPlot lt stands = stands
plot_emptied pages p (Plotted first o) lt stands = record {
  sized = stands.sized;
  within = let len = length-set pages p (record { header = 0; used = used_on pages p }) in omega arith;
  headers = λ d ld. set_by (λ (x : Page). (x.header ≡ 0) ⊎ (x.header ≡ header_made o d)) pages p (first + d) _ free_page
      (λ e. inl refl) (stands.headers d ld);
  used = λ d ld. headed_used pages p 0 (first + d) lt ∙ stands.used d ld;
}

-- `head` (d): a page of which nothing is left is free
pub layout_emptied : {s : LayoutScene} (p : ℕ) → IsLaidOn s → p < length s.pages → s.releasing ≡ true
    → used_on s.pages (head_on s.pages p) ≡ 0 → IsLaidOn (Emptied s p)
layout_emptied {s} p laid lt on z = record {
  shown = λ x among. shown_beside p 0 lt (laid.shown x among) (
      λ distance lt e. claimed_used distance (laid.shown x among) lt (rw e z));
  apart = laid.apart;
  used = λ q k h. let t = laid.used q k (old q k h) in (
    set_by (λ (x : Page). k < cells_under (header_of x.header)) s.pages p q _ free_page
        (λ e. absurd (none_set _ k (unused_by (shows_on s.pages p) refl z) (rw (← e) (old q k h)))) t.0,
    t.1,
  );
  plot = plot_emptied s.pages p s.plot lt laid.plot;
  occupied = λ q some empty. inl on;
  later = λ q d m is.
      let l = laid.later q d m (set_by (λ (x : Page). header_of x.header ≡ Some (Later d m)
      → shows_on s.pages q ≡ Some (Later d m)) s.pages p q _ free_page (λ e x. cc) (λ x. x) is) in (
        l.0,
        set_by (λ (x : Page). (d < run_count (header_of x.header)) ⊎ ((s.releasing ≡ true) × (x.header ≡ 0))) s.pages p
            (q - d) _ free_page (λ e. inr (on, refl)) l.1,
      );
}
  where
    old : (q k : ℕ) → has_bit (used_on (with_header_on s.pages p 0) q) k ≡ true → has_bit (used_on s.pages q) k ≡ true
    old q k h = rw (← (headed_used s.pages p 0 q lt)) h

    -- a later page has no bit, and another is its own head
    unused_by : (x : Option Header) → shows_on s.pages p ≡ x → used_on s.pages (head_page_under x p) ≡ 0
        → used_on s.pages p ≡ 0
    unused_by x is z = grind (arith, cellless_unused)

-- `used` (b): bits of released cells go
abbrev GivenBack : LayoutScene → ℕ → ℕ → LayoutScene
GivenBack s p n = record s { pages = with_used_on s.pages p n }

pub record Gives (s : LayoutScene) (p n : ℕ) : Type 0 where
  pub fewer : (k : ℕ) → has_bit n k ≡ true → has_bit (used_on s.pages p) k ≡ true
  pub gone : (k : ℕ) → has_bit (used_on s.pages p) k ≡ true → has_bit n k ≡ false → is_released_on s p k ≡ true

pub layout_given_back : {s : LayoutScene} (p n : ℕ) → IsLaidOn s → p < length s.pages → s.releasing ≡ true → Gives s p n
    → ((x : Claim) → Among x s.claims → is_released_on s x.page x.index ≡ false) → IsLaidOn (GivenBack s p n)
layout_given_back {s} p n laid lt on gives kept = record {
  shown = λ x among. shown x among (laid.shown x among);
  apart = laid.apart;
  used = λ q k h. let t = laid.used q k (fewer q k h)
      in (rw (ap (λ h. cells_under (header_of h)) (sym (used_header s.pages p n q lt))) at t.0, t.1);
  plot = plot s.plot laid.plot;
  occupied = λ q some empty. inl on;
  later = λ q d m is.
      let l = laid.later q d m (rw (← (used_header s.pages p n q lt)) is) in (
        l.0,
        rw (used_header s.pages p n (q - d) lt) l.1,
      );
}
  where
    len : length (with_used_on s.pages p n) ≡ length s.pages
    len = length-set s.pages p (record { header = header_on s.pages p; used = n })

    fewer : (q k : ℕ) → has_bit (used_on (with_used_on s.pages p n) q) k ≡ true → has_bit (used_on s.pages q) k ≡ true
    fewer q k =
        set_by (λ (x : Page). has_bit x.used k ≡ true → has_bit (used_on s.pages q) k ≡ true) s.pages p q _ free_page
        (λ e h. rw e (gives.fewer k h)) (λ h. h)

    bit : (x : Claim) → Among x s.claims → has_bit (used_on s.pages x.page) x.index ≡ true
        → has_bit (used_on (with_used_on s.pages p n) x.page) x.index ≡ true
    bit x among was = elim (cases_eq x.page p) [
      | inr ne ↦ rw (used_other s.pages p n x.page ne) was
      | inl e ↦ rw e (grind (arith, used_here, kept))
    ]

    shown : (x : Claim) → Among x s.claims → IsShown s.pages x → IsShown (with_used_on s.pages p n) x
    shown x among was = grind (arith, len, used_header, bit)

    plot : (plot : Plot) → PlotStands s.pages plot → PlotStands (with_used_on s.pages p n) plot
    plot NoPlot stands = stands
    plot (Plotted first o) stands = record {
      sized = stands.sized;
      within = let l = len in let w = stands.within in omega arith;
      headers = λ d ld. rw (used_header s.pages p n (first + d) lt) (stands.headers d ld);
      used = λ d ld. zero_where_none _ (λ k h. none_set _ k (stands.used d ld) (fewer (first + d) k h));
    }

-- `release`: some claims go, and their cells are released
abbrev Released : LayoutScene → List Claim → LayoutScene
Released s claims = record s { claims = claims; releasing = true }

pub record Releases (s : LayoutScene) (claims : List Claim) : Type 0 where
  pub fewer : (x : Claim) → Among x claims → Among x s.claims
  pub apart : AreApart claims
  pub gone : (x : Claim) → Among x s.claims
      → Among x claims ⊎ (is_released_in true s.snapshot s.marks x.page x.index ≡ true)

pub layout_released : {s : LayoutScene} (claims : List Claim) → IsLaidOn s → s.releasing ≡ false → Releases s claims
    → IsLaidOn (Released s claims)
layout_released {s} claims laid off r = record {
  shown = λ x among. laid.shown x (r.fewer x among);
  apart = r.apart;
  used = λ p k h. let t = laid.used p k h in (t.0, by p k t.1);
  plot = laid.plot;
  occupied = λ p some empty. inl refl;
  later = λ p d m is. let l = laid.later p d m is in (
    l.0,
    elim l.1 [ inl head ↦ inl head | inr lost ↦ absurd (true≢false (sym lost.0 ∙ off)) ],
  );
}
  where
    by : (p k : ℕ) → IsClaimed s.claims p k ⊎ (is_released_on s p k ≡ true)
        → IsClaimed claims p k ⊎ (is_released_in true s.snapshot s.marks p k ≡ true)
    by p k h = grind arith

-- `end`: nothing released is left, and no page without a used cell
abbrev Ended : LayoutScene → LayoutScene
Ended s = record s { releasing = false }

pub record Ends (s : LayoutScene) : Type 0 where
  pub none : (p k : ℕ) → p < length s.pages → is_released_on s p k ≡ false
  pub settled : (p : ℕ) → p < length s.pages → header_on s.pages p ≢ 0 → used_on s.pages (head_on s.pages p) ≢ 0

pub layout_ended : {s : LayoutScene} → IsLaidOn s → Ends s → IsLaidOn (Ended s)
layout_ended {s} laid ends = record {
  shown = laid.shown;
  apart = laid.apart;
  used = λ p k h. let t = laid.used p k h in (t.0, inl (by p k h t.1));
  plot = laid.plot;
  occupied = λ p some empty. absurd (ends.settled p (inside p some) some empty);
  later = λ p d m is. let l = laid.later p d m is in (
    l.0,
    inl (elim l.1 [ inl head ↦ head | inr lost ↦ absurd (grind (arith, inside, free_unused)) ]),
  );
}
  where
    inside : (p : ℕ) → header_on s.pages p ≢ 0 → p < length s.pages
    inside p some = grind (arith, cases_lt, get_or_past)

    by : (p k : ℕ) → has_bit (used_on s.pages p) k ≡ true → IsClaimed s.claims p k ⊎ (is_released_on s p k ≡ true)
        → IsClaimed s.claims p k
    by p k h (inl o) = o
    by p k h (inr r) = absurd (true≢false (sym r ∙ ends.none p k (grind (arith, cases_lt, none_set, get_or_past))))
