-- The steps of a New: its place is chosen, its pages get their headers one by one, and its cell is taken.
use Rattle.mk_laws.proofs.Vocabulary.{Among, AreApart, Claim, InPlot, IsClaimed, IsLaidOn, IsOfOneCell, IsPlotShown}
use Rattle.mk_laws.proofs.Vocabulary.{IsShown, IsSized, LayoutScene, List, Mapped, NoPlot, Object, Page, Plotted}
use Rattle.mk_laws.proofs.Vocabulary.{ShowsPart, ℕ, ap, arith, cases_eq, cells_made, cells_under, false, free_page}
use Rattle.mk_laws.proofs.Vocabulary.{has_bit, head_on, header_made, header_of, header_on, inl, inr, is_released_on}
use Rattle.mk_laws.proofs.Vocabulary.{length, length-set, made_shows, pages_made, pages_some, part_cells, refl, set_by}
use Rattle.mk_laws.proofs.Vocabulary.{shown_later, shows_on, stands, sym, true, true≢false, used_on, [], ◌++◌, ◌+◌, ◌-◌}
use Rattle.mk_laws.proofs.{Vocabulary.{◌<◌, ◌^◌, ◌∙◌, ◌∷◌, ◌≡◌, ◌≢◌, ◌≤◌, ◌⊎◌}, LayoutScene.IsTakenCell}
use Rattle.mk_laws.proofs.LayoutReadings.{claimed_head, claimed_some, free_unused, none_set, zero_where_none}
use Rattle.mk_laws.proofs.Releasing.{head_of_other, headed_here, headed_other, headed_used, shown_beside, used_header}
use Rattle.mk_laws.proofs.{Releasing.{used_here, with_header_on, with_used_on}, Unmapping.part_count}
use Rattle.mk_core.proofs.WordBits.{added_here, added_other}

-- Lists of claims that are joined.

pub among_front : (xs ys : List Claim) (x : Claim) → Among x xs → Among x (xs ++ ys)
among_front [] ys x i = absurd i
among_front (z ∷ zs) ys x (inl e) = inl e
among_front (z ∷ zs) ys x (inr i) = inr (among_front zs ys x i)

pub among_back : (xs ys : List Claim) (x : Claim) → Among x ys → Among x (xs ++ ys)
among_back [] ys x i = i
among_back (z ∷ zs) ys x i = inr (among_back zs ys x i)

pub among_parts : (xs ys : List Claim) (x : Claim) → Among x (xs ++ ys) → Among x xs ⊎ Among x ys
among_parts [] ys x i = inr i
among_parts (z ∷ zs) ys x (inl e) = inl (inl e)
among_parts (z ∷ zs) ys x (inr i) = elim (among_parts zs ys x i) [ inl j ↦ inl (inr j) | inr j ↦ inr j ]

pub apart_left : (xs ys : List Claim) → AreApart (xs ++ ys) → AreApart xs
apart_left [] ys apart = tt
apart_left (z ∷ zs) ys apart = (λ y i. apart.0 y (among_front zs ys y i), apart_left zs ys apart.1)

pub apart_right : (xs ys : List Claim) → AreApart (xs ++ ys) → AreApart ys
apart_right [] ys apart = apart
apart_right (z ∷ zs) ys apart = apart_right zs ys apart.1

pub apart_across : (xs ys : List Claim) (x y : Claim) → AreApart (xs ++ ys) → Among x xs → Among y ys → IsOfOneCell x y
    → ⊥
apart_across [] ys x y apart ix iy same = ix
apart_across (z ∷ zs) ys x y apart (inl e) iy same = apart.0 y (among_back zs ys y iy) (
  rw (← e) same.0,
  rw (← e) same.1,
)
apart_across (z ∷ zs) ys x y apart (inr i) iy same = apart_across zs ys x y apart.1 i iy same

pub apart_joined : (xs ys : List Claim) → AreApart xs → AreApart ys
    → ((x y : Claim) → Among x xs → Among y ys → IsOfOneCell x y → ⊥) → AreApart (xs ++ ys)
apart_joined [] ys ax ay across = ay
apart_joined (z ∷ zs) ys ax ay across = (
  λ y i same. elim (among_parts zs ys y i) [ inl j ↦ ax.0 y j same | inr j ↦ across z y (inl refl) j same ],
  apart_joined zs ys ax.1 ay (λ x y ix. across x y (inr ix)),
)

-- the place is chosen: its pages are free
abbrev pub ChosenAt : LayoutScene → ℕ → Object → LayoutScene
ChosenAt s first o = record s { plot = Plotted first o }

pub layout_chosen : {s : LayoutScene} (first : ℕ) (o : Object) → IsLaidOn s → s.plot ≡ NoPlot → IsSized o
    → first + pages_made o ≤ length s.pages
    → ((d : ℕ) → d < pages_made o → header_on s.pages (first + d) ≡ 0) → IsLaidOn (ChosenAt s first o)
layout_chosen first o laid none sized within free = grind (arith, free_unused)

-- `head` (a) and (b): the first page that hasn't its header gets it
abbrev pub Carved : LayoutScene → ℕ → Object → ℕ → LayoutScene
Carved s first o d = record s { pages = with_header_on s.pages (first + d) (header_made o d); plot = Plotted first o }

pub record Carves (s : LayoutScene) (first : ℕ) (o : Object) (d : ℕ) : Type 0 where
  pub within : d < pages_made o
  pub not_yet : header_on s.pages (first + d) ≢ header_made o d
  pub before : (e : ℕ) → e < d → header_on s.pages (first + e) ≡ header_made o e

pub layout_carved : {s : LayoutScene} (first : ℕ) (o : Object) (d : ℕ) → IsLaidOn s → s.plot ≡ Plotted first o
    → s.releasing ≡ false → Carves s first o d → IsLaidOn (Carved s first o d)
layout_carved {s} first o d laid plotted off next =
    let p : ℕ = first + d in
    let n : ℕ = header_made o d in
    record {
      shown = λ x among. shown_beside p n lt (laid.shown x among)
          (λ e le at. claimed_some s.pages x e (laid.shown x among) le (ap (header_on s.pages) at ∙ was));
      apart = laid.apart;
      used = λ q k h. let t = laid.used q k (old q k h) in (
        set_by (λ (y : Page). k < cells_under (header_of y.header)) s.pages p q _ free_page
            (λ e. absurd (none_set _ k (free_unused s p laid was) (rw (← e) (old q k h)))) t.0,
        t.1,
      );
      plot = record {
        sized = plot.sized;
        within = let len = length-set s.pages p (record { header = n; used = used_on s.pages p }) in let w =
            plot.within in omega arith;
        headers = λ e le. set_by (λ (y : Page). (y.header ≡ 0) ⊎ (y.header ≡ header_made o e)) s.pages p (first + e) _
            free_page (λ at. inr (ap (header_made o) (let same : d ≡ e = omega arith in same))) (plot.headers e le);
        used = λ e le. headed_used s.pages p n (first + e) lt ∙ plot.used e le;
      };
      occupied = λ q some empty. elim (cases_eq q p) [
        | inl e ↦ let w = next.within in inr (omega arith, omega arith)
        | inr ne ↦ elim (laid.occupied q (λ z. some (headed_other s.pages p n q ne ∙ z)) (rw (← (head_of_other s.pages
            p n q ne)) (sym (headed_used s.pages p n (head_on (with_header_on s.pages p n) q) lt) ∙ empty))) [
              | inl on ↦ inl on
              | inr here ↦ inr (rw plotted at here)
            ]
      ];
      later = λ q e m is. elim (cases_eq q p) [
        | inl same ↦ let at = shown_later o d e m (header_of (header_made o d)) part
            (rw (← (headed_here s.pages (first + d) (header_made o d) lt))
            (ap (λ i. shows_on (with_header_on s.pages (first + d) (header_made o d)) i) (sym same) ∙ is)) in
            let some : 1 ≤ d = at.1 in
            let back : q - e ≡ first = omega arith in
            let zero : first + 0 ≡ first = omega arith in
            let w = next.within in
            let head : header_on (with_header_on s.pages (first + d) (header_made o d)) (q - e) ≡ header_made o 0 =
            rw back (headed_other s.pages (first + d) (header_made o d) first (λ x. omega arith)
            ∙ rw (← zero) (next.before 0 (omega arith))) in (
              omega arith,
              inl (rw head (let count = part_count (made_shows o 0 plot.sized (omega arith)) at.2 in omega arith)),
            )
        | inr ne ↦
            let l = laid.later q e m (rw (← (headed_other s.pages p n q ne)) is) in (
              l.0,
              elim (cases_eq (q - e) p) [
                | inl at ↦ grind arith
                | inr other ↦ rw (headed_other s.pages p n (q - e) other) l.1
              ],
            )
      ];
    }
  where
    plot : IsPlotShown s.pages first o
    plot = rw plotted at laid.plot

    lt : first + d < length s.pages
    lt = let w = plot.within in let l = next.within in omega arith

    was : header_on s.pages (first + d) ≡ 0
    was = elim (plot.headers d next.within) [ inl z ↦ z | inr stands ↦ absurd (next.not_yet stands) ]

    old : (q k : ℕ) → has_bit (used_on (with_header_on s.pages (first + d) (header_made o d)) q) k ≡ true
        → has_bit (used_on s.pages q) k ≡ true
    old q k h = rw (← (headed_used s.pages (first + d) (header_made o d) q lt)) h

    part : ShowsPart o d (header_of (header_made o d))
    part = made_shows o d plot.sized next.within

-- `used` (a): the cell of the place is taken, after all its headers
abbrev pub Taken : LayoutScene → Claim → ℕ → LayoutScene
Taken s x n = record s { pages = with_used_on s.pages x.page n; claims = s.claims ++ x ∷ []; plot = NoPlot }

pub record Takes (s : LayoutScene) (x : Claim) (n : ℕ) : Type 0 where
  pub sized : IsSized x.object
  pub mapped : x.mode ≡ Mapped
  pub index : x.index < cells_made x.object
  pub within : x.page + pages_made x.object ≤ length s.pages
  pub headers : (d : ℕ) → d < pages_made x.object → header_on s.pages (x.page + d) ≡ header_made x.object d
  pub unset : has_bit (used_on s.pages x.page) x.index ≡ false
  pub value : n ≡ used_on s.pages x.page + 2 ^ x.index
  pub plot : (q : ℕ) → InPlot s.plot q → InPlot (Plotted x.page x.object) q

module _ (s : LayoutScene) (x : Claim) (n : ℕ) (laid : IsLaidOn s) (t : Takes s x n) where
  abbrev after : List Page
  after = with_used_on s.pages x.page n

  some_pages : 1 ≤ pages_made x.object
  some_pages = pages_some x.object t.sized

  lt : x.page < length s.pages
  lt = let w = t.within in let o = some_pages in omega arith

  len : length after ≡ length s.pages
  len = length-set s.pages x.page (record { header = header_on s.pages x.page; used = n })

  here_set : has_bit (used_on after x.page) x.index ≡ true
  here_set = rw (used_here s.pages x.page n lt ∙ t.value) (added_here _ x.index t.unset)

  same_bit : (q k : ℕ) → (q ≡ x.page → k ≢ x.index) → has_bit (used_on after q) k ≡ has_bit (used_on s.pages q) k
  same_bit q k other = set_by (λ (y : Page). has_bit y.used k ≡ has_bit (used_on s.pages q) k) s.pages x.page q _
      free_page (λ e. rw t.value (added_other _ x.index k t.unset (other e) ∙ rw e)) refl

  grow : (q k : ℕ) → has_bit (used_on s.pages q) k ≡ true → has_bit (used_on after q) k ≡ true
  grow q k h = same_bit q k (λ e ek. true≢false (sym h ∙ rw e (rw ek t.unset))) ∙ h

  grown : {y : Claim} → IsShown s.pages y → IsShown after y
  grown was = grind (arith, len, used_header, lt, grow)

  own : IsShown after x
  own = grind (arith, len, used_header, lt, here_set)

  cells_here : cells_under (shows_on s.pages x.page) ≡ cells_made x.object
  cells_here =
      let zero : x.page + 0 ≡ x.page = omega arith in
      let o = some_pages in
      rw (← zero) (rw (t.headers 0 (omega arith)) (part_cells x.object _ (made_shows x.object 0 t.sized (omega arith))))

  used : (p k : ℕ) → has_bit (used_on after p) k ≡ true → IsTakenCell (Taken s x n) p k
  used p k h = elim (both (cases_eq p x.page) (cases_eq k x.index)) [
    | inl at ↦
        let cells = cells_here in (
          rw (ap (λ h. cells_under (header_of h)) (used_header s.pages x.page n p lt)
              ∙ ap (λ i. cells_under (shows_on s.pages i)) at.0 ∙ cells) (let e = at.1 in omega (arith, t.index)),
          inl (record { claim = x; among = among_back s.claims _ x (inl refl); page = sym at.0; index = sym at.1 }),
        )
    | inr other ↦
        let was = laid.used p k (sym (same_bit p k other) ∙ h) in (
          rw (ap (λ h. cells_under (header_of h)) (used_header s.pages x.page n p lt)) was.0,
          owner p k was.1,
        )
  ]
    where
      both : (p ≡ x.page) ⊎ (p ≢ x.page) → (k ≡ x.index) ⊎ (k ≢ x.index)
          → ((p ≡ x.page) × (k ≡ x.index)) ⊎ (p ≡ x.page → k ≢ x.index)
      both h any = grind arith

      owner : (p k : ℕ) → IsClaimed s.claims p k ⊎ (is_released_on s p k ≡ true)
          → IsClaimed (s.claims ++ x ∷ []) p k ⊎ (is_released_on s p k ≡ true)
      owner p k h = grind (arith, among_front)

  -- a page of the place has its head's bit now
  full : (q : ℕ) → InPlot (Plotted x.page x.object) q → used_on after (head_on after q) ≡ 0 → ⊥
  full q here empty =
      let at : x.page + (q - x.page) ≡ q = omega arith in
      grind (arith, after, claimed_head, own, none_set, here_set)

  pub layout_taken : IsLaidOn (Taken s x n)
  layout_taken = record {
    shown = λ y among. elim (among_parts s.claims (x ∷ []) y among) [
      | inl was ↦ grown (laid.shown y was)
      | inr (inl e) ↦ rw e own
      | inr (inr out) ↦ absurd out
    ];
    apart = apart_joined s.claims (x ∷ []) laid.apart (λ y i. absurd i, tt) (λ y z i h same. grind arith);
    used = used;
    plot = tt;
    occupied = λ q some empty. elim (laid.occupied q (λ z. some (used_header s.pages x.page n q lt ∙ z)) (
        let head : head_on after q ≡ head_on s.pages q = rw (used_header s.pages x.page n q lt) in
        zero_where_none _ (λ k h. none_set _ k (rw (← head) empty) (grow _ k h)))) [
          | inl on ↦ inl on
          | inr here ↦ absurd (full q (t.plot q here) empty)
        ];
    later = λ q d m is.
        let l = laid.later q d m (rw (← (used_header s.pages x.page n q lt)) is) in (
          l.0,
          rw (used_header s.pages x.page n (q - d) lt) l.1,
        );
  }
