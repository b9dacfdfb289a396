-- What a laid out scene says of one page.
use Rattle.mk_laws.proofs.Vocabulary.{Among, AreApart, Claim, HasHeader, IsHeaderOf, IsLaidOn, IsOfOneCell, IsShown}
use Rattle.mk_laws.proofs.Vocabulary.{LayoutScene, List, Mode, Object, Page, ShowsPart, ℕ, arith, cases_eq, cells_under}
use Rattle.mk_laws.proofs.Vocabulary.{false_from_ne_true, has_bit, head_on, header_on, header_shows, inl, inr, no_bit}
use Rattle.mk_laws.proofs.Vocabulary.{pages_made, part_head, part_not_free, shows_on, sym, true, true≢false, used_on}
use Rattle.mk_laws.proofs.Vocabulary.{[], ◌+◌, ◌<◌, ◌∙◌, ◌∷◌, ◌≡◌, ◌≢◌}
use Rattle.mk_core.proofs.WordBits.{zero_from_bits}

pub zero_unless : (n : ℕ) → (n ≢ 0 → ⊥) → n ≡ 0
zero_unless n h = elim (cases_eq n 0) [ inl is ↦ is | inr some ↦ absurd (h some) ]

-- a word with no bit is 0, and 0 has none
pub zero_where_none : (n : ℕ) → ((k : ℕ) → has_bit n k ≡ true → ⊥) → n ≡ 0
zero_where_none n none = zero_from_bits n (λ k. false_from_ne_true (has_bit n k) (none k))

pub none_set : (n k : ℕ) → n ≡ 0 → has_bit n k ≡ true → ⊥
none_set n k z h = true≢false (sym h ∙ no_bit n k z)

-- a header that the mode allows is one of the object
pub header_of_mode : (mode : Mode) (o : Object) (distance header : ℕ) → HasHeader mode o distance header
    → IsHeaderOf o distance header
header_of_mode x1 o distance header has = grind arith

-- the claim's pages show its parts
pub claimed : (pages : List Page) (x : Claim) (distance : ℕ) → IsShown pages x → distance < pages_made x.object
    → ShowsPart x.object distance (shows_on pages (x.page + distance))
claimed pages x distance shown lt = header_shows x.object distance _ shown.sized lt
    (header_of_mode x.mode x.object distance _ (shown.headers distance lt))

pub claimed_head : (pages : List Page) (x : Claim) (distance : ℕ) → IsShown pages x → distance < pages_made x.object
    → head_on pages (x.page + distance) ≡ x.page
claimed_head pages x distance shown lt = part_head x.object distance x.page _ (claimed pages x distance shown lt)

-- so its head has a used bit
pub claimed_used : {pages : List Page} {x : Claim} (distance : ℕ) → IsShown pages x → distance < pages_made x.object
    → used_on pages (head_on pages (x.page + distance)) ≢ 0
claimed_used {pages} {x} distance shown lt z =
    none_set _ x.index (rw (← (claimed_head pages x distance shown lt)) z) shown.used

pub claimed_some : (pages : List Page) (x : Claim) (distance : ℕ) → IsShown pages x → distance < pages_made x.object
    → header_on pages (x.page + distance) ≢ 0
claimed_some pages x distance shown lt = part_not_free x.object distance _ (claimed pages x distance shown lt)

-- a page without cells has no used bit
pub cellless_unused : {s : LayoutScene} (p : ℕ) → IsLaidOn s → cells_under (shows_on s.pages p) ≡ 0
    → used_on s.pages p ≡ 0
cellless_unused p laid none = zero_where_none _ (λ k h. let t = laid.used p k h in absurd (omega (arith, t.0)))

pub free_unused : (s : LayoutScene) (p : ℕ) → IsLaidOn s → header_on s.pages p ≡ 0 → used_on s.pages p ≡ 0
free_unused s p laid z = cellless_unused p laid (rw z)

-- two claims of one cell are one
pub one_claim : (xs : List Claim) (x y : Claim) → AreApart xs → Among x xs → Among y xs → IsOfOneCell x y → x ≡ y
one_claim [] x y apart ix iy same = absurd ix
one_claim (z ∷ zs) x y apart (inl ex) (inl ey) same = ex ∙ sym ey
one_claim (z ∷ zs) x y apart (inl ex) (inr iy) same = absurd (apart.0 y iy (rw (← ex) same.0, rw (← ex) same.1))
one_claim (z ∷ zs) x y apart (inr ix) (inl ey) same = grind arith
one_claim (z ∷ zs) x y apart (inr ix) (inr iy) same = one_claim zs x y apart.1 ix iy same
