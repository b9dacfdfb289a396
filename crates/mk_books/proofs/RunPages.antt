-- The pages of a run after its header words were stored together.
use Rattle.std.proofs.Common.{◌*◌}
use Rattle.mk_books.proofs.Vocabulary.{List, Page, ap, arith, cases_eq, cases_lt, free_page}
use Rattle.mk_books.proofs.Vocabulary.{get_or-set_other, get_or-set_same, inl, inr, length, length-set, page_at, refl}
use Rattle.mk_books.proofs.Vocabulary.{resident_pages, set, subst, suc, sym, uses_of_pages, zero, ◌+◌, ◌-◌}
use Rattle.mk_books.proofs.{Vocabulary.{ℕ, ◌<◌, ◌∙◌, ◌≡◌, ◌≤◌}, FitStays.{resident_changed, resident_one}}
use Rattle.mk_books.specs.KnownPages.{with_headers}

pub length-with_headers : (pages : List Page) (first count : ℕ) (headers : ℕ → ℕ)
    → length (with_headers pages first count headers) ≡ length pages
length-with_headers pages first zero headers = refl
length-with_headers pages first (suc n) headers =
    length-set (with_headers pages first n headers) (first + n) _ ∙ length-with_headers pages first n headers

-- a page that isn't among them
pub page_outside : (pages : List Page) (first count number : ℕ) (headers : ℕ → ℕ)
    → (first ≤ number → number < first + count → ⊥)
    → page_at (with_headers pages first count headers) number ≡ page_at pages number
page_outside pages first zero number headers outside = refl
page_outside pages first (suc n) number headers outside =
    get_or-set_other (with_headers pages first n headers) (first + n) number _ free_page
    (λ same. outside (omega arith) (omega arith))
    ∙ page_outside pages first n number headers (λ low high. outside low (omega arith))

-- a page among them
pub page_inside : (pages : List Page) (first count distance : ℕ) (headers : ℕ → ℕ) → first + count ≤ length pages
    → distance < count → page_at (with_headers pages first count headers) (first + distance)
    ≡ record { header = headers distance; used = (page_at pages (first + distance)).used }
page_inside pages first zero distance headers within inside = absurd (omega arith)
page_inside pages first (suc n) distance headers within inside =
    let ws : List Page = with_headers pages first n headers in
    let long : length ws ≡ length pages = length-with_headers pages first n headers in
    let last : Page = record { header = headers n; used = (page_at ws (first + n)).used } in
    elim (cases_eq distance n) [
      | inl same ↦ subst (λ (d : ℕ). page_at (set ws (first + n) last) (first + d)
          ≡ record { header = headers d; used = (page_at pages (first + d)).used }) (sym same)
          (get_or-set_same ws (first + n) last free_page (omega arith)
          ∙ ap (λ (p : Page). record { header = headers n; used = p.used })
          (page_outside pages first n (first + n) headers (λ low high. absurd (omega arith))))
      | inr differ ↦ get_or-set_other ws (first + n) (first + distance) last free_page (λ same. differ (omega arith))
          ∙ page_inside pages first n distance headers (omega arith) (omega arith)
    ]

-- how many are resident
pub resident_range : (pages : List Page) (first count was is : ℕ) (headers : ℕ → ℕ) → first + count ≤ length pages
    → ((distance : ℕ) → distance < count → resident_one (page_at pages (first + distance)) ≡ was)
    → ((distance used : ℕ) → distance < count
    → resident_one (record { header = headers distance; used = used }) ≡ is)
    → resident_pages (uses_of_pages (with_headers pages first count headers)) + count * was
    ≡ resident_pages (uses_of_pages pages) + count * is
resident_range pages first zero was is headers within before after = omega arith
resident_range pages first (suc n) was is headers within before after =
    let ws : List Page = with_headers pages first n headers in
    let one = after n (page_at ws (first + n)).used (omega arith) in
    let old = ap resident_one (page_outside pages first n (first + n) headers (λ low high. absurd (omega arith)))
    ∙ before n (omega arith) in
    let long : length ws ≡ length pages = length-with_headers pages first n headers in
    let step = resident_changed ws (first + n) (record { header = headers n; used = (page_at ws (first + n)).used })
    (omega arith) in
    let rest = resident_range pages first n was is headers (omega arith) (λ d inside. before d (omega arith))
    (λ d used inside. after d used (omega arith)) in
    omega (arith, one, old, step, rest)

-- whether a page is one of a range
pub in_range : (first count number : ℕ) → (P : ℕ → Type 0)
    → ((distance : ℕ) → distance < count → P (first + distance))
    → ((first ≤ number → number < first + count → ⊥) → P number) → P number
in_range first count number P inside outside = elim (cases_lt number first) [
  | inl below ↦ outside (λ low high. absurd (omega arith))
  | inr above ↦ elim (cases_lt number (first + count)) [
    | inl low ↦ subst P (omega arith) (inside (number - first) (omega arith))
    | inr past ↦ outside (λ _ high. absurd (omega arith))
  ]
]
