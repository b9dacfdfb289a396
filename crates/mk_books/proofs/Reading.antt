-- What a map's answers say of the pages that it shows.
use Rattle.std.proofs.lemmas.List.{get_or-map}
use Rattle.mk_books.proofs.Vocabulary.{Bool, FitPages, IsNext, KnownPages, List, Nothing, Option, Page, PageUse, Shows}
use Rattle.mk_books.proofs.Vocabulary.{ℕ, ap, arith, false, first_where, free_page, is_member, is_of_set, length}
use Rattle.mk_books.proofs.Vocabulary.{length-map, page_at, subst, sym, use_of_page, uses_of_pages, ◌<◌, ◌∙◌, ◌≡◌, ◌≤◌}
use Rattle.mk_books.proofs.{NextPages.{first_is_next, same_next}, Showing.{known_by, member_at}}
use Rattle.mk_books.specs.KnownPages.{is_quarantined_page}

-- a look at the sets of a map, and at how many pages it has
pub record Reads (known : KnownPages) (held : List Page) (sets slice : List ℕ) (resident count : ℕ) : Type 0 where
  pub view : known_by held sets ≡ known
  pub fit : FitPages held sets resident
  pub is_slice : slice ≡ sets
  pub is_count : count ≡ length held

pub reads_by : {known : KnownPages} {held : List Page} {sets slice : List ℕ} {resident count : ℕ}
    → known_by held sets ≡ known → FitPages held sets resident → slice ≡ sets → count ≡ length held
    → Reads known held sets slice resident count
reads_by view fit is_slice is_count = record { view = view; fit = fit; is_slice = is_slice; is_count = is_count }

pub no_others_there : {known : KnownPages} {held : List Page} {sets slice : List ℕ} {resident count : ℕ} (set : ℕ)
    → Reads known held sets slice resident count → set < 20 → (number : ℕ) → count ≤ number → number < 4096
    → is_member slice set number ≡ false
no_others_there set reads is_set number past few = grind arith

-- and by what the map knows: of the first 18 sets, and of the two of quarantined and of uncleaned pages
pub next_of_sorted : {known : KnownPages} {held : List Page} {sets slice : List ℕ} {resident count : ℕ} (set from : ℕ)
    (next : Option ℕ) → Reads known held sets slice resident count → set < 18 → IsNext (is_member slice set) from count
    next → IsNext (λ number. is_of_set set (use_of_page (page_at known.pages number))) from (length known.pages) next
next_of_sorted {held} set from next reads is_set found =
    subst (λ (k : KnownPages). IsNext (λ number. is_of_set set (use_of_page (page_at k.pages number))) from
    (length k.pages) next) reads.view (grind (arith, same_next))

pub next_of_quarantined : {known : KnownPages} {held : List Page} {sets slice : List ℕ} {resident count : ℕ}
    (from : ℕ) (next : Option ℕ) → Reads known held sets slice resident count
    → IsNext (is_member slice 18) from count next → IsNext (is_quarantined_page known) from (length known.pages) next
next_of_quarantined from next reads found = grind (arith, same_next, known_by, member_at)

-- the first page of a set, among those that the map shows
pub first_shown : {known : KnownPages} {pages : List Page} {freed : List ℕ} {next : Option ℕ} (set : ℕ)
    (passes : PageUse → Bool) → Shows known pages freed → ((stands : PageUse) → is_of_set set stands ≡ passes stands)
    → IsNext (λ number. is_of_set set (use_of_page (page_at known.pages number))) 0 (length known.pages) next
    → next ≡ first_where passes (uses_of_pages pages)
first_shown {pages} {next} set passes shows same found =
    let long : length (uses_of_pages pages) ≡ length pages = length-map pages use_of_page in
    first_is_next passes (uses_of_pages pages) Nothing next (λ number within. same (use_of_page (page_at pages number))
    ∙ ap passes (sym (get_or-map use_of_page pages number free_page Nothing (omega arith))))
    (subst (λ (n : ℕ). IsNext (λ number. is_of_set set (use_of_page (page_at pages number))) 0 n next) (sym long)
    (subst (λ (ps : List Page). IsNext (λ number. is_of_set set (use_of_page (page_at ps number))) 0 (length ps) next)
    shows.page_by_page found))
