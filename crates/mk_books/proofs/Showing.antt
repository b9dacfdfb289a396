-- What a map shows, by its pages and sets.
use Rattle.std.proofs.{Common.take_at, lemmas.List.FromFn.get_or-map-range_with_len}
use Rattle.mk_books.proofs.Vocabulary.{AreSets, drop, take, ◌++◌}
use Rattle.mk_books.proofs.Vocabulary.{KnownPages, List, OthersStay, Page, PageUse, PutsPage, Shows, SortsPage, ℕ, ap}
use Rattle.mk_books.proofs.Vocabulary.{arith, cases_eq, false, get_or, get_or-set_other, get_or-set_same, inl, inr}
use Rattle.mk_books.proofs.Vocabulary.{is_member, length, length-set, nat_eq, not, set, sym, ◌<◌, ◌∙◌, ◌≡◌, ◌≤◌}
use Rattle.mk_books.specs.{KnownPages.has_freed_cells, PageSets.members}

abbrev pub known_by : List Page → List ℕ → KnownPages
known_by pages sets =
    record { pages = pages; quarantined = members sets 18 (length pages); uncleaned = members sets 19 (length pages) }

pub member_at : (sets : List ℕ) (s count number : ℕ) → number < count
    → get_or (members sets s count) number false ≡ is_member sets s number
member_at sets s count number within = grind (arith, get_or-map-range_with_len)

pub member_of_freed : (held : List Page) {pages : List Page} (sets : List ℕ) {freed : List ℕ}
    → Shows (known_by held sets) pages freed → (number : ℕ) → number < length pages
    → is_member sets 18 number ≡ has_freed_cells freed number
member_of_freed held sets shows number within = grind (arith, member_at)

-- a set stays as it is if it stays so for the page that is sorted
pub set_stays : (sets after : List ℕ) (page s number : ℕ) → s < 20 → number < 4096 → OthersStay sets after page
    → is_member after s page ≡ is_member sets s page → is_member after s number ≡ is_member sets s number
set_stays sets after page s number is_set few others same = elim (cases_eq number page) [
  | inl here ↦ ap (is_member after s) here ∙ same ∙ ap (is_member sets s) (sym here)
  | inr differ ↦ others s number is_set few differ
]

-- after a page's header or used word changed, and its quarantine stayed
pub changed_shows : (held : List Page) {pages : List Page} (sets after : List ℕ) {freed : List ℕ} {page : ℕ}
    {stands : PageUse} (now : Page) → length held ≤ 4096 → SortsPage sets after page stands
    → Shows (known_by held sets) pages freed → Shows (known_by (set held page now) after) (set pages page now) freed
changed_shows held {pages} sets after {page} now few sorts shows =
    let long : length held ≡ length pages = ap length shows.page_by_page in
    let held_long : length (set held page now) ≡ length held = length-set held page now in
    let pages_long : length (set pages page now) ≡ length pages = length-set pages page now in
    record {
      page_by_page = ap (λ ps. set ps page now) shows.page_by_page;
      freed_words = shows.freed_words ∙ sym pages_long;
      quarantined = λ number within. member_at after 18 (length (set held page now)) number (omega arith)
          ∙ set_stays sets after page 18 number (omega arith) (omega arith) sorts.other_pages sorts.quarantined
          ∙ member_of_freed held sets shows number (omega arith);
    }

-- after a page's quarantine word changed
pub quarantine_shows : (held : List Page) {pages : List Page} (sets after : List ℕ) {freed : List ℕ} {page : ℕ}
    (cells : ℕ) → length held ≤ 4096 → page < length held → PutsPage sets after 18 page (not (nat_eq cells 0))
    → Shows (known_by held sets) pages freed → Shows (known_by held after) pages (set freed page cells)
quarantine_shows held {pages} sets after {freed} {page} cells few inside puts shows =
    let long : length held ≡ length pages = ap length shows.page_by_page in
    let freed_here : get_or (set freed page cells) page 0 ≡ cells =
    get_or-set_same freed page cells 0 (omega (arith, shows.freed_words)) in
    record {
      page_by_page = shows.page_by_page;
      freed_words = length-set freed page cells ∙ shows.freed_words;
      quarantined = λ number within. member_at after 18 (length held) number (omega arith)
          ∙ elim (cases_eq number page) [
            | inl same ↦ ap (is_member after 18) same ∙ puts.this
                ∙ sym (ap (has_freed_cells (set freed page cells)) same ∙ ap (λ n. not (nat_eq n 0)) freed_here)
            | inr differ ↦ puts.other_pages 18 number (omega arith) (omega arith) differ
                ∙ member_of_freed held sets shows number within
                ∙ sym (ap (λ n. not (nat_eq n 0)) (get_or-set_other freed page number cells 0 differ))
          ];
    }

-- what a Vec holds after a write through its slice
abbrev pub written_in : {A : Type 0} → List A → List A → ℕ → List A
written_in new old n = take n (new ++ drop (length new) old)

pub sets_written : {sets : List ℕ} (after : List ℕ) {len : ℕ} → len ≡ length sets → AreSets sets → AreSets after
    → written_in after sets len ≡ after
sets_written {sets} after {len} long before now =
    take_at after (drop (length after) sets) len (omega (arith, long, before.long, now.long))
