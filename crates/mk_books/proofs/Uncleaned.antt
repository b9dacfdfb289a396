-- Which pages a map has as uncleaned, by its sets.
use Rattle.std.{proofs.Common.◌&&◌, proofs.Common.◌==◌, proofs.Common.◌||◌, proofs.lemmas.List.get_or_past}
use Rattle.std.{proofs.lemmas.List.FromFn.length-range_with_len, specs.List.range_with_len}
use Rattle.mk_books.proofs.Vocabulary.{Bool, FitPages, IsNext, KnownPages, List, Option, OthersStay, Page, PutsPage}
use Rattle.mk_books.proofs.Vocabulary.{Shows, ℕ, ap, arith, cases_lt, false, is_member, length, length-map, not}
use Rattle.mk_books.proofs.{Vocabulary.{page_at, subst, sym, ◌<◌, ◌∙◌, ◌≡◌, ◌≤◌}, Showing.{known_by, member_at}}
use Rattle.mk_books.proofs.{Showing.{member_of_freed, set_stays}, FitStays.fit_again, NextPages.same_next}
use Rattle.mk_books.proofs.Reading.{Reads}
use Rattle.mk_books.specs.{KnownPages.{is_uncleaned, is_uncleaned_under}, PageSets.members}

pub uncleaned_at : (held : List Page) (sets : List ℕ) (number : ℕ) → number < length held
    → is_uncleaned (known_by held sets) number ≡ is_member sets 19 number
uncleaned_at held sets number within = member_at sets 19 (length held) number within

uncleaned_past : (held : List Page) (sets : List ℕ) (number : ℕ) → length held ≤ number
    → is_uncleaned (known_by held sets) number ≡ false
uncleaned_past held sets number past =
    let long : length (members sets 19 (length held)) ≡ length held =
    length-map (range_with_len 0 (length held)) (is_member sets 19) ∙ length-range_with_len 0 (length held) in
    get_or_past (members sets 19 (length held)) number false (omega arith)

-- what the set has as before
pub uncleaned_alike : (held now : List Page) (sets after : List ℕ) (number : ℕ) → length now ≡ length held
    → (number < length held → is_member after 19 number ≡ is_member sets 19 number)
    → is_uncleaned (known_by now after) number ≡ is_uncleaned (known_by held sets) number
uncleaned_alike held now sets after number long same = grind (arith, cases_lt, uncleaned_at, uncleaned_past)

pub uncleaned_others : (held now : List Page) (sets after : List ℕ) {page : ℕ} (number : ℕ) → length now ≡ length held
    → length held ≤ 4096 → OthersStay sets after page → (number ≡ page → ⊥)
    → is_uncleaned (known_by now after) number ≡ is_uncleaned (known_by held sets) number
uncleaned_others held now sets after number long few others differ =
    uncleaned_alike held now sets after number long (λ within. others 19 number (omega arith) (omega arith) differ)

-- a page is put into a set that doesn't tell what stands on it, or out of it
pub record PutsInto (held : List Page) (sets slice after : List ℕ) (resident set page : ℕ) (inside : Bool)
    : Type 0 where
  pub fit : FitPages held sets resident
  pub within : page < length held
  pub is_slice : slice ≡ sets
  pub puts : PutsPage slice after set page inside

pub puts_it : {held : List Page} {sets slice after : List ℕ} {resident set page : ℕ} {inside : Bool}
    → PutsInto held sets slice after resident set page inside → PutsPage sets after set page inside
puts_it {after} {set} {page} {inside} r =
    subst (λ (xs : List ℕ). PutsPage xs after set page inside) r.is_slice r.puts

pub still_fits : {held : List Page} {sets slice after : List ℕ} (vec : List ℕ) {resident set page : ℕ}
    {inside : Bool} → 18 ≤ set → PutsInto held sets slice after resident set page inside → vec ≡ after
    → FitPages held vec resident
still_fits {held} vec {resident} apart r written =
    subst (λ (xs : List ℕ). FitPages held xs resident) (sym written) (fit_again apart r.within (puts_it r) r.fit)

-- if all else of a page stays in the sets

same_freed : {held : List Page} {sets slice after : List ℕ} {resident page : ℕ} {inside : Bool}
    → PutsInto held sets slice after resident 19 page inside
    → (number : ℕ) → number < length held → is_member after 18 number ≡ is_member sets 18 number
same_freed {sets} {after} {page} r number within = set_stays sets after page 18 number (omega arith)
    (omega (arith, r.fit.few)) (puts_it r).other_pages ((puts_it r).other_sets 18 (omega arith) (omega arith))

pub still_shows : {known : KnownPages} {held pages : List Page} {sets slice after : List ℕ}
    (vec : List ℕ) {freed : List ℕ} {resident page : ℕ} {inside : Bool}
    → PutsInto held sets slice after resident 19 page inside → vec ≡ after → known_by held sets ≡ known
    → Shows known pages freed → Shows (known_by held vec) pages freed
still_shows {held} {pages} {sets} {after} vec {freed} r written view shows =
    let before = subst (λ (k : KnownPages). Shows k pages freed) (sym view) shows in
    let long : length held ≡ length pages = ap length before.page_by_page in
    subst (λ (xs : List ℕ). Shows (known_by held xs) pages freed) (sym written) (record {
      page_by_page = before.page_by_page;
      freed_words = before.freed_words;
      quarantined = λ number within. member_at after 18 (length held) number (omega arith)
          ∙ same_freed r number (omega arith) ∙ member_of_freed held sets before number within;
    })

pub this_uncleaned : (held : List Page) (after vec : List ℕ) (page : ℕ) (inside : Bool) → page < length held
    → vec ≡ after → is_member after 19 page ≡ inside → is_uncleaned (known_by held vec) page ≡ inside
this_uncleaned held after vec page inside within written put = grind (arith, known_by, uncleaned_at)

-- a header word is stored: what it says of the page that is found there
pub header_uncleaned : (known : KnownPages) (held : List Page) (sets : List ℕ) {slice : List ℕ} (after : List ℕ)
    {found : Page} (page header : ℕ) {was_free : Bool} → known_by held sets ≡ known → page < length held
    → found ≡ page_at held page
    → slice ≡ sets → was_free ≡ (found.header == 0)
    → is_member after 19 page ≡ (header == 0 || (not was_free && is_member slice 19 page))
    → is_member after 19 page ≡ is_uncleaned_under known page header
header_uncleaned known held sets {slice} after page header view within read is_slice free is =
    grind (arith, uncleaned_at)

-- a store of a word of a page: what the set has of other pages, and of this one if it stays there

pub others_kept : (known : KnownPages) (held now : List Page) (sets : List ℕ) {slice after : List ℕ}
    (vec : List ℕ) {page : ℕ} (number : ℕ) → known_by held sets ≡ known → slice ≡ sets → vec ≡ after
    → length now ≡ length held → length held ≤ 4096 → OthersStay slice after page → (number ≡ page → ⊥)
    → is_uncleaned (known_by now vec) number ≡ is_uncleaned known number
others_kept known held now sets {after} vec {page} number view is_slice written long few others differ =
    ap (λ xs. is_uncleaned (known_by now xs) number) written ∙ uncleaned_others held now sets after number long few
    (subst (λ (xs : List ℕ). OthersStay xs after page) is_slice others) differ ∙ ap (λ k. is_uncleaned k number) view

pub all_kept : (known : KnownPages) (held now : List Page) (sets : List ℕ) {slice after : List ℕ} (vec : List ℕ)
    {page : ℕ} (number : ℕ) → known_by held sets ≡ known → slice ≡ sets → vec ≡ after → length now ≡ length held
    → length held ≤ 4096 → OthersStay slice after page → is_member after 19 page ≡ is_member slice 19 page
    → is_uncleaned (known_by now vec) number ≡ is_uncleaned known number
all_kept known held now sets {after} vec {page} number view is_slice written long few others same =
    ap (λ xs. is_uncleaned (known_by now xs) number) written ∙ uncleaned_alike held now sets after number long
    (λ within. set_stays sets after page 19 number (omega arith) (omega arith) (subst
    (λ (xs : List ℕ). OthersStay xs after page) is_slice others) (same ∙ ap (λ xs. is_member xs 19 page) is_slice))
    ∙ ap (λ k. is_uncleaned k number) view

-- the next page of the set
pub next_of_uncleaned : {known : KnownPages} {held : List Page} {sets slice : List ℕ} {resident count : ℕ} (from : ℕ)
    (next : Option ℕ) → Reads known held sets slice resident count
    → IsNext (is_member slice 19) from count next → IsNext (is_uncleaned known) from (length known.pages) next
next_of_uncleaned from next reads found = grind (arith, same_next, known_by, uncleaned_at)
