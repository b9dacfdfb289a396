-- What a page map knows after header words of a run were stored together, and that it fits then.
use Rattle.std.proofs.Common.{drop, le-leb, le-ltb, lt-ltb, nat_le, ne_eqb, take_at, ◌&&◌, ◌*◌, ◌-◌, ◌||◌}
use Rattle.std.proofs.lemmas.Bool.{and_left, and_right, lt-leb}
use Rattle.mk_books.proofs.Vocabulary.{AreSets, Bool, FitPages, IsInItsSets, KnownPages, List, Page, PageUse, PartOfRun}
use Rattle.mk_books.proofs.Vocabulary.{ap, arith, cases_eq, cond, false, inl, inr, is_free_page, nat_lt, cases_lt}
use Rattle.mk_books.proofs.Vocabulary.{Nothing, is_member, is_of_set}
use Rattle.mk_books.proofs.Vocabulary.{is_resident_page, length, nat_eq, not, page_at, refl, resident_pages, subst, sym}
use Rattle.mk_books.proofs.{Vocabulary.{true, use_of_page, uses_of_pages, ℕ, ◌+◌, ◌<◌, ◌∙◌, ◌≡◌, ◌≤◌}}
use Rattle.mk_books.proofs.{BlockSets.{each_set, of_block_set}}
use Rattle.mk_books.proofs.{RunPages.{in_range, length-with_headers, page_inside, page_outside, resident_range}}
use Rattle.mk_books.proofs.Showing.{known_by, member_at, member_of_freed, sets_written, written_in}
use Rattle.mk_books.proofs.Uncleaned.{uncleaned_alike, uncleaned_at}
use Rattle.mk_books.{proofs.MovedPages.{no_teller, placed}, specs.PageSets.{MovesPages, is_between, tells_free}}
use Rattle.mk_books.specs.KnownPages.{AreBare, HeadersSay, RunIsTold, StandsOn, with_headers}
use Rattle.mk_geom.specs.{Addresses.header_of, PageUses.use_under}

-- Header words are stored under which this is on the pages: the pages and the sets before, and the sets and the count
-- of resident pages then.
pub record StoresRun (held : List Page) (sets after : List ℕ) (now first count : ℕ) (headers : ℕ → ℕ)
    (stands : PageUse) : Type 0 where
  pub within : first + count ≤ length held
  pub says : HeadersSay stands count headers
  pub are_sets : 0 < length held → AreSets after
  pub sorted : (distance s : ℕ) → distance < count → s < 18 → is_member after s (first + distance) ≡ is_of_set s stands
  pub quarantined : (number : ℕ) → number < 4096 → is_member after 18 number ≡ is_member sets 18 number
  pub uncleaned : (distance : ℕ) → distance < count → is_member after 19 (first + distance)
      ≡ (nat_eq (headers distance) 0
      || (not (nat_eq (page_at held (first + distance)).header 0) && is_member sets 19 (first + distance)))
  pub others : (s number : ℕ) → s < 20 → number < 4096 → (first ≤ number → number < first + count → ⊥)
      → is_member after s number ≡ is_member sets s number
  pub counted : now ≡ resident_pages (uses_of_pages (with_headers held first count headers))

-- the sets fit
run_fits : {held : List Page} {sets after : List ℕ} {resident now first count : ℕ} {headers : ℕ → ℕ}
    {stands : PageUse} → FitPages held sets resident → StoresRun held sets after now first count headers stands
    → FitPages (with_headers held first count headers) after now
run_fits {held} {sets} {after} {resident} {now} {first} {count} {headers} {stands} fit stores =
    let pages : List Page = with_headers held first count headers in
    let long : length pages ≡ length held = length-with_headers held first count headers in
    record {
      few = omega (arith, fit.few);
      are_sets = λ some. stores.are_sets (omega arith);
      sorted = λ number within. in_range first count number
          (λ (k : ℕ). k < length pages → IsInItsSets after k (use_of_page (page_at pages k)))
          (λ d inside _ s is_set. stores.sorted d s inside is_set
          ∙ sym (ap (is_of_set s) (ap use_of_page (page_inside held first count d headers stores.within inside)
          ∙ stores.says d (page_at held (first + d)).used inside)))
          (λ outside _ s is_set. stores.others s number (omega arith) (omega (arith, fit.few)) outside
          ∙ fit.sorted number (omega arith) s is_set
          ∙ sym (ap (λ (p : Page). is_of_set s (use_of_page p)) (page_outside held first count number headers outside)))
          within;
      no_others = λ s number is_set past short. stores.others s number is_set short
          (λ low high. absurd (omega (arith, stores.within))) ∙ fit.no_others s number is_set (omega arith) short;
      counted = stores.counted;
    }

-- the map knows of each page what it would know if it had been told of it
run_told : {held : List Page} {sets after : List ℕ} {resident now first count : ℕ} {headers : ℕ → ℕ}
    {stands : PageUse} → FitPages held sets resident → StoresRun held sets after now first count headers stands
    → RunIsTold (known_by held sets) first count headers (known_by (with_headers held first count headers) after)
run_told {held} {sets} {after} {first = first} {count = count} {headers = headers} fit stores =
    let now : List Page = with_headers held first count headers in
    let long : length now ≡ length held = length-with_headers held first count headers in
    record {
      shows = λ pages freed shows. let same : length held ≡ length pages = ap length shows.page_by_page in record {
        page_by_page = ap (λ ps. with_headers ps first count headers) shows.page_by_page;
        freed_words = shows.freed_words ∙ sym (length-with_headers pages first count headers);
        quarantined = λ number inside.
            let pages_long : length (with_headers pages first count headers) ≡ length pages
            = length-with_headers pages first count headers in
            member_at after 18 (length now) number (omega arith)
            ∙ stores.quarantined number (omega (arith, fit.few)) ∙ member_of_freed held sets shows number (omega arith);
      };
      inside = λ d inside. uncleaned_at now after (first + d) (omega (arith, stores.within)) ∙ stores.uncleaned d inside
          ∙ ap (λ b. nat_eq (headers d) 0 || (not (nat_eq (page_at held (first + d)).header 0) && b))
          (sym (uncleaned_at held sets (first + d) (omega (arith, stores.within))));
      outside = λ number outside. uncleaned_alike held now sets after number long
          (λ within. stores.others 19 number (omega arith) (omega (arith, fit.few)) outside);
    }

-- A map whose pages and sets are these now fits, and knows of the run.
pub record MapIsTold (known : KnownPages) (first count : ℕ) (headers : ℕ → ℕ) (pages : List Page) (sets : List ℕ)
    (resident : ℕ) : Type 0 where
  pub fits : FitPages pages sets resident
  pub told : RunIsTold known first count headers (known_by pages sets)

-- The header words were stored through the slice of the map's pages. What was asked of the pages that the map knows
-- holds of those that it has.
pub map_told : (P : List Page → Type 0) {known : KnownPages} {held slice new : List Page} {sets after vec : List ℕ}
    {resident now len first count : ℕ} (headers : ℕ → ℕ) (stands : PageUse) → known_by held sets ≡ known
    → FitPages held sets resident → len ≡ length held → slice ≡ held → new ≡ with_headers slice first count headers
    → vec ≡ after → P known.pages → (P held → StoresRun held sets after now first count headers stands)
    → MapIsTold known first count headers (written_in new held len) vec now
map_told P {known} {held} {slice} {new} {sets} {after} {vec} {now = now} {len = len} {first = first} {count = count}
    headers stands view fit long seen stored is before stores =
    let then : List Page = with_headers held first count headers in
    let is_new : new ≡ then = stored ∙ ap (λ (ps : List Page). with_headers ps first count headers) seen in
    let is_pages : written_in new held len ≡ then = take_at new (drop (length new) held) len (omega (
      arith,
      long,
      ap length is_new,
      length-with_headers held first count headers,
    )) ∙ is_new in
    let run = stores (subst P (sym (ap (λ (k : KnownPages). k.pages) view)) before) in
    record {
      fits = subst (λ (xs : List ℕ). FitPages (written_in new held len) xs now) (sym is)
          (subst (λ (ps : List Page). FitPages ps after now) (sym is_pages) (run_fits fit run));
      told = subst (λ (xs : List ℕ). RunIsTold known first count headers (known_by (written_in new held len) xs))
          (sym is) (subst (λ (ps : List Page). RunIsTold known first count headers (known_by ps after)) (sym is_pages)
          (subst (λ (k : KnownPages). RunIsTold k first count headers (known_by then after)) view (run_told fit run)));
    }

-- And then its pages were moved, through the slice of its sets.
pub moved_map_told : (P : List Page → Type 0) {known : KnownPages} {held slice new : List Page}
    {sets seen after : List ℕ} {resident now len size first count : ℕ} (headers : ℕ → ℕ) (stands : PageUse)
    {free : Bool} → known_by held sets ≡ known → FitPages held sets resident → len ≡ length held → slice ≡ held
    → new ≡ with_headers slice first count headers → size ≡ length sets → seen ≡ sets
    → MovesPages seen after (is_between first (first + count)) free → first + count ≤ length known.pages → 0 < count
    → P known.pages → (P held → first + count ≤ length held → MovesPages sets after (is_between first (first + count))
    free → StoresRun held sets after now first count headers stands)
    → MapIsTold known first count headers (written_in new held len) (written_in after sets size) now
moved_map_told P {known} {held} {sets = sets} {after = after} {first = first} {count = count} headers stands {free} view
    fit long seen_pages stored size_is seen moves within some before stores =
    let inside : first + count ≤ length held =
    omega (arith, within, ap (λ (k : KnownPages). length k.pages) view) in
    map_told P headers stands view fit long seen_pages stored
    (sets_written after size_is (fit.are_sets (omega (arith, inside, some))) moves.are_sets) before
    (λ was. stores was inside (subst (λ (xs : List ℕ). MovesPages xs after (is_between first (first + count)) free) seen
    moves))

-- how many pages are resident, if these ones had `was` on each page and have `is`
resident_then : {held : List Page} {sets : List ℕ} {resident : ℕ} (first count : ℕ) (headers : ℕ → ℕ)
    {was stands : PageUse} (one other : ℕ) → FitPages held sets resident → first + count ≤ length held
    → StandsOn was held first count → HeadersSay stands count headers → cond (is_resident_page was) 1 0 ≡ one
    → cond (is_resident_page stands) 1 0 ≡ other
    → resident_pages (uses_of_pages (with_headers held first count headers)) + count * one ≡ resident + count * other
resident_then {held} first count headers one other fit within before says was is =
    let counted = resident_range held first count one other headers within
    (λ d inside. ap (λ u. cond (is_resident_page u) 1 0) (before d inside) ∙ was)
    (λ d used inside. ap (λ u. cond (is_resident_page u) 1 0) (says d used inside) ∙ is) in
    omega (arith, counted, fit.counted)

-- a page of a run has a header word
has_word : (header used : ℕ) (mapped : Bool) → use_under (header_of header) used ≡ PartOfRun mapped
    → nat_eq header 0 ≡ false
has_word header used mapped is = elim (cases_eq header 0) [
  | inl bare ↦ absurd (grind (
    arith,
    ap is_free_page (sym (subst (λ (h : ℕ). use_under (header_of h) used
        ≡ PartOfRun mapped) bare is)),
  ))
  | inr differ ↦ ne_eqb header 0 differ
]

-- pages of mapped and of unmapped runs are in the same sets
runs_alike : (s : ℕ) → s < 18 → is_of_set s (PartOfRun true) ≡ is_of_set s (PartOfRun false)
runs_alike = each_set (λ s. is_of_set s (PartOfRun true) ≡ is_of_set s (PartOfRun false))
    (λ s block. of_block_set s (PartOfRun true) block ∙ sym (of_block_set s (PartOfRun false) block)) refl refl

-- a run is unmapped: its pages stay in their sets

unmapped_count : {held : List Page} {sets : List ℕ} {resident : ℕ} (first count : ℕ) (headers : ℕ → ℕ)
    → FitPages held sets resident → first + count ≤ length held → StandsOn (PartOfRun true) held first count
    → HeadersSay (PartOfRun false) count headers
    → resident_pages (uses_of_pages (with_headers held first count headers)) + count ≡ resident
unmapped_count first count headers fit within before says =
    let counted = resident_then first count headers 1 0 fit within before says refl refl in omega (arith, counted)

pub unmapped_enough : {known : KnownPages} {held : List Page} {sets : List ℕ} {resident : ℕ} (first count : ℕ)
    (headers : ℕ → ℕ) → known_by held sets ≡ known → FitPages held sets resident
    → first + count ≤ length known.pages → StandsOn (PartOfRun true) known.pages first count
    → HeadersSay (PartOfRun false) count headers → count ≤ resident
unmapped_enough first count headers view fit within before says =
    let same = sym (ap (λ (k : KnownPages). k.pages) view) in
    omega (
      arith,
      unmapped_count first count headers fit
          (subst (λ (ps : List Page). first + count ≤ length ps) same within)
          (subst (λ (ps : List Page). StandsOn (PartOfRun true) ps first count) same before) says,
    )

pub unmapped_stored : {held : List Page} {sets : List ℕ} {resident : ℕ} (first count : ℕ) (headers : ℕ → ℕ)
    → FitPages held sets resident → first + count ≤ length held → StandsOn (PartOfRun true) held first count
    → HeadersSay (PartOfRun false) count headers
    → StoresRun held sets sets (resident - count) first count headers (PartOfRun false)
unmapped_stored {held} {sets} first count headers fit within before says = record {
  within = within;
  says = says;
  are_sets = fit.are_sets;
  sorted = λ d s inside is_set. fit.sorted (first + d) (omega arith) s is_set
      ∙ ap (is_of_set s) (before d inside) ∙ runs_alike s is_set;
  quarantined = λ number short. refl;
  uncleaned = λ d inside.
      let was = has_word (page_at held (first + d)).header (page_at held (first + d)).used true (before d inside) in
      let is = has_word (headers d) 0 false (says d 0 inside) in
      sym (ap (λ b. b || (not (nat_eq (page_at held (first + d)).header 0) && is_member sets 19 (first + d))) is
      ∙ ap (λ b. not b && is_member sets 19 (first + d)) was);
  others = λ s number is_set short outside. refl;
  counted = omega (arith, unmapped_count first count headers fit within before says);
}

-- pages move into the sets of free pages, or out of them

between_in : (first count distance : ℕ) → distance < count → is_between first (first + count) (first + distance) ≡ true
between_in first count distance inside = grind (arith, le-leb, lt-ltb)

between_out : (first count number : ℕ) → (first ≤ number → number < first + count → ⊥)
    → is_between first (first + count) number ≡ false
between_out first count number outside = in_range first count number
    (λ k. (first ≤ k → k < first + count → ⊥) → is_between first (first + count) k ≡ false)
    (λ d inside out. absurd (out (omega arith) (omega arith)))
    (λ _ out. elim (cases_lt number first) [
      | inl low ↦ and_left (nat_le first number) (nat_lt number (first + count)) (lt-leb first number low)
      | inr high ↦ elim (cases_lt number (first + count)) [
        | inl within ↦ absurd (out high within)
        | inr past ↦ and_right (nat_le first number) (nat_lt number (first + count))
            (le-ltb number (first + count) past)
      ]
    ]) outside

moved_stored : {held : List Page} {sets : List ℕ} (after : List ℕ) {resident now : ℕ} (first count : ℕ)
    (headers : ℕ → ℕ) (was stands : PageUse) {free : Bool} → FitPages held sets resident → first + count ≤ length held
    → StandsOn was held first count → HeadersSay stands count headers
    → MovesPages sets after (is_between first (first + count)) free → free ≡ is_free_page stands
    → ((s : ℕ) → s < 16 → is_of_set s was ≡ is_of_set s stands)
    → ((distance : ℕ) → distance < count → free ≡ (nat_eq (headers distance) 0
    || (not (nat_eq (page_at held (first + distance)).header 0) && is_member sets 19 (first + distance))))
    → now ≡ resident_pages (uses_of_pages (with_headers held first count headers))
    → StoresRun held sets after now first count headers stands
moved_stored {held} {sets} after first count headers was stands {free} fit within before says moves own alike cleaned
    counted = record {
      within = within;
      says = says;
      are_sets = λ some. moves.are_sets;
      sorted = λ d s inside is_set. each_set (λ k. is_member after k (first + d) ≡ is_of_set k stands)
          (λ k block. moves.moved k (first + d) (omega arith) (omega (arith, fit.few))
          ∙ ap (λ b. cond (b && is_between first (first + count) (first + d)) (placed k free)
          (is_member sets k (first + d))) (no_teller k (omega arith) (omega arith) (omega arith))
          ∙ fit.sorted (first + d) (omega arith) k (omega arith) ∙ ap (is_of_set k) (before d inside) ∙ alike k block)
          (moves.moved 16 (first + d) (omega arith) (omega (arith, fit.few))
          ∙ ap (λ b. cond b free (is_member sets 16 (first + d))) (between_in first count d inside) ∙ own)
          (moves.moved 17 (first + d) (omega arith) (omega (arith, fit.few))
          ∙ ap (λ b. cond b (not free) (is_member sets 17 (first + d))) (between_in first count d inside) ∙ ap not own)
          s is_set;
      quarantined = λ number short. moves.moved 18 number (omega arith) short;
      uncleaned = λ d inside. moves.moved 19 (first + d) (omega arith) (omega (arith, fit.few))
          ∙ ap (λ b. cond b free (is_member sets 19 (first + d))) (between_in first count d inside) ∙ cleaned d inside;
      others = λ s number is_set short outside. moves.moved s number is_set short
          ∙ ap (λ b. cond b (placed s free) (is_member sets s number)) (and_right (tells_free s)
          (is_between first (first + count) number) (between_out first count number outside));
      counted = counted;
    }

bare_use : (page : Page) → page.header ≡ 0 → use_of_page page ≡ Nothing
bare_use page bare = ap (λ h. use_under (header_of h) page.used) bare

-- a run is made of free pages
pub made_stored : {held : List Page} {sets : List ℕ} (after : List ℕ) {resident : ℕ} (first count : ℕ)
    (headers : ℕ → ℕ) → FitPages held sets resident → HeadersSay (PartOfRun true) count headers
    → AreBare held first count → first + count ≤ length held
    → MovesPages sets after (is_between first (first + count)) false
    → StoresRun held sets after (resident + count) first count headers (PartOfRun true)
made_stored {held} {sets} after first count headers fit says bare within moves =
    let before : StandsOn Nothing held first count = λ d inside. bare_use (page_at held (first + d)) (bare d inside) in
    let counted = resident_then first count headers 0 1 fit within before says refl refl in
    moved_stored after first count headers Nothing (PartOfRun true) fit within before says moves refl
    (λ s block. of_block_set s Nothing block ∙ sym (of_block_set s (PartOfRun true) block))
    (λ d inside. sym (ap (λ b. b || (not (nat_eq (page_at held (first + d)).header 0)
    && is_member sets 19 (first + d))) (has_word (headers d) 0 true (says d 0 inside))
    ∙ ap (λ h. not (nat_eq h 0) && is_member sets 19 (first + d)) (bare d inside))) (omega (arith, counted))

-- pages of an unmapped run become free
pub freed_stored : {held : List Page} {sets : List ℕ} (after : List ℕ) {resident : ℕ} (first count : ℕ)
    → FitPages held sets resident → StandsOn (PartOfRun false) held first count → first + count ≤ length held
    → MovesPages sets after (is_between first (first + count)) true
    → StoresRun held sets after resident first count (λ _. 0) Nothing
freed_stored after first count fit before within moves =
    let none : HeadersSay Nothing count (λ _. 0) = λ d used inside. refl in
    let counted = resident_then first count (λ _. 0) 0 0 fit within before none refl refl in
    moved_stored after first count (λ _. 0) (PartOfRun false) Nothing fit within before none moves refl
    (λ s block. of_block_set s (PartOfRun false) block ∙ sym (of_block_set s Nothing block)) (λ d inside. refl)
    (omega (arith, counted))
