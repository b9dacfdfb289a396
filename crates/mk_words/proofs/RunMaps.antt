-- A page map that is told at once of the header words of several pages knows what it would know of each.
use Rattle.std.proofs.Common.{eq-eqb, get_or, map, ne_eqb}
use Rattle.std.proofs.lemmas.List.{get_or_past, length-map, FromFn.{get_or-map-range_with_len, length-range_with_len}}
use Rattle.std.specs.List.{range_with_len}
use Rattle.mk_laws.proofs.Vocabulary.{Bool, List, Page, Step, Words, ap, arith, cases_eq, cases_lt, cond, false}
use Rattle.mk_laws.proofs.Vocabulary.{histories_keep_lengths, inl, inr, length, length-set}
use Rattle.mk_laws.proofs.Vocabulary.{refl, subst, suc, sym, zero, ℕ, ◌+◌, ◌<◌, ◌==◌, ◌∙◌, ◌≡◌, ◌≤◌}
use Rattle.mk_core.proofs.Below.Books.RunPages.{in_range, length-with_headers, page_outside}
use Rattle.mk_core.specs.Below.Books.KnownPages.{KnownPages, Shows, is_bare, is_uncleaned, is_uncleaned_under}
use Rattle.mk_core.specs.Below.Books.KnownPages.{with_header, page_at, RunIsTold, with_headers}
use Rattle.mk_words.proofs.MapSteps.{map_goes_on, shows_told}
use Rattle.mk_words.{proofs.ToldMaps.HeaderIsTold, specs.PageMaps.IsMapOf}
use Rattle.mk_words.specs.{TurnSteps.{StoresHeads, HasMap}, States.{PassState, WordsState, now_of}}

-- which pages a map has as uncleaned after it was told of one header word
abbrev uncleaned_then : KnownPages → ℕ → ℕ → ℕ → Bool
uncleaned_then known page header number =
    cond (number == page) (is_uncleaned_under known page header) (is_uncleaned known number)

abbrev many : KnownPages → ℕ
many known = length known.uncleaned + length known.pages

-- what it knows then
abbrev pub told_one : KnownPages → ℕ → ℕ → KnownPages
told_one known page header = record {
  pages = with_header known.pages page header;
  quarantined = known.quarantined;
  uncleaned = map (uncleaned_then known page header) (range_with_len 0 (many known));
}

at : (known : KnownPages) (page header number : ℕ) → number < many known
    → is_uncleaned (told_one known page header) number ≡ uncleaned_then known page header number
at known page header number within = grind (arith, get_or-map-range_with_len)

past : (known : KnownPages) (page header number : ℕ) → many known ≤ number
    → is_uncleaned (told_one known page header) number ≡ is_uncleaned known number
past known page header number beyond =
    let long : length (map (uncleaned_then known page header) (range_with_len 0 (many known))) ≡ many known =
    length-map (range_with_len 0 (many known)) (uncleaned_then known page header)
    ∙ length-range_with_len 0 (many known) in
    get_or_past (map (uncleaned_then known page header) (range_with_len 0 (many known))) number false (omega arith)
    ∙ sym (get_or_past known.uncleaned number false (omega arith))

pub told_one_is : (known : KnownPages) (page header : ℕ) → page < length known.pages
    → HeaderIsTold known page header (told_one known page header)
told_one_is known page header within = record {
  shows = λ pages freed shows.
      let now : Page = record { header = header; used = (page_at pages page).used } in
      let long : length (with_header pages page header) ≡ length pages = length-set pages page now in
      record {
        page_by_page = ap (λ (ps : List Page). with_header ps page header) shows.page_by_page;
        freed_words = shows.freed_words ∙ sym long;
        quarantined = λ number inside. shows.quarantined number (omega (arith, long));
      };
  this = at known page header page (omega arith) ∙ ap (λ b. cond b (is_uncleaned_under known page header)
      (is_uncleaned known page)) (eq-eqb page page refl);
  others = λ number differ. elim (cases_lt number (many known)) [
    | inl inside ↦ at known page header number inside ∙ ap (λ b. cond b (is_uncleaned_under known page header)
        (is_uncleaned known number)) (ne_eqb number page differ)
    | inr beyond ↦ past known page header number beyond
  ];
}

-- after so many of them
abbrev pub told_first : KnownPages → ℕ → ℕ → (ℕ → ℕ) → KnownPages
told_first known first zero headers = known
told_first known first (suc n) headers = told_one (told_first known first n headers) (first + n) (headers n)

pages_then : (known : KnownPages) (first n : ℕ) (headers : ℕ → ℕ)
    → (told_first known first n headers).pages ≡ with_headers known.pages first n headers
pages_then known first zero headers = refl
pages_then known first (suc n) headers =
    ap (λ (ps : List Page). with_header ps (first + n) (headers n)) (pages_then known first n headers)

quarantined_then : (known : KnownPages) (first n : ℕ) (headers : ℕ → ℕ)
    → (told_first known first n headers).quarantined ≡ known.quarantined
quarantined_then known first zero headers = refl
quarantined_then known first (suc n) headers = quarantined_then known first n headers

long_enough : (known : KnownPages) (first n : ℕ) (headers : ℕ → ℕ) → first + n < length known.pages
    → first + n < length (told_first known first n headers).pages
long_enough known first n headers within = omega (
  arith,
  ap (λ (ps : List Page). length ps) (pages_then known first n headers),
  length-with_headers known.pages first n headers,
)

-- outside the range, and in it
outside_then : (known : KnownPages) (first n number : ℕ) (headers : ℕ → ℕ) → first + n ≤ length known.pages
    → (first ≤ number → number < first + n → ⊥)
    → is_uncleaned (told_first known first n headers) number ≡ is_uncleaned known number
outside_then known first zero number headers within outside = refl
outside_then known first (suc n) number headers within outside =
    (told_one_is (told_first known first n headers) (first + n) (headers n)
    (long_enough known first n headers (omega arith))).others number (λ same. outside (omega arith) (omega arith))
    ∙ outside_then known first n number headers (omega arith) (λ low high. outside low (omega arith))

bare_then : (known : KnownPages) (first n : ℕ) (headers : ℕ → ℕ)
    → is_bare (told_first known first n headers) (first + n) ≡ is_bare known (first + n)
bare_then known first n headers =
    ap (λ (ps : List Page). (page_at ps (first + n)).header == 0) (pages_then known first n headers)
    ∙ ap (λ (p : Page). p.header == 0) (page_outside known.pages first n (first + n) headers
    (λ low high. absurd (omega arith)))

under_then : (known : KnownPages) (first n header : ℕ) (headers : ℕ → ℕ) → first + n ≤ length known.pages
    → is_uncleaned_under (told_first known first n headers) (first + n) header
    ≡ is_uncleaned_under known (first + n) header
under_then known first n header headers within =
    let bare = bare_then known first n headers in
    let same = outside_then known first n (first + n) headers within (λ low high. absurd (omega arith)) in
    grind (arith, bare, same)

inside_then : (known : KnownPages) (first n d : ℕ) (headers : ℕ → ℕ) → first + n ≤ length known.pages → d < n
    → is_uncleaned (told_first known first n headers) (first + d) ≡ is_uncleaned_under known (first + d) (headers d)
inside_then known first zero d headers within inside = absurd (omega arith)
inside_then known first (suc n) d headers within inside =
    let told = told_one_is (told_first known first n headers) (first + n) (headers n)
    (long_enough known first n headers (omega arith)) in
    elim (cases_eq d n) [
      | inl same ↦ subst (λ (i : ℕ). is_uncleaned (told_first known first (suc n) headers) (first + i)
          ≡ is_uncleaned_under known (first + i) (headers i)) (sym same)
          (told.this ∙ under_then known first n (headers n) headers (omega arith))
      | inr differ ↦ told.others (first + d) (λ same. differ (omega arith))
          ∙ inside_then known first n d headers (omega arith) (omega arith)
    ]

-- A map that was told of all at once knows as much.
told_at_once : (old new : KnownPages) (first n : ℕ) (headers : ℕ → ℕ) (w : Words)
    → first + n ≤ length old.pages → RunIsTold old first n headers new
    → IsMapOf (told_first old first n headers) w → IsMapOf new w
told_at_once old new first n headers w within told m =
    let is : (told_first old first n headers).pages ≡ w.pages = m.words.page_by_page in
    let same : with_headers old.pages first n headers ≡ w.pages = sym (pages_then old first n headers) ∙ is in
    let long : length w.pages ≡ length old.pages =
    ap (λ (ps : List Page). length ps) (sym same) ∙ length-with_headers old.pages first n headers in
    let before : Shows old old.pages w.freed = record {
      page_by_page = refl;
      freed_words = m.words.freed_words ∙ long;
      quarantined = λ number inside. ap (λ (bs : List Bool). get_or bs number false)
          (sym (quarantined_then old first n headers)) ∙ m.words.quarantined number (omega arith);
    } in
    record {
      words = subst (λ (ps : List Page). Shows new ps w.freed) same (told.shows old.pages w.freed before);
      unmarked = λ number bare cleaned. m.unmarked number bare (in_range first n number
          (λ k. is_uncleaned (told_first old first n headers) k ≡ is_uncleaned new k)
          (λ d inside. inside_then old first n d headers within inside ∙ sym (told.inside d inside))
          (λ outside. outside_then old first n number headers within outside ∙ sym (told.outside number outside))
          ∙ cleaned);
    }

-- The map goes with the stores of the header words.
heads_go_on : (held : Bool) (p : PassState) (first n : ℕ) (headers : ℕ → ℕ) (q : PassState) (old : KnownPages)
    → first + n ≤ length old.pages → StoresHeads p first n headers q → HasMap held p old
    → HasMap held q (told_first old first n headers)
heads_go_on held p first zero headers q old within same has = subst (λ (x : PassState). HasMap held x old) same has
heads_go_on held p first (suc n) headers q old within (r, before, acts) has =
    let earlier = heads_go_on held p first n headers r old (omega arith) before has in
    let long = long_enough old first n headers (omega arith) in
    map_goes_on (λ _. refl) acts earlier (shows_told (Step.Head (first + n) (headers n)) refl acts
    (told_one_is (told_first old first n headers) (first + n) (headers n) long) long earlier.shows)

-- The map has all pages of the heap.
pub run_within : {held : Bool} {p : PassState} {w : WordsState} {map : KnownPages} (first n : ℕ)
    → first + n ≤ w.config.pages → p.table ≡ w → HasMap held p map → first + n ≤ length map.pages
run_within {p = p} first n within same has = omega (
  arith,
  within,
  ap (λ (w : WordsState). w.config.pages) same,
  ap (λ (ps : List Page). length ps) has.shows.words.page_by_page,
  (histories_keep_lengths p.table.config p.seen).pages,
)

pub run_goes_on : {held : Bool} {p : PassState} {w : WordsState} (first n : ℕ) (headers : ℕ → ℕ) {q : PassState}
    {old new : KnownPages} → first + n ≤ w.config.pages → p.table ≡ w → StoresHeads p first n headers q
    → HasMap held p old → RunIsTold old first n headers new → HasMap held q new
run_goes_on {held} {p} first n headers {q} {old} {new} in_table same stores has told =
    let within = run_within first n in_table same has in
    let then = heads_go_on held p first n headers q old within stores has in record {
      shows = told_at_once old new first n headers (now_of q).words within told then.shows;
      gates = then.gates;
    }
