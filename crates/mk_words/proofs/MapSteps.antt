-- The page map of a turn is kept in step with what its holder stores.
use Rattle.mk_laws.proofs.Vocabulary.{Access, Bool, Config, Flight, IsHistory, List, Load, Moment, Named, None, Option}
use Rattle.mk_laws.proofs.Vocabulary.{Page, Seat, Some, Step, Store, Tally, Word, Words, World, ℕ, accessed, ap, arith}
use Rattle.mk_laws.proofs.Vocabulary.{cases_eq, earlier_part_is_history, enabled_meets, false, free_page}
use Rattle.mk_laws.proofs.Vocabulary.{get_or-set_other, get_or-set_same, header_at, histories_keep_lengths, inl, inr}
use Rattle.mk_laws.proofs.Vocabulary.{is_in_range, length, length-set, ltb-true, nat_lt, not, refl, set_by, slice_index}
use Rattle.mk_laws.proofs.Vocabulary.{subst, sym, tally_word, true, [], ◌++◌, ◌<◌, ◌==◌, ◌||◌, ◌∙◌, ◌∷◌, ◌≡◌, ◌≢◌}
use Rattle.mk_laws.proofs.SameWords.{Behind}
use Rattle.std.specs.Prelude.{slice_set}
use Rattle.mk_core.specs.Below.Books.KnownPages.{KnownPages, Shows, is_bare, is_quarantined_page, is_uncleaned}
use Rattle.mk_core.specs.Below.Books.KnownPages.{is_uncleaned_under}
use Rattle.mk_core.specs.Below.Books.KnownPages.{with_header, with_used, IsNext, page_at}
use Rattle.mk_words.proofs.{FreeTurns.{map_left, map_stays, page_words}, TurnSteps.{acts, gates_still}, Made.own_before}
use Rattle.mk_words.proofs.{Seats.others_own, Unmarked.{is_mark, stays_unmarked}}
use Rattle.mk_words.specs.PageMaps.{HasNoMarks, IsMapOf, IsNextUncleaned, is_told, page_told}
use Rattle.mk_words.proofs.ToldMaps.{HeaderIsTold, IsToldOf, MarkIsTold, QuarantineIsTold, UsedIsTold}
use Rattle.mk_words.specs.{States.{IsTurn, PassState}, TurnSteps.{Acts, FollowsStep, HasMap, gates_stay}}
use Rattle.mk_words.specs.States.{TurnState, call_of, event_of, now_of}
use Rattle.mk_words.specs.{TurnSteps.world_at, Laws.turn_prop, Steps.{IsEnabledTo, Makes}}

no_mark : (s : Step) → is_told s ≡ false → is_mark s ≡ false
no_mark (Step.Mark p v) untold = cc
no_mark _ untold = refl

-- All steps but three leave the pages.

reg_pages : (w : Words) (k r : ℕ) (a : Access) → page_words (accessed w (Named (Word.Reg k r)) a) ≡ page_words w
reg_pages w k r Load = refl
reg_pages w k r _ = refl

tally_pages : (w : Words) (n : Tally) (v : ℕ) → page_words (accessed w (Named (tally_word n)) (Store v)) ≡ page_words w
tally_pages w Tally.Held v = refl
tally_pages w _ v = refl

pages_stay : (c : Config) (m : Moment) (seat : Seat) (s : Step) → is_told s ≡ false
    → page_words (Behind c m seat s).words ≡ page_words m.words
pages_stay c m seat (Step.Head p v) leaves = cc
pages_stay c m seat (Step.Used p v) leaves = cc
pages_stay c m seat (Step.Quar p v) leaves = cc
pages_stay c m seat Step.Reg leaves = grind (arith, reg_pages)
pages_stay c m seat (Step.Tally n v) leaves = tally_pages m.words n v
pages_stay c m seat _ leaves = refl

-- a step of the turn's holder
module _ (p : PassState) (s : Step) (q : PassState) (a : Acts p s q) where
  history : IsHistory p.table.config (p.seen ++ a.makes.others ++ event_of p s ∷ [])
  history = subst (λ (r : PassState). IsHistory r.table.config r.seen) a.makes.is a.makes.pass.history

  -- Others have left the map, up to when the step is made.
  map_then : (map : KnownPages) → IsMapOf map (now_of p).words → IsMapOf map (world_at a.makes).now.words
  map_then map m =
      map_left p.table.config p.seen a.makes.others p.seat map
      (earlier_part_is_history p.table.config (p.seen ++ a.makes.others) (event_of p s ∷ []) history)
      (others_own p.seats p.seat a.makes.others (own_before a.makes) a.makes.of_others) a.holds m

  abbrev after : Words
  after = (Behind p.table.config (world_at a.makes).now p.seat s).words

  map_now : (map : KnownPages) → IsMapOf map after → IsMapOf map (now_of q).words
  map_now map m = subst (λ (w : World). IsMapOf map w.now.words) (sym a.world) m

  pub shows_still : (map : KnownPages) → is_told s ≡ false → IsMapOf map (now_of p).words → IsMapOf map (now_of q).words
  shows_still map untold m =
      map_now map (map_stays p.table.config (p.seen ++ a.makes.others) (event_of p s) map history (no_mark s untold)
      (pages_stay p.table.config (world_at a.makes).now p.seat s untold) (map_then map m))

both : {A : Type 0} (b : Bool) → b ≡ true → b ≡ false → A
both true t f = cc
both false t f = cc

same_marks : (w v : Words) (page : ℕ) → v.marks ≡ w.marks → v.blacks ≡ w.blacks → HasNoMarks w page → HasNoMarks v page
same_marks w v page marks blacks h = grind arith

-- over plain words

freed_is : (old : KnownPages) (page header : ℕ) → header ≡ 0 → is_uncleaned_under old page header ≡ true
freed_is old page header free = rw free refl

marked_is : (old : KnownPages) (page : ℕ) → (page_at old.pages page).header ≡ 0
    → (is_bare old page || is_uncleaned old page) ≡ true
marked_is old page free = rw free refl

told_header : (w : Words) (page v : ℕ) (old new : KnownPages) → HeaderIsTold old page v new → page < length old.pages
    → IsMapOf old w → IsMapOf new (record w { pages = with_header w.pages page v })
told_header w page v old new told within m = record {
  words = told.shows w.pages w.freed m.words;
  unmarked = λ number bare cleaned. elim (cases_eq number page) [
    | inl here ↦
        let lt : page < length w.pages = grind arith in
        let now : Page = record { header = v; used = (page_at w.pages page).used } in
        let free : v ≡ 0 = sym (ap (λ (x : Page). x.header) (get_or-set_same w.pages page now free_page lt))
        ∙ ap (λ i. (page_at (with_header w.pages page v) i).header) (sym here) ∙ bare in
        both (is_uncleaned new page) (told.this ∙ freed_is old page v free) (ap (is_uncleaned new) (sym here) ∙ cleaned)
    | inr ne ↦
        let now : Page = record { header = v; used = (page_at w.pages page).used } in
        same_marks w (record w { pages = with_header w.pages page v }) number refl refl (m.unmarked number
        (sym (ap (λ (x : Page). x.header) (get_or-set_other w.pages page number now free_page ne)) ∙ bare)
        (sym (told.others number ne) ∙ cleaned))
  ];
}

told_used : (w : Words) (page v : ℕ) (old new : KnownPages) → UsedIsTold old page v new → page < length old.pages
    → IsMapOf old w → IsMapOf new (record w { pages = with_used w.pages page v })
told_used w page v old new told within m = record {
  words = told.shows w.pages w.freed m.words;
  unmarked = λ number bare cleaned.
      let lt : page < length w.pages = grind arith in
      let now : Page = record { header = (page_at w.pages page).header; used = v } in
      let same : (page_at (with_used w.pages page v) number).header ≡ (page_at w.pages number).header =
      elim (cases_eq number page) [
        | inl here ↦
            ap (λ i. (page_at (with_used w.pages page v) i).header) here ∙ ap (λ (x : Page). x.header)
            (get_or-set_same w.pages page now free_page lt) ∙ ap (λ i. (page_at w.pages i).header) (sym here)
        | inr ne ↦ ap (λ (x : Page). x.header) (get_or-set_other w.pages page number now free_page ne)
      ] in
      same_marks w (record w { pages = with_used w.pages page v }) number refl refl
      (m.unmarked number (sym same ∙ bare) (sym (told.uncleaned number) ∙ cleaned));
}

told_mark : (c : Config) (m : Moment) (seat : Seat) (page v : ℕ) (old new : KnownPages) → MarkIsTold old page new
    → IsMapOf old m.words → IsMapOf new (Behind c m seat (Step.Mark page v)).words
told_mark c m seat page v old new told shows = record {
  words = told.shows m.words.pages m.words.freed shows.words;
  unmarked = λ number bare cleaned. elim (cases_eq number page) [
    | inl here ↦
        let free : (page_at old.pages page).header ≡ 0 = grind arith in
        both (is_uncleaned new page) (told.this ∙ marked_is old page free) (ap (is_uncleaned new) (sym here) ∙ cleaned)
    | inr ne ↦
        stays_unmarked c m seat (Step.Mark page v) number (λ p is same. (let e : page ≡ p = cc in ne (same ∙ sym e)))
        (shows.unmarked number bare (sym (told.others number ne) ∙ cleaned))
  ];
}

-- A page that has no marks may be cleaned.
pub map_cleaned : (w : Words) (page : ℕ) (old new : KnownPages)
    → ((pages : List Page) (freed : List ℕ) → Shows old pages freed → Shows new pages freed)
    → ((number : ℕ) → (number ≡ page → ⊥) → is_uncleaned new number ≡ is_uncleaned old number)
    → HasNoMarks w page → IsMapOf old w → IsMapOf new w
map_cleaned w page old new shows others none m = grind arith

-- The map shows what is left after a step that it was told of.
pub shows_told : {p q : PassState} (s : Step) {old new : KnownPages} → is_told s ≡ true → Acts p s q
    → IsToldOf s old new → page_told s < length old.pages → IsMapOf old (now_of p).words → IsMapOf new (now_of q).words
shows_told {p} {q} (Step.Head page v) {old} {new} is a told within shows =
    map_now p (Step.Head page v) q a new
    (told_header (world_at a.makes).now.words page v old new told within (map_then p (Step.Head page v) q a old shows))
shows_told {p} {q} (Step.Used page v) {old} {new} is a told within shows =
    map_now p (Step.Used page v) q a new
    (told_used (world_at a.makes).now.words page v old new told within (map_then p (Step.Used page v) q a old shows))
shows_told {p} {q} (Step.Quar page v) {old} {new} is a told within shows =
    let w : Words = (world_at a.makes).now.words in
    let m = map_then p (Step.Quar page v) q a old shows in
    map_now p (Step.Quar page v) q a new (record {
      words = told.shows w.pages w.freed m.words;
      unmarked = λ number bare cleaned. same_marks w (after p (Step.Quar page v) q a) number refl refl
          (m.unmarked number bare (sym (told.uncleaned number) ∙ cleaned));
    })
shows_told {p} {q} (Step.Mark page v) {old} {new} is a told within shows =
    map_now p (Step.Mark page v) q a new (told_mark p.table.config (world_at a.makes).now p.seat page v old new told
    (map_then p (Step.Mark page v) q a old shows))
shows_told _ is a told within shows = cc

-- So what was told of a step follows it, and so does a map that needn't be told.

pub follows_told : (s x : Step) {old new : KnownPages} → s ≡ x → is_told x ≡ true
    → (is_told s ≡ true → page_told s < length old.pages) → IsToldOf x old new → FollowsStep s old new
follows_told s x {old} {new} is told within h =
    subst (λ (y : Step). FollowsStep y old new) (sym is) (λ p q a shows. shows_told x told a h
    (subst (λ (y : Step). is_told y ≡ true → page_told y < length old.pages) is within told) shows)

pub freed_so : {old new : KnownPages} {page n m : ℕ} → n ≡ m
    → ((pages : List Page) (freed : List ℕ) → Shows old pages freed → Shows new pages (slice_set freed page n))
    → (pages : List Page) (freed : List ℕ) → Shows old pages freed → Shows new pages (slice_set freed page m)
freed_so {new = new} {page = page} is h pages freed shows =
    subst (λ (k : ℕ). Shows new pages (slice_set freed page k)) is (h pages freed shows)

untold : (s : Step) → ((page v : ℕ) → s ≡ Step.Head page v → ⊥) → ((page v : ℕ) → s ≡ Step.Used page v → ⊥)
    → ((page v : ℕ) → s ≡ Step.Quar page v → ⊥) → ((page v : ℕ) → s ≡ Step.Mark page v → ⊥) → is_told s ≡ false
untold (Step.Head page v) head used quar mark = absurd (head page v refl)
untold (Step.Used page v) head used quar mark = absurd (used page v refl)
untold (Step.Quar page v) head used quar mark = absurd (quar page v refl)
untold (Step.Mark page v) head used quar mark = absurd (mark page v refl)
untold _ head used quar mark = refl

pub follows_untold : (s : Step) (map : KnownPages) → ((page v : ℕ) → s ≡ Step.Head page v → ⊥)
    → ((page v : ℕ) → s ≡ Step.Used page v → ⊥) → ((page v : ℕ) → s ≡ Step.Quar page v → ⊥)
    → ((page v : ℕ) → s ≡ Step.Mark page v → ⊥) → FollowsStep s map map
follows_untold s map head used quar mark p q a shows =
    shows_still p s q a map (untold s head used quar mark) shows

-- It leaves the gates where they are, and the turn.
pub told_stays : (s : Step) → is_told s ≡ true → gates_stay s ≡ true
told_stays x0 is = grind arith

-- A mark on a page with a header needn't be told.
pub untold_mark : (map : KnownPages) (w : Words) (page : ℕ) → header_at w page ≢ 0 → IsMapOf map w
    → MarkIsTold map page map
untold_mark map w page some shows = grind arith

-- Nor need a quarantine word whose freed half stays.
pub untold_quar : (map : KnownPages) (w : Words) (page freed : ℕ) → freed ≡ slice_index w.freed page → IsMapOf map w
    → QuarantineIsTold map page freed map
untold_quar map w page freed same shows = record {
  shows = λ pages old s. record {
    page_by_page = s.page_by_page;
    freed_words = length-set old page freed ∙ s.freed_words;
    quarantined = λ number lt. set_by (λ (n : ℕ). is_quarantined_page map number ≡ not (n == 0)) old page number freed
        0 (λ here. (let near : number < length w.pages = grind arith in
        shows.words.quarantined number near ∙ ap (λ (n : ℕ). not (n == 0)) (ap (slice_index w.freed) here ∙ sym same)))
        (s.quarantined number lt);
  };
  uncleaned = λ number. refl;
}

pub map_that : {held : Bool} {p : PassState} {map same : KnownPages} → same ≡ map → HasMap held p map
    → HasMap held p same
map_that {held} {p} is has = subst (λ (m : KnownPages). HasMap held p m) (sym is) has

-- A step of the turn leaves the gates as known, and its map shows what is left then.
pub map_goes_on : {held : Bool} {p : PassState} {s : Step} {q : PassState} {old new : KnownPages}
    → (held ≡ true → gates_stay s ≡ true) → Acts p s q → HasMap held p old → IsMapOf new (now_of q).words
    → HasMap held q new
map_goes_on {held} {p} {s} {q} gates a has shows =
    record { shows = shows; gates = gates_still held p s q a gates has.gates }

-- What was done in a turn, by another name of it.
pub acted : {t v : TurnState} {s : Step} {q : PassState} → t ≡ v → Makes t.pass s q → Acts v.pass s q
acted {t} {v} {s} {q} is makes =
    subst (λ (x : TurnState). Acts x.pass s q) is (acts t.pass s q makes t.in_order.holds)

-- Two turns of one pass are the same.
pub same_turn : {p q : PassState} (h : IsTurn p) (k : IsTurn q) → p ≡ q
    → ◌≡◌ {A = TurnState} (record { pass = p; in_order = h }) (record { pass = q; in_order = k })
same_turn {p} {q} h k is =
    subst (λ (r : PassState). (x : IsTurn r)
    → ◌≡◌ {A = TurnState} (record { pass = p; in_order = h }) (record { pass = r; in_order = x })) is
    (λ x. ap (λ (y : IsTurn p). record { pass = p; in_order = y }) (turn_prop p h x)) k

-- The map has all pages of the heap.

pub page_known : (p : PassState) (page : ℕ) (map : KnownPages) → page < p.table.config.pages
    → IsMapOf map (now_of p).words → page < length map.pages
page_known p page map lt shows =
    let long : length (now_of p).words.pages ≡ p.table.config.pages =
    (histories_keep_lengths p.table.config p.seen).pages in
    let same : length map.pages ≡ length (now_of p).words.pages = grind arith in
    omega arith

told_range : (c : Config) (seat : Seat) (f : Flight) (s : Step) → is_told s ≡ true
    → is_in_range c seat f s ≡ nat_lt (page_told s) c.pages
told_range c seat f x3 is = grind arith

-- So has the page of a step that it is told of.
pub told_page : (p : PassState) (s : Step) {map : KnownPages} → is_told s ≡ true → IsEnabledTo p s
    → IsMapOf map (now_of p).words → page_told s < length map.pages
told_page p s is on shows =
    page_known p (page_told s) _ (ltb-true (page_told s) p.table.config.pages (sym (told_range p.table.config p.seat
    (call_of p) s is) ∙ (enabled_meets p.table.config (now_of p) (event_of p s) on).range)) shows

-- The next page of those that the map has is the next of the heap's.
pub next_known : (p : PassState) (passes : ℕ → Bool) (from : ℕ) (next : Option ℕ)
    → IsNext passes from (length (now_of p).words.pages) next → IsNext passes from p.table.config.pages next
next_known p passes from next is =
    subst (λ (count : ℕ). IsNext passes from count next) (histories_keep_lengths p.table.config p.seen).pages is

pub next_is_uncleaned : (p : PassState) (map : KnownPages) (from : ℕ) (next : Option ℕ) → IsMapOf map (now_of p).words
    → IsNext (is_uncleaned map) from (length map.pages) next
    → IsNextUncleaned (now_of p).words from p.table.config.pages next
next_is_uncleaned p map from next m is =
    by next (subst (λ (count : ℕ). IsNext (is_uncleaned map) from count next)
    (ap (λ (l : List Page). length l) m.words.page_by_page ∙ (histories_keep_lengths p.table.config p.seen).pages) is)
  where
    by : (next : Option ℕ) → IsNext (is_uncleaned map) from p.table.config.pages next
        → IsNextUncleaned (now_of p).words from p.table.config.pages next
    by (Some page) is = (is.0, is.1, λ between low high bare. m.unmarked between bare (is.3 between low high))
    by None is = λ page low high bare. m.unmarked page bare (is page low high)
