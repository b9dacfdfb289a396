-- What a page map shows stays while nobody has the turn: no step but a `take` changes a word of a page.
use Rattle.mk_laws.proofs.Vocabulary.{Config, Event, Holds, IsHistory, List, Moment, Page, Seat, Steady, Step, Words}
use Rattle.mk_laws.proofs.Vocabulary.{World, ℕ, ap, append-nil, append_assoc, arith, earlier_part_is_history}
use Rattle.mk_laws.proofs.Vocabulary.{enabled_meets, enabled_parts, false, first_world, header_at, left, left_more}
use Rattle.mk_laws.proofs.Vocabulary.{refl, subst, sym, true, world_behind, [], ◌++◌, ◌∙◌, ◌∷◌, ◌≡◌}
use Rattle.mk_laws.proofs.{Known.{holds_turn, known_left}, SameWords.{Behind, reg_keeps, tally_keeps}}
use Rattle.mk_laws.proofs.{NextSteps.is_take, Orderly.{same_holder, turn_of}, OthersMoves.free_move}
use Rattle.mk_laws.proofs.{ProtocolFrames.{left_after, other_seat}, TurnFrame.steady_out, Views.view_of}
use Rattle.mk_core.specs.Below.Books.KnownPages.{KnownPages, Shows, page_at}
use Rattle.mk_core.{proofs.Histories.{last_enabled}, specs.History.{AreOfOthers}}
use Rattle.mk_words.proofs.Unmarked.{is_mark, others_unmark, stays_bare}
use Rattle.mk_words.specs.{PageMaps.{IsMapOf, is_handing}, TurnSteps.turn_stays}

-- the words that a page map shows

abbrev pub PageWords : Type 0
PageWords = List Page × List ℕ

abbrev pub page_words : Words → PageWords
page_words w = (w.pages, w.freed)

abbrev pub steady_page_words : Steady → PageWords
steady_page_words y = (y.pages, y.freed)

pub shows_same : (map : KnownPages) (w v : Words) → page_words w ≡ page_words v → Shows map w.pages w.freed
    → Shows map v.pages v.freed
shows_same map w v same shows = subst (λ (x : PageWords). Shows map x.0 x.1) same shows

-- Over an event that is no `mark` and leaves the pages a map shows what it showed.
pub map_stays : (c : Config) (es : List Event) (e : Event) (map : KnownPages) → IsHistory c (es ++ e ∷ [])
    → is_mark e.step ≡ false
    → page_words (Behind c (left c es).now e.seat e.step).words ≡ page_words (left c es).now.words
    → IsMapOf map (left c es).now.words → IsMapOf map (Behind c (left c es).now e.seat e.step).words
map_stays c es e map h unmarks pages m = record {
  words = shows_same map (left c es).now.words (Behind c (left c es).now e.seat e.step).words (sym pages) m.words;
  unmarked = λ page bare cleaned.
      let was : header_at (left c es).now.words page ≡ 0 =
      ap (λ (x : PageWords). (page_at x.0 page).header) (sym pages) ∙ bare in
      stays_bare c es e h unmarks page was (m.unmarked page was cleaned);
}

pub map_there : (c : Config) (es : List Event) (e : Event) (map : KnownPages) → IsHistory c (es ++ e ∷ [])
    → is_mark e.step ≡ false → page_words (left c (es ++ e ∷ [])).now.words ≡ page_words (left c es).now.words
    → IsMapOf map (left c es).now.words → IsMapOf map (left c (es ++ e ∷ [])).now.words
map_there c es e map h unmarks pages m =
    let is : left c (es ++ e ∷ []) ≡ world_behind c (left c es) e = left_more c (first_world c) es e in
    subst (λ (w : World). IsMapOf map w.now.words) (sym is)
    (map_stays c es e map h unmarks (ap (λ (w : World). page_words w.now.words) (sym is) ∙ pages) m)

-- The events of others leave the turn's holder its map.
pub map_left : (c : Config) (es more : List Event) (s : Seat) (map : KnownPages) → IsHistory c (es ++ more)
    → AreOfOthers (s ∷ []) more → Holds c (left c es).now s → IsMapOf map (left c es).now.words
    → IsMapOf map (left c (es ++ more)).now.words
unfolding AreOfOthers
map_left c es [] s map h others holds m = grind (arith, append-nil)
map_left c es (e ∷ more) s map h others holds m =
    let together : es ++ (e ∷ more) ≡ (es ++ e ∷ []) ++ more = sym (append_assoc es (e ∷ []) more) in
    let both = subst (λ (l : List Event). IsHistory c l) together h in
    let one = earlier_part_is_history c (es ++ e ∷ []) more both in
    let before = earlier_part_is_history c es (e ∷ []) one in
    let w : World = left c es in
    let known = known_left c es before.within_limits before.enabled in
    let meets = enabled_meets c w.now e (last_enabled c (first_world c) es e one.enabled) in
    let ne = other_seat s e.seat others.0 in
    let unmarks = others_unmark c w.now e.seat e.step known meets
    (λ t. ne (same_holder c (view_of w.now) e.seat s known.orderly t (holds_turn c w.now s known.orderly holds))) in
    let after = left_after c w e.seat s e.step known meets ne in
    let is : left c (es ++ e ∷ []) ≡ world_behind c w e = left_more c (first_world c) es e in
    let there = subst (λ (v : World). IsMapOf map v.now.words) (sym is)
    (map_stays c es e map one unmarks (ap (λ (y : Steady). steady_page_words y) (after.turn holds).steady) m) in
    let still = subst (λ (v : World). Holds c v.now s) (sym is) (after.own.holding holds).0 in
    subst (λ (l : List Event). IsMapOf map (left c l).now.words) (sym together)
    (map_left c (es ++ e ∷ []) more s map both others.1 still there)

-- A turn that goes on isn't handed over.
pub hands_none : (s : Step) → turn_stays s ≡ true → is_handing s ≡ false
hands_none (Step.Take o) stays = cc
hands_none Step.Give stays = cc
hands_none _ stays = refl

no_take : (s : Step) → is_handing s ≡ false → is_take s ≡ false
no_take (Step.Take o) h = cc
no_take _ h = refl

-- The turn word is another only after `take` and `give`.
pub turn_word_stays : (c : Config) (m : Moment) (seat : Seat) (s : Step) → is_handing s ≡ false
    → (Behind c m seat s).words.turn ≡ m.words.turn
turn_word_stays c m seat x3 h = grind (arith, reg_keeps, tally_keeps)

-- The event found the turn free, left the pages as they were, and is no `mark`.
pub record FreeStays (c : Config) (es : List Event) (e : Event) : Type 0 where
  pub free : (left c es).now.words.turn ≡ 0
  pub pages : page_words (left c (es ++ e ∷ [])).now.words ≡ page_words (left c es).now.words
  pub unmarks : is_mark e.step ≡ false

pub free_stays : (c : Config) (es : List Event) (e : Event) → IsHistory c (es ++ e ∷ []) → is_handing e.step ≡ false
    → (left c (es ++ e ∷ [])).now.words.turn ≡ 0 → FreeStays c es e
free_stays c es e h kind free =
    let w : World = left c es in
    let is : left c (es ++ e ∷ []) ≡ world_behind c w e = left_more c (first_world c) es e in
    let was : w.now.words.turn ≡ 0 = grind (arith, turn_word_stays) in
    let known = known_left c es h.within_limits (enabled_parts c (first_world c) es (e ∷ []) h.enabled).0 in
    let meets = enabled_meets c w.now e (last_enabled c (first_world c) es e h.enabled) in
    let move = free_move c w e.seat e.step known was (no_take e.step kind) meets in
    record {
      free = was;
      pages = ap (λ (v : World). page_words v.now.words) is
          ∙ ap (λ (y : Steady). steady_page_words y) (steady_out c w e.seat (world_behind c w e) move);
      unmarks = others_unmark c w.now e.seat e.step known meets
          (λ t. let is = turn_of c (view_of w.now) e.seat known.orderly t in absurd (omega arith));
    }
