-- What the steps that give back make of a page's words.
use Rattle.mk_cycle.proofs.Vocabulary.{Acts, Frees, FreesPage, GivesNothingBack, IsEnabledTo, IsTurn, IsTurnAt}
use Rattle.mk_cycle.proofs.Vocabulary.{IsUnmappedWord, IsZero, PageState, PassState, WordsState, call_of, drops}
use Rattle.mk_cycle.proofs.Vocabulary.{event_of, is_giving_back, is_pending_free, made, now_of, page_state, stands}
use Rattle.mk_cycle.proofs.{Vocabulary.{world_at, world_of}, Allowed.{in_turn_after, in_turn_before, on_table, or_true}}
use Rattle.mk_cycle.proofs.{Allowed.protocol, FreeingSteps.{FreesAt, frees_calmly, frees_nothing, frees_step}}
use Rattle.mk_cycle.proofs.FreeingSteps.{frees_then, leaves_words, quar_gives, still_unmapped, wipe_gives}
use Rattle.mk_cycle.{proofs.{Calm.no_target, KeptInParts.same_config, MayAct.may_act}, specs.Freeing.{IsUnmapped}}
use Rattle.mk_words.proofs.Below.Laws.Vocabulary.{AreOfPages, Bool, Cell, Config, Flight, List, MayHold, None}
use Rattle.mk_words.proofs.Below.Laws.Vocabulary.{OfFreedRun, OfMapped, OfReleased, Option, Page, RunPages, Some}
use Rattle.mk_words.proofs.Below.Laws.Vocabulary.{Steady, Step, Word, Words, World, ℕ, address_of, all_below-at}
use Rattle.mk_words.proofs.Below.Laws.Vocabulary.{and_parts, ap, arith, carves, cases_lt, empties, eq-eqb, eqb-true}
use Rattle.mk_words.proofs.Below.Laws.Vocabulary.{free_page, frees, get_or-set_other, get_or-set_same, get_or_past}
use Rattle.mk_words.proofs.Below.Laws.Vocabulary.{gives_back, header_at, if◌then◌else◌, inl, inr, is_released_cell}
use Rattle.mk_words.proofs.Below.Laws.Vocabulary.{is_run_cell, is_run_gone, is_run_unmapped, is_some_and, is_used_once}
use Rattle.mk_words.proofs.Below.Laws.Vocabulary.{leb-true, length, lt-ltb, ltb-true, nat_le, nat_lt, not, object_made}
use Rattle.mk_words.proofs.Below.Laws.Vocabulary.{others_are_held, phase_of, place_now, pointed_cell, refl, set_past}
use Rattle.mk_words.proofs.Below.Laws.Vocabulary.{slice_index, slice_index_or, slice_set, subst, sym, takes_cell}
use Rattle.mk_words.proofs.Below.Laws.Vocabulary.{target, true, unmaps, used_at, words_are_zero, world_behind}
use Rattle.mk_words.proofs.Below.Laws.Vocabulary.{zero_scene_of, ◌%◌, ◌&&◌, ◌*◌, ◌++◌, ◌+◌, ◌-◌, ◌/◌, ◌<◌, ◌==◌, ◌^◌}
use Rattle.mk_words.proofs.Below.Laws.Vocabulary.{◌||◌, ◌∙◌, ◌≡◌, ◌≢◌}
use Rattle.mk_core.specs.{Cells.is_in_run, TurnConditions.{is_in_gone_run, takes_snapshot}, Words.page_of}
use Rattle.mk_words.specs.TurnSteps.{turn_stays}

-- where the step is made, a page's words are as the holder knows them
abbrev state_in : Words → ℕ → PageState
state_in w r = record { page = page_of w r; freed = slice_index w.freed r; snapshot = slice_index w.snapshot r }

abbrev state_of : Steady → ℕ → PageState
state_of s r = record {
  page = slice_index_or s.pages r free_page;
  freed = slice_index s.freed r;
  snapshot = slice_index s.snapshot r;
}

pub state_there : (s t : Steady) → s ≡ t → (r : ℕ) → state_of s r ≡ state_of t r
state_there s t e r = ap (λ (y : Steady). state_of y r) e

module _ {p q : PassState} {y : WordsState} (turn : IsTurnAt 4 y p) where
  -- a step that leaves the words of pages
  leaves_pages : {s : Step} (a : Acts p s q) → Frees p q → ((r : ℕ) → state_in (world_behind p.table.config
      (world_at a.makes) (event_of p s)).now.words r ≡ state_in (world_at a.makes).now.words r) → GivesNothingBack p q
  leaves_pages a frees left = record {
    frees = frees;
    same = λ r. ap (λ (w : World). state_in w.now.words r) a.world ∙ left r ∙ state_there _ _ a.turn.steady r;
  }

  -- what a step of these kinds frees
  freeing : {s : Step} (a : Acts p s q) → frees_calmly s ≡ true → is_giving_back s ≡ true → turn_stays s ≡ true
      → FreesAt (world_at a.makes) (world_behind p.table.config (world_at a.makes) (event_of p s)) → Frees p q
  freeing a kind gives stays x =
      frees_step a (in_turn_before a) (in_turn_after a stays) kind gives turn.free turn.phase x

  pub look_frees : {x : Word} → Acts p (Step.Look x) q → GivesNothingBack p q
  look_frees a = leaves_pages a (freeing a refl refl refl (leaves_words refl refl refl refl)) (λ r. refl)

  pub wipe_frees : {n : ℕ} → Acts p (Step.Wipe n) q → GivesNothingBack p q
  wipe_frees {n} a =
      leaves_pages a (freeing a refl refl refl (wipe_gives p.table.config (world_at a.makes) p.seat n)) (λ r. refl)

four_or : (a b : Bool) (n : ℕ) → n ≡ 4 → (a || b || (n == 4)) ≡ true
four_or a b n h = or_true (a || b) (n == 4) (eq-eqb n 4 h)

module _ {p : PassState} {y : WordsState} (t : IsTurn p) (turn : IsTurnAt 4 y p) where
  abbrev c : Config
  c = p.table.config

  abbrev w : Words
  w = (now_of p).words

  abbrev f : Flight
  f = call_of p

  pub used_allowed : (page v : ℕ) → page < y.config.pages → gives_back (now_of p).words page v ≡ true
      → IsEnabledTo p (Step.Used page v)
  used_allowed page v lt is =
      may_act p (Step.Used page v) (protocol p t turn.free) t.holds turn.free.decided refl (lt-ltb page _
      (on_table p turn.one_table lt)) refl (four_or (phase_of w == 0) (phase_of w == 1) (phase_of w) turn.phase)
      (ap (λ (n : ℕ). if n == 4 then gives_back w page v else (not (is_used_once (now_of p).seats.holding.placing)
      && takes_cell w (object_made c f.op) (place_now c (now_of p) f) page v)) turn.phase ∙ is)

  pub head_allowed : (page : ℕ) → page < y.config.pages → empties (now_of p).words page 0 ≡ true
      → IsEnabledTo p (Step.Head page 0)
  head_allowed page lt is =
      may_act p (Step.Head page 0) (protocol p t turn.free) t.holds turn.free.decided refl (lt-ltb page _
      (on_table p turn.one_table lt)) refl (four_or (phase_of w == 0) (phase_of w == 1) (phase_of w) turn.phase)
      (ap (λ (n : ℕ). if n == 4 then empties w page 0 else (carves w (object_made c f.op)
      (place_now c (now_of p) f) page 0 || unmaps w (now_of p).seats.holding.freed page 0)) turn.phase ∙ is)

  pub quar_allowed : (page v : ℕ) → page < y.config.pages
      → drops (now_of p).words page (v % 2 ^ 32) (v / 2 ^ 32) ≡ true → IsEnabledTo p (Step.Quar page v)
  quar_allowed page v lt is =
      let none : target c.pages w f ≡ None = no_target c.pages w f turn.free.decided in
      may_act p (Step.Quar page v) (protocol p t turn.free) t.holds turn.free.decided refl
      (lt-ltb page _ (on_table p turn.one_table lt))
      (ap (λ (cell : Option Cell). not (is_run_cell w cell) || others_are_held c.callers w p.seat) none)
      (four_or (phase_of w == 0) (phase_of w == 1) (phase_of w) turn.phase) (ap (λ (n : ℕ). if n == 4 then drops w page
      (v % 2 ^ 32) (v / 2 ^ 32) else (frees w (target c.pages w f) page v || takes_snapshot w page v)) turn.phase ∙ is)

  -- A word of no mapped allocation that isn't 0 is of a released cell.
  holds_released : (n : ℕ) → IsUnmapped p n → (slice_index (now_of p).words.heap n ≡ 0 → ⊥)
      → is_some_and (is_released_cell (now_of p).words)
      (pointed_cell p.table.config.pages (now_of p).words.pages (address_of n)) ≡ true
  holds_released n unmapped some = by ((stands c p.seen t.history).all.zeros n some)
    where
      by : MayHold c (zero_scene_of (world_of p)) n
          → is_some_and (is_released_cell w) (pointed_cell c.pages w.pages (address_of n)) ≡ true
      by (OfMapped m) = absurd (unmapped m)
      by (OfReleased r) = ap (λ (x : Option Cell). is_some_and (is_released_cell w) x) r.pointed ∙ r.released
      by (OfFreedRun r) = absurd (some (gone r.run r.there r.word))
        where
          gone : (run : RunPages) → (now_of p).seats.holding.freed ≡ Some run → is_in_run run n ≡ true
              → slice_index w.heap n ≡ 0
          gone run is inside =
              let parts = and_parts (nat_le run.page (n / 64)) (nat_lt (n / 64 - run.page) run.count) inside in
              let low = leb-true run.page (n / 64) parts.0 in
              let high = ltb-true (n / 64 - run.page) run.count parts.1 in
              let zero = (and_parts (is_run_unmapped w run) (words_are_zero w (64 * run.page) (64 * run.count))
              (ap (λ (x : Option RunPages). is_run_gone w x) (sym is) ∙ turn.free.gone)).1 in
              let there : 64 * run.page + (n - 64 * run.page) ≡ n = omega arith in
              ap (λ (i : ℕ). slice_index w.heap i) (sym there) ∙ eqb-true _ 0 (all_below-at (64 * run.count)
              (n - 64 * run.page) (λ i. slice_index w.heap (64 * run.page + i) == 0) zero (omega arith))

  pub wipe_allowed : {n : ℕ} → IsUnmappedWord p n → (slice_index (now_of p).words.heap n ≡ 0 → ⊥)
      → IsEnabledTo p (Step.Wipe n)
  wipe_allowed {n} word some =
      may_act p (Step.Wipe n) (protocol p t turn.free) t.holds turn.free.decided refl
      (lt-ltb n (64 * c.pages) word.within) refl refl
      (ap (λ (b : Bool). b || is_in_gone_run w (now_of p).seats.holding.freed n) (holds_released n word.unmapped some))

pub none_then : {p q r : PassState} → GivesNothingBack p q → GivesNothingBack q r → GivesNothingBack p r
none_then {p} {q} {r} a b = record { frees = frees_then a.frees b.frees; same = λ i. b.same i ∙ a.same i }

pub none_at_once : (p : PassState) → GivesNothingBack p p
none_at_once p = record { frees = frees_nothing p; same = λ i. refl }

pub still_unmapped_word : {p q : PassState} {n : ℕ} → Frees p q → IsUnmappedWord p n → IsUnmappedWord q n
still_unmapped_word k h = grind (arith, same_config, still_unmapped)

-- the word is 0 after its wipe
pub wiped : {p q : PassState} {n : ℕ} → Acts p (Step.Wipe n) q → IsZero q n
wiped {n = n} a =
    ap (λ (x : World). slice_index x.now.words.heap n) a.world ∙ zero_here (world_at a.makes).now.words.heap n
  where
    zero_here : (xs : List ℕ) (i : ℕ) → slice_index (slice_set xs i 0) i ≡ 0
    zero_here xs i = elim (cases_lt i (length xs)) [
      | inl near ↦ get_or-set_same xs i 0 0 near
      | inr past ↦ ap (λ (ys : List ℕ). slice_index ys i) (set_past xs i 0 past) ∙ get_or_past xs i 0 past
    ]

-- the words of a page where a word of one is stored

page_set : (w : Words) (page : ℕ) (x : Page) → page < length w.pages
    → state_in (record w { pages = slice_set w.pages page x }) page ≡ record (state_in w page) { page = x }
page_set w page x long = ap (λ (y : Page). record (state_in w page) { page = y })
    (get_or-set_same w.pages page x free_page long)

page_set_other : (w : Words) (page : ℕ) (x : Page) (r : ℕ) → r ≢ page
    → state_in (record w { pages = slice_set w.pages page x }) r ≡ state_in w r
page_set_other w page x r ne = ap (λ (y : Page). record (state_in w r) { page = y })
    (get_or-set_other w.pages page r x free_page ne)

abbrev with_quar : Words → ℕ → ℕ → ℕ → Words
with_quar w page freed snapshot =
    record w { freed = slice_set w.freed page freed; snapshot = slice_set w.snapshot page snapshot }

-- A step that stores the words of one page.
module _ {p q : PassState} (s : Step) (a : Acts p s q) (page : ℕ) where
  abbrev there : Words
  there = (world_at a.makes).now.words

  abbrev behind : Words
  behind = (world_behind p.table.config (world_at a.makes) (event_of p s)).now.words

  frees_one : Frees p q → ((r : ℕ) → r ≢ page → state_in behind r ≡ state_in there r) → FreesPage page p q
  frees_one frees others = record {
    frees = frees;
    others = λ r ne. ap (λ (w : World). state_in w.now.words r) a.world ∙ others r ne ∙ state_there _ _ a.turn.steady r;
  }

  state_now : (f : PageState → PageState) → (AreOfPages p.table.config.pages there
      → state_in behind page ≡ f (state_in there page)) → page_state q page ≡ f (page_state p page)
  state_now f stored =
      ap (λ (w : World). state_in w.now.words page) a.world ∙ stored (stands p.table.config (p.seen ++ a.makes.others)
      (made p s q a.makes).history).known.lengths ∙ ap f (state_there _ _ a.turn.steady page)

long : {p : PassState} {y : WordsState} {page : ℕ} → IsTurnAt 4 y p → page < y.config.pages → (n : ℕ)
    → n ≡ p.table.config.pages → page < n
long {p} {y} {page} turn within n is = subst (λ (n : ℕ). page < n) (sym is) (on_table p turn.one_table within)

-- Those that give cells back.
module _ {p q : PassState} {y : WordsState} (turn : IsTurnAt 4 y p) {page : ℕ} (within : page < y.config.pages) where
  pub used_frees : {v : ℕ} → Acts p (Step.Used page v) q → FreesPage page p q
  used_frees a =
      frees_one _ a page (freeing turn a refl refl refl (leaves_words refl refl refl refl))
      (λ r ne. page_set_other (world_at a.makes).now.words page _ r ne)

  pub used_state : {v : ℕ} → Acts p (Step.Used page v) q → page_state q page
      ≡ record (page_state p page) { page = record { header = header_at (now_of p).words page; used = v } }
  used_state {v} a =
      state_now _ a page (λ x. record x { page = record { header = x.page.header; used = v } })
      (λ of. page_set (world_at a.makes).now.words page _ (long turn within _ of.pages))

  pub head_frees : Acts p (Step.Head page 0) q → FreesPage page p q
  head_frees a =
      frees_one _ a page (freeing turn a refl refl refl (leaves_words refl refl refl refl))
      (λ r ne. page_set_other (world_at a.makes).now.words page _ r ne)

  pub head_state : Acts p (Step.Head page 0) q → page_state q page
      ≡ record (page_state p page) { page = record { header = 0; used = used_at (now_of p).words page } }
  head_state a =
      state_now _ a page (λ x. record x { page = record { header = 0; used = x.page.used } })
      (λ of. page_set (world_at a.makes).now.words page _ (long turn within _ of.pages))

  pub quar_frees : {v : ℕ} → Acts p (Step.Quar page v) q → FreesPage page p q
  quar_frees {v} a =
      frees_one _ a page (freeing turn a refl refl refl (quar_gives p.table.config (world_at a.makes) p.seat page v
      (ap is_pending_free a.own.flight ∙ turn.free.decided)))
      (λ r ne. cc (
        get_or-set_other (world_at a.makes).now.words.freed page r _ 0 ne,
        get_or-set_other
            (world_at a.makes).now.words.snapshot page r _ 0 ne,
      ))

  pub quar_state : {v : ℕ} → Acts p (Step.Quar page v) q
      → page_state q page ≡ record (page_state p page) { freed = v % 2 ^ 32; snapshot = v / 2 ^ 32 }
  quar_state {v} a =
      state_now _ a page (λ x. record x { freed = v % 2 ^ 32; snapshot = v / 2 ^ 32 })
      (λ of. cc (
        get_or-set_same (world_at a.makes).now.words.freed page _ 0 (long turn within _ of.freed),
        get_or-set_same (world_at a.makes).now.words.snapshot page _ 0 (long turn within _ of.snapshot),
      ))
