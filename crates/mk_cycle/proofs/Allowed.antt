-- The steps that a turn which is free for a cycle may make at phase 0.
use Rattle.mk_words.proofs.Below.Laws.Vocabulary.{Bool, Cell, Config, Flight, None, Option, Protocol, Seat, Step, Tally}
use Rattle.mk_words.proofs.Below.Laws.Vocabulary.{Word, Words, ℕ, ap, arith, eq-eqb, false, frees, has_gates}
use Rattle.mk_words.proofs.Below.Laws.Vocabulary.{if◌then◌else◌, is_phase, is_run_cell, lt-ltb, nat_lt, not}
use Rattle.mk_words.proofs.Below.Laws.Vocabulary.{others_are_held, phase_of, quarantine_word, refl, slice_index, subst}
use Rattle.mk_words.proofs.Below.Laws.Vocabulary.{sym, target, true, ◌%◌, ◌&&◌, ◌/◌, ◌<◌, ◌==◌, ◌^◌, ◌||◌, ◌∙◌, ◌≡◌}
use Rattle.mk_words.proofs.Below.Laws.Protocols.{lists_keep_the_protocol}
use Rattle.mk_cycle.proofs.Vocabulary.{Acts, IsEnabledTo, IsFreeForCycle, IsTurn, IsTurnAt, PassState, WordsState}
use Rattle.mk_cycle.proofs.{Vocabulary.{call_of, drops, now_of}, Calm.no_target, MayAct.may_act}
use Rattle.mk_core.specs.{Conditions.is_word, TurnConditions.takes_snapshot}
use Rattle.mk_cycle.specs.EngineLaw.{is_register}
use Rattle.mk_words.{proofs.{Made.{own_before, pass_before}, TurnSteps.holds_after}, specs.TurnSteps.{turn_stays}}

look_gates : (c : Config) (w : Words) (seat : Seat) (f : Flight) (x : Word) → is_register x ≡ false
    → has_gates c w seat f (Step.Look x) ≡ true
look_gates c w seat f x4 h = grind arith

pub or_true : (a b : Bool) → b ≡ true → (a || b) ≡ true
or_true x0 b h = grind arith

module _ (p : PassState) (t : IsTurn p) (free : IsFreeForCycle p) where
  pub protocol : Protocol p.table.config (now_of p)
  protocol = lists_keep_the_protocol p.table.config p.seen t.history.within_limits t.history.enabled

  pub look_allowed : (x : Word) → is_word p.table.config x ≡ true → is_register x ≡ false → IsEnabledTo p (Step.Look x)
  look_allowed x range none =
      may_act p (Step.Look x) protocol t.holds free.decided refl range
      (look_gates p.table.config (now_of p).words p.seat (call_of p) x none) refl refl

  pub tally_allowed : (n : Tally) (v : ℕ) → IsEnabledTo p (Step.Tally n v)
  tally_allowed n v = may_act p (Step.Tally n v) protocol t.holds free.decided refl refl refl refl refl

pub on_table : (p : PassState) {w : WordsState} {page : ℕ} → p.table ≡ w → page < w.config.pages
    → page < p.table.config.pages
on_table p {page = page} is lt = subst (λ (x : WordsState). page < x.config.pages) (sym is) lt

or_left : (a b : Bool) → a ≡ true → (a || b) ≡ true
or_left a b h = ap (λ (x : Bool). x || b) h

-- What is made at phase 0 of the words of a page.
module _ {p : PassState} {w : WordsState} (t : IsTurn p) (turn : IsTurnAt 0 w p) (page : ℕ)
    (within : page < w.config.pages) where
  range : nat_lt page p.table.config.pages ≡ true
  range = lt-ltb page _ (on_table p turn.one_table within)

  at_zero : (phase_of (now_of p).words == 0) ≡ true
  at_zero = eq-eqb (phase_of (now_of p).words) 0 turn.phase

  not_two : is_phase (now_of p).words 2 ≡ false
  not_two = ap (λ (n : ℕ). n == 2) turn.phase

  pub clear_allowed : IsEnabledTo p (Step.Clear page)
  clear_allowed =
      may_act p (Step.Clear page) (protocol p t turn.free) t.holds turn.free.decided refl range refl at_zero refl

  pub unblack_allowed : IsEnabledTo p (Step.Unblack page)
  unblack_allowed =
      may_act p (Step.Unblack page) (protocol p t turn.free) t.holds turn.free.decided refl range
      (or_left (not _) _ (ap not not_two)) (or_left _ _ at_zero) (or_left (not _) _ (ap not not_two))

  pub undirty_allowed : IsEnabledTo p (Step.Undirty page)
  undirty_allowed =
      may_act p (Step.Undirty page) (protocol p t turn.free) t.holds turn.free.decided refl range
      (or_left (not _) _ (ap not not_two)) (or_left _ _ at_zero) (or_left (not _) _ (ap not not_two))

  pub snapshot_allowed : (v : ℕ) → v ≡ quarantine_word (slice_index (now_of p).words.freed page)
      (slice_index (now_of p).words.freed page) → IsEnabledTo p (Step.Quar page v)
  snapshot_allowed v is =
      let w : Words = (now_of p).words in
      let f : Flight = call_of p in
      let none_freed : target p.table.config.pages w f ≡ None = no_target p.table.config.pages w f turn.free.decided in
      may_act p (Step.Quar page v) (protocol p t turn.free) t.holds turn.free.decided refl range (ap
      (λ (cell : Option Cell). not (is_run_cell w cell) || others_are_held p.table.config.callers w p.seat) none_freed)
      (or_left ((phase_of w == 0) || (phase_of w == 1)) _ (or_left _ _ at_zero)) (ap (λ (n : ℕ). if n == 4 then drops w
      page (v % 2 ^ 32) (v / 2 ^ 32) else (frees w (target p.table.config.pages w f) page v || takes_snapshot w page v))
      turn.phase ∙ or_true _ _ (ap (λ (b : Bool). b
      && (v == quarantine_word (slice_index w.freed page) (slice_index w.freed page))) at_zero ∙ eq-eqb v _ is))

-- before a step of the turn
pub in_turn_before : {p : PassState} {s : Step} {q : PassState} → Acts p s q → IsTurn p
in_turn_before a = record { own = own_before a.makes; holds = a.holds; history = (pass_before a.makes).history }

-- after a step of the turn that isn't its last
pub in_turn_after : {p : PassState} {s : Step} {q : PassState} → Acts p s q → turn_stays s ≡ true → IsTurn q
in_turn_after a stays = record { own = a.makes.pass.own; holds = holds_after a stays; history = a.makes.pass.history }
