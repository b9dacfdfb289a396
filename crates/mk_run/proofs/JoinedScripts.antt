-- The host makes the scripts' callers, and joins them.
use Rattle.std.proofs.Common.{IsOk, OnOk, Result, slice_get}
use Rattle.mk_heap.proofs.Below.Laws.Vocabulary.{Bool, Caller, Config, Event, List, Seat, Some, ℕ, ap, arith, length}
use Rattle.mk_heap.proofs.Below.Laws.Vocabulary.{subst, suc}
use Rattle.mk_heap.proofs.Below.Laws.Vocabulary.{sym, zero, [], ◌++◌, ◌+◌, ◌<◌, ◌∷◌, ◌≡◌, ◌≤◌, ◌⊎◌}
use Rattle.mk_run.proofs.Vocabulary.{AreTextsFrom, EndsScript, FollowsScript, Grows, Has, HasJoined, HostState, IfOk}
use Rattle.mk_run.proofs.Vocabulary.{IsScript, IsTextOf, Item, PassState, Text, WordsState, answers_in, has_first}
use Rattle.mk_run.proofs.Vocabulary.{has_left, script_names, slice_get_within, with_joined, ⊎_elim}
use Rattle.mk_never.specs.declared.never_heap.NoMemory.{NoMemory}
use Rattle.mk_core.specs.History.{calls_from}
use Rattle.mk_heap.proofs.Below.Words.Seats.{has_right}
use Rattle.mk_check.proofs.AdmittedScripts.{first_are_noted}
use Rattle.mk_run.proofs.LaterLists.{of_one, still_ends, still_follows, still_text}

-- Before the first call.

pub no_answers : (c : Config) (k : ℕ) (es : List Event) → es ≡ [] → answers_in c k es ≡ []
unfolding calls_from
no_answers c k es is = ap (λ (l : List Event). answers_in c k l) is

no_event : (before : List Event) (e : Event) (behind : List Event) → [] ≡ before ++ e ∷ behind → ⊥
no_event [] e behind h = cc
no_event (x ∷ before) e behind h = cc

first_follows : (on : Bool) (program : List Item) (k : ℕ) (c : Config) → FollowsScript on program k c []
unfolding calls_from
first_follows on program k c = grind (arith, first_are_noted, no_event)

pub follows_at_first : (on : Bool) (program : List Item) (k : ℕ) (c : Config) (es : List Event) → es ≡ []
    → FollowsScript on program k c es
follows_at_first on program k c es is =
    subst (λ (l : List Event). FollowsScript on program k c l) (sym is) (first_follows on program k c)

-- One more is joined.

pub same_or_later : (k j : ℕ) → k ≤ j → (j ≡ k) ⊎ (k + 1 ≤ j)
same_or_later k j le = grind arith

module _ {on : Bool} {program : List Item} {w : WordsState} (k : ℕ) {h : HostState} (p : PassState) {fs : List Event}
    (joined : HasJoined on program w (k + 1) h) (own : Grows h.pass.seats h.pass.seen fs)
    (alone : p.seats ≡ Caller k ∷ []) (came : Grows p.seats p.seen fs) where
  mine : Grows (Caller k ∷ []) p.seen fs
  mine = subst (λ (seats : List Seat). Grows seats p.seen fs) alone came

  theirs : (j : ℕ) → k + 1 ≤ j → IsScript program j → Grows (Caller j ∷ []) h.pass.seen fs
  theirs j le is = of_one (Caller j) (joined.seats j le is) own

  pub one_joined : FollowsScript on program k w.config p.seen → HasJoined on program w k (with_joined h p fs)
  one_joined follows = record {
    table = joined.table;
    seat = joined.seat;
    count = joined.count;
    seats = λ j le is. ⊎_elim (λ (e : j ≡ k). has_right h.pass.seats p.seats (Caller j)
        (rw alone (subst (λ (i : ℕ). Has (Caller i ∷ []) (Caller j)) e (has_first (Caller j) [])))) (λ (later : k + 1 ≤
        j). has_left h.pass.seats p.seats (Caller j) (joined.seats j later is)) (same_or_later k j le);
    follow = λ j le is. ⊎_elim (λ (e : j ≡ k). rw e (still_follows program w.config mine follows)) (λ (later : k + 1 ≤
        j). still_follows program w.config (theirs j later is) (joined.follow j later is)) (same_or_later k j le);
  }

  one_text_more : {text : Text} {texts : List Text} (all : List Text) → all ≡ text ∷ texts
      → EndsScript program k w.config p.seen
      → IsTextOf program k w.config p.seen text → AreTextsFrom program (k + 1) w.config h.pass.seen texts
      → k < length (script_names program) → AreTextsFrom program k w.config fs all
  one_text_more {text} {texts} all is ends first others few = record {
    count = (let n = others.count in let m = ap (λ (l : List Text). length l) is in omega arith);
    ends = λ j le is'. ⊎_elim (λ (e : j ≡ k). rw e (still_ends program w.config mine ends)) (λ (later : k + 1 ≤
        j). still_ends program w.config (theirs j later is') (others.ends j later is')) (same_or_later k j le);
    each = λ i text' at. here i text' (subst (λ (l : List Text). slice_get l i ≡ Some text') is at);
  }
    where
      here : (i : ℕ) (text' : Text) → slice_get (text ∷ texts) i ≡ Some text'
          → IsTextOf program (k + i) w.config fs text'
      here zero text' at =
          let same : text ≡ text' = cc in
          subst (λ (j : ℕ). IsTextOf program j w.config fs text') (omega arith)
          (rw same at (still_text program w.config mine first))
      here (suc i) text' at =
          let within = slice_get_within texts i text' at in
          let n = others.count in
          let is_script : IsScript program (k + 1 + i) = omega arith in
          let le : k + 1 ≤ k + 1 + i = omega arith in
          subst (λ (j : ℕ). IsTextOf program j w.config fs text') (omega arith) (still_text program _
          (theirs (k + 1 + i) le is_script) (others.each i text' at))

  pub texts_joined : {V : Type 0} (items : V → List Text)
      (first : Result Text NoMemory) (others all : Result V NoMemory)
      → OnOk all (IsOk first) → OnOk all (IsOk others)
      → IfOk all (λ a. IfOk first (λ text. IfOk others (λ texts. items a ≡ text ∷ items texts)))
      → IfOk first (λ text. EndsScript program k w.config p.seen) → IfOk first (IsTextOf program k w.config p.seen)
      → IfOk others (λ texts. AreTextsFrom program (k + 1) w.config h.pass.seen (items texts))
      → k < length (script_names program)
      → IfOk all (λ a. AreTextsFrom program k w.config fs (items a))
  texts_joined items first others x3 a b c d f g few = grind (arith, one_text_more)
