-- What calls ask and ensure of any kind of step, of a caller's and a marker's, and where all gates are opened.
use Rattle.std.specs.Prelude.{◌≡◌, ℕ, Bool, true, false, List, [], ◌∷◌, ◌++◌, ◌≢◌, ◌<◌, ⊤, count_by, ◌⊎◌, ◌≤◌}
use Rattle.std.specs.List.{list_all}
use Rattle.mk_never.specs.declared.operations.Op.{Op}
use Rattle.mk_core.specs.declared.{events.{Step.Step, Event.Event}, seats.Progress.Progress}
use Rattle.mk_core.specs.declared.accesses.{Access.Access, TableWord.TableWord}
use Rattle.mk_core.specs.{Accesses.{access, found, word_accessed, caller_number}, Moments.{Moment, marker_at}}
use Rattle.mk_core.specs.{Moments.is_number_of, Effects.{answer_decided, marker_behind}}
use Rattle.mk_core.specs.History.{left, IsEnabledBehind, IsAdmittedBehind, AreOfOthers, is_gate_held, is_same_seat}
use Rattle.mk_core.specs.{History.{is_one_of, Finding, in_this_call}, Cycles.is_give, Counts.TalliesAreTidy}
use Rattle.mk_core.specs.{declared.events.Word.Word, Words.{register_word, has_bit}}
use Rattle.mk_core.specs.declared.{seats.Marker.Marker as MarkerState, events.Seat.Seat}
use Rattle.mk_core.specs.Frames.{steady_of, CountsAreLeft}
use Rattle.mk_words.specs.States.{HasCallers, is_over, PassState, IsPass, now_of, call_of, event_of, world_of}
use Rattle.mk_words.specs.Rule.{told_by}

-- the kinds by which a call may be decided
abbrev pub may_decide : Step → Bool
may_decide Step.Reg = true
may_decide Step.Probe = true
may_decide Step.Read = true
may_decide Step.Write = true
may_decide Step.Cas = true
may_decide Step.Getg = true
may_decide Step.Setg = true
may_decide (Step.Look (Word.Quar p)) = true
may_decide (Step.Quar p v) = true
may_decide Step.Grant = true
may_decide Step.Full = true
may_decide _ = false

-- After what the pass has seen the step is enabled, and admitted.

-- The step may come after what the pass has seen.
abbrev pub IsEnabledTo : PassState → Step → Type 0
IsEnabledTo p s = IsEnabledBehind p.table.config p.seen (event_of p s)

-- With it the calls are still admitted.
abbrev pub IsAdmittedTo : PassState → Step → Type 0
IsAdmittedTo p s = IsAdmittedBehind p.table.config p.seen (event_of p s)

-- A pass may make a step that is enabled and, where the step may decide a call, admitted. A `give` leaves its list
-- tidy, and at an `over` the pass has the seats of all callers.
pub record May (p : PassState) (s : Step) : Type 0 where
  pub enabled : IsEnabledTo p s
  pub admitted : may_decide s ≡ true → IsAdmittedTo p s
  pub tidy : is_give s ≡ true → TalliesAreTidy p.table.config p.seen
  pub home : is_over s ≡ true → HasCallers p.table.config p.seats

-- The pass may make the step, and this word and this access are those of the event, after what the pass has seen.
pub record MayPerform (p : PassState) (s : Step) (x : TableWord) (a : Access) : Type 0 where
  pub may : May p s
  pub reaches : x ≡ word_accessed p.table.config (now_of p) (event_of p s)
  pub does : a ≡ access p.table.config (now_of p) (event_of p s)

-- The pass made the step, after all that it had seen and events of others.
pub record Makes (p : PassState) (s : Step) (q : PassState) : Type 0 where
  pub others : List Event
  pub of_others : AreOfOthers p.seats others
  pub is : q ≡ record p { seen = p.seen ++ others ++ event_of p s ∷ [] }
  pub pass : IsPass q

-- the moment at which it was made
abbrev pub moment_of : {p : PassState} {s : Step} {q : PassState} → Makes p s q → Moment
moment_of {p} m = (left p.table.config (p.seen ++ m.others)).now

-- what the step found
abbrev pub found_by : {p : PassState} {s : Step} {q : PassState} → Makes p s q → ℕ
found_by {p} {s} m = found p.table.config (moment_of m) (event_of p s)

-- It made the step, whose access found this number.
pub record Finds (p : PassState) (s : Step) (n : ℕ) (q : PassState) : Type 0 where
  pub makes : Makes p s q
  pub finds : n ≡ found_by makes

-- It made the step, whose access told this number.
pub record Tells (p : PassState) (s : Step) (n : ℕ) (q : PassState) : Type 0 where
  pub makes : Makes p s q
  pub tells : n ≡ told_by (access p.table.config (now_of p) (event_of p s)) (found_by makes)

-- It made a step of its call, which goes on so: what is next of the call, and the answer, if the step decides it.
pub record Goes (p : PassState) (s : Step) (x : Progress) (q : PassState) : Type 0 where
  pub makes : Makes p s q
  pub call : call_of q ≡ x.flight
  pub answer : answer_decided p.table.config (moment_of makes) (event_of p s) ≡ x.answer

-- a register of the pass's seat
abbrev pub register_of : PassState → ℕ → ℕ
register_of p r = register_word (now_of p).words (caller_number p.seat) r

-- All eight registers of the caller are as they were.
abbrev pub LeavesRegisters : PassState → PassState → Type 0
LeavesRegisters p q = (r : ℕ) → r < 8 → register_of q r ≡ register_of p r

-- but for one
abbrev pub KeepsOtherRegisters : ℕ → PassState → PassState → Type 0
KeepsOtherRegisters stored p q = (r : ℕ) → r < 8 → r ≢ stored → register_of q r ≡ register_of p r

-- `enter` found the gate held.
pub record FindsHeld (p : PassState) (o : Op) (q : PassState) : Type 0 where
  pub makes : Makes p (Step.Enter o) q
  pub found : found_by makes ≡ 2
  pub held : is_gate_held p.table.config (caller_number p.seat) (p.seen ++ makes.others) ≡ true

-- what the pass's seat is at as a marker
abbrev pub marker_in : PassState → MarkerState
marker_in p = marker_at (now_of p) p.seat

-- A marker's step found this number, and left the marker so.
pub record Marks (p : PassState) (s : Step) (n : ℕ) (q : PassState) : Type 0 where
  pub finds : Finds p s n q
  pub marker : marker_in q ≡ marker_behind p.table.config n s (marker_in p)

-- A claim found the cell's mark bit so.
pub record Claims (p : PassState) (page k : ℕ) (marked : Bool) (q : PassState) : Type 0 where
  pub found : ℕ
  pub marks : Marks p (Step.Claim page k) found q
  pub bit : marked ≡ has_bit found k

-- Each event is the seat's own, or of none of these seats.
unfoldable pub AreOwnOrOfOthers : Seat → List Seat → List Event → Type 0
AreOwnOrOfOthers s seats [] = ⊤
AreOwnOrOfOthers s seats (e ∷ es) = (is_one_of seats e.seat ≡ is_same_seat s e.seat) × AreOwnOrOfOthers s seats es

-- what the pass's seat has done after what it had seen, and what each of its steps found
abbrev pub done_in : PassState → List Event → List Finding
done_in p more = in_this_call p.table.config p.seat p.seen more

-- all of them are of these kinds
abbrev pub are_of : (Step → Bool) → List Finding → Bool
are_of kinds xs = list_all (λ (x : Finding). kinds x.event.step) xs

-- From what one pass had seen to what it has seen now, its seat did only steps of these kinds.
pub record Does (kinds : Step → Bool) (p q : PassState) : Type 0 where
  pub more : List Event
  pub is : q ≡ record p { seen = p.seen ++ more }
  pub own_or_others : AreOwnOrOfOthers p.seat p.seats more
  pub of_kinds : are_of kinds (done_in p more) ≡ true

-- how many steps of a kind were done
abbrev pub count_done : (Step → Bool) → {kinds : Step → Bool} {p q : PassState} → Does kinds p q → ℕ
count_done kind {p = p} d = count_by (λ (x : Finding). kind x.event.step) (done_in p d.more)

-- The laws.

-- A pass that did nothing did steps of any kinds.
abbrev pub NothingIsDone : Type 0
NothingIsDone = (kinds : Step → Bool) (p : PassState) → Does kinds p p

-- Steps of these kinds, and then more of them, are steps of these kinds.
abbrev pub DoneInTurn : Type 0
DoneInTurn = (kinds : Step → Bool) (p q r : PassState) → Does kinds p q → Does kinds q r → Does kinds p r

-- So is one step of these kinds.
abbrev pub StepsAreDone : Type 0
StepsAreDone = (kinds : Step → Bool) (p q : PassState) (s : Step) → Makes p s q → kinds s ≡ true
    → Does kinds p q

-- The gates of all callers from this one on may be opened, but for the holder's.
abbrev pub OthersMayOpen : PassState → ℕ → Type 0
OthersMayOpen p first =
    (j : ℕ) → first ≤ j → j < p.table.config.callers → is_number_of p.seat j ≡ false → IsEnabledTo p (Step.Open j)

-- it opens a gate
abbrev pub is_open : Step → Bool
is_open (Step.Open j) = true
is_open _ = false

-- Each event is of another, or opens a gate.
unfoldable pub OnlyOpen : List Seat → List Event → Type 0
OnlyOpen seats [] = ⊤
OnlyOpen seats (e ∷ es) = ((is_one_of seats e.seat ≡ false) ⊎ (is_open e.step ≡ true)) × OnlyOpen seats es

-- The pass has seen events of others, and has opened gates. All that is steady in a turn is as it was.
pub record Opens (p q : PassState) : Type 0 where
  pub more : List Event
  pub is : q ≡ record p { seen = p.seen ++ more }
  pub only : OnlyOpen p.seats more
  pub steady : steady_of (world_of q) ≡ steady_of (world_of p)
  pub holding : (now_of q).seats.holding ≡ (now_of p).seats.holding
  pub call : call_of q ≡ call_of p
  pub counts : CountsAreLeft p.table.config p.seen q.seen
