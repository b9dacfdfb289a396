-- When a step of a call is enabled and admitted.
use Rattle.mk_words.proofs.Below.Laws.Vocabulary.{Answer, AreAdmitted, Bool, Caller, Config, Flight, Group, IsAdmitted}
use Rattle.mk_words.proofs.Below.Laws.Vocabulary.{IsHistory, List, Moment, NeverState, None, Op, Option, Seat, Some}
use Rattle.mk_words.proofs.Below.Laws.Vocabulary.{Stage, Step, ℕ, and_from, and_parts, answer_decided, ap, arith, asked}
use Rattle.mk_words.proofs.Below.Laws.Vocabulary.{comes_next, entry_of, false, group_of, has_gates, has_operands}
use Rattle.mk_words.proofs.Below.Laws.Vocabulary.{has_phase, holder_may, is_in_range, is_under_turn, length, lt-ltb}
use Rattle.mk_words.proofs.Below.Laws.Vocabulary.{ltb-true, marker_may, nat_lt, outside, phase_of, refl, register_met}
use Rattle.mk_words.proofs.{Below.Laws.Vocabulary.{true, ◌&&◌, ◌<◌, ◌≡◌}, Below.Laws.LastEvents.{goes_on_by, stands}}
use Rattle.mk_words.proofs.Below.Laws.LayoutHolders.{seat_operands}
use Rattle.mk_never.specs.Admitted.{IsCaller, OperandsAreInRange}
use Rattle.mk_core.proofs.Conditions.{meets_enabled}
use Rattle.mk_caller.{proofs.OneStep.{flagged_same}, specs.{Moves.MayBeginCall, States.{Admits, never_of}}}
use Rattle.mk_words.specs.{States.{PassState, call_of, event_of, now_of}, Steps.{IsAdmittedTo, IsEnabledTo}}

-- Callers' kinds have no conditions 5 to 7.
record IsFree (c : Config) (m : Moment) (seat : Seat) (f : Flight) (s : Step) : Type 0 where
  pub gates : has_gates c m.words seat f s ≡ true
  pub phase : has_phase (phase_of m.words) s ≡ true
  pub marker : marker_may c outside s ≡ true
  pub holder : holder_may c m f s ≡ true

is_free : (c : Config) (m : Moment) (seat : Seat) (f : Flight) (s : Step) → group_of s ≡ Group.Callers
    → IsFree c m seat f s
is_free c m seat f (Step.Enter o) h = record { gates = refl; phase = refl; marker = refl; holder = refl }
is_free c m seat f _ h = record { gates = cc; phase = cc; marker = cc; holder = cc }

-- The next step of a call is enabled, where its argument is in range.
pub enabled : (p : PassState) (s : Step) (k : ℕ) → p.seat ≡ Caller k → k < p.table.config.callers
    → group_of s ≡ Group.Callers → comes_next (call_of p).stage (call_of p).op s ≡ true
    → is_in_range p.table.config p.seat (call_of p) s ≡ true → IsEnabledTo p s
enabled p s k is lt kind next range = grind (arith, is_free, meets_enabled, lt-ltb)

-- whatever it is answered
entry_admitted : {globals : List ℕ} {n : NeverState} {k : ℕ} {o : Op} (a : Option Answer) → is_under_turn o ≡ false
    → IsAdmitted globals n k o → AreAdmitted globals n (asked (entry_of k o a))
entry_admitted None h ad = tt
entry_admitted (Some a) h ad = grind (arith, flagged_same)

pub admitted : (p : PassState) (s : Step) → IsHistory p.table.config p.seen → IsEnabledTo p s
    → is_under_turn (call_of p).op ≡ false → Admits p (call_of p).op → IsAdmittedTo p s
admitted p s h on entered ad =
    (goes_on_by p.table.config p.seen (event_of p s) h on (entry_admitted (answer_decided p.table.config (now_of p)
    (event_of p s)) entered ad)).admitted

-- A step that decides nothing
pub idly_admitted : (p : PassState) (s : Step) → IsHistory p.table.config p.seen → IsEnabledTo p s
    → answer_decided p.table.config (now_of p) (event_of p s) ≡ None → IsAdmittedTo p s
idly_admitted p s h on none = (goes_on_by p.table.config p.seen (event_of p s) h on (rw none tt)).admitted

pub put_decides_nothing : (p : PassState) (k : ℕ) → p.seat ≡ Caller k → (call_of p).stage ≡ Stage.Put
    → answer_decided p.table.config (now_of p) (event_of p Step.Reg) ≡ None
put_decides_nothing p k is put = grind arith

-- the operands

six : (a b d e f g : Bool) → a ≡ true → b ≡ true → d ≡ true → e ≡ true → f ≡ true → g ≡ true
    → (a && b && d && e && f && g) ≡ true
six a b d e f g ha hb hd he hf hg = grind (arith, and_from)

below : (x n : ℕ) → x < n → nat_lt x n ≡ true
below x n lt = lt-ltb x n lt

operands : (c : Config) (n : NeverState) (o : Op) → length n.globals ≡ 64 → is_under_turn o ≡ false
    → OperandsAreInRange n o → has_operands c o ≡ true
operands c n x2 g u h = grind (arith, six, below)

pub caller_exists : (p : PassState) {o : Op} (k : ℕ) → IsHistory p.table.config p.seen → p.seat ≡ Caller k
    → Admits p o → k < p.table.config.callers
caller_exists p k h is ad =
    let has : IsCaller (never_of p) k = grind arith in
    let count = (stands p.table.config p.seen h).all.mirrors.register_count in
    omega arith

pub enter_enabled : {p : PassState} {o : Op} → IsHistory p.table.config p.seen → MayBeginCall p o
    → IsEnabledTo p (Step.Enter o)
enter_enabled {p} {o} h ready =
    let st = stands p.table.config p.seen h in
    enabled p (Step.Enter o) ready.caller ready.seat (caller_exists p ready.caller h ready.seat ready.admits) refl
    (rw ready.rest (ap Rattle.std.specs.Prelude.not ready.entered))
    (operands p.table.config (never_of p) o st.all.mirrors.global_count ready.entered ready.admits.in_range)

-- A register of the call in flight is one of the eight.
pub met_is_small : (p : PassState) (s : Stage) → IsHistory p.table.config p.seen → register_met (call_of p) s < 8
met_is_small p s h =
    let has : has_operands p.table.config (call_of p).op ≡ true = grind (arith, seat_operands, stands) in
    grind (arith, and_parts, ltb-true)
