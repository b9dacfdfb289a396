-- What the turn's holder marks beside callers and markers, from the roots on, while a cycle marks.
use Rattle.std.specs.Prelude.{◌≡◌, ◌≢◌, ℕ, ◌<◌, Bool, true, false, ◌&&◌, ◌||◌, ◌==◌, not, List, [], ◌∷◌, length, drop}
use Rattle.std.specs.{Prelude.◌++◌, List.{list_all, list_any}}
use Rattle.mk_core.specs.{declared.events.Event.Event, declared.events.Step.Step, declared.events.Word.Word}
use Rattle.mk_core.specs.{Cells.points_well, History.{Finding, in_this_call, left}, Moments.is_held, Words.Words}
use Rattle.mk_core.specs.{declared.config.Config.Config, declared.events.Seat.Seat, Conditions.is_word}
use Rattle.mk_words.specs.{States.{PassState, TurnState, world_of, now_of, event_of}, Steps.{Does, done_in}}
use Rattle.mk_cycle.specs.{Grays.TracesReached, Stops.{is_root, IsHeldOrOwn}, Tracing.OwnStepsKeep}
use Rattle.mk_cycle.specs.{EngineLaw.{IsFreeForCycle, IsAtPhase}, TurnKeeps.{begins_marking, LeavesTurn, unchanged}}
use Rattle.mk_cycle.specs.BeginCycle.{CyclesAreBegun}

-- the events that a pass has seen after what it had seen
abbrev pub seen_since : PassState → PassState → List Event
seen_since p q = drop (length p.seen) q.seen

-- what its seat did there, and what each step found
abbrev pub done_since : PassState → PassState → List Finding
done_since p q = done_in p (seen_since p q)

-- it is a look at this root
abbrev pub looks_at : Word → Step → Bool
looks_at (Word.Reg j r) (Step.Look (Word.Reg k s)) = (j == k) && (r == s)
looks_at (Word.Global g) (Step.Look (Word.Global h)) = g == h
looks_at _ _ = false

-- it is a look at a root
abbrev pub looks_at_root : Step → Bool
looks_at_root (Step.Look x) = is_root x
looks_at_root _ = false

-- The seat looked at the root, from what the one pass had seen to what it has seen now.
abbrev pub LooksAt : Word → PassState → PassState → Type 0
LooksAt x p q = list_any (λ (f : Finding). looks_at x f.event.step) (done_since p q) ≡ true

-- what the look found points well now
abbrev pub found_well : ℕ → Words → Finding → Bool
found_well pages w f = not (looks_at_root f.event.step) || points_well pages w f.found

-- Its marks are of what stood in a root, or in a cell that was marked.
abbrev pub MarksReachedAlone : PassState → PassState → Type 0
MarksReachedAlone p q = OwnStepsKeep TracesReached p.table.config p.seat (world_of p) (seen_since p q)

-- What pointed well goes on doing so.
abbrev pub StaysWell : PassState → PassState → Type 0
StaysWell p q =
    (u : ℕ) → points_well p.table.config.pages (now_of p).words u ≡ true
    → points_well p.table.config.pages (now_of q).words u ≡ true

-- The turn is free for a cycle, and the cycle that is on marks.
pub record IsBeside (p : PassState) : Type 0 where
  pub free : IsFreeForCycle p
  pub marking : IsAtPhase p 1

-- From one to the other its holder looked, marked, and held or opened gates. What it found at roots points well.
pub record MarksBeside (p q : PassState) : Type 0 where
  pub does : Does begins_marking p q
  pub keeps : LeavesTurn unchanged p q
  pub reached : MarksReachedAlone p q
  pub found : list_all (found_well p.table.config.pages (now_of q).words) (done_since p q) ≡ true
  pub well : StaysWell p q

-- The same of a turn.
pub record GoesBeside (t u : TurnState) : Type 0 where
  pub table : u.pass.table ≡ t.pass.table
  pub beside : IsBeside u.pass
  pub marks : MarksBeside t.pass u.pass

-- Its holder made one look at a root, which found this value. It is still to be marked.
pub record FindsInRoot (x : Word) (n : ℕ) (t u : TurnState) : Type 0 where
  pub table : u.pass.table ≡ t.pass.table
  pub beside : IsBeside u.pass
  pub does : Does begins_marking t.pass u.pass
  pub keeps : LeavesTurn unchanged t.pass u.pass
  pub reached : MarksReachedAlone t.pass u.pass
  pub done : done_since t.pass u.pass ≡ record { event = event_of t.pass (Step.Look x); found = n } ∷ []
  pub well : StaysWell t.pass u.pass

-- a word at which a look gives no hand
abbrev pub gives_no_hand : Word → Bool
gives_no_hand (Word.Reg j r) = false
gives_no_hand (Word.Global g) = false
gives_no_hand (Word.Heap n) = false
gives_no_hand _ = true

-- A register is looked at while its caller's gate is held, or it is the holder's own.
abbrev pub IsOpenToLook : PassState → Word → Type 0
IsOpenToLook p x = (k r : ℕ) → x ≡ Word.Reg k r → IsHeldOrOwn p k

-- The other gates are held, or not, as they were.
abbrev pub KeepsOtherGates : ℕ → PassState → PassState → Type 0
KeepsOtherGates caller p q =
    (j : ℕ) → j < p.table.config.callers → j ≢ caller → is_held (now_of q).words j ≡ is_held (now_of p).words j

-- The turn went on, and this gate is held then, or not. The others are as they were.
pub record SetsGate (caller : ℕ) (held : Bool) (t u : TurnState) : Type 0 where
  pub on : GoesBeside t u
  pub others : KeepsOtherGates caller t.pass u.pass
  pub set : is_held (now_of u.pass).words caller ≡ held

-- After a list, the seat looked in these events at each register of each caller and at each global, what it found
-- there points well at their end, and it marked nothing but what was reached.
pub record MarksRoots (c : Config) (s : Seat) (es more : List Event) : Type 0 where
  pub looked : (x : Word) → is_root x ≡ true → is_word c x ≡ true
      → list_any (λ (f : Finding). looks_at x f.event.step) (in_this_call c s es more) ≡ true
  pub found : list_all (found_well c.pages (left c (es ++ more)).now.words) (in_this_call c s es more) ≡ true
  pub reached : OwnStepsKeep TracesReached c s (left c es) more

-- Whoever begins a cycle of the history does so directly after its `begin`, in the same turn.
abbrev pub CyclesMarkRootsFirst : Config → List Event → Type 0
CyclesMarkRootsFirst c es = CyclesAreBegun MarksRoots c es
