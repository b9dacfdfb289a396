-- Calls sweep nothing, and what engines keep to in turns.
use Rattle.mk_alloc.proofs.Vocabulary.{Acts, Answer, SeesNone, Bool, Does, EndsOlder, FinishesCycle, IsOutOfStop, Op}
use Rattle.mk_alloc.proofs.Vocabulary.{PassKeeps, PassState, Some, Stage, Step, ap, arith, false, is_begin, is_take}
use Rattle.mk_alloc.proofs.Vocabulary.{not, not-true, now_of, only_seen, or_parts, refl, step_at, true, world_of, ◌||◌}
use Rattle.mk_alloc.proofs.{Vocabulary.{◌≡◌, IsHistory, IsTurn, is_close}, Stretches.{SomeKinds, does_once}}
use Rattle.mk_alloc.proofs.{CalledTurns.GivenBack, ListParts.none_at, OwnGives.steps_are}
use Rattle.mk_alloc.proofs.SaidCloses.{does_say_none, finish_says, nothing_said, said_then, unclosed_says_none}
use Rattle.mk_alloc.proofs.FinishedCycles.{Never, finished_then, never_by_none, unbegun_finished}
use Rattle.mk_alloc.specs.TurnCycles.{EachIsFinished, EachIsSaid}
use Rattle.mk_alloc.specs.{TurnCalls.{CallsSweepNothing, SweepNothingWhereHeld}, Rooms.PassKeeps}
use Rattle.mk_cycle.specs.{Stops.IsToldAtClose, BeginCycle.{EachIsBegun, HoldsFirst}, EngineLaw.Ways}
use Rattle.mk_core.specs.Cycles.{is_give}
use Rattle.mk_cycle.proofs.Begun.{begun_then, does_begin_none, finish_begins_none, left_then, nothing_begun}
use Rattle.mk_cycle.proofs.HeldFirst.{step_holds}
use Rattle.mk_caller.proofs.Below.Words.{Made.own_before, Sweeping.{does_sweep, kinds_sweep}}
use Rattle.mk_caller.proofs.Below.Words.Sweeping.{nothing_sweeps, other_step_sweeps, step_then_sweeps, sweeps_then}
use Rattle.mk_caller.proofs.Below.Words.TakesAlone.{taking_does}
use Rattle.mk_caller.specs.Below.Words.Sweeping.{HaveNoMark, SweepsNothing, is_mark}

-- A call with `enter` and `leave` marks nothing.

abbrev no_mark : Step → Bool
no_mark x = not (is_mark x)

no_mark_marks : HaveNoMark no_mark
no_mark_marks x h = not-true (is_mark x) h

at_no_mark : (s : Stage) → no_mark (step_at s) ≡ true
at_no_mark x0 = grind arith

pub calls_sweep_nothing : CallsSweepNothing
calls_sweep_nothing p o a q called = record {
  more = called.more;
  is = ap (λ (x : PassState). x.seen) called.is;
  none = kinds_sweep no_mark p.table.config p.seat (world_of p) called.more no_mark_marks
      (steps_are no_mark at_no_mark p o a called.more refl called.steps);
}

pub sweep_nothing_where_held : SweepNothingWhereHeld
sweep_nothing_where_held p o q own held = other_step_sweeps p q (Step.Enter o) held.finds.makes refl

-- the steps that answer Full
pub full_sweeps : {p q r s : PassState} {x y z : Step} → Acts p x q → Acts q y r → Acts r z s → is_mark x ≡ false
    → is_mark y ≡ false → is_mark z ≡ false → SweepsNothing p s
full_sweeps {p} {q} {r} {s} {x} {y} {z} a b d first second third =
    step_then_sweeps p q s x a.makes first
    (step_then_sweeps q r s y b.makes second (other_step_sweeps r s z d.makes third))

-- Only the list has grown where an older cycle was ended.
pub older_same : {p q : PassState} → IsOutOfStop (now_of p) → EndsOlder p q → q ≡ record p { seen = q.seen }
older_same phase older = grind arith

-- What an engine keeps to in the parts of a turn: in those without the steps of which that speaks, it does nothing.

abbrev pub HaveNone : SomeKinds → Type 0
HaveNone kinds = (x : Step) → kinds x ≡ true → (is_mark x || (is_begin x || is_close x)) ≡ false

no_marks : {kinds : SomeKinds} → HaveNone kinds → (x : Step) → kinds x ≡ true → is_mark x ≡ false
no_marks apart x h = (or_parts (is_mark x) (is_begin x || is_close x) (apart x h)).0

no_begins : {kinds : SomeKinds} → HaveNone kinds → (x : Step) → kinds x ≡ true → is_begin x ≡ false
no_begins apart x h =
    (or_parts (is_begin x) (is_close x) (or_parts (is_mark x) (is_begin x || is_close x) (apart x h)).1).0

no_closes : {kinds : SomeKinds} → HaveNone kinds → (x : Step) → kinds x ≡ true → is_close x ≡ false
no_closes apart x h =
    (or_parts (is_begin x) (is_close x) (or_parts (is_mark x) (is_begin x || is_close x) (apart x h)).1).1

module _ {V : Type 0} {ways : Ways V} where
  pub keeps_still : {p : PassState} → PassKeeps false ways p p
  keeps_still {p} = record {
    reached = λ none. nothing_sweeps p;
    begun = nothing_begun ways.begins p;
    said = nothing_said ways.tells p;
    finished = λ off. unbegun_finished ways.closes (nothing_begun Never {yet = false} p);
  }

  pub kinds_keep : {kinds : SomeKinds} {p q : PassState} → HaveNone kinds → Does kinds p q
      → PassKeeps false ways p q
  kinds_keep {kinds} {p} {q} apart d = record {
    reached = λ none. does_sweep kinds p q (no_marks apart) d;
    begun = does_begin_none ways.begins kinds p q (no_begins apart) d;
    said = does_say_none ways.tells kinds p q (no_closes apart) d;
    finished = λ off. unbegun_finished ways.closes (does_begin_none Never {yet = false} kinds p q (no_begins apart) d);
  }

  pub unbegun_keeps : {p q : PassState} → SeesNone is_begin p q → SeesNone is_close p q → SweepsNothing p q
      → PassKeeps false ways p q
  unbegun_keeps none unclosed unswept = record {
    reached = λ off. unswept;
    begun = record {
      more = none.more;
      is = none.is;
      each = λ b own. absurd (none_at is_begin none.more none.none b);
    };
    said = unclosed_says_none ways.tells unclosed;
    finished = λ off. unbegun_finished ways.closes (never_by_none none);
  }

  pub finish_keeps : (engine : V) {p q : PassState} → IsTurn p → FinishesCycle p q
      → IsHistory q.table.config q.seen → (ways.sweeps ≡ false → SweepsNothing p q)
      → IsToldAtClose (ways.tells engine) p q
      → PassKeeps false ways p q
  finish_keeps engine {p} {q} t law history reached told = record {
    reached = reached;
    begun = finish_begins_none ways.begins p q t.own law;
    said = finish_says ways.tells engine t law history told;
    finished = λ off. unbegun_finished ways.closes (finish_begins_none Never p q t.own law);
  }

  -- one part after another

  pub keeps_then : {p q r : PassState} → q ≡ record p { seen = q.seen } → PassKeeps false ways p q
      → PassKeeps false ways q r → PassKeeps false ways p r
  keeps_then {p} {q} {r} same one two = record {
    reached = λ none. sweeps_then p q r same (one.reached none) (two.reached none);
    begun = begun_then ways.begins p q r same one.begun two.begun;
    said = said_then ways.tells p q r same one.said two.said;
    finished = λ off. finished_then ways.closes p q r same (one.finished off) (two.finished off);
  }

  pub part_then : {kinds : SomeKinds} {p q r : PassState} → Does kinds p q → PassKeeps false ways p q
      → PassKeeps false ways q r → PassKeeps false ways p r
  part_then {p = p} {q = q} d one two = keeps_then (only_seen p q d.more d.is) one two

  pub kinds_then : {kinds : SomeKinds} {p q r : PassState} → HaveNone kinds → Does kinds p q
      → PassKeeps false ways q r → PassKeeps false ways p r
  kinds_then apart d rest = part_then d (kinds_keep apart d) rest

  -- A cycle that was begun may still be on,

  pub still_yet : {p : PassState} → PassKeeps true ways p p
  still_yet {p} = record {
    reached = λ none. nothing_sweeps p;
    begun = nothing_begun ways.begins p;
    said = nothing_said ways.tells p;
    finished = λ off. unbegun_finished ways.closes (nothing_begun Never {yet = false} p);
  }

  pub yet_then : {p q r : PassState} → q ≡ record p { seen = q.seen } → PassKeeps false ways p q
      → PassKeeps true ways q r → PassKeeps true ways p r
  yet_then {p} {q} {r} same one two = record {
    reached = λ none. sweeps_then p q r same (one.reached none) (two.reached none);
    begun = begun_then ways.begins p q r same one.begun two.begun;
    said = said_then ways.tells p q r same one.said two.said;
    finished = λ off. finished_then ways.closes p q r same (one.finished off) (two.finished off);
  }

  pub keeps_yet : {p q : PassState} → q ≡ record p { seen = q.seen } → PassKeeps false ways p q
      → PassKeeps true ways p q
  keeps_yet same keeps = yet_then same keeps still_yet

  pub kinds_yet : {kinds : SomeKinds} {p q r : PassState} → HaveNone kinds → Does kinds p q
      → PassKeeps true ways q r → PassKeeps true ways p r
  kinds_yet {p = p} {q = q} apart d rest = yet_then (only_seen p q d.more d.is) (kinds_keep apart d) rest

  -- and then the close is wanted or the turn given back.
  pub left_keeps : {p q r : PassState} → q ≡ record p { seen = q.seen } → (ways.sweeps ≡ false → SweepsNothing p q)
      → EachIsBegun true ways.begins p q → EachIsSaid ways.tells p q → PassKeeps false ways q r → HoldsFirst q r
      → (ways.on ≡ false → EachIsFinished ways.closes p r) → PassKeeps false ways p r
  left_keeps {p} {q} {r} same reached begun said two holds finished = record {
    reached = λ none. sweeps_then p q r same (reached none) (two.reached none);
    begun = left_then ways.begins same begun two.begun holds;
    said = said_then ways.tells p q r same said two.said;
    finished = finished;
  }

  pub then_leaves : {p q r : PassState} → q ≡ record p { seen = q.seen } → PassKeeps true ways p q
      → PassKeeps false ways q r → HoldsFirst q r → PassKeeps false ways p r
  then_leaves {p} {q} {r} same one two holds =
      left_keeps same one.reached one.begun one.said two holds
      (λ off. finished_then ways.closes p q r same (one.finished off) (two.finished off))

  -- A turn from the wait for it to its `give`.
  pub turn_keeps : {o : Op} {a : Answer} {p taken done q : PassState} → GivenBack o a p taken done q
      → PassKeeps false ways taken done → PassKeeps false ways p q
  turn_keeps {o} {p = p} {taken} g inside =
      kinds_then {kinds = is_take} (λ x h. grind arith) (taking_does p (Some o) taken g.took.own g.took.takes)
      (part_then g.on.does inside (kinds_keep {kinds = is_give} (λ x h. grind arith) (does_once g.gives refl)))

  -- also where a cycle that it began is left on
  pub turn_keeps_yet : {o : Op} {a : Answer} {p taken done q : PassState} → GivenBack o a p taken done q
      → PassKeeps true ways taken done → PassKeeps false ways p q
  turn_keeps_yet {o} {p = p} {taken} {done} g inside =
      kinds_then {kinds = is_take} (λ x h. grind arith) (taking_does p (Some o) taken g.took.own g.took.takes)
      (then_leaves (only_seen taken done g.on.does.more g.on.does.is) inside
      (kinds_keep {kinds = is_give} (λ x h. grind arith) (does_once g.gives refl))
      (step_holds (own_before g.gives) g.gives refl))
