-- What is known of every step that a pass made. What holds of a pass or a turn has one proof at most.
use Rattle.std.specs.Prelude.{◌≡◌, ℕ, true, List, [], ◌∷◌, ◌++◌, All, IfSome, slice_get, Option, Some}
use Rattle.std.specs.{Prelude.None, Coded.{×_prop, Unit-prop, le_prop}}
use Rattle.mk_never.specs.declared.{types.Kind.Kind, values.Value.Value}
use Rattle.mk_never.specs.declared.{values.Value.TheVariants.{Null, Ptr}, operations.Op.Op}
use Rattle.mk_never.specs.{NeverHeap.{NeverState, Call, register_at, after_op}, Admitted.{OperandsAreInRange, Meets}}
use Rattle.mk_never.specs.Admitted.{AccessIsAdmitted, AreAdmitted, IsBase, IsNumber, IsOfKind, StoreIsAdmitted}
use Rattle.mk_never.specs.declared.types.Kind.TheVariants.{Num as Number, To}
use Rattle.mk_core.specs.declared.{config.Config.Config, events.Seat.TheVariants.{Caller, Marker, Host}}
use Rattle.mk_core.specs.{declared.events.{Event.Event, Step.Step}, Enabled.MeetsAll, Effects.progress}
use Rattle.mk_core.specs.{Frames.{IsLeft, IsLeftByAdmitted}, History.{AreOfOthers, left, world_behind, IsHistory}}
use Rattle.mk_core.specs.{History.{AreEnabledFrom, World}, Words.phase_of, Moments.{IsAmong, IsWithinLimits, Moment}}
use Rattle.mk_core.specs.{declared.events.Seat.Seat, Readings.Holds}
use Rattle.mk_words.specs.States.{has_over, PassState, world_of, call_of, event_of, IsPass, IsTurn}
use Rattle.mk_words.specs.{Steps.{Makes, moment_of, found_by, Goes}, TurnSteps.world_at}
use denote.Struct.Props.{props}

-- Up to the step others have left the seat its own. The event meets all conditions there, and leaves what it leaves
-- there.
pub record StandsBehindOthers (p : PassState) (s : Step) (q : PassState) (m : Makes p s q) : Type 0 where
  pub others : AreOfOthers (p.seat ∷ []) m.others
  pub history : IsHistory p.table.config (p.seen ++ m.others)
  pub left : IsLeft p.table.config p.seat p.seen (p.seen ++ m.others)
  pub admitted : IsLeftByAdmitted p.table.config p.seat p.seen (p.seen ++ m.others)
  pub meets : MeetsAll p.table.config (moment_of m) (event_of p s)
  pub world : world_of q ≡ world_behind p.table.config (world_at m) (event_of p s)

-- What a step leaves is left too if others made events since the pass last looked.
abbrev pub StepsStandBehindOthers : Type 0
StepsStandBehindOthers =
    (p q : PassState) (s : Step) (m : Makes p s q) → StandsBehindOthers p s q m

-- A caller's step, in the turn or not, makes its call go on from where the pass knew it.
abbrev pub CallsGoOn : Type 0
CallsGoOn =
    (p q : PassState) (s : Step) (m : Makes p s q) (k : ℕ) → p.seat ≡ Caller k
    → Goes p s (progress p.table.config (moment_of m) (call_of p) (found_by m) s) q

-- The phase says that all is over only after an `over`. So a caller's pass, which isn't the host's, never finds it so.
abbrev pub EndIsBehindOver : Type 0
EndIsBehindOver = (c : Config) (es : List Event) → IsHistory c es → phase_of (left c es).now.words ≡ 5
    → has_over es ≡ true

-- What holds of a pass, and of a turn, has one proof at most: so a value can hold it, and two turns of one pass are the
-- same.

all_prop : {X : Type 0} (P : X → Type 0) → ((x : X) → IsProp (P x)) → (xs : List X) → IsProp (All P xs)
all_prop P each xs = hlevel (props, each)

some_prop : {X : Type 0} {P : X → Type 0} (o : Option X) → ((x : X) → IsProp (P x)) → IsProp (IfSome o P)
some_prop None each = Unit-prop
some_prop (Some x) each = each x

-- that a configuration is within its limits

among_prop : (types : List (List Kind)) (k : Kind) → IsProp (IsAmong types k)
among_prop types Number = hlevel props
among_prop types (To ty offset) = hlevel props

limits_prop : (c : Config) → IsProp (IsWithinLimits c)
limits_prop c = hlevel (props, all_prop, among_prop)

-- that events are enabled
enabled_prop : (c : Config) (w : World) (es : List Event) → IsProp (AreEnabledFrom c w es)
unfolding AreEnabledFrom
enabled_prop c w [] = Unit-prop
enabled_prop c w (e ∷ es) = ×_prop (hlevel props) (enabled_prop c (world_behind c w e) es)

-- that operations are admitted

meets_prop : (n : NeverState) (v : Value) (i : ℕ) {P : Kind → Type 0} → ((k : Kind) → IsProp (P k))
    → IsProp (Meets n v i P)
meets_prop n (Ptr number ty offset) i each = ×_prop le_prop (each _)
meets_prop n _ i each = Unit-prop

kind_prop : (v : Value) (k : Kind) → IsProp (IsOfKind v k)
kind_prop Null (To ty offset) = hlevel props
kind_prop (Ptr number ty offset) (To a b) = hlevel props
kind_prop _ _ = hlevel props

base_prop : (v : Value) → IsProp (IsBase v)
base_prop Null = hlevel props
base_prop _ = hlevel props

number_prop : (k : Kind) → IsProp (IsNumber k)
number_prop Number = hlevel props
number_prop (To a b) = hlevel props

range_prop : (n : NeverState) (o : Op) → IsProp (OperandsAreInRange n o)
range_prop n (Op.Free p) = hlevel props
range_prop n _ = hlevel props

access_prop : (n : NeverState) (c : ℕ) (o : Op) → IsProp (AccessIsAdmitted n c o)
access_prop n c (Op.GetNum q i) = meets_prop n (register_at n c q) i number_prop
access_prop n c (Op.SetNum q i m) = meets_prop n (register_at n c q) i number_prop
access_prop n c (Op.GetPtr d q i) = meets_prop n (register_at n c q) i (λ k. hlevel props)
access_prop n c (Op.SetPtr q i p) = meets_prop n (register_at n c q) i (λ k. hlevel props)
access_prop n c (Op.CasPtr q i p r) = meets_prop n (register_at n c q) i (λ k. hlevel props)
access_prop n c (Op.Lea d q i) = meets_prop n (register_at n c q) i (λ k. Unit-prop)
access_prop n c _ = Unit-prop

store_prop : (globals : List ℕ) (n : NeverState) (c : ℕ) (o : Op) → IsProp (StoreIsAdmitted globals n c o)
store_prop globals n c (Op.Free p) = base_prop (register_at n c p)
store_prop globals n c (Op.SetPtr q i p) = meets_prop n (register_at n c q) i (kind_prop (register_at n c p))
store_prop globals n c (Op.CasPtr q i p r) =
    meets_prop n (register_at n c q) i (λ k. ×_prop (kind_prop (register_at n c p) k) (kind_prop (register_at n c r) k))
store_prop globals n c (Op.SetGlobal g p) =
    some_prop (slice_get globals g) (λ ty. kind_prop (register_at n c p) (To ty 0))
store_prop globals n c _ = Unit-prop

admitted_prop : (globals : List ℕ) (n : NeverState) (xs : List Call) → IsProp (AreAdmitted globals n xs)
admitted_prop globals n [] = Unit-prop
admitted_prop globals n (call ∷ xs) =
    ×_prop (hlevel (props, range_prop, access_prop, store_prop))
    (admitted_prop globals (after_op n call.caller call.op) xs)

-- that a seat holds the turn
holds_prop : (c : Config) (m : Moment) (s : Seat) → IsProp (Holds c m s)
holds_prop c m (Caller k) = hlevel props
holds_prop c m (Marker k) = hlevel props
holds_prop c m Host = hlevel props

-- What holds of a pass has one proof.
pub pass_prop : (p : PassState) → IsProp (IsPass p)
pass_prop p = hlevel (props, limits_prop, enabled_prop, admitted_prop)

-- What holds of a turn has one proof.
pub turn_prop : (p : PassState) → IsProp (IsTurn p)
turn_prop p = hlevel (props, limits_prop, enabled_prop, admitted_prop, holds_prop)
