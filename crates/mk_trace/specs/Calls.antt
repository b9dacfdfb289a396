-- The calls of a trace's one caller, and the operations of an event.
-- Private functions alone cite these words.
use Rattle.std.specs.{Prelude.{◌≡◌, ℕ, max, Bool, false, List, ◌++◌, Some}, List.list_any}
use Rattle.mk_never.specs.{declared.operations.Op.Op, NeverHeap.register_at, declared.values.Value.TheVariants.Null}
use Rattle.mk_never.specs.Admitted.{IsAdmitted, AreAdmitted}
use Rattle.mk_core.specs.{declared.config.Config.Config, declared.events.Answer.Answer, declared.events.Event.Event}
use Rattle.mk_core.specs.{declared.events.Word.Word, declared.events.Seat.TheVariants.{Caller, Host}, Words.named_word}
use Rattle.mk_core.specs.{Allocations.{held_by_allocations, PlacedAllocation}, Calls.{Decided, entry_of, asked}}
use Rattle.mk_core.specs.{Calls.{answered, is_under_turn}, History.{calls, left, never_behind, IsHistory}}
use Rattle.mk_heap.specs.{Below.Words.States.{Has, HasAll, has_over, WordsState}, Hosts.HostState, Dispatching.as_told}
use Rattle.mk_trace.specs.{Peaks.{greatest, LeavesAllocations, EndsTell, IsBetweenCycles}, Playing.{config_of, ops_of}}
use Rattle.mk_trace.specs.Playing.{begins_full, calls_of_caller, is_refusal, ops_played, refused_events, StayExact}
use Rattle.mk_trace.specs.{Grammar.Contents, declared.trace.TraceEvent.TraceEvent, declared.player.Player.Player}
use Rattle.mk_trace.specs.Ledgers.{FlagsBehindCall, QuarantinesMostWhereFreed, Keeps}

-- The heap has one caller, which was made, and whose seat is home in the host's pass, as all others are. What the host
-- has seen is a history.
pub record CallerIsHome (w : WordsState) (h : HostState) : Type 0 where
  pub table : h.pass.table ≡ w
  pub seat : h.pass.seat ≡ Host
  pub history : IsHistory w.config h.pass.seen
  pub one : w.config.callers ≡ 1
  pub callers : h.callers ≡ 1
  pub markers : h.markers ≡ 0
  pub joined : Has h.pass.seats (Caller 0)
  pub all : HasAll w.config h.pass.seats
  pub before_over : has_over h.pass.seen ≡ false

-- The operation may be the next one.
abbrev pub MayCome : Config → List Event → Op → Type 0
MayCome c es o = IsAdmitted c.globals (never_behind c es) 0 o

-- The caller made no call.
abbrev pub SameCalls : Config → List Event → List Event → Type 0
SameCalls c es fs = calls c fs ≡ calls c es

-- What is held.
abbrev pub held_behind : Config → List Event → ℕ
held_behind c es = held_by_allocations c (left c es).allocations

-- what was held at most
abbrev pub most_held : Config → List Event → ℕ
most_held c es = greatest c (held_by_allocations c) es

-- The caller made one call, of this operation, and is told this of its answer.
pub record Calls (c : Config) (es : List Event) (o : Op) (told : Answer) (fs : List Event) : Type 0 where
  pub answer : Answer
  pub is_told : told ≡ as_told answer
  pub entry : calls c fs ≡ calls c es ++ entry_of 0 o (Some answer)

-- It made calls of the operations of an event, which was refused or not.
pub record PlaysEvent (c : Config) (es : List Event) (event : TraceEvent) (refused : Bool) (fs : List Event)
    : Type 0 where
  pub more : List Decided
  pub is : calls c fs ≡ calls c es ++ more
  pub asks : asked more ≡ calls_of_caller (ops_of (begins_full (answered more)) event)
  pub refuses : list_any is_refusal (answered more) ≡ refused

-- Those of the event may be the next ones, full or not.
abbrev pub MayBePlayed : Config → List Event → TraceEvent → Type 0
MayBePlayed c es event =
    (full : Bool) → AreAdmitted c.globals (never_behind c es) (calls_of_caller (ops_of full event))

-- The operations so far are those of these events, and this many events were refused. Between them all registers are
-- null.
pub record HasPlayed (trace : Contents) (events : List TraceEvent) (refused : ℕ) (es : List Event) : Type 0 where
  pub ops : asked (calls (config_of trace) es)
      ≡ calls_of_caller (ops_played events (answered (calls (config_of trace) es)))
  pub refuses : refused ≡ refused_events events (answered (calls (config_of trace) es))
  pub clear : (r : ℕ) → register_at (never_behind (config_of trace) es) 0 r ≡ Null

-- The host only looked: no call was made, no cycle began or ended, all words but the turn word and all measures of the
-- allocations are as they were, and where all turns were exact they are.
pub record HostOnlyLooks (c : Config) (es fs : List Event) : Type 0 where
  pub calls : SameCalls c es fs
  pub leaves : LeavesAllocations c es fs
  pub words : (left c fs).now.words ≡ record (left c es).now.words { turn = (left c fs).now.words.turn }
  pub most : (measure : List PlacedAllocation → ℕ) → greatest c measure fs ≡ greatest c measure es
  pub exact : StayExact c es fs

-- the word, after these events
abbrev pub word_behind : Config → List Event → Word → ℕ
word_behind c es x = named_word (left c es).now.words x

-- The caller is home, no cycle is on, the engine is made for the heap's pages, and the ledger tells of the history what
-- was held at most and what is kept of freed objects.
pub record IsBetweenCalls {E : Type 0} (made_for : E → ℕ) (w : WordsState) (player : Player E) : Type 0 where
  pub home : CallerIsHome w player.host
  pub idle : IsBetweenCycles w.config player.host.pass.seen
  pub made : made_for player.engine ≡ w.config.pages
  pub held : player.ledger.held ≡ most_held w.config player.host.pass.seen
  pub keeps : Keeps w.config player.host.pass.seen player.ledger.freed

-- The caller made one call, and this is what it did. Meanwhile no more was held than before, or than at the end.
pub record DoesCall (on : Bool) (c : Config) (es : List Event) (o : Op) (told : Answer) (fs : List Event) : Type 0 where
  pub calls : Calls c es o told fs
  pub held : most_held c fs ≡ max (most_held c es) (held_behind c fs)
  pub ends : on ≡ false → EndsTell c es fs
  pub beside : is_under_turn o ≡ false → LeavesAllocations c es fs
  pub quarantines : QuarantinesMostWhereFreed c es o fs
  pub flags : FlagsBehindCall c es o fs
