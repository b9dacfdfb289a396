-- What a schedule makes of a program, on a heap with eight markers: the history, the first event that isn't enabled,
-- and the texts of the scripts.
use Rattle.std.specs.Prelude.{◌≡◌, ◌<◌, ℕ, List, [], ◌∷◌, ◌++◌, length, count_by, slice_index_or, Option, Some, None}
use Rattle.std.specs.{Prelude.{◌==◌, if◌then◌else◌, ◌≤◌, Bool, true, false}, List.cons_option, Option.option_or}
use Rattle.mk_never.specs.declared.operations.Op.{Op}
use Rattle.mk_core.specs.{declared.events.Seat.Seat, declared.events.Step.Step, declared.events.Event.Event}
use Rattle.mk_core.specs.{Enabled.failing, History.{left, is_same_seat, CoreStandsFor}, declared.config.Config.Config}
use Rattle.mk_core.specs.{declared.events.Answer.Answer, declared.events.Seat.TheVariants.Caller}
use Rattle.mk_script.specs.{declared.items.Item.Item, Scopes.script_names}
use Rattle.mk_check.specs.{Declarations.config_of, Feed.{is_refusal, answers_given, text_behind, feed, ends_call}}
use Rattle.mk_check.specs.{Feed.answer_waiting, Feeding.{next_op, FeedState, FeedStandsFor}, declared.text.Text.Text}
use Rattle.mk_replay.specs.{Forms.nothing_to_enter, declared.replaying.ReplayStop.ReplayStop}
use Rattle.mk_replay.specs.{declared.replaying.ReplayStop.TheVariants.NotEnabled, declared.schedule.Entry.Entry}
use Rattle.mk_replay.specs.{declared.players.Player.Player, declared.replaying.Run.Run}

-- A caller's operation is its script's next one, fed with the answers so far. Other seats have none.
abbrev pub next_op_for : List Item → List Event → Seat → Option Op
next_op_for program es (Seat.Caller k) = next_op program k (answers_given (config_of program 8) es k)
next_op_for program es _ = None

-- The step of a form. Where there is no operation, `enter` carries one that no `enter` may carry.
abbrev pub step_of : Step → Option Op → Step
step_of (Step.Enter _) (Some o) = Step.Enter o
step_of (Step.Enter _) None = Step.Enter nothing_to_enter
step_of (Step.Take _) o = Step.Take o
step_of form o = form

-- an entry's event after others
abbrev pub event_of_entry : List Item → List Event → Entry → Event
event_of_entry program es x = record { seat = x.seat; step = step_of x.form (next_op_for program es x.seat) }

-- the events of a schedule, with the operations of the scripts, after others
unfoldable pub history_from : List Item → List Event → List Entry → List Event
history_from program es [] = es
history_from program es (x ∷ xs) = history_from program (es ++ event_of_entry program es x ∷ []) xs

-- the events of a schedule
abbrev pub history_of : List Item → List Entry → List Event
history_of program schedule = history_from program [] schedule

-- the first condition of an entry's event that fails after others, or 0
abbrev pub failing_entry : List Item → List Event → Entry → ℕ
failing_entry program es x =
    failing (config_of program 8) (left (config_of program 8) es).now (event_of_entry program es x)

-- The refusal that names the first event that isn't enabled.
unfoldable pub refusal_from : List Item → List Event → List Entry → Option ReplayStop
refusal_from program es [] = None
refusal_from program es (x ∷ xs) =
    if failing_entry program es x == 0
    then refusal_from program (es ++ event_of_entry program es x ∷ []) xs
    else Some (NotEnabled x.line x.place (failing_entry program es x))

-- its first event that may not come
abbrev pub refusal_of : List Item → List Entry → Option ReplayStop
refusal_of program schedule = refusal_from program [] schedule

-- The text of script k, fed with the answers of its calls that ended, and the counts of these and of the refused ones.
pub record IsReplayedText (program : List Item) (es : List Event) (k : ℕ) (t : Text) : Type 0 where
  pub text : t.bytes.items ≡ text_behind program (config_of program 8) es k
  pub all : t.ops ≡ length (answers_given (config_of program 8) es k)
  pub refusals : t.refused ≡ count_by is_refusal (answers_given (config_of program 8) es k)

-- A text for each script, in order.
pub record AreTextsOf (program : List Item) (es : List Event) (texts : List Text) : Type 0 where
  pub count : length texts ≡ length (script_names program)
  pub each : (k : ℕ) (d : Text) → k < length texts → IsReplayedText program es k (slice_index_or texts k d)

-- What a run keeps for each script, and what it stands for.
-- Private functions alone cite these words.

-- The answers of a caller's calls that ended, and the one that was decided in the call in flight.
pub record Served : Type 0 where
  pub answers : List Answer
  pub kept : Option Answer

-- after one of the caller's steps, which may be its call's last one, and may decide an answer
abbrev pub served_behind : Bool → Option Answer → Served → Served
served_behind true decided x = record { answers = x.answers ++ cons_option (option_or decided x.kept) []; kept = None }
served_behind false decided x = record { answers = x.answers; kept = option_or decided x.kept }

-- caller k after an event that decides this answer, if any
abbrev pub served_by : ℕ → Event → Option Answer → Served → Served
served_by k e decided x = if is_same_seat (Caller k) e.seat then served_behind (ends_call e.step) decided x else x

-- what a script was given, and the answer that waits for its call to end
abbrev pub served_to : Config → List Event → ℕ → Served
served_to c es k = record { answers = answers_given c es k; kept = answer_waiting c es k }

-- A feed that is where script k of a program is after these answers. One that has ended took none of those after
-- its end.
pub record IsFed (program : List Item) (k : ℕ) (s : FeedState) (answers : List Answer) : Type 0 where
  pub taken : List Answer
  pub stands : FeedStandsFor program k s taken
  pub same : feed program k taken ≡ feed program k answers

-- Whatever answers the first had, the second has those and the one after them.
abbrev pub FeedsOn : Answer → FeedState → FeedState → Type 0
FeedsOn a old new = (program : List Item) (k : ℕ) (answers : List Answer)
    → IsFed program k old answers → IsFed program k new (answers ++ a ∷ [])

-- the player of script k
pub record IsPlayerOf (program : List Item) (k : ℕ) (x : Served) (p : Player) : Type 0 where
  pub fed : IsFed program k p.feed x.answers
  pub kept : p.kept ≡ x.kept
  pub ops : p.ops ≡ length x.answers
  pub refused : p.refused ≡ count_by is_refusal x.answers

-- Whatever the first was served, the second was served that and the step after it.
abbrev pub TakesStep : Bool → Option Answer → Player → Player → Type 0
TakesStep last decided old new = (program : List Item) (k : ℕ) (x : Served)
    → IsPlayerOf program k x old → IsPlayerOf program k (served_behind last decided x) new

-- The counts of a player's answers may grow.
pub record PlayerHasRoom (p : Player) : Type 0 where
  pub ops : p.ops < 18446744073709551615
  pub refused : p.refused < 18446744073709551615

-- the players after an event that decides this answer, if any
abbrev pub TakeEvent : Event → Option Answer → List Player → List Player → Type 0
TakeEvent e decided old new = (program : List Item) (k : ℕ) (d : Player) (x : Served) → k < length old
    → IsPlayerOf program k x (slice_index_or old k d)
    → IsPlayerOf program k (served_by k e decided x) (slice_index_or new k d)

-- Each is in the middle of its script, after these events.
abbrev pub ArePlayersOf : List Item → List Event → List Player → Type 0
ArePlayersOf program es players = (k : ℕ) (d : Player) → k < length players
    → IsPlayerOf program k (served_to (config_of program 8) es k) (slice_index_or players k d)

-- a run after events
pub record IsRunAfter (program : List Item) (es : List Event) (run : Run) : Type 0 where
  pub config : run.core.config ≡ config_of program 8
  pub stands : CoreStandsFor run.core es
  pub count : length run.players.items ≡ length (script_names program)
  pub players : ArePlayersOf program es run.players.items

-- The entry's event is enabled, and the run goes on after it.
pub record TakesEntry (program : List Item) (es : List Event) (x : Entry) (new : Run) : Type 0 where
  pub enabled : failing_entry program es x ≡ 0
  pub run : IsRunAfter program (es ++ event_of_entry program es x ∷ []) new

-- The entry's event isn't enabled, and the refusal says so.
pub record IsNotEnabled (program : List Item) (es : List Event) (x : Entry) (stop : ReplayStop) : Type 0 where
  pub condition : 1 ≤ failing_entry program es x
  pub says : stop ≡ NotEnabled x.line x.place (failing_entry program es x)
