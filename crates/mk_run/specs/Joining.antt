-- Scripts on threads of their own, with markers beside them: what each hands back, and the host that joins them.
use Rattle.std.specs.Prelude.{◌≡◌, ℕ, ◌+◌, ◌≤◌, Bool, false, List, [], ◌∷◌, length, slice_get, Some, IfOk, true}
use Rattle.mk_core.specs.declared.events.{Event.Event, Seat.TheVariants.{Caller, Host}}
use Rattle.mk_core.specs.{declared.config.Config.Config, History.AreOfOthers}
use Rattle.mk_heap.specs.Below.{Words.States.{Has, has_over, WordsState}, Callers.States.IsIdleCaller}
use Rattle.mk_heap.specs.{Hosts.HostState, Ending.HostComesLast}
use Rattle.mk_script.specs.{declared.items.Item.Item, Scopes.script_names}
use Rattle.mk_check.specs.{Laws.IsScript, declared.text.Text.Text}
use Rattle.mk_run.specs.{Running.{FollowsScript, EndsScript, IsTextOf}, declared.joining.Ran.Ran}
use Rattle.mk_run.specs.declared.{joining.Joined.Joined, marking.Done.Done}

-- Script k ran on a thread of its own, to its end where memory sufficed.
pub record HasRun (on : Bool) (program : List Item) (w : WordsState) (k : ℕ) (ran : Ran) : Type 0 where
  pub table : ran.pass.table ≡ w
  pub seat : ran.pass.seat ≡ Caller k
  pub alone : ran.pass.seats ≡ Caller k ∷ []
  pub idle : IsIdleCaller ran.pass
  pub follows : FollowsScript on program k w.config ran.pass.seen
  pub ends : IfOk ran.text (λ text. EndsScript program k w.config ran.pass.seen)
  pub is_text : IfOk ran.text (IsTextOf program k w.config ran.pass.seen)

-- The texts of the scripts from k on, which ran to their ends.
pub record AreTextsFrom (program : List Item) (k : ℕ) (c : Config) (es : List Event) (texts : List Text) : Type 0 where
  pub count : k + length texts ≡ length (script_names program)
  pub ends : (j : ℕ) → k ≤ j → IsScript program j → EndsScript program j c es
  pub each : (i : ℕ) (text : Text) → slice_get texts i ≡ Some text → IsTextOf program (k + i) c es text

-- The host has made all callers, and joined those from k on, each of which followed its script.
pub record HasJoined (on : Bool) (program : List Item) (w : WordsState) (k : ℕ) (h : HostState) : Type 0 where
  pub table : h.pass.table ≡ w
  pub seat : h.pass.seat ≡ Host
  pub count : h.callers ≡ length (script_names program)
  pub seats : (j : ℕ) → k ≤ j → IsScript program j → Has h.pass.seats (Caller j)
  pub follow : (j : ℕ) → k ≤ j → IsScript program j → FollowsScript on program j w.config h.pass.seen

-- The scripts from k on ran and are joined, and the host has made no step yet.
pub record AreJoined (on : Bool) (program : List Item) (w : WordsState) (k markers : ℕ) (joined : Joined) : Type 0 where
  pub is_host : HasJoined on program w k joined.host
  pub own : Has joined.host.pass.seats Host
  pub without_host : AreOfOthers (Host ∷ []) joined.host.pass.seen
  pub before_over : has_over joined.host.pass.seen ≡ false
  pub same_markers : joined.host.markers ≡ markers
  pub texts : IfOk joined.texts (λ texts. AreTextsFrom program k w.config joined.host.pass.seen texts.items)

-- Scripts with markers beside them. Private functions alone cite this.

-- All scripts ran and are joined, and the host said that all is over, where asked after a last cycle. It has made so
-- many markers.
pub record IsOver {E : Type 0} (on with_cycle : Bool) (program : List Item) (w : WordsState) (markers : ℕ)
    (h : HostState) (done : Done E) : Type 0 where
  pub is_host : HasJoined on program w 0 h
  pub own : Has h.pass.seats Host
  pub last : HostComesLast w.config.callers with_cycle h.pass.seen
  pub over : has_over h.pass.seen ≡ true
  pub same_markers : h.markers ≡ markers
  pub texts : IfOk done.texts (λ texts. AreTextsFrom program 0 w.config h.pass.seen texts.items)
