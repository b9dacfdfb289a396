-- The words that the proofs of this crate share: they import them from here.
pub use Rattle.std.proofs.{Common.{IfOk, rules, ⊎_elim}, lemmas.{List.append_cancel_left, Option.slice_get_within}}
pub use Rattle.mk_core.specs.History.{Grows}
pub use Rattle.mk_heap.proofs.Below.Objects.CalmStretches.{is_of_cycles}
pub use Rattle.mk_heap.proofs.Below.Objects.{CycleParts.{finish_does, finish_in}, ListParts.Lacks}
pub use Rattle.mk_heap.proofs.Below.Objects.Parts.{has_then, history_before, in_turn_then, seen_then}
pub use Rattle.mk_heap.proofs.Below.{Objects.UnsweptTurns.keeps_then, Callers.OwnSteps.calls_by}
pub use Rattle.mk_heap.proofs.Below.Words.Seats.{has_first, has_left, others_append, others_none, others_own}
pub use Rattle.mk_heap.specs.Below.Objects.{TurnCycles.has_step, Rooms.PassKeeps}
pub use Rattle.mk_heap.specs.Below.Callers.{Called.FindsGateHeld, States.{CallerState, IsAtHome}}
pub use Rattle.mk_heap.specs.Below.{Callers.States.IsHomePass, Words.States.{Has, HasCallers}}
pub use Rattle.mk_heap.specs.Below.Words.{States.{PassState, WordsState}, TurnSteps.turn_stays}
pub use Rattle.mk_heap.specs.{Ending.{SaysOver, HostComesLast}, Hosts.{HostState, with_joined, IsWhole}}
pub use Rattle.mk_heap.specs.{Ending.{CallersAreStill, TakesLastTurns}, Dispatching.{Answers, StaysAdmitted}}
pub use Rattle.mk_heap.specs.{Dispatching.StaysBeside, Hosts.{HasMade, IsFirstPass}}
pub use Rattle.mk_check.specs.{Declarations.config_of, Feed.{feed, is_refusal}, Feeding.next_op}
pub use Rattle.mk_check.specs.{Laws.{IsChecked, IsScript}, declared.text.Text.Text}
pub use Rattle.mk_script.specs.{Scopes.script_names, declared.items.Item.Item}
pub use Rattle.mk_run.specs.{Running.{AreReadyFrom, IsReadyScript, IsFedWith}, Joining.IsOver}
pub use Rattle.mk_run.specs.{Joining.{AreTextsFrom, HasJoined}, Running.{EndsScript, FollowsScript, IsRunOf, IsTextOf}}
pub use Rattle.mk_run.specs.{Running.answers_in, declared.outcomes.Outcome.Outcome}
