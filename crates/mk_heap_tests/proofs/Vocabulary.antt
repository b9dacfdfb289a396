-- The words that the proofs of this crate share: they import them from here.
pub use Rattle.std.proofs.Common.{Err, Ok, OnOk, Result}
pub use Rattle.mk_never.specs.Admitted.{IsCaller}
pub use Rattle.mk_core.specs.Counts.{TalliesAreExact}
pub use Rattle.mk_run.specs.Below.Callers.States.{CallerState, IsAtHome, IsIdleCaller, caller_of_pass, value_of}
pub use Rattle.mk_run.specs.Below.{Heaps.Hosts.{HostState, pass_for}, Words.TurnSteps.TakesTurn}
pub use Rattle.mk_run.specs.Below.Words.{States.{now_of, IsTurn, PassState, WordsState}, Steps.IsEnabledTo}
pub use Rattle.mk_run.specs.Below.Words.{TurnSteps.IsFresh, States.Has}
pub use Rattle.mk_run.proofs.Below.Words.Seats.{has_all}
pub use Rattle.mk_heap_tests.specs.HeldObjects.{BothMayAllocate, IsPassOfObjects, MayAllocate}
pub use Rattle.mk_heap_tests.specs.HeldObjects.{HoldsNull, IsPassFor}
