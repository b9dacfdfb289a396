-- The words that the proofs on running callers share: they import them from here, and the others from `Vocabulary`.
pub use Rattle.mk_heap.specs.{Below.Callers.States.{CallerState, IsAtHome, caller_of_pass, never_of, value_of}}
pub use Rattle.mk_heap.specs.{Below.Callers.Called.Called, Hosts.{HostState, pass_for, with_joined, HasMade}}
pub use Rattle.mk_heap.specs.Below.Objects.{TurnCalls.OwnAreExact, TurnCycles.TurnsOfAreExact}
pub use Rattle.mk_heap.specs.Below.Words.States.{Has, HasCallers, PassState, WordsState}
pub use Rattle.mk_heap.specs.Dispatching.{Answers, StaysAdmitted, as_told}
pub use Rattle.mk_heap.proofs.Below.Laws.Vocabulary.{Decided, asked, flagged, AreOfOthers, IsHistory, calls, calls_from}
pub use Rattle.mk_heap.proofs.Below.Laws.Vocabulary.{left}
pub use Rattle.mk_heap.proofs.Below.Laws.Vocabulary.{never_behind, answer_of, Config, Answer, Event, Seat, Caller, Host}
pub use Rattle.mk_heap.proofs.Below.Laws.Vocabulary.{AreAdmitted, Call, NeverState, after_calls, register_at, IsTyped}
pub use Rattle.mk_heap.proofs.Below.Laws.Vocabulary.{Op, Null}
pub use Rattle.mk_core.specs.History.{Grows, never_first}
pub use Rattle.mk_never.specs.{NeverHeap.{after_op, reply_of}, declared.operations.Reply.Reply}
pub use Rattle.mk_jobs.specs.{Passes.{Clears, next_by, op_of}, Runs.{AreDone, DoesJobs, HaveDone}}
pub use Rattle.mk_jobs.proofs.Vocabulary.{AreBelow}
pub use Rattle.mk_jobs.specs.Jobs.{AreJobRuns, Asks, HoldsAt, JobRun, Leads, Replied, all_of, own_replied}
pub use Rattle.mk_jobs.specs.{Joining.{HaveWorked, IsBetweenJobs}, Typing.Plan, declared.joining.Joined.Joined}
pub use Rattle.mk_jobs.specs.Passes.{GoesToEnd, GoesToPoint, IsMadeFor, IsReady, replied_in, replied_to}
pub use Rattle.mk_jobs.specs.declared.{job_lists.{Dones.Dones, Jobs.Jobs}, steps.Step.Step}
