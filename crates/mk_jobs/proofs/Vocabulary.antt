-- The words that the proofs of this crate share: they import them from here.
pub use Rattle.std.proofs.Common.{Bool, IfSome, List, [], ap, append-nil, append_assoc, arith, drop, false, get_or, inl}
pub use Rattle.std.proofs.Common.{inr, length, length-append, length-set, map, refl, subst, suc, sym, take, true, zero}
pub use Rattle.std.proofs.Common.{ℕ, ◌%◌, ◌*◌, ◌++◌, ◌+◌, ◌-◌, ◌/◌, ◌<◌, ◌^◌, ◌↔◌, ◌∙◌, ◌∷◌, ◌≡◌, ◌≢◌, ◌≤◌, ◌⊎◌}
pub use Rattle.std.proofs.lemmas.Bool.{and_from, and_parts, cases_Bool, cases_eq, cases_lt, eq-eqb, eqb-false, eqb-true}
pub use Rattle.std.proofs.lemmas.Bool.{false_from_ne_true, false≢true, lt-ltb, ltb-true, ne_eqb, not-true, or_cases}
pub use Rattle.std.proofs.lemmas.Bool.{or_from, or_left, or_parts, or_right, true≢false}
pub use Rattle.std.proofs.lemmas.List.{get_or-set_other, get_or-set_same, get_or_append_left, length-replicate}
pub use Rattle.std.specs.Prelude.{◌==◌, ◌||◌, None, Option, Some, cond, if◌then◌else◌, nat_lt, not, slice_get}
pub use Rattle.std.specs.{Prelude.{is_some, slice_index_or, ◌&&◌}, List.AllByRecursion}
pub use Rattle.mk_never.specs.Admitted.{AccessIsAdmitted, IsAdmitted, IsBase, IsCaller, IsNumber, IsOfKind, IsPointer}
pub use Rattle.mk_never.specs.{Admitted.{Meets, OperandsAreInRange, StoreIsAdmitted}, Laws.{Continues, StoresTo}}
pub use Rattle.mk_never.specs.NeverHeap.{Allocation, Call, NeverState, after_calls, after_free, after_op, allocation_at}
pub use Rattle.mk_never.specs.NeverHeap.{bit, global_at, is_same, is_unmapped, left_at, no_allocation, register_at}
pub use Rattle.mk_never.specs.NeverHeap.{free_reply, lea_reply, reply_at, replies_of, reply_of, start_of, target_of}
pub use Rattle.mk_never.specs.NeverHeap.{with_freed, with_global, with_new, with_register, with_word, word_at, words_of}
pub use Rattle.mk_never.specs.declared.{operations.{Op.Op, Reply.Reply}, types.Kind.Kind}
pub use Rattle.mk_never.specs.declared.values.Target.{Target, TheVariants.{Nothing, Unmapped}}
pub use Rattle.mk_never.specs.declared.values.{Target.TheVariants.WordOf, Value.Value}
pub use Rattle.mk_never.specs.declared.values.Value.TheVariants.{Null, Num, Ptr}
pub use Rattle.mk_jobs.specs.Jobs.{AreJobRuns, Asks, Has, HoldsAt, IsInterleaved, IsJobRun, IsPointerTo}
pub use Rattle.mk_jobs.specs.Jobs.{JobRun, Leads, Replied, all_of, jobs_of_first, number_replied, own_replied, IsClear}
pub use Rattle.mk_jobs.specs.Keeping.{Decides, Fits, Gone, IsOf, IsShown, IsThere, Keeps, Moves, Private, Public, Role}
pub use Rattle.mk_jobs.specs.Keeping.{Taken, TakesPublic, Unborn, Waits, World, after, first_world, is_held_no_more}
pub use Rattle.mk_jobs.specs.Keeping.{is_owed, is_private, nothing, role_after, settles, Covers}
pub use Rattle.mk_jobs.specs.Laws.{IsAlwaysExplained, IsExplained, IsOneOf, LeaksNothing, freed_by}
pub use Rattle.mk_jobs.specs.{Laws.{is_done, is_pointer_to, times_freed}, Jobs.{AreDecidedOnce, Ordered, left_by_all}}
pub use Rattle.mk_jobs.specs.{Jobs.{order_of, own_decisions}, Typing.{Anything, Hold, MayPoint, Owes, Owns, Plan}}
pub use Rattle.mk_jobs.specs.{Typing.{Points, IsTyped, IsTypedStep, all_give, found}, declared.steps.Step.Step}
pub use Rattle.mk_jobs.specs.Typing.{freed, gives, hold_of, is_number_there, is_own}
pub use Rattle.mk_jobs.specs.Typing.{kind_of, kind_there, leads, leads_shared, loaded, may_go, may_set, shares, taken}
pub use Rattle.mk_jobs.specs.{Typing.{there, type_there, with_hold}, Passes.op_of}
pub use Rattle.mk_never.specs.{Admitted.{IsSound, IsTyped as HasTypes, Suits}, Types.kinds_of}
pub use Rattle.mk_never.specs.declared.types.Kind.TheVariants.{Num as Number, To}

-- All callers exist.
abbrev pub AreBelow : ℕ → List Call → Type 0
AreBelow callers calls = AllByRecursion (λ (x : Call). x.caller < callers) calls

-- No reply is Double.
abbrev pub NoneIsDouble : List Reply → Type 0
NoneIsDouble replies = AllByRecursion (λ (r : Reply). r ≢ Reply.Double) replies

-- Each of these operations is a Clear, answered Done.
abbrev pub AreClears : List Replied → Type 0
AreClears all = AllByRecursion (λ (x : Replied). IsClear x.op) all
