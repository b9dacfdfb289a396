-- The words that the proofs of this crate share: they import them from here.
pub use Rattle.std.proofs.Common.{All, Bool, Err, IfSome, List, None, Ok, OnOk, Option, Result, Some, ℕ, ap, append-nil}
pub use Rattle.std.proofs.Common.{append_assoc, arith, drop, false, get_or, if◌then◌else◌, inl, inr, is_some, length}
pub use Rattle.std.proofs.Common.{length-append, map, max, not, option_map, refl, replicate, reverse, slice_get}
pub use Rattle.std.proofs.Common.{slice_index, subst, suc, sym, take, take_all, true, unwrap_or, zero, [], ⊎_elim, ◌&&◌}
pub use Rattle.std.proofs.Common.{◌*◌, ◌++◌, ◌+◌, ◌-◌, ◌<◌, ◌==◌, ◌∙◌, ◌∷◌, ◌≡◌, ◌≤◌}
pub use Rattle.std.proofs.lemmas.{Bool.{and_parts, cases_lt, false≢true}, List.{drop_more, get_or_append_left}}
pub use Rattle.std.proofs.lemmas.List.{get_or_at, length-map, length-replicate, length_push, map-append, take_more}
pub use Rattle.std.proofs.lemmas.{List.Sums.fold_push, Option.{same_Some, slice_get_within}}
pub use Rattle.std.proofs.lemmas.{Result.IfOk-weaker, Slice.Eq.bytes_eq-Decides}
pub use Rattle.std.specs.{Option.option_or, Str.bytes_eq}
pub use Rattle.mk_never.specs.{Admitted.IsOfKind, NeverHeap.NeverState, Types.kinds_of, declared.operations.Op.Op}
pub use Rattle.mk_never.specs.declared.{types.Kind.Kind, values.Value.Value}
pub use Rattle.mk_core.specs.{Calls.flagged, declared.{config.Config.Config, events.Answer.Answer}}
pub use Rattle.mk_script.proofs.PassedLines.{ArePassed, is_whole}
pub use Rattle.mk_script.specs.{Lines.limit_fault, Scopes.{global_names, is_script, number_names, pointer_names}}
pub use Rattle.mk_script.specs.{Scopes.{script_names, this_script, type_names}, declared.faults.Which.Which}
pub use Rattle.mk_script.specs.declared.items.{At.At, Item.Item, TypeWord.TypeWord}
pub use Rattle.mk_check.specs.{Feeding.TakesLine, Blocks.{Blocks, Choice, Done, Line, Part, Rounds, ScriptText}}
pub use Rattle.mk_check.specs.Blocks.{before_next_script, blocks_from, branch, is_end_of_block, outermost_blocks}
pub use Rattle.mk_check.specs.Blocks.{parts_from, script_from, script_of, with_item, with_line}
pub use Rattle.mk_check.specs.Building.{AddsLine, Built, parts_in, with_element, with_node_and_part, with_part}
pub use Rattle.mk_check.specs.{Blocks.counts_of, Declarations.{globals_of, kind_of}}
pub use Rattle.mk_check.proofs.Among.{fed_before_answers, globals_among, kinds_among}
pub use Rattle.mk_check.specs.{Declarations.{number_of_name, pages_of, resident_of, types_of}, Feed.{Fed, Scope}}
pub use Rattle.mk_check.specs.Feed.{fed_before_lines, feed, note, op_of, refusal_line, refusal_text}
pub use Rattle.mk_check.specs.Feed.{run, scope_of, take_answer, take_answers, with_answer}
pub use Rattle.mk_check.specs.Feeding.{FeedStandsFor, FeedState, IsAtStop, IsFeed, IsWaiting, TakesAnswer, first_op}
pub use Rattle.mk_check.specs.Feeding.{next_op, script_scope, work_left}
pub use Rattle.mk_check.specs.{Typing.around, Feed.HasFew, Trees.{asks_at, instruction_of_node}}
pub use Rattle.mk_check.specs.{Trees.{sequel_to, sequels_of}, Steps.{KeptState, Steps, Stopped, after_answer}}
pub use Rattle.mk_check.specs.Steps.{after_line, asks_first, element_of, instruction_of, is_asking, is_print, numbered}
pub use Rattle.mk_check.specs.Steps.{op_asked, stop_behind, stop_of, stop_of_rounds, then_steps}
pub use Rattle.mk_check.specs.{Steps.with_text, Trees.{FrameIsWithin, FramesAreWithin, HasStopped, IsBelow, IsTree}}
pub use Rattle.mk_check.specs.Trees.{MovesOn, Place, PlaceFits, PlaceIsWithin, StopsAt, depth_of, innermost, kept_in}
pub use Rattle.mk_check.specs.Trees.{left_in, node_at, steps_at, steps_from, stopped_in, trees, with_kept, work_in}
pub use Rattle.mk_check.specs.Typing.{Around, at_line, base_of, fault_from, global_type, moved_by, pointer_at}
pub use Rattle.mk_check.specs.Typing.{type_words, typing_fault, word_among, ◌or◌}
pub use Rattle.mk_check.specs.declared.feeding.instructions.Element.{Element}
pub use Rattle.mk_check.specs.declared.feeding.{instructions.Instruction.Instruction, tree.Frame.Frame}
pub use Rattle.mk_check.specs.declared.feeding.tree.{Node.Node, Sequel.Sequel}
pub use Rattle.mk_check.specs.declared.{lengths.PartCount.PartCount, typing_faults.TypeKind.TypeKind}
pub use Rattle.mk_check.proofs.Asked.{op_in, op_of_node, stop_on_answer}
