-- The words that the proofs of this crate share: they import them from here.
pub use Rattle.std.proofs.Common.{Bool, List, None, Ok, Option, Some, ℕ, ap, append-nil, append_assoc, arith, codes}
pub use Rattle.std.proofs.Common.{false, le-leb, leb-true, length, nat_le, refl, replicate, subst, suc, sym, true, zero}
pub use Rattle.std.{proofs.Common.{[], ◌*◌, ◌++◌, ◌+◌, ◌<◌, ◌^◌, ◌∙◌, ◌∷◌, ◌≡◌, ◌≤◌}, specs.Fmt.{decimal}}
pub use Rattle.std.proofs.lemmas.Bool.{and_parts, false≢true}
pub use Rattle.mk_core.proofs.EventsAt.{◌and◌}
pub use Rattle.mk_script.proofs.Pushed.{this_script-push}
pub use Rattle.mk_script.specs.{declared.items.TypeWord.TheVariants.Number, Grammar.program_of}
pub use Rattle.mk_script.specs.{Lines.{checked_item, line_item}, Scopes.this_script, Grammar.words_of_line}
pub use Rattle.mk_script.specs.declared.items.Item.{Item, TheVariants.Script}
pub use Rattle.mk_check.specs.Blocks.{blocks_from}
pub use Rattle.mk_outputs.specs.Generated.{draw, next_state, all_names, count_of_numbers, declarations}
pub use Rattle.mk_outputs.specs.Generated.{script_body, scripts, turns_of}
pub use Rattle.mk_outputs.specs.Generated.{body_lines, declaration_lines, generated_text, lines_of_scripts}
pub use Rattle.mk_outputs.specs.Generated.{text_of_lines}
