-- Words of the definitions, for what is proved of them: a proof imports them from here.
pub use Rattle.std.proofs.Common.{Bool, Err, List, None, Ok, Option, Some, ℕ, ap, append-nil, append_assoc, arith}
pub use Rattle.std.proofs.Common.{codes, cond, drop, false, filter, get_or, if◌then◌else◌, le-leb, length}
pub use Rattle.std.proofs.Common.{length-append, lt-ltb, map, nat_eq, nat_le, not, refl, replicate, reverse, rules}
pub use Rattle.std.proofs.Common.{subst, suc, sym, take, take_all, true, zero, [], ◌&&◌, ◌++◌, ◌+◌, ◌-◌, ◌<◌, ◌==◌, ◌^◌}
pub use Rattle.std.proofs.{Common.{◌||◌, ◌∙◌, ◌∷◌, ◌≡◌, ◌≢◌, ◌≤◌}, lemmas.Bool.{and_from, and_parts, cond-true}}
pub use Rattle.std.proofs.lemmas.{Bool.Decides.nat_tests, List.{length-map, Folds.list_any-append}}
pub use Rattle.std.specs.{Fmt.decimal, List.{list_all, list_any, Sorted.IsPermutation}}
pub use Rattle.std.specs.{Str.{all_ascii_digits, bytes_eq}, declared.result.Result.Result}
pub use Rattle.mk_script.specs.Canonical.{at_text, canonical_text, fields_behind, words_of_item}
pub use Rattle.mk_script.specs.Grammar.{IsOfSomeText, at_end, go_on, items_behind, items_of_lines}
pub use Rattle.mk_script.specs.{Keywords.{has_word_count, keyword_of}, Lines.{ends_rightly, has_none, has_script}}
pub use Rattle.mk_script.specs.{Lines.{is_among, is_placed, is_twice, line_of}, Operands.{number_of_word, value_from}}
pub use Rattle.mk_script.specs.Operands.{are_fields, at, fields_of, have_form, name, ◌>>=◌}
unfoldable pub use Rattle.mk_script.specs.Operands.{item_from}
pub use Rattle.mk_script.specs.Scopes.{global_names, is_script, number_names, open_behind, open_blocks, pointer_names}
pub use Rattle.mk_script.specs.{Scopes.{script_names, this_script, type_names}, Canonical.{joined_words, spaced_words}}
pub use Rattle.mk_script.specs.Grammar.{is_empty, lines_of, texts_of, without_empty_last, words_of_line}
pub use Rattle.mk_script.specs.declared.{faults.LineFault.LineFault, items.{At.At, Item.Item}}
pub use Rattle.mk_script.specs.declared.keywords.Keyword.{Keyword}
