-- The text so far, and the lines of the scripts that are left.
use Rattle.std.{proofs.Common.drop, specs.String.string_bytes}
use Rattle.mk_outputs.proofs.Vocabulary.{all_names, generated_text, lines_of_scripts, text_of_lines, turns_of, ◌++◌}
use Rattle.mk_outputs.proofs.text.generated_text.Given as goal
use Rattle.mk_outputs.proofs.Vocabulary.{◌≡◌}

abbrev pub invariant-loop-name : goal.invariant-loop-name
invariant-loop-name l =
    string_bytes l.text ++ text_of_lines (lines_of_scripts (turns_of l.count) l.numbers l.draws
    (drop l.name-index all_names)) ≡ generated_text l.start l.count
