use Rattle.mk_script.{proofs.Vocabulary.{replicate, ◌++◌, ◌≡◌}, specs.declared.items.TypeWord.TheVariants.{Number}}
use Rattle.mk_script.proofs.fields.push_numbers.Given as goal

abbrev pub invariant-loop : goal.invariant-loop
invariant-loop l = l.words.items ≡ l.initial.words.items ++ replicate l.counter Number
