use Rattle.mk_script.proofs.Vocabulary.{drop, list_all, replicate, take, ◌++◌, ◌-◌, ◌≡◌}
use Rattle.mk_script.specs.Operands.{is_name_byte}
use Rattle.mk_script.proofs.names.Name.from_word.Given as goal

-- the bytes so far are put in place, and those that are left decide
abbrev pub invariant-loop-place : goal.invariant-loop-place
invariant-loop-place l = record {
  put : l.bytes ≡ take l.place l.word ++ replicate (16 - l.place) 0;
  named : list_all is_name_byte l.word ≡ list_all is_name_byte (drop l.place l.word);
}
