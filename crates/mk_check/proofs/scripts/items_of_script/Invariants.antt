use Rattle.mk_check.proofs.Vocabulary.{before_next_script, drop, take, ◌++◌, ◌≡◌}
use Rattle.mk_check.proofs.scripts.items_of_script.Given as goal

abbrev pub invariant-loop-place : goal.invariant-loop-place
invariant-loop-place l = before_next_script l.behind
    ≡ take l.place l.behind ++ before_next_script (drop l.place l.behind)
