use Rattle.mk_script.proofs.{Vocabulary.{texts_of, ◌≤◌}, WordsOfFirst.IsCutAt}
use Rattle.mk_script.proofs.splitting.next_line.Given as goal

-- the words so far, and where the last one begins
abbrev pub invariant-loop-place : goal.invariant-loop-place
invariant-loop-place l = record {
  begun : l.start ≤ l.place;
  cut : IsCutAt l.text l.start l.place (texts_of l.found.items);
}
