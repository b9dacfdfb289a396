use Rattle.mk_replay.proofs.Vocabulary.{text_length, texts_of}
use Rattle.mk_laws.proofs.Vocabulary.{drop, ◌+◌, ◌≡◌}
use Rattle.mk_replay.proofs.schedule_parsing.text_length.Given as goal

abbrev pub invariant-loop-line : goal.invariant-loop-line
invariant-loop-line l = l.length + text_length (texts_of (drop l.line-index l.lines)) ≡ text_length (texts_of l.lines)
