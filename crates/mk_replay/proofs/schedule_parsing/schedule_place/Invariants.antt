use Rattle.mk_replay.proofs.Vocabulary.{is_schedule_line, position_from, texts_of}
use Rattle.mk_laws.proofs.Vocabulary.{drop, ◌≡◌}
use Rattle.mk_replay.proofs.schedule_parsing.schedule_place.Given as goal

-- the lines that are left decide
abbrev pub invariant-loop-place : goal.invariant-loop-place
invariant-loop-place l = position_from is_schedule_line l.place (texts_of (drop l.place l.lines))
    ≡ position_from is_schedule_line 0 (texts_of l.lines)
