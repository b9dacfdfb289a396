use Rattle.mk_replay.{proofs.Vocabulary.{texts_of}, specs.Schedules.{forms_so_far, forms_with}}
use Rattle.mk_laws.proofs.Vocabulary.{take, ◌≡◌}
use Rattle.mk_replay.proofs.lines.replace_forms.Given as goal

-- the forms of the pieces so far
abbrev pub invariant-loop-piece : goal.invariant-loop-piece
invariant-loop-piece l =
    forms_with l.fn.first (texts_of (take l.piece-index l.others)) ≡ forms_so_far l.fault l.forms.items
