use Rattle.mk_cycle.proofs.grays.another_gray.Goals as goal
use Rattle.mk_cycle.proofs.{Notes.{none_gray, none_last, noted_as}, StopSteps.looks_then}

pub returns-in_default-gray_somewhere-clause-looks : goal.returns-in_default-gray_somewhere-clause-looks
returns-in_default-gray_somewhere-clause-looks c =
    looks_then c.gray_noted-noted.ensures.looks c.gray_somewhere.ensures.looks

pub returns-clause-looks : goal.returns-clause-looks
returns-clause-looks c = looks_then c.gray_noted-noted.ensures.looks c.gray_somewhere.ensures.looks

pub returns-then-work-clause-none : goal.returns-then-work-clause-none
returns-then-work-clause-none c =
    none_gray (noted_as (none_last c.gray_noted-noted.new.work) c.in_default.ensures.noted) c.if-work.true
    c.in_default.ensures.none
