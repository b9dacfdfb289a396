use Rattle.mk_words.proofs.Below.Laws.Vocabulary.{Words, ap, sym, ◌∙◌}
use Rattle.mk_cycle.proofs.{Notes.{black_left_out, last_noted, noted_as}, NotedCells.one_same}
use Rattle.mk_cycle.proofs.grays.gray_noted.Goals as goal
use Rattle.mk_cycle.proofs.StopSteps.{looks_from, looks_then}
use Rattle.mk_cycle.specs.Grays.{is_black}

pub loop-noted-init : goal.loop-noted-init
loop-noted-init c = record { looks = looks_from c.requires.may.wanted; noted = c.requires.noted }

pub is_gray-requires-clause-noted : goal.is_gray-requires-clause-noted
is_gray-requires-clause-noted c =
    one_same c.loop-noted.invariant.looks.words
    (last_noted c.pop.new.self c.in-Some.noted (noted_as c.in-Some.ensures.last c.loop-noted.invariant.noted))

pub returns-then-is_gray-clause-looks : goal.returns-then-is_gray-clause-looks
returns-then-is_gray-clause-looks c = looks_then c.loop-noted.invariant.looks c.is_gray.ensures.looks

pub loop-noted-preserved : goal.loop-noted-preserved
loop-noted-preserved c = record {
  looks = looks_then c.loop-noted.invariant.looks c.is_gray.ensures.looks;
  noted = black_left_out c.pop.new.self c.in-Some.noted
      (ap (λ (w : Words). is_black w c.in-Some.noted.cell) (sym c.loop-noted.invariant.looks.words)
      ∙ c.is_gray.ensures.black c.if-is_gray.false) (noted_as c.in-Some.ensures.last c.loop-noted.invariant.noted);
}

pub returns-then-is_gray-clause-noted : goal.returns-then-is_gray-clause-noted
returns-then-is_gray-clause-noted c = noted_as c.in-Some.ensures.last c.loop-noted.invariant.noted

pub returns-clause-noted : goal.returns-clause-noted
returns-clause-noted c = noted_as c.in_default.ensures.last c.loop-noted.invariant.noted
