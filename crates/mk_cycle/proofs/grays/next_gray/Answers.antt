use Rattle.std.proofs.Common.{IfNone}
use Rattle.mk_words.proofs.Below.Laws.Vocabulary.{Words, ℕ, ap, subst, sym, ◌<◌, ◌∙◌}
use Rattle.mk_cycle.proofs.{Notes.{black_left_out, none_last, noted_as}, StopSteps.{looks_from, looks_then}}
use Rattle.mk_cycle.proofs.grays.next_gray.Goals as goal
use Rattle.mk_cycle.proofs.grays.next_gray.Goals.{After-another_gray, in-Some+else-is_gray, in_default}
use Rattle.mk_cycle.specs.Grays.{HasNoGray, LooksOn, with_last}
use Rattle.mk_words.specs.States.{TurnState}

-- what was looked at of the cell that was noted last
looked : (c : After-another_gray) → LooksOn c.args.stop.now c.match-last.stop
looked c = elim c.match-last.branch [
  | in-Some+else-is_gray w ↦
      subst (λ (s : TurnState). LooksOn c.args.stop.now s) (sym w.stop-is) w.is_gray.ensures.looks
  | in_default w ↦
      subst (λ (s : TurnState). LooksOn c.args.stop.now s) (sym w.stop-is) (looks_from c.requires.may.wanted)
]

pub another_gray-requires-clause-noted : goal.another_gray-requires-clause-noted
another_gray-requires-clause-noted c =
    let work = c.args.work.now in
    elim c.match-last.branch [
      | in-Some+else-is_gray w ↦
          rw w.stop-is
          (rw w.is_gray.ensures.looks.words (black_left_out work w.in-Some.noted
          (w.is_gray.ensures.black w.if-is_gray.false)
          (noted_as (ap (with_last work) w.in-Some.is) c.requires.noted)))
      | in_default w ↦
          rw w.stop-is (noted_as (ap (with_last work) w.in_default.is ∙ none_last work) c.requires.noted)
    ]

pub returns-clause-looks : goal.returns-clause-looks
returns-clause-looks c =
    looks_then (looked (goal.at.returns-clause-looks c).After-another_gray) c.another_gray.ensures.looks

pub returns-clause-none : goal.returns-clause-none
returns-clause-none c =
    subst (λ (w : Words). IfNone c.another_gray.result ((p : ℕ) → p < c.args.table.pages → HasNoGray w p))
    (looked (goal.at.returns-clause-none c).After-another_gray).words c.another_gray.ensures.none
