use Rattle.mk_heap.proofs.Below.Laws.Vocabulary.{arith, sym, ◌∙◌}
use Rattle.mk_trace.proofs.{LedgerCalls.{ends_over, held_beside, keeps_behind, keeps_beside}, ExactPlays.exact_over}
use Rattle.mk_trace.proofs.calls.answer.Goals as goal

-- under the turn

pub returns-in_ok-settle-clause-between : goal.returns-in_ok-settle-clause-between
returns-in_ok-settle-clause-between g c = record {
  home = c.settle.ensures.home;
  idle = grind arith;
  made = c.call-told.ensures.made_for ∙ c.requires.between.made;
  held = grind arith;
  keeps = keeps_behind
      c.object_to_free-freed.ensures.looks c.object_to_free-freed.ensures.home.history
      c.call-told.ensures.home.history c.requires.few c.requires.between.idle
      (c.call-told.ensures.does.ends c.requires.off) c.call-told.ensures.does.quarantines
      c.call-told.ensures.does.flags c.look-now.ensures.looks
      c.settle.ensures.looks c.object_to_free-freed.ensures.finds c.requires.between.keeps c.in_ok-note.ensures
      c.in_ok-settle.ensures.settles;
}

pub returns-in_ok-settle-clause-ends : goal.returns-in_ok-settle-clause-ends
returns-in_ok-settle-clause-ends g c = grind (arith, ends_over)

pub returns-in_ok-settle-clause-exact : goal.returns-in_ok-settle-clause-exact
returns-in_ok-settle-clause-exact g c = grind (arith, exact_over)

-- beside it

pub returns-else-is_under_turn-clause-between : goal.returns-else-is_under_turn-clause-between
returns-else-is_under_turn-clause-between g c =
    let between = c.requires.between in
    let beside = sym c.is_under_turn.ensures ∙ c.if-is_under_turn.false in
    record {
      home = c.call.ensures.home;
      idle = grind arith;
      made = c.call.ensures.made_for ∙ between.made;
      held = grind (arith, held_beside);
      keeps = keeps_beside beside (c.call.ensures.does.beside beside) c.call.ensures.does.quarantines between.keeps;
    }

pub returns-else-is_under_turn-clause-ends : goal.returns-else-is_under_turn-clause-ends
returns-else-is_under_turn-clause-ends g c = grind arith

pub returns-else-is_under_turn-clause-exact : goal.returns-else-is_under_turn-clause-exact
returns-else-is_under_turn-clause-exact g c = c.call.ensures.exact c.requires.off c.requires.unswept
