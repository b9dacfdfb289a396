use Rattle.mk_check.proofs.Vocabulary.{Frame, Place, Some, ap, arith, asks_at, innermost, length, node_at, refl, sym}
use Rattle.mk_check.proofs.{Vocabulary.{◌-◌, ◌∙◌, ◌≡◌}, AsksFirst.{repeat_left, round_left}}
use Rattle.mk_check.proofs.{NextRounds.innermost_within, feeding.running.Running.leave_to_op.Goals.In-Some-Rounds}
use Rattle.mk_check.proofs.feeding.running.Running.leave_to_op.Goals as goal

last : (c : In-Some-Rounds) → innermost c.args.self.now.frames
    ≡ Some (Frame.Rounds c.in-Some-Rounds.rounds c.in-Some-Rounds.body c.in-Some-Rounds.next)
last c = cc

pub close_to_op-requires : goal.close_to_op-requires
close_to_op-requires c =
    (innermost_within (length c.args.tree.now) c.args.self.now.frames (Frame.Rounds c.in-Some-Rounds.rounds
    c.in-Some-Rounds.body c.in-Some-Rounds.next) c.requires (last ((goal.at.close_to_op-requires c).In-Some-Rounds))).1

pub returns-then-rounds-eq0-clause-left : goal.returns-then-rounds-eq0-clause-left
returns-then-rounds-eq0-clause-left c =
    let l = c.in-Some-Rounds in
    λ t.
    let closed = c.close_to_op.ensures.closed t in
    record {
      leaves = repeat_left c.args.self.now c.close_to_op.new.self l.rounds l.body l.next
          (last ((goal.at.returns-then-rounds-eq0-clause-left c).In-Some-Rounds)) c.if-rounds-eq0.true closed.closes;
      asks = ap (λ (q : Place). asks_at (node_at c.args.tree.now q.at)) closed.closes ∙ closed.asks;
    }

pub asks-requires : goal.asks-requires
asks-requires c =
    (innermost_within (length c.args.tree.now) c.args.self.now.frames (Frame.Rounds c.in-Some-Rounds.rounds
    c.in-Some-Rounds.body c.in-Some-Rounds.next) c.requires (last ((goal.at.asks-requires c).In-Some-Rounds))).0

pub returns-clause-left : goal.returns-clause-left
returns-clause-left c =
    let l = c.in-Some-Rounds in
    λ t. record {
      leaves = round_left c.args.self.now c.go_round.new.self l.rounds (l.rounds - 1) l.body l.next
          (last ((goal.at.returns-clause-left c).In-Some-Rounds)) (omega arith) refl c.go_round.ensures;
      asks = ap (λ (q : Place). asks_at (node_at c.args.tree.now q.at)) c.go_round.ensures
          ∙ (sym c.asks.ensures ∙ c.if-not-asks.false);
    }
