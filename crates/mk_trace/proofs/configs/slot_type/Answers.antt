use Rattle.std.proofs.lemmas.List.{replicate_more}
use Rattle.mk_trace.proofs.Vocabulary.{Kind, To, replicate}
use Rattle.mk_heap.proofs.Below.Laws.Vocabulary.{List, Number as Num, ℕ, ap, arith, [], ◌++◌, ◌-◌, ◌<◌, ◌∙◌, ◌∷◌, ◌≤◌}
use Rattle.mk_trace.proofs.configs.slot_type.Goals as goal

pub loop-word-preserved : goal.loop-word-preserved
loop-word-preserved c =
    let w = c.loop-word._word in
    let least : 1 ≤ w = c.loop-word.invariant.least in
    let below : w < c.args.words = c.loop-word-test.true in
    record {
      least = omega arith;
      most = omega (arith, below, least);
      kinds = c.in_ok-push-2.ensures ∙ ap (λ (l : List Kind). l ++ Num ∷ []) c.loop-word.invariant.kinds
          ∙ ap (λ (l : List Kind). To c.args.slot 0 ∷ l)
          (replicate_more (w - 1) Num ∙ ap (λ (n : ℕ). replicate n Num) (omega (arith, least)));
    }

pub returns : goal.returns
returns c =
    let past = c.loop-word-test.false in
    c.loop-word.invariant.kinds
    ∙ ap (λ (n : ℕ). To c.args.slot 0 ∷ replicate n Num) (omega (arith, past, c.loop-word.invariant.most))
