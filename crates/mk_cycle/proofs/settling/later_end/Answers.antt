use Rattle.mk_words.proofs.Below.Laws.Vocabulary.{Header, Some, arith, false, header_in, inl, inr, ℕ}
use Rattle.mk_words.proofs.Below.Laws.Vocabulary.{cases_lt, subst, ◌-◌, ◌≡◌}
use Rattle.mk_words.specs.States.{now_of}
use Rattle.mk_cycle.proofs.settling.later_end.Goals as goal

pub loop-page-preserved : goal.loop-page-preserved
loop-page-preserved c = record {
  begun = omega (arith, c.loop-page.invariant.begun);
  within = omega (arith, c.loop-page-test.true);
  later = λ r low less. elim (cases_lt r c.loop-page.page) [
    | inl before ↦ c.loop-page.invariant.later r low before
    | inr after ↦
        let here : c.loop-page.page ≡ r = omega (arith, after, less) in
        subst (λ (i : ℕ). header_in (now_of c.args.turn.now.pass).words i ≡ Some (Header.Later (i - c.args.head) false))
        here (c.is_later_page.ensures c.if-not-is_later_page.false)
  ];
}
