use Rattle.mk_words.proofs.Below.Laws.Vocabulary.{ℕ, ap, cases_Bool, false, has_bit, inl, inr, no_bit, subst}
use Rattle.mk_words.proofs.Below.Laws.Vocabulary.{sym, true, true≢false, without, ◌*◌, ◌+◌, ◌<◌, ◌^◌, ◌∙◌, ◌≡◌, ◌⊎◌}
use Rattle.mk_cycle.proofs.{Vocabulary.IsZero, GivingSteps.{none_at_once, none_then}}
use Rattle.mk_cycle.proofs.{GivingSteps.still_unmapped_word, RestBits.{fewer_left, left_among, taken_or_gone}}
use Rattle.mk_cycle.proofs.wiping.wipe_cells.Goals as goal

pub loop-rest-init : goal.loop-rest-init
loop-rest-init c = record {
  frees = none_at_once c.args.turn.now.pass;
  among = λ j has. has;
  zeros = λ j none i has lt. absurd (true≢false (sym has ∙ none));
}

pub wipe_cell-requires-clause-unmapped : goal.wipe_cell-requires-clause-unmapped
wipe_cell-requires-clause-unmapped c i lt =
    still_unmapped_word c.loop-rest.invariant.frees.frees (c.requires.unmapped c.lowest_bit-index.result i
    (c.loop-rest.invariant.among c.lowest_bit-index.result c.lowest_bit-index.ensures.one) lt)

pub loop-rest-smaller : goal.loop-rest-smaller
loop-rest-smaller c =
    let index = c.lowest_bit-index in
    subst (λ (n : ℕ). n < c.loop-rest.rest) (sym (c.without-rest.ensures ∙ ap (λ (n : ℕ). without c.loop-rest.rest n)
    c.bit.ensures)) (fewer_left c.loop-rest.rest index.result index.ensures.within index.ensures.one)

pub loop-rest-preserved : goal.loop-rest-preserved
loop-rest-preserved c =
    let before = c.loop-rest.invariant in
    let now = c.wipe_cell.ensures.frees in
    let rest : ℕ = c.loop-rest.rest in
    let index : ℕ = c.lowest_bit-index.result in
    let left : c.without-rest.result ≡ without rest (2 ^ index) =
    c.without-rest.ensures ∙ ap (λ (n : ℕ). without rest n) c.bit.ensures in
    record {
      frees = none_then before.frees now;
      among = λ j has. before.among j (left_among rest index j (subst (λ (n : ℕ). has_bit n j ≡ true) left has));
      zeros = λ j gone i has lt. by j (subst (λ (n : ℕ). has_bit n j ≡ false) left gone) i has lt
          (cases_Bool (has_bit rest j));
    }
  where
    by : (j : ℕ) → has_bit (without c.loop-rest.rest (2 ^ c.lowest_bit-index.result)) j ≡ false
        → (i : ℕ) → has_bit c.args.cells j ≡ true → i < 2 * c.args.pairs
        → (has_bit c.loop-rest.rest j ≡ true) ⊎ (has_bit c.loop-rest.rest j ≡ false)
        → IsZero c.wipe_cell.new.turn.pass (64 * c.args.page + j * (2 * c.args.pairs) + i)
    by j gone i has lt (inl one) =
        subst (λ (k : ℕ). IsZero c.wipe_cell.new.turn.pass (64 * c.args.page + k * (2 * c.args.pairs) + i))
        (sym (taken_or_gone c.loop-rest.rest c.lowest_bit-index.result j gone one))
        (c.wipe_cell.ensures.zeros i lt)
    by j gone i has lt (inr none) =
        c.wipe_cell.ensures.frees.frees.zeros (64 * c.args.page + j * (2 * c.args.pairs) + i)
        (still_unmapped_word c.loop-rest.invariant.frees.frees (c.requires.unmapped j i has lt)).unmapped
        (c.loop-rest.invariant.zeros j none i has lt)

pub returns-clause-zeros : goal.returns-clause-zeros
returns-clause-zeros c k few i has lt =
    c.loop-rest.invariant.zeros k (no_bit c.loop-rest.rest k c.loop-rest-test.false) i has lt
