-- Runs whose words are 0.
use Rattle.mk_core.proofs.Vocabulary.{Words, ℕ, all_below, ap, arith, slice_index, suc, sym, words_are_zero, zero, ◌&&◌}
use Rattle.mk_core.proofs.{Vocabulary.{◌*◌, ◌+◌, ◌==◌, ◌∙◌, ◌≡◌}, AllBelow.{all_below_suc, all_below_zero_is}}
use Rattle.mk_core.proofs.AllBelowParts.{all_below-add, all_below_same}

-- one more page of the run
page_more : (w : Words) (head page : ℕ) → words_are_zero w (64 * head) (64 * suc page)
    ≡ (words_are_zero w (64 * head) (64 * page) && words_are_zero w (64 * (head + page)) 64)
page_more w head page =
    let e : 64 * suc page ≡ 64 * page + 64 = omega arith in
    let within : all_below 64 (λ i. slice_index w.heap (64 * head + (64 * page + i)) == 0)
    ≡ words_are_zero w (64 * (head + page)) 64 = grind (arith, all_below_same) in
    ap (words_are_zero w (64 * head)) e ∙ all_below-add (64 * page) 64 (λ i. slice_index w.heap (64 * head + i) == 0)
    ∙ ap (λ t. words_are_zero w (64 * head) (64 * page) && t) within

pub run_wiped : (w : Words) (head count : ℕ)
    → all_below count (λ page. words_are_zero w (64 * (head + page)) 64) ≡ words_are_zero w (64 * head) (64 * count)
run_wiped w head zero = all_below_zero_is _ ∙ sym (all_below_zero_is _)
run_wiped w head (suc count) = all_below_suc count (λ page. words_are_zero w (64 * (head + page)) 64)
    ∙ ap (λ t. t && words_are_zero w (64 * (head + count)) 64) (run_wiped w head count) ∙ sym (page_more w head count)
