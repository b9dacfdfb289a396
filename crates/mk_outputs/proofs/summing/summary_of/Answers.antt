use Rattle.std.proofs.{Common.string_bytes, lemmas.Option.slice_get_read}
use Rattle.mk_run.proofs.Below.Laws.Vocabulary.{List, ℕ, ap, arith, get_or, length, refl, ◌++◌, ◌<◌, ◌∙◌, ◌≡◌, ◌≤◌}
use Rattle.mk_check.specs.declared.text.Text.{Text}
use Rattle.mk_outputs.proofs.Summaries.{all_ops, lines_done, lines_more, ops_done, ops_more}
use Rattle.mk_outputs.specs.RunOutputs.{AreFew, line_of_text}
use Rattle.mk_outputs.proofs.summing.summary_of.Goals as goal

few_calls : (texts : List Text) → AreFew texts → (i : ℕ) (text : Text) → i < length texts → text ≡ get_or texts i text
    → text.ops ≤ 750000
few_calls texts few i text inside is = few i text (slice_get_read texts (length texts) i text refl inside is)

pub loop-text-preserved : goal.loop-text-preserved
loop-text-preserved c =
    let l = c.loop-text in
    let texts = c.args.texts.now in
    let text = c.text-item.result in
    let inside = c.loop-text-test.true in
    let few = few_calls texts c.requires.calls l.text-index text inside c.text-item.is in
    let number = l.invariant.number in
    let small = l.invariant.small in
    let total = l.invariant.total in
    let more = ops_more texts l.text-index text inside c.text-item.is in
    let line = c.in_ok-push_line.ensures ∙ ap (λ (n : ℕ). string_bytes l.lines ++ line_of_text n text) number in
    record {
      number = omega arith;
      small = omega arith;
      lines = l.invariant.lines ∙ lines_more texts l.text-index text _ _ inside c.text-item.is line;
      total = omega arith;
    }

pub overflow_add-total : goal.overflow_add-total
overflow_add-total c =
    let few = few_calls c.args.texts.now c.requires.calls c.loop-text.text-index c.text-item.result
    c.loop-text-test.true c.text-item.is in
    let inside = c.loop-text-test.true in
    let scripts = c.requires.scripts in
    omega arith

pub overflow_add-number : goal.overflow_add-number
overflow_add-number c = omega arith

pub returns : goal.returns
returns c =
    let l = c.loop-text in
    let texts = c.args.texts.now in
    let past = c.loop-text-test.false in
    let lines = l.invariant.lines ∙ lines_done texts l.text-index (string_bytes l.lines) past in
    let none = ops_done texts l.text-index past in
    let total : l.total ≡ all_ops texts = omega arith in
    cc (c.in_ok-push_total.ensures, lines, total)
