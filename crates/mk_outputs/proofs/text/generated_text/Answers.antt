-- What was written, and the lines of the scripts that are left, are the text.
use Rattle.std.specs.String.{string_bytes}
use Rattle.mk_outputs.proofs.Vocabulary.{all_names, ap, codes, draw, next_state, turns_of, [], ◌+◌, ◌∙◌, ◌∷◌}
use Rattle.mk_outputs.proofs.text.generated_text.Goals as goal
use Rattle.mk_outputs.proofs.Written.{all_scripts_left, name_read, one_script_more}

pub loop-name-init : goal.loop-name-init
loop-name-init c =
    all_scripts_left c.args.start c.args.count (1 + c.below-numbers.result) c.below-numbers.new.self (string_bytes
    c.in_ok-text.text) (ap (λ drawn. 1 + drawn) (c.below-numbers.ensures.drawn ∙ ap (λ x. draw (next_state x) 100)
    c.new-draws.ensures)) (c.below-numbers.ensures.state ∙ ap next_state c.new-draws.ensures) c.in_ok-text.ensures

pub loop-name-preserved : goal.loop-name-preserved
loop-name-preserved c =
    one_script_more (turns_of c.args.count) (1 + c.below-numbers.result) c.loop-name.draws c.below-number.result
    c.below-number.new.self c.below-place.result c.below-place.new.self c.loop-name.name-index all_names _
    (string_bytes c.loop-name.text) (string_bytes c.push_script.new.text) _ c.below-number.ensures.drawn
    c.below-number.ensures.state c.below-place.ensures.drawn c.below-place.ensures.state c.loop-name-test.true
    c.loop-name.invariant c.in_ok-push_script.ensures (name_read
    (record { ref_ptr = _; now = codes "s0" } ∷ record { ref_ptr = _; now = codes "s1" } ∷ record {
      ref_ptr = _;
      now =
          codes "s2";
    } ∷ record { ref_ptr = _; now = codes "s3" } ∷ []) c.loop-name.name-index _ c.loop-name-test.true)
