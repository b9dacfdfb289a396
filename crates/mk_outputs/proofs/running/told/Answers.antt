use Rattle.std.proofs.Common.{append_assoc, ap, ℕ, List, ◌++◌, ◌∙◌, ◌≡◌}
use Rattle.std.specs.List.{flat_map}
use Rattle.mk_check.specs.declared.text.Text.{Text}
use Rattle.mk_outputs.{proofs.PrintedTexts.run_is_output, specs.RunOutputs.kept_text}
use Rattle.mk_script.specs.declared.items.Item.{Item}
use Rattle.mk_run.specs.Below.Chains.declared.kept.Kept.{Kept}
use Rattle.mk_outputs.proofs.running.told.Goals as goal

in_order : (texts printed reported kept after bytes : List ℕ) → texts ≡ printed → after ≡ texts ++ reported
    → bytes ≡ after ++ kept → bytes ≡ printed ++ (reported ++ kept)
in_order texts printed reported kept after bytes first second third =
    cc (first, second, third, append_assoc printed reported kept)

pub returns : goal.returns
returns g c =
    let ran = c.in_ok-outcome.ensures in
    let texts = c.in_ok-bytes.ensures
    ∙ ap (λ texts. flat_map (λ (text : Text). text.bytes.items) texts) c.deref.ensures.value in
    let front = c.push_asked.new.text.items in
    let lines = c.in_ok-push_kept.ensures
    ∙ (ap (λ (program : List Item). front ++ kept_text program c.deref-2.result.now) c.program.ensures.program
    ∙ ap (λ (entries : List Kept). front ++ kept_text c.args.program.now entries) c.deref-2.ensures.value) in
    run_is_output c.args.options c.args.program.now c.in_ok-outcome.outcome c.in_ok-outcome.kept.items _ ran.runs
    ran.begun ran.stops ran.markers ran.reached ran.swept ran.kept
    (in_order _ _ _ _ _ _ texts c.in_ok-push_asked.ensures lines)
