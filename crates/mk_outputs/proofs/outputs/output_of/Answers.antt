use Rattle.std.proofs.{Common.{IfOk, subst, sym}, lemmas.Result.IfOk-weaker}
use Rattle.mk_outputs.{proofs.Seen.{request_is_seen, text_is_seen}, specs.declared.commands.Command.{Command}}
use Rattle.mk_outputs.specs.{Outputs.IsOutput, Laws.IsSeen, declared.outputs.Output.Output}
use Rattle.mk_outputs.proofs.outputs.output_of.Goals as goal

pub returns-in_ok-text-in-OnText-clause-seen : goal.returns-in_ok-text-in-OnText-clause-seen
returns-in_ok-text-in-OnText-clause-seen g c =
    let command = c.in-OnText.command in
    let left = g.S.Source.left c.args.source.now in
    subst (λ (x : Command). IfOk c.output_on.result (λ (output : Output). IsSeen x left output.bytes.items))
    (sym c.in-OnText.is) (IfOk-weaker c.output_on.result (IsOutput command c.deref.result.now)
    (λ (output : Output). IsSeen (Command.OnText command) left output.bytes.items)
    (λ output is. text_is_seen command c.deref.result.now c.in_ok-text-in-OnText.text.items left _ output
    c.deref.ensures.value c.in_ok-text-in-OnText.ensures.all is) c.output_on.ensures.ok)

pub returns-in_ok-summed-in-Gen-clause-seen : goal.returns-in_ok-summed-in-Gen-clause-seen
returns-in_ok-summed-in-Gen-clause-seen g c =
    let left = g.S.Source.left c.args.source.now in
    let output = c.in_ok-summed-in-Gen.field-0 in
    subst (λ (x : Command). IsSeen x left output.bytes.items) (sym c.in-Gen.is)
    (request_is_seen c.in-Gen.request left output c.in_ok-summed-in-Gen.ensures)
