use Rattle.std.proofs.Common.{Global, Vec, slice_get}
use Rattle.mk_run.proofs.Below.Laws.Vocabulary.{List, ℕ, ap, arith, sym, ◌∙◌}
use Rattle.mk_check.specs.declared.text.Text.{Text}
use Rattle.mk_outputs.{proofs.Summaries.{are_few, four, run_is_summed}, specs.RunOutputs.{summary_of_texts}}
use Rattle.mk_outputs.{proofs.Traced.{beside_traced, traced_is_no_sweep}, specs.Commands.{is_sweep, markers_beside}}
use Rattle.mk_outputs.proofs.summing.summed.Goals as goal

pub summary_of-requires : goal.summary_of-requires
summary_of-requires g c =
    let request = c.args.request in
    let outcome = c.in_ok-outcome.outcome in
    let beside = ap markers_beside c.with_markers.ensures ∙ beside_traced request.markers in
    let runs = rw beside at (rw c.in_ok-program.ensures at c.in_ok-outcome.ensures.runs) in
    let texts = c.deref.ensures.value in
    let count = four request.start request.count request.markers outcome runs in
    record {
      scripts = omega arith;
      calls = λ k text is. are_few request.start request.count request.markers outcome runs c.requires.0 k text
          (ap (λ (xs : List Text). slice_get xs k) (sym texts) ∙ is);
    }

pub returns : goal.returns
returns g c =
    let request = c.args.request in
    let beside = ap markers_beside c.with_markers.ensures ∙ beside_traced request.markers in
    let traced = ap is_sweep c.with_markers.ensures ∙ traced_is_no_sweep request.markers in
    let runs = rw beside at (rw c.in_ok-program.ensures at c.in_ok-outcome.ensures.runs) in
    let is = ap (λ (v : Vec ℕ Global). v.items) c.into_bytes.ensures.value
    ∙ (c.in_ok-lines.ensures ∙ ap summary_of_texts c.deref.ensures.value) in
    let unswept = rw beside at (rw c.in_ok-program.ensures at (c.in_ok-outcome.ensures.reached traced)) in
    let begun = rw beside at (rw c.in_ok-program.ensures at c.in_ok-outcome.ensures.begun) in
    let stops = rw beside at (rw c.in_ok-program.ensures at c.in_ok-outcome.ensures.stops) in
    let below = rw beside at c.in_ok-outcome.ensures.markers in
    run_is_summed request.start request.count request.markers c.in_ok-outcome.outcome runs begun stops below unswept
    c.into_bytes.result.items is
