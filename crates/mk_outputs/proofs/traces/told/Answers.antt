use Rattle.std.proofs.lemmas.Result.{IfOk-weaker}
use Rattle.mk_outputs.specs.Outputs.{TellsOfPlay}
use Rattle.mk_trace.specs.Playing.{history_of}
use Rattle.mk_outputs.proofs.traces.told.Goals as goal

pub returns : goal.returns
returns g c =
    IfOk-weaker c.print_peaks.result _ (λ lines. TellsOfPlay c.args.trace.now lines.items) (λ lines are. record {
      history = history_of c.in_ok-peaks.peaks;
      played = c.in_ok-peaks.ensures.played;
      peaks = c.in_ok-peaks.peaks;
      are_peaks = c.in_ok-peaks.ensures.peaks;
      output_is = are;
    })
    c.print_peaks.ensures
