-- The texts of the scripts, one after the other, are all that a run prints.
use Rattle.std.proofs.Common.{ap₂}
use Rattle.std.specs.List.{flat_map, range_with_len}
use Rattle.mk_run.proofs.Below.Laws.Vocabulary.{Config, Event, List, ℕ, ap, arith, false, if◌then◌else◌, length, refl}
use Rattle.mk_run.proofs.Below.Laws.Vocabulary.{slice_index_or, suc, true, [], ◌++◌, ◌+◌, ◌<◌, ◌∙◌, ◌∷◌, ◌≡◌}
use Rattle.mk_check.specs.{Declarations.config_of, Feed.{output, text_behind}, declared.text.Text.Text}
use Rattle.mk_run.specs.Below.{Cycles.Beside.CyclesMarkRootsFirst, Heaps.Hosts.{HasCounts, MarkersAreBelow}}
use Rattle.mk_run.specs.Below.Cycles.BeginCycle.{CyclesHoldGatesFirst}
use Rattle.mk_run.specs.{Below.Heaps.declared.reports.Report.Report, declared.outcomes.Outcome.Outcome}
use Rattle.mk_run.specs.{Headline.{cycles_go_on, printed}, Running.IsRunOf, Below.Heaps.Unswept.IsUnswept}
use Rattle.mk_run.specs.Keeping.{CyclesSweep}
use Rattle.mk_run.specs.Below.Chains.declared.kept.Kept.{Kept}
use Rattle.mk_run.specs.Below.Heaps.Hosts as report
use Rattle.mk_run.proofs.Headline.{runs_keep_their_promises, runs_print_their_texts}
use Rattle.mk_run.proofs.Headline.{runs_stand_in_one_history}
use Rattle.mk_outputs.specs.{Commands.{is_sweep, markers_beside}, RunOutputs.kept_text}
use Rattle.mk_outputs.specs.declared.commands.Options.{Options}
use Rattle.mk_outputs.specs.RunOutputs.{lines_of_report, report_text, AreEntries, IsOutputOfRun}
use Rattle.mk_replay.specs.Replays.{AreTextsOf}
use Rattle.mk_script.specs.declared.items.Item.{Item}

-- pieces that are those of their places
pieces : {X A : Type 0} (f : X → List A) (g : ℕ → List A) (a : ℕ) (xs : List X) → ((k : ℕ) (d : X) → k < length xs
    → f (slice_index_or xs k d) ≡ g (a + k)) → flat_map f xs ≡ flat_map g (range_with_len a (length xs))
pieces f g a [] each = refl
pieces f g a (x ∷ xs) each =
    let rest = pieces f g (a + 1) xs (λ k d less. each (suc k) d (omega (arith, less)) ∙ ap g (omega arith)) in
    ap (λ piece. piece ++ flat_map f xs) (each 0 x (omega arith) ∙ ap g (omega arith)) ∙ ap (λ more. g a ++ more) rest

pub texts_are_printed : (program : List Item) (es : List Event) (texts : List Text) → AreTextsOf program es texts
    → flat_map (λ text. text.bytes.items) texts ≡ output program (config_of program 8) es
texts_are_printed program es texts are =
    let text_of = text_behind program (config_of program 8) es in
    pieces (λ text. text.bytes.items) text_of 0 texts (λ k d less. (are.each k d less).text ∙ ap text_of (omega arith))
    ∙ ap (λ n. flat_map text_of (range_with_len 0 n)) are.count

-- The numbers of a report are the counts of its history.

counts_are : {c : Config} {es : List Event} {r : Report} → HasCounts c es r → lines_of_report r ≡ report_text c es
counts_are h = cc (h.held, h.fresh, h.quarantined, h.released, h.cycles, h.full)

-- So this is what a run writes.
pub run_is_output : (options : Options) (program : List Item) (outcome : Outcome) (entries : List Kept) (bytes : List ℕ)
    → IsRunOf (cycles_go_on (markers_beside options.marking)) options.why program (markers_beside options.marking)
    outcome
    → (cycles_go_on (markers_beside options.marking) ≡ true
    → CyclesMarkRootsFirst (config_of program (markers_beside options.marking)) (report.history_of outcome.report))
    → (cycles_go_on (markers_beside options.marking) ≡ false
    → CyclesHoldGatesFirst (config_of program (markers_beside options.marking)) (report.history_of outcome.report))
    → MarkersAreBelow (markers_beside options.marking) (report.history_of outcome.report)
    → (is_sweep options.marking ≡ false
    → IsUnswept (config_of program (markers_beside options.marking)) (report.history_of outcome.report))
    → (is_sweep options.marking ≡ true
    → CyclesSweep (config_of program (markers_beside options.marking)) (report.history_of outcome.report))
    → AreEntries options.why entries (config_of program (markers_beside options.marking))
    (report.history_of outcome.report)
    → bytes ≡ printed outcome ++ ((if options.report then lines_of_report outcome.report else [])
    ++ kept_text program entries)
    → IsOutputOfRun options program (report.history_of outcome.report) bytes
run_is_output options program outcome entries bytes runs begun stops below unswept swept kept are =
    let markers = markers_beside options.marking in
    let sweep = is_sweep options.marking in
    let stands =
    runs_stand_in_one_history program markers sweep options.why outcome runs begun stops below unswept swept in
    record {
      stands = stands;
      promises =
          runs_keep_their_promises program markers sweep options.why (report.history_of outcome.report) stands;
      entries = entries;
      are_entries = kept;
      bytes_are =
          are ∙ ap₂ (λ (texts lines : List ℕ). texts ++ ((if options.report then lines else [])
          ++ kept_text program entries))
          (runs_print_their_texts (cycles_go_on markers) options.why program markers outcome runs)
          (counts_are runs.counts);
    }
