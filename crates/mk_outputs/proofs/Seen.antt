-- What is written of a run is of one that can be observed.
use Rattle.std.proofs.Common.{Bool, IfSome, IsSomeAnd, List, None, Option, Some, ℕ, ap, ap₂, arith, false, length}
use Rattle.std.proofs.Common.{refl, slice_index_or, subst, suc, sum_by, sym, true, zero, [], ◌++◌, ◌+◌, ◌<◌, ◌∙◌, ◌≡◌}
use Rattle.std.proofs.{Common.if◌then◌else◌, lemmas.List.Sums.sum_by-cons}
use Rattle.std.specs.{List.{flat_map, range_with_len}, Prelude.Ok as Accepted}
use Rattle.mk_core.specs.declared.{config.Config.Config, events.{Answer.Answer, Event.Event}}
use Rattle.mk_script.specs.{Grammar.program_of, Scopes.script_names, declared.items.Item.Item}
use Rattle.mk_check.specs.{Declarations.config_of, Feed.{answers_given, output}}
use Rattle.mk_check.specs.{Observed.told_to, Typing.{IsWellTyped, TypingFault, first_typing_fault}}
use Rattle.mk_run.specs.Below.Heaps.{Hosts.history_of, declared.reports.Report.Report}
use Rattle.mk_run.specs.Headline.{TellsAsMuch}
use Rattle.mk_run.specs.Below.Chains.declared.kept.Kept.{Kept}
use Rattle.mk_run.proofs.ObservedRuns.{runs_can_be_observed}
use Rattle.mk_outputs.specs.declared.{commands.{Command.Command, Options.Options}, outputs.Output.Output}
use Rattle.mk_outputs.specs.declared.{commands.TextCommand.TextCommand, statuses.Status.Status}
use Rattle.mk_outputs.specs.{Commands.{is_sweep, markers_beside}, RunOutputs.kept_text, Outputs.IsOutputOfCommand}
use Rattle.mk_outputs.specs.{Generated.generated_program, Outputs.{IsOutput, typed_or}}
use Rattle.mk_outputs.specs.declared.commands.Request.{Request}
use Rattle.mk_io.specs.Bytes.{TakesAll}
use Rattle.mk_outputs.specs.RunOutputs.{AreEntries, IsOutputOfRun, IsSummaryOfRun}
use Rattle.mk_outputs.specs.Laws.{BeginsWithRun, IsSeen, SumsUpRun}
use Rattle.mk_outputs.specs.RunOutputs.{report_text, line_of_script, script_line, summary_by, total_line}

-- What a run writes begins with what its scripts print.

no_more : (report why : Bool) (lines : List ℕ) (program : List Item) (entries : List Kept) (c : Config)
    (es : List Event) → AreEntries why entries c es → report ≡ false → why ≡ false
    → (if report then lines else []) ++ kept_text program entries ≡ []
no_more false false lines program entries c es none r w = ap (λ (l : List Kept). kept_text program l) none
no_more false true lines program entries c es kept r w = cc
no_more true why lines program entries c es kept r w = cc

begins : (options : Options) (program : List Item) (es : List Event) (bytes : List ℕ)
    → IsOutputOfRun options program es bytes → BeginsWithRun options program bytes
begins options program es bytes h =
    let c = config_of program (markers_beside options.marking) in
    let seen = runs_can_be_observed program (markers_beside options.marking) (is_sweep options.marking) options.why es
    h.stands in
    record {
      texts = output program c es;
      more = (if options.report then report_text c es else []) ++ kept_text program h.entries;
      run = seen.run;
      bytes_are = h.bytes_are;
      no_more = no_more options.report options.why (report_text c es) program h.entries c es h.are_entries;
    }

-- Where scripts are told as much, the summaries are the same.

same_line : (program : List Item) (f g : ℕ → List Answer) (k : ℕ) → TellsAsMuch (f k) (g k)
    → line_of_script program f k ≡ line_of_script program g k
same_line program f g k h =
    ap₂ (λ (ops refused : ℕ). script_line (slice_index_or (script_names program) k []) ops refused) h.all h.refusals

same_lines : (program : List Item) (f g : ℕ → List Answer) (a n : ℕ)
    → ((k : ℕ) → k < a + n → TellsAsMuch (f k) (g k))
    → flat_map (line_of_script program f) (range_with_len a n)
    ≡ flat_map (line_of_script program g) (range_with_len a n)
same_lines program f g a zero each = refl
same_lines program f g a (suc n) each =
    ap₂ (λ (line lines : List ℕ). line ++ lines) (same_line program f g a (each a (omega arith)))
    (same_lines program f g (a + 1) n (λ k less. each k (omega arith)))

same_total : (f g : ℕ → List Answer) (a n : ℕ) → ((k : ℕ) → k < a + n → TellsAsMuch (f k) (g k))
    → sum_by (λ k. length (f k)) (range_with_len a n) ≡ sum_by (λ k. length (g k)) (range_with_len a n)
same_total f g a zero each = refl
same_total f g a (suc n) each =
    let first = (each a (omega arith)).all in
    let rest = same_total f g (a + 1) n (λ k less. each k (omega arith)) in
    let left = sum_by-cons (λ k. length (f k)) a (range_with_len (a + 1) n) in
    let right = sum_by-cons (λ k. length (g k)) a (range_with_len (a + 1) n) in
    omega arith

same_summary : (program : List Item) (f g : ℕ → List Answer)
    → ((k : ℕ) → k < length (script_names program) → TellsAsMuch (f k) (g k))
    → summary_by program f ≡ summary_by program g
same_summary program f g each =
    let n = length (script_names program) in
    ap₂ (λ (lines : List ℕ) (ops : ℕ). lines ++ total_line ops)
    (same_lines program f g 0 n (λ k less. each k (omega arith)))
    (same_total f g 0 n (λ k less. each k (omega arith)))

sums_up : (program : List Item) (markers : ℕ) (es : List Event) (bytes : List ℕ)
    → IsSummaryOfRun program markers es bytes → SumsUpRun program bytes
sums_up program markers es bytes h =
    let c = config_of program markers in
    let seen = runs_can_be_observed program markers false false es h.stands in
    record {
      texts = output program c es;
      run = seen.run;
      bytes_are = h.bytes_are
          ∙ sym (same_summary program (told_to program seen.run.calls) (answers_given c es) seen.tells);
    }

-- By the commands.

well_typed : (program : List Item) (o : Option TypingFault) → first_typing_fault program ≡ o
    → typed_or o Status.Ok ≡ Status.Ok → IsWellTyped program
well_typed program None is ok = is
well_typed program (Some fault) is ok = cc

text_is : (program : List Item) (input : List ℕ) (old new : Option (List ℕ)) → program_of input ≡ Accepted program
    → IfSome old (λ left. (input ≡ left) × (new ≡ Some [])) → IfSome old (λ left. program_of left ≡ Accepted program)
text_is program input None new is read = tt
text_is program input (Some left) new is read =
    subst (λ (bytes : List ℕ). program_of bytes ≡ Accepted program) read.0 is

of_report : (options : Options) (program : List Item) (report : Option Report) (bytes : List ℕ)
    → IsSomeAnd report (λ r. IsOutputOfRun options program (history_of r) bytes) → BeginsWithRun options program bytes
of_report options program None bytes h = absurd h
of_report options program (Some r) bytes h = begins options program (history_of r) bytes h

of_summary : (program : List Item) (markers : ℕ) (report : Option Report) (bytes : List ℕ)
    → IsSomeAnd report (λ r. IsSummaryOfRun program markers (history_of r) bytes) → SumsUpRun program bytes
of_summary program markers None bytes h = absurd h
of_summary program markers (Some r) bytes h = sums_up program markers (history_of r) bytes h

pub outputs_are_seen : (command : Command) (old new : Option (List ℕ)) (output : Output)
    → IsOutputOfCommand command old new output → IsSeen command old output.bytes.items
outputs_are_seen (Command.OnText (TextCommand.Run options)) old new output h =
    let on = h.is_output in
    record {
      program = on.program;
      is_text = text_is on.program h.input old new on.is_text h.read;
      is_well_typed = well_typed on.program (first_typing_fault on.program) refl on.accepted;
      begins = of_report options on.program output.report output.bytes.items on.output_is;
    }
outputs_are_seen (Command.Gen request) old new output h =
    of_summary _ request.markers output.report output.bytes.items h.output_is
outputs_are_seen (Command.OnText TextCommand.Check) old new output h = tt
outputs_are_seen (Command.OnText TextCommand.Print) old new output h = tt
outputs_are_seen (Command.OnText TextCommand.Replay) old new output h = tt
outputs_are_seen (Command.OnText TextCommand.Trace) old new output h = tt

-- what a text's command writes, and what `gen` does

pub text_is_seen : (command : TextCommand) (text input : List ℕ) (old new : Option (List ℕ)) (output : Output)
    → text ≡ input → TakesAll old new input → IsOutput command text output
    → IsSeen (Command.OnText command) old output.bytes.items
text_is_seen command text input old new output same read is = outputs_are_seen (Command.OnText command) old new output
    (record { input = text; read = rw same read; is_output = is })

pub request_is_seen : (request : Request) (old : Option (List ℕ)) (output : Output)
    → IsSomeAnd output.report (λ r. IsSummaryOfRun (generated_program request.start request.count) request.markers
    (history_of r) output.bytes.items)
    → IsSeen (Command.Gen request) old output.bytes.items
request_is_seen request old output h =
    outputs_are_seen (Command.Gen request) old old output (record { unread = refl; output_is = h })
