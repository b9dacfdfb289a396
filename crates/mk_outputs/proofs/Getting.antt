-- The command that the getters read is the one of what was given.
use Rattle.std.proofs.Common.{Bool, Option, Some, ap, codes, false, option_and_then, true, ◌∙◌, ◌≡◌}
use Rattle.clap.{proofs.WalkLemmas.{first_value-rows, one_text-rows}, specs.declared.parser.matches.Found.{Found}}
use Rattle.clap.specs.{Matches.{first_value, one_text}, Values.bool_text, Walk.{Text, rows_of}}
use Rattle.mk_outputs.specs.{Commands.{gen_from, gen_of, markers_of, run_of, run_with}, Given.{Given, gens}}
use Rattle.mk_outputs.specs.Given.{report_flag}
use Rattle.mk_outputs.specs.{Given.{runs, sweep_flag, why_flag}, Told.HasGiven, declared.commands.Command.Command}
use Rattle.mk_script.specs.Operands.{number_of_word}

pub flag_is : (b r : Bool) (o : Option Text) → o ≡ Some (bool_text b) → (o ≡ Some (codes "true") → r ≡ true)
    → (o ≡ Some (codes "false") → r ≡ false) → r ≡ b
flag_is true r o e on off = on e
flag_is false r o e on off = off e

pub run_reads : (f : Found) (t : Given) (answer : Option Command)
    → ((sweep why report : Bool) → one_text f (codes "sweep") ≡ Some (bool_text sweep)
    → one_text f (codes "why") ≡ Some (bool_text why) → one_text f (codes "report") ≡ Some (bool_text report)
    → answer ≡ option_and_then (run_with sweep why report) (markers_of (first_value f (codes "markers"))))
    → HasGiven runs (rows_of f) t → answer ≡ run_of t
run_reads f t answer reads h =
    reads t.sweep t.why t.report (one_text-rows f (codes "sweep") ∙ h.flags sweep_flag)
    (one_text-rows f (codes "why") ∙ h.flags why_flag) (one_text-rows f (codes "report") ∙ h.flags report_flag)
    ∙ ap (λ (o : Option Text). option_and_then (run_with t.sweep t.why t.report) (markers_of o))
    (first_value-rows f (codes "markers") ∙ h.markers)

abbrev gen_said : Option Text → Option Text → Option Text → Option Command
gen_said markers start count = gen_from (markers_of markers) (option_and_then number_of_word start)
    (option_and_then number_of_word count)

pub gen_reads : (f : Found) (t : Given) (answer : Option Command) → answer ≡ gen_from
    (markers_of (first_value f (codes "markers"))) (option_and_then number_of_word (first_value f (codes "start")))
    (option_and_then number_of_word (first_value f (codes "count"))) → HasGiven gens (rows_of f) t → answer ≡ gen_of t
gen_reads f t answer reads h =
    let markers = first_value-rows f (codes "markers") ∙ h.markers in
    let start = first_value-rows f (codes "start") ∙ h.start in
    let count = first_value-rows f (codes "count") ∙ h.count in
    cc (reads, markers, start, count)
