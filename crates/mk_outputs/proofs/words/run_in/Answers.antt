use Rattle.std.proofs.Common.{Bool, None, Some, ℕ, arith, refl, ◌≡◌}
use Rattle.mk_outputs.proofs.words.run_in.Goals as goal
use Rattle.mk_outputs.proofs.Getting.{flag_is}
use Rattle.mk_outputs.specs.{declared.commands.Command.TheVariants.OnText, Commands.{marking_by, run_with}}
use Rattle.mk_outputs.specs.declared.commands.{Marking.Marking, TextCommand.TheVariants.Run}

pub returns-in_err-markers : goal.returns-in_err-markers
returns-in_err-markers c sweep why report s w r = grind arith

refused : (m : ℕ) (sweep why report : Bool) → marking_by sweep m ≡ None → None ≡ run_with sweep why report m
refused m sweep why report none = rw none refl

pub returns-in_err-marking : goal.returns-in_err-marking
returns-in_err-marking c sweep why report s w r = grind (arith, flag_is, refused)

kept : (m : ℕ) (sweep why report : Bool) (marking : Marking) → marking_by sweep m ≡ Some marking
    → Some (OnText (Run (record { marking = marking; why = why; report = report }))) ≡ run_with sweep why report m
kept m sweep why report marking is = rw is refl

pub returns : goal.returns
returns c sweep why report s w r = grind (arith, flag_is, kept)
