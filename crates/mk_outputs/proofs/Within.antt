-- The numbers of each command are in their bounds.
use Rattle.std.proofs.Common.{Bool, IfSome, List, None, Option, Some, ℕ, arith, false, if◌then◌else◌, nat_lt, true, []}
use Rattle.std.proofs.{Common.{◌∷◌, ◌≡◌, ◌≤◌}, lemmas.Bool.Decides.nat_tests}
use Rattle.mk_outputs.specs.Commands.{IsWithin, command_of, gen_of, gen_with, markers_of, run_of, run_with}
use Rattle.mk_outputs.specs.{declared.commands.Command.Command, Given.Given}

few_markers : (o : Option (List ℕ)) → IfSome (markers_of o) (λ m. m ≤ 8)
few_markers None = omega arith
few_markers (Some digits) = grind (arith, nat_tests)

within_if : (b : Bool) (x y : Option Command) → IfSome x IsWithin → IfSome y IsWithin
    → IfSome (if b then x else y) IsWithin
within_if true x y h k = h
within_if false x y h k = k

within_options : (sweep why report : Bool) (markers : ℕ) → markers ≤ 8 → (b : Bool) → nat_lt 0 markers ≡ b
    → IfSome (run_with sweep why report markers) IsWithin
within_options true why report markers few true e = rw e tt
within_options true why report markers few false e = rw e tt
within_options false why report markers few true e = rw e (grind (arith, nat_tests))
within_options false why report markers few false e = rw e tt

within_run : (g : Given) → IfSome (run_of g) IsWithin
within_run g = grind (arith, few_markers, within_options)

within_bounds : (markers start count : ℕ) → markers ≤ 8 → (a b : Bool) → nat_lt count 48 ≡ a → nat_lt 3000000 count ≡ b
    → IfSome (gen_with markers start count) IsWithin
within_bounds markers start count few true b e f = rw e tt
within_bounds markers start count few false true e f = rw (e, f) tt
within_bounds markers start count few false false e f = grind (arith, nat_tests)

within_gen : (g : Given) → IfSome (gen_of g) IsWithin
within_gen g = grind (arith, few_markers, within_bounds)

pub within : (words : List (List ℕ)) → IfSome (command_of words) IsWithin
within [] = tt
within (name ∷ words) = grind (arith, within_if, within_run, within_gen)
