-- How cycles mark where this many markers are asked for.
use Rattle.std.proofs.Common.{Bool, arith, false, if◌then◌else◌, nat_lt, refl, true, ℕ, ◌≡◌}
use Rattle.std.proofs.lemmas.Bool.Decides.{nat_tests}
use Rattle.mk_outputs.specs.Commands.{is_sweep, markers_beside, traced_by}
use Rattle.mk_outputs.specs.declared.commands.Marking.{Marking}

beside_if : (b : Bool) (markers : ℕ) → nat_lt 0 markers ≡ b
    → markers_beside (if b then Marking.Beside markers else Marking.Stop) ≡ markers
beside_if true markers is = refl
beside_if false markers is = grind (arith, nat_tests)

pub beside_traced : (markers : ℕ) → markers_beside (traced_by markers) ≡ markers
beside_traced markers = beside_if (nat_lt 0 markers) markers refl

no_sweep_if : (b : Bool) (markers : ℕ) → is_sweep (if b then Marking.Beside markers else Marking.Stop) ≡ false
no_sweep_if true markers = refl
no_sweep_if false markers = refl

pub traced_is_no_sweep : (markers : ℕ) → is_sweep (traced_by markers) ≡ false
traced_is_no_sweep markers = no_sweep_if (nat_lt 0 markers) markers
