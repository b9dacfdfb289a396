use Rattle.std.proofs.Common.{take, ◌≡◌}
use Rattle.mk_never.proofs.types.TypeTable.try_clone.Given as goal

abbrev pub invariant-loop-ty : goal.invariant-loop-ty
invariant-loop-ty l = l.copy ≡ take l.ty l.self
