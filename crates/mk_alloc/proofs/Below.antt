-- What stands on this crate finds here the lemmas of those below it.
pub use Rattle.mk_caller.proofs.Below.Laws as Laws
pub use Rattle.mk_caller.proofs.Below.Words as Words
pub use Rattle.mk_caller.proofs as Callers
pub use Rattle.mk_cycle.proofs as Cycles
