-- What stands on this crate finds here the lemmas of those below it.
pub use Rattle.mk_cycle.proofs.Below.Laws as Laws
pub use Rattle.mk_cycle.proofs.Below.Words as Words
pub use Rattle.mk_cycle.proofs as Cycles
