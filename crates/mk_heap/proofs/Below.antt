-- What stands on this crate finds here the lemmas of those below it.
pub use Rattle.mk_alloc.proofs.Below.Laws as Laws
pub use Rattle.mk_alloc.proofs.Below.Words as Words
pub use Rattle.mk_alloc.proofs.Below.Callers as Callers
pub use Rattle.mk_alloc.proofs.Below.Cycles as Cycles
pub use Rattle.mk_alloc.proofs as Objects
pub use Rattle.mk_alloc.proofs.Below.Laws as Laws
pub use Rattle.mk_never.proofs as Never
