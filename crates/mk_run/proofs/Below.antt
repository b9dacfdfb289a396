-- What stands on this crate finds here the lemmas of those below it.
pub use Rattle.mk_heap.proofs.Below.Words as Words
pub use Rattle.mk_heap.proofs.Below.Callers as Callers
pub use Rattle.mk_heap.proofs.Below.Cycles as Cycles
pub use Rattle.mk_heap.proofs.Below.Objects as Objects
pub use Rattle.mk_heap.proofs as Heaps
pub use Rattle.mk_check.proofs as Checks
pub use Rattle.mk_heap.proofs.Below.Laws as Laws
