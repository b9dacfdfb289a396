-- What stands on this crate finds here the definitions of those below it.
pub use Rattle.mk_heap.specs.Below.Words as Words
pub use Rattle.mk_heap.specs.Below.Callers as Callers
pub use Rattle.mk_heap.specs.Below.Markers as Markers
pub use Rattle.mk_heap.specs.Below.Cycles as Cycles
pub use Rattle.mk_why.specs as Chains
pub use Rattle.mk_heap.specs.Below.Objects as Objects
pub use Rattle.mk_heap.specs as Heaps
pub use Rattle.mk_check.specs as Checks
pub use Rattle.mk_heap.specs.Below.Laws as Laws
