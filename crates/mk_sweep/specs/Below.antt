-- What stands on this crate finds here the definitions of those below it.
pub use Rattle.mk_cycle.specs.Below.Laws as Laws
pub use Rattle.mk_cycle.specs.Below.Words as Words
pub use Rattle.mk_cycle.specs as Cycles
