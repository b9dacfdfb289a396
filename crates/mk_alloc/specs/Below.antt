-- What stands on this crate finds here the definitions of those below it.
pub use Rattle.mk_caller.specs.Below.Words as Words
pub use Rattle.mk_caller.specs as Callers
pub use Rattle.mk_cycle.specs as Cycles
