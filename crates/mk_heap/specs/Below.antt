-- What stands on this crate finds here the definitions of those below it.
pub use Rattle.mk_alloc.specs.Below.Callers.Below.Laws as Laws
pub use Rattle.mk_alloc.specs.Below.Words as Words
pub use Rattle.mk_alloc.specs.Below.Callers as Callers
pub use Rattle.mk_marker.specs as Markers
pub use Rattle.mk_alloc.specs.Below.Cycles as Cycles
pub use Rattle.mk_alloc.specs as Objects
pub use Rattle.mk_core.specs as Core
pub use Rattle.mk_never.specs as Never
