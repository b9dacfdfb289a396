-- What stands on this crate finds here the definitions of those below it.
pub use Rattle.mk_words.specs.Below.Laws as Laws
pub use Rattle.mk_words.specs as Words
