-- What stands on this crate finds here the lemmas of those below it.
pub use Rattle.mk_words.proofs.Below.Laws as Laws
pub use Rattle.mk_words.proofs as Words
