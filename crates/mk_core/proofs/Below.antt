-- What stands on this crate finds here the lemmas of those below it.
pub use Rattle.mk_books.proofs as Books
