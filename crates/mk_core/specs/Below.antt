-- What stands on this crate finds here the definitions of those below it.
pub use Rattle.mk_books.specs as Books
