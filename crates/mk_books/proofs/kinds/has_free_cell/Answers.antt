use Rattle.std.specs.{Bool.then_some, Int.trailing_ones}
use Rattle.mk_books.proofs.kinds.has_free_cell.Goals as goal
use Rattle.mk_books.proofs.{Vocabulary.{Bool, ℕ, ap, arith, is_some, nat_lt, sym, w64, ◌∙◌, ◌≡◌}, BlockSets.cells_few}
use Rattle.mk_geom.specs.Addresses.{cells_of}
use Rattle.mk_books.proofs.UsedBitLemmas.{first_where-bits_of}

some_where : (test : Bool) (n : ℕ) → test ≡ is_some (then_some test n)
some_where _ n = grind arith

pub returns : goal.returns
returns c =
    let place = trailing_ones w64 c.args.used in
    let count = cells_of c.args.class in
    ap (λ k. nat_lt k c.cells.result) (c.from.ensures ∙ c.trailing_ones.ensures) ∙ ap (nat_lt place) c.cells.ensures
    ∙ some_where (nat_lt place count) place
    ∙ ap is_some (sym (first_where-bits_of count c.args.used (cells_few c.args.class c.requires) c.ranges.used.fits))
