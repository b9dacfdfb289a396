use Rattle.std.{proofs.Common.w64, proofs.Math.Nat.div-le_self, specs.Bool.then_some, specs.Int.trailing_ones}
use Rattle.mk_caller.proofs.Below.Laws.Vocabulary.{ap, nat_lt, sym, ◌∙◌}
use Rattle.mk_alloc.proofs.seeking.lowest_free.Goals as goal
use Rattle.mk_core.proofs.Below.Books.UsedBitLemmas.{first_where-bits_of}

pub returns : goal.returns
returns c =
    c.then_some.ensures ∙ ap (λ place. then_some (nat_lt place c.cells.result) place) (c.from-index.ensures ∙
    c.trailing_ones.ensures) ∙ ap (λ n. then_some (nat_lt (trailing_ones w64 c.args.used) n) (trailing_ones w64
    c.args.used)) c.cells.ensures ∙ sym (first_where-bits_of _ c.args.used (div-le_self 64 _) c.ranges.used.fits)
