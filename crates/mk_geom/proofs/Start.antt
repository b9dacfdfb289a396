-- Free pages, on which nothing stands.
use Rattle.std.proofs.{Common.{ℕ, arith, replicate, []}, lemmas.List.{get_or-replicate, length-replicate}}
use Rattle.mk_geom.specs.Storages.{PagesStandFor, free_page}

pub free_pages : (n : ℕ) → PagesStandFor (replicate n free_page) []
free_pages n = record {
  laid_out = record {
    each = λ k d within. absurd (omega arith);
    apart = λ i j d i_within j_within other. absurd (omega arith);
  };
  words = λ page d within. get_or-replicate n page free_page d (omega (arith, length-replicate n free_page));
}
