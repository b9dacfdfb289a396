use Rattle.std.proofs.Common.{◌≡◌}
use Rattle.mk_books.proofs.runs.store_headers.Given as goal
use Rattle.mk_books.specs.KnownPages.{run_word, with_headers}

abbrev pub invariant-loop-distance : goal.invariant-loop-distance
invariant-loop-distance l =
    record { is : l.pages ≡ with_headers l.initial.pages l.first l.distance (run_word l.head l.next) }
