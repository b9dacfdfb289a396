use Rattle.mk_marker.specs.Steps.{LooksInVain}
use Rattle.mk_marker.proofs.cells.find_between.Given as goal

abbrev pub invariant-pages : goal.invariant-pages
invariant-pages l = LooksInVain l.initial.pass l.first l.page l.pass
