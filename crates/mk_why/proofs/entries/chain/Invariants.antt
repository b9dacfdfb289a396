use Rattle.mk_why.proofs.{MadeEntries.IsLedBack, Vocabulary.{AreWays, BeginApart, Config, IsWay, View}}
use Rattle.mk_sweep.proofs.Below.Laws.Vocabulary.{ℕ}
use Rattle.mk_why.proofs.entries.chain.Given as goal

abbrev pub invariant-loop-link : goal.invariant-loop-link
invariant-loop-link l = record {
  led : (c : Config) (v : View) (b : ℕ) → AreWays c v l.tables.found.items → BeginApart v
      → IsWay c v l.tables.found.items l.fn.found.way l.fn.found.links b
      → IsLedBack c v l.tables.found.items l.current l.links.items b l.fn.found.links;
}

abbrev pub decreases-loop-link : goal.decreases-loop-link
decreases-loop-link l = l.current.links
