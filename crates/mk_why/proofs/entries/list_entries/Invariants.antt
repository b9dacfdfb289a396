use Rattle.mk_why.proofs.Vocabulary.{AreEntriesBelow, Config, IsTold, View, entry_at}
use Rattle.mk_sweep.proofs.Below.Laws.Vocabulary.{None, ℕ, [], ◌≡◌}
use Rattle.mk_why.proofs.entries.list_entries.Given as goal

abbrev pub invariant-loop-base : goal.invariant-loop-base
invariant-loop-base l = record {
  below : (c : Config) (v : View) → IsTold c l.tables.found.items l.tables.kept.items v
      → AreEntriesBelow c v l.base l.entries.items;
  none : ((base : ℕ) → entry_at l.tables.kept.items base ≡ None) → l.entries.items ≡ [];
}
