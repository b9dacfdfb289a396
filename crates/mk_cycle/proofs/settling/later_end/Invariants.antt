use Rattle.mk_words.proofs.Below.Laws.Vocabulary.{Header, Some, false, header_in, ℕ, ◌-◌, ◌<◌, ◌≡◌, ◌≤◌}
use Rattle.mk_words.specs.States.{now_of}
use Rattle.mk_cycle.proofs.settling.later_end.Given as goal

abbrev pub invariant-loop-page : goal.invariant-loop-page
invariant-loop-page l = record {
  begun : l.from ≤ l.page;
  within : l.page ≤ l.to;
  later : (r : ℕ) → l.from ≤ r → r < l.page
      → header_in (now_of l.turn.pass).words r ≡ Some (Header.Later (r - l.head) false);
}
