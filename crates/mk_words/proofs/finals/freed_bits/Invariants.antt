use Rattle.std.specs.Mem.Slots.{slots_items}
use Rattle.mk_laws.proofs.Vocabulary.{◌*◌, ◌-◌, ◌≡◌, ◌≤◌}
use Rattle.mk_words.{proofs.Closing.quarantine_word, specs.States.freed_cells}
use Rattle.mk_words.proofs.finals.freed_bits.Given as goal

abbrev pub invariant-loop-page : goal.invariant-loop-page
invariant-loop-page l = record {
  within : l.page ≤ l.pages;
  few : l.freed ≤ 64 * l.page;
  counted : l.freed ≡ freed_cells (quarantine_word (slots_items l.closed.words) l.pages) l.page;
}

abbrev pub decreases-loop-page : goal.decreases-loop-page
decreases-loop-page l = l.pages - l.page
