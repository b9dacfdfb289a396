use Rattle.mk_heap.proofs.Below.Laws.Vocabulary.{◌*◌, ◌+◌, ◌-◌, ◌≡◌, ◌≤◌}
use Rattle.mk_clients.specs.Clients.{IsAt, IsAttending}
use Rattle.mk_clients.proofs.markers.scan_words.Given as goal

pub record IsScanning (l : goal.Live-loop-done) : Type 0 where
  pub one_table : l.pass.table ≡ l.words
  pub attends : IsAttending l.pass
  pub done : l.done ≤ l.count
  pub at : IsAt l.pass l.page l.k (64 * l.page + l.k * l.count + l.done) (64 * l.page + l.k * l.count + l.count)

abbrev pub invariant-loop-done : goal.invariant-loop-done
invariant-loop-done l = IsScanning l

-- proposed from the loop's first test
abbrev pub decreases-loop-done : goal.decreases-loop-done
decreases-loop-done l = l.count - l.done
