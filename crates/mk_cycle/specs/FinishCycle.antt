-- What is made in the stop, what `finish_cycle` makes and leaves, and what it says of the cycle.
use Rattle.std.specs.Prelude.{◌≡◌, map, ℕ, ◌+◌, Bool, true, ◌&&◌, not, List, [], ◌∷◌, length, count_by, sum_by}
use Rattle.std.specs.Prelude.{if◌then◌else◌, ◌-◌}
use Rattle.mk_core.specs.Allocations.{fresh_words_of, with_released, PlacedAllocation, held_by_allocations}
use Rattle.mk_core.specs.{Allocations.storage_words, Counts.{TalliesAreExact, TalliesAreTidy, in_a_word}}
use Rattle.mk_core.specs.{Cycles.is_quarantined, Effects.cycle_ended, Frames.{steady_of, CountsAreLeft, Steady}}
use Rattle.mk_core.specs.{Moments.none_is_held, Words.Words, declared.events.{Step.Step, Tally.Tally}}
use Rattle.mk_words.specs.{States.{PassState, world_of, now_of, call_of}, Steps.{Makes, moment_of, is_open, Does}}
use Rattle.mk_cycle.specs.{EngineLaw.{ClosesMarks, IsAtPhase}, TurnKeeps.{KeepsCall, holds_gates, is_giving_back}}
use Rattle.mk_cycle.specs.{TurnKeeps.{sets_tallies, done_of, IsGone, KeepsGates}, declared.finishing.Released.Released}

-- One `want`, one `close` and one `release`, in this order.
pub record MakesRelease (p q : PassState) : Type 0 where
  pub closing : PassState
  pub closed : PassState
  pub marks : ClosesMarks p closing
  pub close : Makes closing Step.Close closed
  pub release : Makes closed Step.Release q

-- the words as the `release` found them
abbrev pub words_released : {p q : PassState} → MakesRelease p q → Words
words_released m = (moment_of m.release).words

-- What is in the snapshot and not marked is released.
pub record ReleasesUnmarked (p q : PassState) : Type 0 where
  pub makes : MakesRelease p q
  pub call : KeepsCall p q
  pub steady : steady_of (world_of q)
      ≡ record (steady_of (world_of p)) {
        phase = 4;
        allocations = map (with_released p.table.config (words_released makes)) (world_of p).allocations;
      }
  pub counts : CountsAreLeft p.table.config p.seen q.seen
  pub fresh : fresh_words_of p.table.config (world_of q).allocations
      ≡ fresh_words_of p.table.config (world_of p).allocations

-- One `want`, one `close`, one `release` and one `end`, in this order, with what belongs to each. The gates are opened
-- first after the `release`, and only then is anything wiped or given back, so that nobody waits for it.
pub record MakesFinish (p q : PassState) : Type 0 where
  pub held : PassState
  pub released : PassState
  pub opened : PassState
  pub freed : PassState
  pub ended : PassState
  pub holds : Does holds_gates p held
  pub releases : MakesRelease held released
  pub opens : Does is_open released opened
  pub none_held : none_is_held p.table.config.callers (now_of opened).words ≡ true
  pub frees : Does is_giving_back opened freed
  pub end : Makes freed Step.End ended
  pub behind : Does sets_tallies ended q

-- The cycle has ended, and no gate is held. What was left unmarked is released, and all else is as it was.
pub record FinishesCycle (p q : PassState) : Type 0 where
  pub makes : MakesFinish p q
  pub pass : q ≡ record p { seen = q.seen }
  pub call : call_of q ≡ call_of p
  pub done : done_of (now_of q) ≡ record (done_of (now_of p)) { cycle = cycle_ended (done_of (now_of p)).cycle }
  pub phase : IsAtPhase q 0
  pub gates : none_is_held p.table.config.callers (now_of q).words ≡ true
  pub allocations : (world_of q).allocations
      ≡ map (with_released p.table.config (words_released makes.releases)) (world_of p).allocations
  pub gone : IsGone q
  pub exact : TalliesAreExact p.table.config p.seen → TalliesAreExact q.table.config q.seen
  pub tidy : TalliesAreTidy p.table.config p.seen → TalliesAreTidy q.table.config q.seen

-- the allocations that are released in the second list, which is as long, and weren't in the first
abbrev pub newly_released : List PlacedAllocation → List PlacedAllocation → List PlacedAllocation
newly_released [] _ = []
newly_released _ [] = []
newly_released (a ∷ xs) (b ∷ ys) =
    if not a.released && b.released then b ∷ newly_released xs ys else newly_released xs ys

-- While a cycle marks, its snapshot is what is freed and unreleased, but not since its `begin`.
abbrev pub is_in_snapshot_of_cycle : PlacedAllocation → Bool
is_in_snapshot_of_cycle a = is_quarantined a && not a.fresh

-- It has the number and the storage words of the released allocations, and how many of the snapshot were kept.
pub record HasReleased (p q : PassState) (r : Released) : Type 0 where
  pub count : r.count ≡ length (newly_released (world_of p).allocations (world_of q).allocations)
  pub words : r.words
      ≡ sum_by (storage_words p.table.config) (newly_released (world_of p).allocations (world_of q).allocations)
  pub kept : count_by is_in_snapshot_of_cycle (world_of p).allocations ≡ r.kept + r.count

-- So many words that were held are held no longer.
abbrev pub HoldsFewer : PassState → PassState → ℕ → Type 0
HoldsFewer p q words =
    held_by_allocations p.table.config (world_of p).allocations
    ≡ held_by_allocations q.table.config (world_of q).allocations + words

-- From one to the other the holder looked and set tallies: what only it changes became this.
pub record Sets (becomes : Steady → Steady) (p q : PassState) : Type 0 where
  pub does : Does sets_tallies p q
  pub call : KeepsCall p q
  pub steady : steady_of (world_of q) ≡ becomes (steady_of (world_of p))
  pub counts : CountsAreLeft p.table.config p.seen q.seen
  pub gates : KeepsGates p q

-- the tallies, with this one set
abbrev pub with_tally : Tally → ℕ → Steady → Steady
with_tally Tally.Held v s = record s { held = v }
with_tally Tally.Fresh v s = record s { fresh = v }
with_tally Tally.Cycles v s = record s { cycles = v }
with_tally Tally.Released v s = record s { released = v }
with_tally Tally.Full v s = record s { full = v }

-- so many words held no longer, and one cycle and this many released allocations more
abbrev pub with_cycle_counted : Words → ℕ → ℕ → Steady → Steady
with_cycle_counted w held released s =
    record s { held = w.held - held; cycles = in_a_word (w.cycles + 1); released = in_a_word (w.released + released) }
