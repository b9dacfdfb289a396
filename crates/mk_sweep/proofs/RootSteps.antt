-- Roots that a sweep marks from, one after the other.
use Rattle.mk_sweep.proofs.Vocabulary.{MarksMore, SweepsOn, TurnState, points_well, still_words}
use Rattle.mk_sweep.{proofs.SweepSteps.{quiet_then, sweeps_from}, specs.Sweeps.{IsSweeping}}
use Rattle.mk_cycle.proofs.{Below.Laws.Vocabulary.{Word, ℕ, refl, true, [], ◌+◌, ◌≡◌}, MoreMarks.more_same}
use Rattle.mk_cycle.{proofs.RootMarks.{RootsMarked, next_root, no_root_yet}, specs.Stops.{is_root}}
use Rattle.mk_core.specs.Words.{named_word}

-- The sweep goes on, and what each root below one pointed into is marked.
pub record RootsSwept (pages : ℕ) (t u : TurnState) (root : ℕ → Word) (n : ℕ) : Type 0 where
  pub on : SweepsOn t u []
  pub roots : RootsMarked pages (still_words t.pass) (still_words u.pass) root n

pub no_root_swept : {pages : ℕ} {t : TurnState} {root : ℕ → Word} → IsSweeping t.pass → RootsSwept pages t t root 0
no_root_swept sweeping = record { on = sweeps_from _ sweeping; roots = no_root_yet (more_same _ _ refl) }

pub next_root_swept : {pages : ℕ} {t u v : TurnState} {root : ℕ → Word} {i : ℕ} → ((k : ℕ) → is_root (root k) ≡ true)
    → RootsSwept pages t u root i → SweepsOn u v [] → MarksMore (still_words u.pass) (still_words v.pass)
    → points_well pages (still_words v.pass) (named_word (still_words u.pass) (root i)) ≡ true
    → RootsSwept pages t v root (i + 1)
next_root_swept are before on more here =
    record { on = quiet_then before.on on; roots = next_root are before.roots more here }
