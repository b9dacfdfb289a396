-- Kinds of step that mark nothing.
use Rattle.mk_words.proofs.Below.Laws.Vocabulary.{Bool, Step, ℕ, arith, false, ◌≡◌}
use Rattle.mk_words.specs.Sweeping.{HaveNoMark}

pub marks_nothing : (kinds : Step → Bool) → ((page v : ℕ) → kinds (Step.Mark page v) ≡ false) → HaveNoMark kinds
marks_nothing kinds none x2 h = grind arith
