-- What is touched is the least set that is closed under pointers along the cycle.
use Rattle.mk_core.proofs.Vocabulary.{Bool, Config, Event, IsClosedAlong, List, Marking, ℕ, true, ◌≡◌}
use Rattle.mk_core.specs.Cycles.{IsTouched, TouchedIsClosed, TouchedIsLeast, by_global, by_register, by_word}

pub touched_is_closed : (c : Config) {es : List Event} (k : Marking es) → TouchedIsClosed c k
touched_is_closed c k = record { registers = by_register; globals = by_global; words = by_word }

pub touched_is_in : (c : Config) (es : List Event) (k : Marking es) (S : ℕ → Type 0) → IsClosedAlong c k S → (b : ℕ)
    → IsTouched c k b → S b
touched_is_in c es k S closed _ (by_register front i b at points) = closed.registers front i b at points
touched_is_in c es k S closed _ (by_global front g b at points) = closed.globals front g b at points
touched_is_in c es k S closed _ (by_word front a n b at touched inside points) =
    closed.words front a n b at (touched_is_in c es k S closed a touched) inside points

pub touched_is_least : (c : Config) {es : List Event} (k : Marking es) (S : ℕ → Bool) → TouchedIsLeast c k S
touched_is_least c {es = es} k S closed = touched_is_in c es k (λ b. S b ≡ true) closed
