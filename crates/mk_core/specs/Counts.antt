-- What the tallies count, and when a free is due.
use Rattle.std.specs.Prelude.{◌≡◌, ℕ, ◌-◌, ◌*◌, ◌^◌, ◌<◌, Bool, true, false, min, List, [], ◌∷◌, ◌++◌, count_by}
use Rattle.std.specs.Prelude.{is_some}
use Rattle.mk_core.specs.declared.{config.Config.Config, events.{Answer.Answer, Step.Step}}
use Rattle.mk_core.specs.{declared.{events.Event.Event, seats.Flight.Flight}, Moments.{Moment, flight_of}}
use Rattle.mk_core.specs.{TurnConditions.cell_freed, Allocations.{PlacedAllocation, held_by_allocations}}
use Rattle.mk_core.specs.{Allocations.fresh_words_of, Calls.answered, History.{left, calls}, Cycles.is_end}

-- how many cycles ended
abbrev pub ends : List Event → ℕ
ends es = count_by (λ (e : Event). is_end e.step) es

-- how many of the allocations are released
abbrev pub releases : List PlacedAllocation → ℕ
releases xs = count_by (λ (a : PlacedAllocation). a.released) xs

-- it is Full
abbrev pub is_full_answer : Answer → Bool
is_full_answer Answer.Full = true
is_full_answer _ = false

-- how many calls were answered Full
abbrev pub full_answers : Config → List Event → ℕ
full_answers c es = count_by is_full_answer (answered (calls c es))

-- A number above 2^64 - 1 stands in a word as 2^64 - 1.
abbrev pub in_a_word : ℕ → ℕ
in_a_word n = min n (2 ^ 64 - 1)

-- the tallies of cycles, released allocations and Full answers
pub record TalliesAreTidy (c : Config) (es : List Event) : Type 0 where
  pub cycles : (left c es).now.words.cycles ≡ in_a_word (ends es)
  pub released : (left c es).now.words.released ≡ in_a_word (releases (left c es).allocations)
  pub full : (left c es).now.words.full ≡ in_a_word (full_answers c es)

-- A list is tidy if they are so before each `give`.
abbrev pub IsTidy : Config → List Event → Type 0
IsTidy c es =
    (before : List Event) (e : Event) (behind : List Event)
    → es ≡ before ++ e ∷ behind → e.step ≡ Step.Give → TalliesAreTidy c before

-- The tallies of held and fresh words are those of the allocations.
pub record TalliesAreExact (c : Config) (es : List Event) : Type 0 where
  pub held : (left c es).now.words.held ≡ held_by_allocations c (left c es).allocations
  pub fresh : (left c es).now.words.fresh ≡ in_a_word (fresh_words_of c (left c es).allocations)

-- the step decides that a Free has freed its object
abbrev pub decides_freed : Config → Moment → Flight → Step → Bool
decides_freed c m f (Step.Quar p v) = is_some (cell_freed c.pages m.words f p v)
decides_freed c m f _ = false

-- A free is due if more than a quarter of the held words is fresh after the event that decides it.
pub record IsDue (c : Config) (es : List Event) (e : Event) : Type 0 where
  pub decides : decides_freed c (left c es).now (flight_of (left c es).now e.seat) e.step ≡ true
  pub quarter : held_by_allocations c (left c (es ++ e ∷ [])).allocations < 4 * fresh_words_of c
      (left c (es ++ e ∷ [])).allocations
