-- Looks of the turn's holder leave the table as it is, but for the turn word, and the allocations.
use Rattle.mk_trace.proofs.Vocabulary.{Config, Event, PlacedAllocation, Seat, Step, Word, Words, World, has_step}
use Rattle.mk_trace.{proofs.Vocabulary.{world_behind}, specs.Peaks.greatest_from}
use Rattle.mk_heap.proofs.Below.Laws.Vocabulary.{Bool, List, ℕ, ap, arith, false, or_parts, refl, true, [], ◌∙◌, ◌∷◌}
use Rattle.mk_heap.proofs.Below.Laws.Vocabulary.{◌≡◌}
use Rattle.mk_core.specs.{History.left_from, Words.named_word}

-- All words but the turn word, and the allocations, are as they were.
pub record LeavesTable (w v : World) : Type 0 where
  pub allocations : v.allocations ≡ w.allocations
  pub words : v.now.words ≡ record w.now.words { turn = v.now.words.turn }

-- no step of one who looks at words
abbrev pub is_no_look : Step → Bool
is_no_look (Step.Take o) = false
is_no_look (Step.Look x) = false
is_no_look Step.Give = false
is_no_look _ = true

pub word_left : {w v : World} → LeavesTable w v → (x : Word) → named_word v.now.words x ≡ named_word w.now.words x
word_left {w} {v} leaves x = ap (λ (y : Words). named_word y x) leaves.words ∙ (grind arith)

pub leaves_then : {u v w : World} → LeavesTable u v → LeavesTable v w → LeavesTable u w
leaves_then one two = grind arith

step_leaves : (c : Config) (w : World) (seat : Seat) (s : Step) → is_no_look s ≡ false
    → LeavesTable w (world_behind c w (record { seat = seat; step = s }))
step_leaves c w seat x3 looks = grind arith

pub looks_leave : (c : Config) (w : World) (es : List Event) → has_step is_no_look es ≡ false
    → LeavesTable w (left_from c w es)
unfolding left_from
looks_leave c w [] looks = record { allocations = refl; words = refl }
looks_leave c w (e ∷ es) looks =
    let parts = or_parts (is_no_look e.step) (has_step is_no_look es) looks in
    leaves_then (step_leaves c w e.seat e.step parts.0) (looks_leave c (world_behind c w e) es parts.1)

-- So no measure of the allocations changes.
pub looks_measure : (c : Config) (w : World) (measure : List PlacedAllocation → ℕ) (es : List Event)
    → has_step is_no_look es ≡ false → greatest_from c w measure es ≡ measure w.allocations
unfolding greatest_from
looks_measure c w measure [] looks = refl
looks_measure c w measure (e ∷ es) looks =
    let parts = or_parts (is_no_look e.step) (has_step is_no_look es) looks in
    let rest = looks_measure c (world_behind c w e) measure es parts.1 in
    let same : measure (world_behind c w e).allocations ≡ measure w.allocations = grind (arith, step_leaves) in
    omega arith
