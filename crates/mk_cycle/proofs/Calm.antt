-- Steps of the turn's holder that go on with its call and with what it has done in its turn as they were.
use Rattle.mk_words.proofs.Below.Laws.Vocabulary.{Bool, Cell, Config, Flight, Holding, Moment, None, Option, Seat, Step}
use Rattle.mk_words.proofs.Below.Laws.Vocabulary.{Word, Words, ℕ, arith, cell_freed, false, if◌then◌else◌, is_end}
use Rattle.mk_words.proofs.Below.Laws.Vocabulary.{is_heap_store, is_phase, not, progress, sees_double, still, target}
use Rattle.mk_words.proofs.Below.Laws.Vocabulary.{true, ◌&&◌, ◌≡◌}
use Rattle.mk_cycle.proofs.{Vocabulary.{holding_behind, is_pending_free}, OwnSteps.done_in}
use Rattle.mk_core.specs.Effects.{progress_look}

-- these kinds
abbrev pub is_calm : Step → Bool
is_calm (Step.Look x) = true
is_calm (Step.Quar p v) = true
is_calm (Step.Tally n v) = true
is_calm (Step.Hold j) = true
is_calm (Step.Open j) = true
is_calm (Step.Clear p) = true
is_calm (Step.Wipe n) = true
is_calm Step.Close = true
is_calm Step.Release = true
is_calm Step.Want = true
is_calm (Step.Undirty p) = true
is_calm (Step.Black p v) = true
is_calm (Step.Unblack p) = true
is_calm _ = false

-- A call that isn't an undecided Free has no target.

pub no_target : (pages : ℕ) (w : Words) (f : Flight) → is_pending_free f ≡ false → target pages w f ≡ None
no_target pages w f h = grind arith

sees_none : (w : Words) (x : Word) → sees_double w None x ≡ false
sees_none w x = grind arith

pub look_still : (c : Config) (w : Words) (f : Flight) (x : Word) → is_pending_free f ≡ false
    → progress_look c w f x ≡ still f
look_still c w f x h = cc (no_target c.pages w f h, sees_none w x)

none_either_way : (b : Bool) → (if b then None else None) ≡ (let n : Option Cell = None in n)
none_either_way x0 = grind arith

pub frees_none : (pages : ℕ) (w : Words) (f : Flight) (p v : ℕ) → is_pending_free f ≡ false
    → cell_freed pages w f p v ≡ None
frees_none pages w f p v h = cc (no_target pages w f h, none_either_way (not (is_phase w 4) && false))

pub calm_still : (c : Config) (m : Moment) (f : Flight) (n : ℕ) (s : Step) → is_calm s ≡ true
    → is_pending_free f ≡ false → progress c m f n s ≡ still f
calm_still c m f n x4 h free = grind (arith, look_still, frees_none)

pub calm_done : (c : Config) (m : Moment) (seat : Seat) (f : Flight) (n : ℕ) (s : Step) (h : Holding) → is_calm s ≡ true
    → is_pending_free f ≡ false → done_in (holding_behind c m seat f n s h) ≡ done_in h
calm_done c m seat f n x5 h kind free = grind (arith, done_in, frees_none)

-- Kinds of step among which no heap word is stored to, and none that ends a cycle.

pub stores_none : (kinds : Step → Bool) → kinds Step.Write ≡ false → kinds Step.Cas ≡ false → (s : Step)
    → kinds s ≡ true → is_heap_store s ≡ false
stores_none kinds write cas x3 h = grind arith

pub ends_none : (kinds : Step → Bool) → kinds Step.End ≡ false → (s : Step) → kinds s ≡ true → is_end s ≡ false
ends_none kinds none x2 h = grind arith
