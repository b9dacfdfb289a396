-- The moment after an event, and steps that leave the words of the protocol as they are.
use Rattle.mk_laws.proofs.Vocabulary.{Access, Config, Flight, Holding, List, Load, MarkerState, Moment, Named, Seat}
use Rattle.mk_laws.proofs.Vocabulary.{Step, Store, Tally, Word, Words, ℕ, accessed, found, refl, tally_word, ◌≡◌}
use Rattle.mk_core.specs.Effects.{moment_behind}
use Rattle.mk_laws.proofs.{ProtocolMoves.Move, Views.View, Views.view_of}

abbrev pub Behind : Config → Moment → Seat → Step → Moment
Behind c m seat x = moment_behind c m (record { seat = seat; step = x })

abbrev pub Moves : Config → Moment → Seat → Step → Type 0
Moves c m seat x = Move c (view_of m) seat (view_of (Behind c m seat x))

abbrev pub finds : Config → Moment → Seat → Step → ℕ
finds c m seat x = found c m (record { seat = seat; step = x })

-- the words of the protocol stay as they are
pub record Keeps (w x : Words) : Type 0 where
  pub turn : x.turn ≡ w.turn
  pub phase : x.phase ≡ w.phase
  pub gates : x.gates ≡ w.gates

pub reg_keeps : (w : Words) (k r : ℕ) (a : Access) → Keeps w (accessed w (Named (Word.Reg k r)) a)
reg_keeps w k r Load = record { turn = refl; phase = refl; gates = refl }
reg_keeps w k r _ = record { turn = refl; phase = refl; gates = refl }

pub tally_keeps : (w : Words) (n : Tally) (v : ℕ) → Keeps w (accessed w (Named (tally_word n)) (Store v))
tally_keeps w Tally.Held v = record { turn = refl; phase = refl; gates = refl }
tally_keeps w _ v = record { turn = refl; phase = refl; gates = refl }

-- a view of these words
abbrev pub view_by : Words → List Flight → Holding → List MarkerState → View
view_by w fs h ms = record { turn = w.turn; phase = w.phase; gates = w.gates; flights = fs; holding = h; markers = ms }

-- a move, if the words of the protocol stay as they are
pub with_words : {c : Config} {v : View} {seat : Seat} {w x : Words} (fs : List Flight) (h : Holding)
    (ms : List MarkerState) → Keeps w x → Move c v seat (view_by w fs h ms) → Move c v seat (view_by x fs h ms)
with_words fs h ms same move = rw same.turn (rw same.phase (rw same.gates move))
