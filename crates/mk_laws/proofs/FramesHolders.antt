-- Who steps: the turn's holder, or a seat whose step no gate, phase or word of the turn's is asked for.
use Rattle.std.proofs.Common.{arith}
use Rattle.mk_laws.proofs.Vocabulary.{Caller, Config, Flight, Group, Holds, Moment, Seat, Step, ℕ, ap}
use Rattle.mk_laws.proofs.Vocabulary.{group_of, has_gates, has_phase, holder_may, refl, sym, true}
use Rattle.mk_laws.proofs.{Vocabulary.{◌∙◌, ◌≡◌}, Basics.{Actor, HoldsTurn}}
use Rattle.mk_laws.proofs.Basics.{Orderly, not_astray, view_of}
use Rattle.mk_laws.proofs.Standings.{in_turn_told, is_standing_under_turn}
pub use Rattle.mk_laws.proofs.LayoutHolders.{acts_as_holder}

-- who holds the turn by what the protocol reads holds it by its call
pub holds_is : (c : Config) (m : Moment) (seat : Seat) → Orderly c (view_of m) → HoldsTurn c (view_of m) seat
    → Holds c m seat
holds_is c m (Caller k) o t = (t.0, sym (in_turn_told _ _ (not_astray c m o k t.0)) ∙ ap is_standing_under_turn t.1)
holds_is c m _ o t = t

-- What is asked only of the holder is asked of no other.
pub record AsksNothing (c : Config) (m : Moment) (s : Seat) (f : Flight) (n : ℕ) (x : Step) : Type 0 where
  pub gates : has_gates c m.words s f x ≡ true
  pub phase : has_phase n x ≡ true
  pub holder : holder_may c m f x ≡ true

marker_asks_nothing : (c : Config) (m : Moment) (s : Seat) (f : Flight) (n : ℕ) (x : Step) → group_of x ≡ Group.Markers
    → AsksNothing c m s f n x
marker_asks_nothing c m s f n Step.Attend g = record { gates = refl; phase = refl; holder = refl }
marker_asks_nothing c m s f n _ g = record { gates = cc; phase = cc; holder = cc }

-- A step is its holder's, or nothing is asked for it, at whatever moment.
pub data Asks (c : Config) (m : Moment) (s : Seat) (x : Step) : Type 0 where
  OfHolder : HoldsTurn c (view_of m) s → Asks c m s x
  OfNone : ((n : Moment) (f : Flight) (phase : ℕ) → AsksNothing c n s f phase x) → Asks c m s x

pub asks : {c : Config} {m : Moment} {s : Seat} {x : Step} → Actor c m s x → Asks c m s x
asks actor = grind (arith, marker_asks_nothing)
