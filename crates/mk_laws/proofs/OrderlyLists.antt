-- All is in order after every enabled list.
use Rattle.std.proofs.{Common.replicate, lemmas.List.get_or-replicate, lemmas.List.length-replicate}
use Rattle.mk_laws.proofs.Vocabulary.{Caller, Config, MarkerState as Marker, Moment, Seat, Step, ℕ, ap, arith, at_rest}
use Rattle.mk_laws.proofs.Vocabulary.{cases_lt, false, first_moment, flight_of, get_or_past, inl, inr, is_attending}
use Rattle.mk_laws.proofs.Vocabulary.{outside, refl, slice_index_or, sym, ◌<◌, ◌∙◌, ◌≡◌, ◌≤◌}
use Rattle.mk_laws.proofs.Standings.{is_astray, shown_not_astray, standing}
use Rattle.mk_laws.proofs.{Actors.Actor, Actors.Meets, Actors.acts, Orderly.Orderly, ProtocolKept.kept}
use Rattle.mk_laws.proofs.{ProtocolMoves.Move, SameWords.Behind, Services.nothing_served, Sorts.moves, Views.view_of}

-- no call is astray, so each event is someone's

pub not_astray : (c : Config) (m : Moment) → Orderly c (view_of m) → (k : ℕ) → k < c.callers
    → is_astray (standing (flight_of m (Caller k))) ≡ false
not_astray c m h k lt = shown_not_astray m.words.turn _ k _ (h.each k lt)

pub actor_of : (c : Config) (m : Moment) (seat : Seat) (x : Step) → Orderly c (view_of m) → Meets c m seat x
    → Actor c m seat x
actor_of c m seat x o h = acts c m seat x (not_astray c m o) h

pub event_moves : (c : Config) (m : Moment) (seat : Seat) (x : Step) → Orderly c (view_of m) → Meets c m seat x
    → Move c (view_of m) seat (view_of (Behind c m seat x))
event_moves c m seat x o h = moves (not_astray c m o) (actor_of c m seat x o h) h

-- one event, and many

pub orderly_behind : {c : Config} (m : Moment) (seat : Seat) (x : Step) → c.callers ≤ 16 → Orderly c (view_of m)
    → Meets c m seat x → Orderly c (view_of (Behind c m seat x))
orderly_behind {c} m seat x small o h = kept small o (event_moves c m seat x o h)

pub at_first : {A : Type 0} (n k : ℕ) (x : A) → slice_index_or (replicate n x) k x ≡ x
at_first n k x = elim (cases_lt k n) [
  | inl lt ↦ get_or-replicate n k x x lt
  | inr le ↦ get_or_past (replicate n x) k x (omega (arith, length-replicate n x))
]

pub orderly_at_first : (c : Config) → c.callers ≤ 16 → Orderly c (view_of (first_moment c))
orderly_at_first c small = record {
  flights = length-replicate c.callers at_rest;
  gates = refl;
  markers = refl;
  turn = omega arith;
  each = grind (arith, at_first);
  served = nothing_served _ _;
  free = λ e. refl;
  phase = refl;
  low = omega arith;
  cycle = λ a b. absurd (omega arith);
  stopped = λ e. absurd (omega arith);
  attends = λ k a. let e = ap (λ (x : Marker). is_attending x.presence) (sym (at_first 8 k outside)) ∙ a in cc;
  idle = grind (arith, at_first);
}
