-- What a look at the turn, at a gate and at the phase says.
use Rattle.mk_laws.proofs.Vocabulary.{Caller, Config, Event, Holds, Host, List, Moment, Presence, Protocol, Seat, ℕ}
use Rattle.mk_laws.proofs.Vocabulary.{arith, cases_Bool, cases_eq, cases_lt, false, get_or_past, inl, inr, is_attending}
use Rattle.mk_laws.proofs.Vocabulary.{is_in, left, marker_of, not, true, ◌-◌, ◌/◌, ◌<◌, ◌≡◌, ◌≤◌}
use Rattle.mk_core.specs.MarkingConditions.{is_out}
use Rattle.mk_core.proofs.WhoHoldsWhat.{GateTells, PhaseTells, TurnTells}
use Rattle.mk_laws.proofs.{Orderly.count_in-at, ProtocolHeldGates.gates_tell_holds, Protocols.lists_keep_the_protocol}
use Rattle.mk_laws.proofs.HolderReadings.{WordsTell}

turn_tells : {c : Config} {m : Moment} → Protocol c m → TurnTells c m
turn_tells {c} {m} p = record {
  least = p.turn;
  caller = p.holder;
  nobody = (
    held,
    λ none. elim (cases_eq m.words.turn 0) [
      | inl z ↦ z
      | inr some ↦ elim (cases_lt (m.words.turn - 1) c.callers) [
        | inl lt ↦ absurd (none (Caller (m.words.turn - 1)) (lt, (p.holder _ lt).0 (omega arith)))
        | inr past ↦ let most = p.turn in absurd (none Host (omega arith))
      ]
    ],
  );
}
  where
    held : m.words.turn ≡ 0 → (s : Seat) → Holds c m s → ⊥
    held z s h = grind arith

attending_in : (p : Presence) → is_attending p ≡ true → not (is_out p) ≡ true
attending_in p h = grind arith

-- a marker that is in is one of the eight, and counts
pub in_counts : {c : Config} {m : Moment} (k : ℕ) → Protocol c m → is_in (marker_of m k) ≡ true → 1 ≤ m.words.phase / 8
in_counts k p is = grind (arith, cases_lt, count_in-at, get_or_past)

phase_tells : {c : Config} {m : Moment} → Protocol c m → PhaseTells c m
phase_tells {c} {m} p = record {
  low = p.low;
  high = p.high;
  none_in = λ z k. none k (λ a. let one = in_counts k p (attending_in _ a) in absurd (omega arith));
  attends = λ n1 n2 k. none k (λ a. elim (p.attends k a) [ inl e ↦ n1 e | inr e ↦ n2 e ]);
  under_the_turn = p.cycle;
  stopped = p.stopped;
}
  where
    none : (k : ℕ) → (is_attending (marker_of m k).presence ≡ true → ⊥) → is_attending (marker_of m k).presence ≡ false
    none k no_one = elim (cases_Bool (is_attending (marker_of m k).presence)) [ inl a ↦ absurd (no_one a) | inr a ↦ a ]

gate_tells : {c : Config} (es : List Event) (k : ℕ) → Protocol c (left c es).now → k < c.callers → GateTells c es k
gate_tells es k p lt = grind (arith, gates_tell_holds)

pub words_tell : WordsTell
words_tell c es limits on =
    let p = lists_keep_the_protocol c es limits on in
    grind (arith, turn_tells, gate_tells, phase_tells)
