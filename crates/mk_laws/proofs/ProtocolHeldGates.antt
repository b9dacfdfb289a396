-- A gate is 2 exactly if the last event that changed it is a `hold`.
use Rattle.mk_laws.proofs.Vocabulary.{Bool, Config, Event, List, Moment, Seat, Step, World, ℕ, ap, caller_number}
use Rattle.mk_laws.proofs.Vocabulary.{cases_eq, cases_lt, eq-eqb, eqb-false, eqb-true, false, first_world, flight_of}
use Rattle.mk_laws.proofs.Vocabulary.{get_or-set_other, get_or-set_same, if◌then◌else◌, inl, inr, left, left_from}
use Rattle.mk_laws.proofs.Vocabulary.{length, ne_eqb, not, not-true, refl, reg_access, register_met, set_past}
use Rattle.mk_laws.proofs.Vocabulary.{slice_index, slice_set, sym, true, world_behind, [], ◌==◌, ◌↔◌, ◌∙◌, ◌∷◌, ◌≡◌}
use Rattle.mk_laws.proofs.{Vocabulary.◌≢◌, Basics.{Behind, at_first, reg_keeps, tally_keeps}}
use Rattle.mk_core.specs.History.{changes_gate, is_gate_held, is_gate_held_from, is_hold_of}

-- a gate that changes has the value that was set
unchanged : (gs : List ℕ) (i : ℕ) → not (slice_index gs i == slice_index gs i) ≡ true → ⊥
unchanged gs i h = let e : true ≡ false = sym (eq-eqb _ _ refl) ∙ not-true _ h in cc

record Changed (gs : List ℕ) (j x i : ℕ) : Type 0 where
  same : i ≡ j
  now : slice_index (slice_set gs j x) i ≡ x
  other : x ≢ slice_index gs j

changed : (gs : List ℕ) (j x i : ℕ) → not (slice_index (slice_set gs j x) i == slice_index gs i) ≡ true
    → Changed gs j x i
changed gs j x i h = elim (cases_eq i j) [
  | inl e ↦ elim (cases_lt j (length gs)) [
    | inl lt ↦
        let now : slice_index (slice_set gs j x) i ≡ x = rw e (get_or-set_same gs j x 0 lt) in
        let ne = eqb-false _ _ (not-true _ h) in
        record { same = e; now = now; other = λ old. ne (now ∙ old ∙ ap (slice_index gs) (sym e)) }
    | inr past ↦ absurd (unchanged gs i (rw (set_past gs j x past) at h))
  ]
  | inr ne ↦ absurd (unchanged gs i (rw (get_or-set_other gs j i x 0 ne) at h))
]

-- a value that isn't 2, and an exchange of 0 for a value

set_told : (gs : List ℕ) (j x i : ℕ) → (x == 2) ≡ false
    → not (slice_index (slice_set gs j x) i == slice_index gs i) ≡ true
    → (slice_index (slice_set gs j x) i == 2) ≡ false
set_told gs j x i other h = rw (changed gs j x i h).now other

exchanged : (n g : ℕ) → (if g == 0 then n else g) ≢ g → (if g == 0 then n else g) ≡ n
exchanged n g ne = by (g == 0) ne
  where
    by : (b : Bool) → (if b then n else g) ≢ g → (if b then n else g) ≡ n
    by true h = refl
    by false h = absurd (h refl)

exchange_told : (gs : List ℕ) (j n i : ℕ)
    → not (slice_index (slice_set gs j (if slice_index gs j == 0 then n else slice_index gs j)) i == slice_index gs i)
    ≡ true → (i ≡ j) × (slice_index (slice_set gs j (if slice_index gs j == 0 then n else slice_index gs j)) i ≡ n)
exchange_told gs j n i h =
    let x = changed gs j _ i h in
    (x.same, x.now ∙ exchanged n _ x.other)

gate_told : (c : Config) (m : Moment) (seat : Seat) (x : Step) (i : ℕ)
    → not (slice_index (Behind c m seat x).words.gates i == slice_index m.words.gates i) ≡ true
    → (slice_index (Behind c m seat x).words.gates i == 2) ≡ is_hold_of i x
gate_told c m seat (Step.Enter o) i h = ap (λ y. y == 2) (exchange_told m.words.gates (caller_number seat) 1 i h).1
gate_told c m seat Step.Leave i h = set_told m.words.gates (caller_number seat) 0 i refl h
gate_told c m seat (Step.Hold j) i h =
    let e = exchange_told m.words.gates j 2 i h in
    ap (λ y. y == 2) e.1 ∙ sym (eq-eqb i j e.0)
gate_told c m seat (Step.Open j) i h = set_told m.words.gates j 0 i refl h
gate_told c m seat Step.Reg i h =
    let same = (reg_keeps m.words (caller_number seat) (register_met (flight_of m seat) (flight_of m seat).stage)
    (reg_access (flight_of m seat) (flight_of m seat).stage)).gates in
    absurd (unchanged m.words.gates i (rw same at h))
gate_told c m seat (Step.Tally n v) i h = absurd (unchanged m.words.gates i (rw (tally_keeps m.words n v).gates at h))
gate_told c m seat _ i h = absurd (unchanged m.words.gates i h)

-- one event, and many
held_behind : (c : Config) (w : World) (e : Event) (i : ℕ) (held : Bool) → held ≡ (slice_index w.now.words.gates i == 2)
    → (if changes_gate i w (world_behind c w e) then is_hold_of i e.step else held)
    ≡ (slice_index (world_behind c w e).now.words.gates i == 2)
held_behind c w e i held is = by (changes_gate i w (world_behind c w e)) refl
  where
    by : (b : Bool) → changes_gate i w (world_behind c w e) ≡ b
        → (if b then is_hold_of i e.step else held) ≡ (slice_index (world_behind c w e).now.words.gates i == 2)
    by true h = sym (gate_told c w.now e.seat e.step i h)
    by false h = is ∙ elim
        (cases_eq (slice_index (world_behind c w e).now.words.gates i) (slice_index w.now.words.gates i)) [
          | inl same ↦ rw (← same)
          | inr ne ↦ let x : false ≡ true = sym h ∙ ap not (ne_eqb _ _ ne)
              in cc
        ]

held_from : (c : Config) (w : World) (es : List Event) (i : ℕ) (held : Bool)
    → held ≡ (slice_index w.now.words.gates i == 2)
    → is_gate_held_from c i w held es ≡ (slice_index (left_from c w es).now.words.gates i == 2)
unfolding left_from is_gate_held_from
held_from c w [] i held is = is
held_from c w (e ∷ es) i held is =
    held_from c (world_behind c w e) es i (if changes_gate i w (world_behind c w e) then is_hold_of i e.step else held)
    (held_behind c w e i held is)

pub gates_tell_holds : (c : Config) (es : List Event) (i : ℕ)
    → (slice_index (left c es).now.words.gates i ≡ 2) ↔ (is_gate_held c i es ≡ true)
gates_tell_holds c es i =
    let is = held_from c (first_world c) es i false (sym (ap (λ y. y == 2) (at_first 16 i 0))) in (
      λ two. is ∙ eq-eqb _ 2 two,
      λ held. eqb-true _ 2 (sym is ∙ held),
    )
