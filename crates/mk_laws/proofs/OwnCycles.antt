-- The cycle that the turn's holder has begun, and how far it is.
use Rattle.std.specs.Prelude.{⊤}
use Rattle.mk_laws.proofs.Vocabulary.{At, Bool, Config, Cycle, Event, Holding, List, Marking, OwnCycle, Releasing, Seat}
use Rattle.mk_laws.proofs.Vocabulary.{Step, World, ℕ, arith, eqb-true, false, if◌then◌else◌, inl, inr, is_begin}
use Rattle.mk_laws.proofs.Vocabulary.{is_close, is_end, is_release, list_any, nothing_done, phase_of, refl, subst, sym}
use Rattle.mk_laws.proofs.{Vocabulary.{true, [], ◌++◌, ◌∙◌, ◌∷◌, ◌≡◌, ◌⊎◌}, Longer.{longer_at, longer_cycle}}
use Rattle.mk_laws.proofs.Longer.{longer_marking, longer_releasing, next_at_end, none_more}
use Rattle.mk_laws.proofs.{Basics.{Meets, WorldBehind, reg_leaves, tally_keeps}, Phases.over_phase}
use Rattle.mk_core.specs.{declared.seats.OwnCycle.TheVariants.{Begun, Ended, NotBegun}, Effects.cycle_ended}

-- some event of the kind
abbrev pub some_of : (Step → Bool) → List Event → Bool
some_of kind es = list_any (λ (e : Event). kind e.step) es

-- A cycle under way, by the phase.
pub data UnderWay (es : List Event) (phase : ℕ) : Type 0 where
  Marks : (phase ≡ 1) ⊎ (phase ≡ 2) → (begin : At is_begin es) → some_of is_close begin.behind ≡ false
      → UnderWay es phase
  Stops : phase ≡ 3 → (k : Marking es) → some_of is_release k.close.at.behind ≡ false → UnderWay es phase
  Releases : phase ≡ 4 → (k : Releasing es) → some_of is_end k.release.at.behind ≡ false → UnderWay es phase

-- what these events have of a cycle, if the holder of the turn is so far in one of its own
abbrev pub HasCycle : List Event → OwnCycle → ℕ → Type 0
HasCycle es NotBegun phase = ⊤
HasCycle es Begun phase = UnderWay es phase
HasCycle es Ended phase = Cycle es

-- The step is of no kind that a cycle under way waits for.
pub record MovesNothing (x : Step) : Type 0 where
  pub close : is_close x ≡ false
  pub release : is_release x ≡ false
  pub end : is_end x ≡ false

-- how a step moves both on
pub data CycleStep (x : Step) (cycle : OwnCycle) (phase : ℕ) (next : OwnCycle) (now : ℕ) : Type 0 where
  Drops : next ≡ NotBegun → CycleStep x cycle phase next now
  Stays : MovesNothing x → next ≡ cycle → now ≡ phase → CycleStep x cycle phase next now
  Begins : is_begin x ≡ true → next ≡ Begun → now ≡ 1 → CycleStep x cycle phase next now
  Wants : is_close x ≡ false → phase ≡ 1 → next ≡ cycle → now ≡ 2 → CycleStep x cycle phase next now
  Closes : is_close x ≡ true → phase ≡ 2 → next ≡ cycle → now ≡ 3 → CycleStep x cycle phase next now
  Frees : is_release x ≡ true → phase ≡ 3 → next ≡ cycle → now ≡ 4 → CycleStep x cycle phase next now
  Ends : is_end x ≡ true → phase ≡ 4 → next ≡ cycle_ended cycle → CycleStep x cycle phase next now
  Overs : phase ≡ 0 → next ≡ cycle → CycleStep x cycle phase next now

-- each kind of step, whatever the seat

abbrev StepsAt : Config → World → Seat → Step → World → Type 0
StepsAt c w seat x v =
    CycleStep x w.now.seats.holding.cycle (phase_of w.now.words) v.now.seats.holding.cycle (phase_of v.now.words)

abbrev begun_if : World → Bool → World
begun_if w b =
    let holding : Holding = if b then nothing_done else w.now.seats.holding in
    record w { now = record w.now { seats = record w.now.seats { holding = holding } } }

pub cycle_step : (c : Config) (w : World) (seat : Seat) (x : Step) → Meets c w.now seat x
    → StepsAt c w seat x (WorldBehind c w seat x)
cycle_step c w seat x h = grind (arith, reg_leaves, tally_keeps, eqb-true, over_phase)

-- So what is said of the events is told with one more.
module _ (es : List Event) (e : Event) (phase now : ℕ) where
  pub on_way : MovesNothing e.step → now ≡ phase → UnderWay es phase → UnderWay (es ++ e ∷ []) now
  on_way off same (Marks at begin none) =
      Marks (elim at [ inl one ↦ inl (same ∙ one) | inr two ↦ inr (same ∙ two) ]) (longer_at (e ∷ []) begin)
      (none_more (λ (x : Event). is_close x.step) begin.behind e none off.close)
  on_way off same (Stops at k none) = Stops (same ∙ at) (longer_marking (e ∷ []) k)
      (none_more (λ (x : Event). is_release x.step) k.close.at.behind e none off.release)
  on_way off same (Releases at k none) = Releases (same ∙ at) (longer_releasing (e ∷ []) k)
      (none_more (λ (x : Event). is_end x.step) k.release.at.behind e none off.end)

  pub wants : is_close e.step ≡ false → phase ≡ 1 → now ≡ 2 → UnderWay es phase → UnderWay (es ++ e ∷ []) now
  wants off one two (Marks at begin none) =
      Marks (inr two) (longer_at (e ∷ []) begin) (none_more (λ (x : Event). is_close x.step) begin.behind e none off)
  wants off one two (Stops at k none) = absurd (omega arith)
  wants off one two (Releases at k none) = absurd (omega arith)

  pub closes : is_close e.step ≡ true → phase ≡ 2 → now ≡ 3 → UnderWay es phase → UnderWay (es ++ e ∷ []) now
  closes is two three (Marks at begin none) =
      Stops three (record { begin = longer_at (e ∷ []) begin; close = next_at_end begin.behind e none is }) refl
  closes is two three (Stops at k none) = absurd (omega arith)
  closes is two three (Releases at k none) = absurd (omega arith)

  frees : is_release e.step ≡ true → phase ≡ 3 → now ≡ 4 → UnderWay es phase → UnderWay (es ++ e ∷ []) now
  frees is three four (Marks at begin none) =
      elim at [ inl one ↦ absurd (omega arith) | inr two ↦ absurd (omega arith) ]
  frees is three four (Stops at k none) = Releases four
      (record { marking = longer_marking (e ∷ []) k; release = next_at_end k.close.at.behind e none is }) refl
  frees is three four (Releases at k none) = absurd (omega arith)

  ends : is_end e.step ≡ true → phase ≡ 4 → UnderWay es phase → Cycle (es ++ e ∷ [])
  ends is four (Marks at begin none) = elim at [ inl one ↦ absurd (omega arith) | inr two ↦ absurd (omega arith) ]
  ends is four (Stops at k none) = absurd (omega arith)
  ends is four (Releases at k none) =
      record { releasing = longer_releasing (e ∷ []) k; end = next_at_end k.release.at.behind e none is }

  -- if the holder's own cycle stays so far, or ends

  kept : (cycle : OwnCycle) → (UnderWay es phase → UnderWay (es ++ e ∷ []) now) → HasCycle es cycle phase
      → HasCycle (es ++ e ∷ []) cycle now
  kept NotBegun on has = tt
  kept Begun on has = on has
  kept Ended on has = longer_cycle (e ∷ []) has

  ended : (cycle : OwnCycle) → (UnderWay es phase → Cycle (es ++ e ∷ [])) → HasCycle es cycle phase
      → HasCycle (es ++ e ∷ []) (cycle_ended cycle) now
  ended NotBegun on has = tt
  ended Begun on has = on has
  ended Ended on has = longer_cycle (e ∷ []) has

  at : (next to : OwnCycle) → next ≡ to → HasCycle (es ++ e ∷ []) to now → HasCycle (es ++ e ∷ []) next now
  at next to is has = subst (λ (x : OwnCycle). HasCycle (es ++ e ∷ []) x now) (sym is) has

  pub cycle_more : {cycle next : OwnCycle} → CycleStep e.step cycle phase next now → HasCycle es cycle phase
      → HasCycle (es ++ e ∷ []) next now
  cycle_more {next} (Drops to) has = at next NotBegun to tt
  cycle_more {cycle} {next} (Stays off to same) has = at next cycle to (kept cycle (on_way off same) has)
  cycle_more {next} (Begins is to one) has =
      at next Begun to (Marks (inl one) (record { before = es; event = e; behind = []; is = refl; of_kind = is }) refl)
  cycle_more {cycle} {next} (Wants off one to two) has = at next cycle to (kept cycle (wants off one two) has)
  cycle_more {cycle} {next} (Closes is two to three) has = at next cycle to (kept cycle (closes is two three) has)
  cycle_more {cycle} {next} (Frees is three to four) has = at next cycle to (kept cycle (frees is three four) has)
  cycle_more {cycle} {next} (Ends is four to) has = at next _ to (ended cycle (ends is four) has)
  cycle_more (Overs zero to) has = grind (arith, kept)
