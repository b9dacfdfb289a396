-- Registers of no caller, and globals that nobody has stored to.
use Rattle.mk_laws.proofs.Vocabulary.{Bool, Config, Event, Flight, Invariant, Leaves, List, NeverState, Null}
use Rattle.mk_laws.proofs.Vocabulary.{OfHistories, Seat, Step, World, ℕ, ap, append_assoc, arith, at_rest, false}
use Rattle.mk_laws.proofs.Vocabulary.{flight_of, g_of, get_or-set_other, get_or_past, left, left_from, left_more, refl}
use Rattle.mk_laws.proofs.Vocabulary.{shown, slice_index, sym, true, [], ◌%◌, ◌*◌, ◌++◌, ◌+◌, ◌/◌, ◌∙◌, ◌∷◌, ◌≡◌}
use Rattle.mk_laws.proofs.Basics.{Behind, KeptByEvents, KnownWorld, at_first}
use Rattle.mk_laws.proofs.{Basics.{holds_of_histories, reg_table, tally_table}, FreeWords.of_worlds}
use Rattle.mk_laws.specs.WordLaws.{IsNeverSet, RegistersOfNoCallerAreZero, UnsetGlobalsAreZero}

no_caller : {c : Config} {w : World} {n : NeverState} → KnownWorld c w → Invariant c w n
    → RegistersOfNoCallerAreZero c w
no_caller {w} {n} known all k r past =
    let i : ℕ = 8 * k + r in
    let rest : flight_of w.now (Seat.Caller (i / 8)) ≡ at_rest =
    get_or_past w.now.seats.flights (i / 8) at_rest (omega arith) in
    let plain = ap (λ (f : Flight). shown f (i % 8) (slice_index w.now.words.registers i)) rest in
    cc (plain, all.mirrors.images.registers i, get_or_past n.registers i Null (omega arith))

pub registers_of_no_caller_are_zero : OfHistories (Leaves RegistersOfNoCallerAreZero)
registers_of_no_caller_are_zero = of_worlds (λ c w n known all. no_caller known all)

-- Only a `setg` stores to globals.

abbrev is_setg : Step → Bool
is_setg Step.Setg = true
is_setg _ = false

one_more : (c : Config) (es : List Event) (seat : Seat) (x : Step) (g : ℕ)
    → IsNeverSet c (es ++ record { seat = seat; step = x } ∷ []) g → slice_index (left c es).now.words.globals g ≡ 0
    → slice_index (Behind c (left c es).now seat x).words.globals g ≡ 0
one_more c es seat Step.Setg g never zero =
    let f = flight_of (left c es).now seat in
    get_or-set_other _ (g_of f.op) g f.p 0 (λ e. never es [] seat refl (sym e)) ∙ zero
one_more c es seat x g never zero = grind (arith, reg_table, tally_table)

first_unset : (c : Config) → UnsetGlobalsAreZero c []
unfolding left_from
first_unset c g never = at_first 64 g 0

kept : KeptByEvents UnsetGlobalsAreZero
kept c es e h unset g never = grind (arith, append_assoc, left_more, one_more)

pub unset_globals_are_zero : OfHistories UnsetGlobalsAreZero
unset_globals_are_zero = holds_of_histories UnsetGlobalsAreZero first_unset kept

pub ruleset unset_words_are_zero_facts = (registers_of_no_caller_are_zero, unset_globals_are_zero)
