-- A small trace that is played: a store through a slot that is null, which is refused, and a new object.
use Rattle.mk_trace.proofs.Vocabulary.{A, Caller, Config, Contents, Event, IsHistory, IsOfSomeTraceText, IsTidy, Op}
use Rattle.mk_trace.proofs.Vocabulary.{Step, TalliesAreTidy, W, World, answered, calls, codes, config_of, first_world}
use Rattle.mk_trace.proofs.Vocabulary.{Host, Marker, Seat, flight_of, has_step, is_begin, left, lets_go, none_at}
use Rattle.mk_trace.proofs.Vocabulary.{peaks_of, refused_events, seat_exists}
use Rattle.mk_trace.proofs.{Vocabulary.world_behind, ExactPlays.nothing_given, Playable.is_playable}
use Rattle.mk_heap.proofs.Below.Laws.Vocabulary.{List, None, Some, Tally, ap, arith, false, or_parts, refl, subst, sym}
use Rattle.mk_heap.proofs.Below.Laws.Vocabulary.{true, []}
use Rattle.mk_heap.proofs.Below.Laws.{Vocabulary.{◌++◌, ◌∙◌, ◌∷◌, ◌≡◌}, Promises.histories_keep_all_promises}
use Rattle.mk_core.proofs.{Schedules.{by, c0, fault, first_fault}, EvaluatedHistories.enabled, EventsAt.{Also, AtEach}}
use Rattle.mk_core.proofs.EventsAt.{at_each, ◌and◌}
use Rattle.mk_core.specs.{Allocations.unreleased_storage, Words.all_below, Cells.pointed_cell}
use Rattle.mk_core.specs.{Cycles.{NoneSweepsFrom, is_give}, History.{CallsAreAdmitted, calls_from, left_from}}
use Rattle.mk_heap.proofs.Below.Objects.{ListParts.lacks_second, OwnGives.{none_more, one_more}}
use Rattle.mk_heap.proofs.Below.{Objects.Bounds.quarantine_of_one_is_bounded, Words.Sweeping.other_steps_sweep}
use Rattle.mk_heap.specs.Below.Objects.TurnCycles.{EndsExactly, TurnsOfAreExact, is_hold}
use Rattle.mk_heap.specs.{Below.Words.Sweeping.is_mark, Hosts.{Rests, no_table}}
use Rattle.mk_heap.proofs.{Below.Words.Seats.has_all, HostsKept.first_is_host}
use Rattle.mk_core.specs.Moments.{first_moment}
use Rattle.mk_heap.{proofs.UnsweptHistories.{unswept_is_precise}, specs.Unswept.{IsUnswept}}
use Rattle.mk_trace.specs.{Grammar.along, Peaks.{found_by_ends_from, greatest_from}, Playing.IsPlayed}
use Rattle.mk_heap.specs.Below.Cycles.TurnKeeps.{is_want}

unfoldable pub stored_and_made : Contents
stored_and_made = record { pages = 1; resident = 1; slots = 2 ∷ []; events = W 0 1 5 ∷ A 0 ∷ [] }

is_of_text : IsOfSomeTraceText stored_and_made
unfolding stored_and_made along
is_of_text = (codes "trace 1 1\nslot x 2\nw x 1 5\na x\n", refl)

unfoldable pub played : List Event
played =
    by c0 (Step.Enter (Op.GetGlobal 0 0) ∷ Step.Getg ∷ Step.Reg ∷ Step.Leave ∷ []) ++ by c0 (Step.Enter
    (Op.SetNum 0 1 5) ∷ Step.Reg ∷ Step.Leave ∷ []) ++ by c0 (Step.Enter (Op.Clear 0) ∷ Step.Reg ∷ Step.Leave ∷ []) ++
    by c0 (Step.Take (Some (Op.New 0 0 false)) ∷ Step.Head 0 1 ∷ Step.Used 0 1 ∷ Step.Grant ∷ Step.Tally Tally.Held 2 ∷
    Step.Give ∷ []) ++ by c0 (Step.Enter (Op.SetGlobal 0 0) ∷ Step.Reg ∷ Step.Setg ∷ Step.Leave ∷ []) ++ by c0
    (Step.Enter (Op.Clear 0) ∷ Step.Reg ∷ Step.Leave ∷ [])

-- up to the take of the New, and from there up to its give, and what comes after it

unfoldable stored : List Event
stored =
    by c0 (Step.Enter (Op.GetGlobal 0 0) ∷ Step.Getg ∷ Step.Reg ∷ Step.Leave ∷ []) ++ by c0 (Step.Enter
    (Op.SetNum 0 1 5) ∷ Step.Reg ∷ Step.Leave ∷ []) ++ by c0 (Step.Enter (Op.Clear 0) ∷ Step.Reg ∷ Step.Leave ∷ [])

unfoldable making : List Event
making = by c0 (Step.Head 0 1 ∷ Step.Used 0 1 ∷ Step.Grant ∷ Step.Tally Tally.Held 2 ∷ [])

unfoldable behind : List Event
behind =
    by c0 (Step.Enter (Op.SetGlobal 0 0) ∷ Step.Reg ∷ Step.Setg ∷ Step.Leave ∷ [])
    ++ by c0 (Step.Enter (Op.Clear 0) ∷ Step.Reg ∷ Step.Leave ∷ [])

abbrev upto_give : List Event
upto_give = stored ++ record { seat = Caller 0; step = Step.Take (Some (Op.New 0 0 false)) } ∷ making

abbrev gives : Event
gives = record { seat = Caller 0; step = Step.Give }

no_fault : first_fault (config_of stored_and_made) played ≡ None
unfolding first_fault fault by c0 all_below pointed_cell stored_and_made played
no_fault = refl

are_admitted : CallsAreAdmitted (config_of stored_and_made) played
unfolding by c0 all_below pointed_cell stored_and_made played left_from calls_from
are_admitted = grind arith

parts : (upto_give ++ gives ∷ []) ++ behind ≡ played
unfolding by c0 stored making behind played
parts = refl

-- The New does nothing with cycles, and nothing is freed or released in its turn.
ends_exactly : EndsExactly false (config_of stored_and_made) (Caller 0) upto_give
unfolding by c0 all_below pointed_cell stored_and_made stored making left_from
ends_exactly = record {
  turn = record { before = stored; op = Some _; behind = making; is = refl; took = refl; goes_on = refl };
  exact = record {
    begins = λ b. absurd (none_at is_begin making refl b);
    ends = λ w. absurd (none_at is_want making refl w);
    holds = λ h. absurd (none_at is_hold making refl h);
    one = λ b. absurd (none_at is_begin making refl b);
    keeps = λ g. (or_parts (lets_go g.event.step) (has_step lets_go g.behind)
        (lacks_second lets_go g.before (g.event ∷ g.behind) (ap (has_step lets_go) (sym g.is) ∙ refl))).1;
  };
}

are_exact : TurnsOfAreExact false (config_of stored_and_made) (Caller 0) played
unfolding by c0 stored making behind
are_exact =
    let c = config_of stored_and_made in
    subst (TurnsOfAreExact false c (Caller 0)) parts (none_more false c (Caller 0) (upto_give ++ gives ∷ []) behind refl
    (one_more false c (Caller 0) upto_give gives
    (none_more false c (Caller 0) [] upto_give refl (nothing_given false c (Caller 0))) ends_exactly))

none_marks : (c : Config) (w : World) (es : List Event) → has_step is_mark es ≡ false → NoneSweepsFrom c w es
unfolding NoneSweepsFrom
none_marks c w [] h = tt
none_marks c w (e ∷ es) h =
    let each = or_parts (is_mark e.step) (has_step is_mark es) h in
    (other_steps_sweep c w.now (flight_of w.now e.seat) e.step each.0, none_marks c (world_behind c w e) es each.1)

is_unswept : IsUnswept (config_of stored_and_made) played
unfolding by c0 played
is_unswept = none_marks (config_of stored_and_made) (first_world (config_of stored_and_made)) played refl

is_tidy : IsTidy (config_of stored_and_made) played
unfolding by c0 all_below pointed_cell stored_and_made played left_from calls_from AtEach Also
is_tidy before e behind is give =
    at_each is_give (λ (es : List Event) (x : Event). TalliesAreTidy (config_of stored_and_made) es) [] played
    (record { cycles = refl; released = refl; full = refl } and tt) before e behind is (ap is_give give)

is_history : IsHistory (config_of stored_and_made) played
is_history = grind (arith, is_playable, stored_and_made, is_of_text, enabled, played, no_fault, are_admitted)

-- No call is in flight at its end, and no marker is in, as at first.

at_first : (s : Seat) → seat_exists (config_of stored_and_made) s ≡ true
    → Rests (first_moment (config_of stored_and_made)) s
unfolding left_from
at_first s exists =
    let c = config_of stored_and_made in
    (first_is_host (record { id = no_table.id; config = c })).rests s (has_all c s exists)

all_rest : (s : Seat) → seat_exists (config_of stored_and_made) s ≡ true
    → Rests (left (config_of stored_and_made) played).now s
unfolding by c0 all_below pointed_cell stored_and_made played left_from
all_rest (Caller k) exists = record { call = (at_first (Caller k) exists).call; out = refl }
all_rest (Marker k) exists = record { call = refl; out = (at_first (Marker k) exists).out }
all_rest Host exists = record { call = refl; out = refl }

pub is_played : IsPlayed stored_and_made played
unfolding by c0 all_below pointed_cell stored_and_made played left_from calls_from
is_played = record {
  whole = record { history = is_history; tidy = is_tidy; rests = all_rest };
  promises = histories_keep_all_promises (config_of stored_and_made) played is_history;
  ops = refl;
  cycles = are_exact;
  host = refl;
  unswept = is_unswept;
  precise =
      unswept_is_precise (config_of stored_and_made) played
      (histories_keep_all_promises (config_of stored_and_made) played is_history) is_unswept;
  bounded = quarantine_of_one_is_bounded false (config_of stored_and_made) played refl is_history are_exact refl;
}

pub refused : refused_events stored_and_made.events (answered (calls (config_of stored_and_made) played)) ≡ 1
unfolding by c0 all_below pointed_cell stored_and_made played left_from calls_from
refused = refl

pub peaks_played : peaks_of (config_of stored_and_made) played
    ≡ record { held = 2; quarantined = 0; reserved = 0; cycles = 0; ages = [] }
unfolding by c0 all_below pointed_cell stored_and_made played left_from unreleased_storage greatest_from
    found_by_ends_from
peaks_played = refl
