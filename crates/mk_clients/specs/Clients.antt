-- What the clients ask of a pass and of a turn, and keep; the calls by which they store.
use Rattle.std.specs.Prelude.{slice_index, ◌≢◌, ◌≡◌, ℕ, ◌<◌, ◌≤◌, ◌+◌, ◌*◌, true, false, Some, None, List, ◌++◌, Bool}
use Rattle.std.specs.Prelude.{◌==◌, [], ◌∷◌, filter}
use Rattle.mk_never.specs.{declared.operations.Op.Op, Admitted.IsAdmitted}
use Rattle.mk_geom.specs.Addresses.{heap_word_at}
use Rattle.mk_core.specs.{declared.events.Event.Event, Accesses.caller_number, History.{IsHistory, never_behind, calls}}
use Rattle.mk_core.specs.{declared.events.Seat.TheVariants.{Caller, Marker, Host}, Calls.{at_rest, Decided}}
use Rattle.mk_core.specs.{Counts.TalliesAreTidy, Words.phase_of, Conditions.{has_phase, host_has_turn}}
use Rattle.mk_core.specs.{Moments.{none_is_held, outside, is_held}, MarkingConditions.is_attending}
use Rattle.mk_core.specs.{TurnConditions.held_by_pages, declared.events.Step.Step}
use Rattle.mk_core.specs.declared.events.Answer.TheVariants.{Done}
use Rattle.mk_heap.specs.{Below.Words.Steps.{marker_in, register_of}, Below.Words.States.{PassState, now_of, call_of}}
use Rattle.mk_heap.specs.{Below.Callers.States.{caller_of_pass, value_of, Admits}, Below.Callers.Called.Called}

-- a caller's pass, with no call in flight
pub record IsCallers (p : PassState) : Type 0 where
  pub number : ℕ
  pub seat : p.seat ≡ Caller number
  pub within : number < p.table.config.callers
  pub rests : call_of p ≡ at_rest

-- the host's pass, while it hasn't the turn
pub record IsHosts (p : PassState) : Type 0 where
  pub seat : p.seat ≡ Host
  pub free : host_has_turn p.table.config (now_of p) ≡ false

-- what `give` asks of the host's turn but for the gates
pub record Settled (p : PassState) : Type 0 where
  pub seat : p.seat ≡ Host
  pub phase : has_phase (phase_of (now_of p).words) Step.Give ≡ true
  pub freed : (now_of p).seats.holding.freed ≡ None
  pub held : (now_of p).words.held ≡ held_by_pages (now_of p).words
  pub fresh : (now_of p).words.fresh ≡ (now_of p).fresh_words

-- The host's turn, which may be given back.
pub record MayGiveBack (p : PassState) : Type 0 where
  pub settled : Settled p
  pub gates : none_is_held p.table.config.callers (now_of p).words ≡ true

-- The operation is admitted, whatever comes after what the pass has seen.
abbrev pub StaysAdmitted : PassState → Op → Type 0
StaysAdmitted p o =
    (more : List Event) → IsHistory p.table.config (p.seen ++ more)
    → IsAdmitted p.table.config.globals (never_behind p.table.config (p.seen ++ more)) (caller_number p.seat) o

-- a marker's pass, while the marker is outside
pub record IsOutside (p : PassState) : Type 0 where
  pub number : ℕ
  pub seat : p.seat ≡ Marker number
  pub few : number < 8
  pub out : marker_in p ≡ outside

-- a marker's pass, while it attends with no open hand
pub record IsAttending (p : PassState) : Type 0 where
  pub number : ℕ
  pub seat : p.seat ≡ Marker number
  pub few : number < 8
  pub attends : is_attending (marker_in p).presence ≡ true
  pub hand : (marker_in p).hand ≡ None

-- The marker scans this cell, and is at this word of it.
abbrev pub IsAt : PassState → ℕ → ℕ → ℕ → ℕ → Type 0
IsAt p page k next end = (marker_in p).scan ≡ Some (record { page = page; index = k; next = next; end = end })

-- The caller's register has a heap address, and the word i words on is one of the heap.
pub record PointsWell (p : PassState) (q i : ℕ) : Type 0 where
  pub least : 65536 ≤ register_of p q
  pub word : heap_word_at (register_of p q) + i < 64 * p.table.config.pages

-- The gates of the callers below this one are held, and those of the others aren't.
pub record HoldsBelow (p : PassState) (end : ℕ) : Type 0 where
  pub held : (i : ℕ) → i < end → is_held (now_of p).words i ≡ true
  pub free : (i : ℕ) → end ≤ i → i < p.table.config.callers → slice_index (now_of p).words.gates i ≢ 2

-- The tallies are tidy in the latter, if they are in the former.
abbrev pub StaysTidy : PassState → PassState → Type 0
StaysTidy p q = TalliesAreTidy p.table.config p.seen → TalliesAreTidy q.table.config q.seen

-- it sets this global
abbrev pub is_set_of : ℕ → Op → Bool
is_set_of g (Op.SetGlobal x p) = x == g
is_set_of g _ = false

-- The operation may store to an allocation's word.
abbrev pub is_store : Op → Bool
is_store (Op.SetNum q i n) = true
is_store (Op.SetPtr q i p) = true
is_store (Op.CasPtr q i p r) = true
is_store _ = false

-- the calls among these events whose operations pass the test
abbrev pub calls_that : (Op → Bool) → PassState → List Event → List Decided
calls_that test p es = filter (λ (x : Decided). test x.op) (calls p.table.config es)

-- After what the pass had seen this call of its caller, answered Done, is the only one that passes the test.
abbrev pub IsOnlyCall : (Op → Bool) → PassState → Op → PassState → Type 0
IsOnlyCall test p o q =
    calls_that test p q.seen
    ≡ calls_that test p p.seen ++ record { caller = caller_of_pass p; op = o; answer = Done } ∷ []

-- The latter pass has seen all that the former has, as where the host joined that one and split off this one.
pub record HasSeenAllOf (p q : PassState) : Type 0 where
  pub config : q.table.config ≡ p.table.config
  pub more : List Event
  pub is : q.seen ≡ p.seen ++ more

-- Whatever call of another caller put its register r into the global, if this pass had seen it and it is the only one
-- that set the global since, then what is taken out is the same as register x, where that holds what r held.
abbrev pub TakesOut : PassState → ℕ → ℕ → Bool → PassState → Type 0
TakesOut b g x same q =
    (p0 p1 : PassState) (r : ℕ) → Admits p0 (Op.SetGlobal g r) → Called p0 (Op.SetGlobal g r) Done p1
    → HasSeenAllOf p1 b → IsOnlyCall (is_set_of g) p0 (Op.SetGlobal g r) q → value_of b x ≡ value_of p0 r → same ≡ true
