-- The calls of callers: the operands and steps of each operation, what a step makes of the call in flight, and its end.
use Rattle.std.specs.Prelude.{ℕ, ◌+◌, ◌*◌, ◌/◌, ◌%◌, ◌^◌, Bool, true, false, ◌&&◌, nat_lt, ◌==◌, List, [], ◌∷◌, length}
use Rattle.std.specs.Prelude.{Option, Some, None, if◌then◌else◌, map}
use Rattle.mk_never.specs.{declared.operations.Op.Op, NeverHeap.Call}
use Rattle.mk_geom.specs.Addresses.{heap_word_at}
use Rattle.mk_core.specs.declared.{config.Config.Config, events.Answer.Answer, seats.Stage.Stage}
use Rattle.mk_core.specs.declared.seats.Stage.TheVariants.{Idle, LoadQ, LoadP, LoadR, Probe, Read, Write, Cas, Getg}
use Rattle.mk_core.specs.declared.seats.Stage.TheVariants.{Setg, Store, Put, Dirty, Leave, Turn, Give}
use Rattle.mk_core.specs.declared.seats.{Flight.Flight, Progress.Progress}

-- the register q of an operation, as its instruction names it; 0 if it has none, as with all of these
abbrev pub q_of : Op → ℕ
q_of (Op.GetNum q i) = q
q_of (Op.SetNum q i n) = q
q_of (Op.GetPtr d q i) = q
q_of (Op.SetPtr q i p) = q
q_of (Op.CasPtr q i p r) = q
q_of (Op.Lea d q i) = q
q_of (Op.Move d q) = q
q_of (Op.Same p q) = q
q_of _ = 0

-- its register p
abbrev pub p_of : Op → ℕ
p_of (Op.Free p) = p
p_of (Op.SetPtr q i p) = p
p_of (Op.CasPtr q i p r) = p
p_of (Op.SetGlobal g p) = p
p_of (Op.Same p q) = p
p_of (Op.IsNull p) = p
p_of _ = 0

-- its register r
abbrev pub r_of : Op → ℕ
r_of (Op.CasPtr q i p r) = r
r_of _ = 0

-- the register that it sets
abbrev pub d_of : Op → ℕ
d_of (Op.New d ty full) = d
d_of (Op.GetPtr d q i) = d
d_of (Op.Lea d q i) = d
d_of (Op.Move d q) = d
d_of (Op.Clear d) = d
d_of (Op.GetGlobal d g) = d
d_of _ = 0

-- its global
abbrev pub g_of : Op → ℕ
g_of (Op.GetGlobal d g) = g
g_of (Op.SetGlobal g p) = g
g_of _ = 0

-- its distance in words
abbrev pub i_of : Op → ℕ
i_of (Op.GetNum q i) = i
i_of (Op.SetNum q i n) = i
i_of (Op.GetPtr d q i) = i
i_of (Op.SetPtr q i p) = i
i_of (Op.CasPtr q i p r) = i
i_of (Op.Lea d q i) = i
i_of _ = 0

-- the type of a New exists
abbrev pub has_type : Config → Op → Bool
has_type c (Op.New d ty full) = nat_lt ty (length c.types)
has_type c _ = true

-- the registers, the global and the type of an operation are there
abbrev pub has_operands : Config → Op → Bool
has_operands c o =
    nat_lt (q_of o) 8 && nat_lt (p_of o) 8 && nat_lt (r_of o) 8 && nat_lt (d_of o) 8 && nat_lt (g_of o) 64
    && has_type c o

-- a call of the operation begins with `take`, and else with `enter`
abbrev pub is_under_turn : Op → Bool
is_under_turn (Op.New d ty full) = true
is_under_turn (Op.Free p) = true
is_under_turn _ = false

-- the steps after that one, in order
abbrev pub steps_of : Op → List Stage
steps_of (Op.GetNum q i) = LoadQ ∷ Probe ∷ Read ∷ Leave ∷ []
steps_of (Op.GetPtr d q i) = LoadQ ∷ Probe ∷ Read ∷ Put ∷ Leave ∷ []
steps_of (Op.SetNum q i n) = LoadQ ∷ Probe ∷ Write ∷ Dirty ∷ Leave ∷ []
steps_of (Op.SetPtr q i p) = LoadQ ∷ LoadP ∷ Probe ∷ Write ∷ Dirty ∷ Leave ∷ []
steps_of (Op.CasPtr q i p r) = LoadQ ∷ LoadP ∷ LoadR ∷ Probe ∷ Cas ∷ Dirty ∷ Leave ∷ []
steps_of (Op.Lea d q i) = LoadQ ∷ Store ∷ Leave ∷ []
steps_of (Op.Move d q) = LoadQ ∷ Store ∷ Leave ∷ []
steps_of (Op.Clear d) = Store ∷ Leave ∷ []
steps_of (Op.GetGlobal d g) = Getg ∷ Put ∷ Leave ∷ []
steps_of (Op.SetGlobal g p) = LoadP ∷ Setg ∷ Leave ∷ []
steps_of (Op.Same p q) = LoadP ∷ LoadQ ∷ Leave ∷ []
steps_of (Op.IsNull p) = LoadP ∷ Leave ∷ []
steps_of (Op.New d ty full) = Turn ∷ Give ∷ []
steps_of (Op.Free p) = LoadP ∷ Turn ∷ Give ∷ []

-- they are one stage
abbrev pub is_same_stage : Stage → Stage → Bool
is_same_stage Idle Idle = true
is_same_stage LoadQ LoadQ = true
is_same_stage LoadP LoadP = true
is_same_stage LoadR LoadR = true
is_same_stage Probe Probe = true
is_same_stage Read Read = true
is_same_stage Write Write = true
is_same_stage Cas Cas = true
is_same_stage Getg Getg = true
is_same_stage Setg Setg = true
is_same_stage Store Store = true
is_same_stage Put Put = true
is_same_stage Dirty Dirty = true
is_same_stage Leave Leave = true
is_same_stage Turn Turn = true
is_same_stage Give Give = true
is_same_stage _ _ = false

-- the first of these stages
abbrev pub first_of : List Stage → Stage
first_of [] = Idle
first_of (s ∷ ss) = s

-- the stage after this one
abbrev pub stage_behind : Stage → List Stage → Stage
stage_behind stage [] = Idle
stage_behind stage (s ∷ ss) = if is_same_stage s stage then first_of ss else stage_behind stage ss

-- the stage after a refusal: a register that would have been loaded becomes null first
abbrev pub stage_refused : Op → Stage
stage_refused (Op.GetPtr d q i) = Put
stage_refused (Op.Lea d q i) = Put
stage_refused _ = Leave

-- no call
abbrev pub at_rest : Flight
at_rest = record { stage = Idle; op = Op.IsNull 0; q = 0; p = 0; r = 0; loaded = 0 }

-- the flight of a call that begins
abbrev pub begun : Op → Flight
begun o = record { stage = first_of (steps_of o); op = o; q = 0; p = 0; r = 0; loaded = 0 }

-- the heap word that an access meets, in whole numbers, and its page
abbrev pub word_met : Flight → ℕ
word_met f = heap_word_at f.q + i_of f.op

-- the page of the word that the call accesses
abbrev pub page_met : Flight → ℕ
page_met f = word_met f / 64

-- what the deciding store puts into d
abbrev pub value_for : Flight → Op → ℕ
value_for f (Op.Lea d q i) = (f.q + 8 * i) % 2 ^ 64
value_for f (Op.Move d q) = f.q
value_for f _ = 0

-- what a write stores
abbrev pub value_written : Flight → Op → ℕ
value_written f (Op.SetNum q i n) = n
value_written f _ = f.p

-- the next step of the call, undecided or decided by this answer
abbrev pub onward : Flight → Option Answer → Progress
onward f a = record { flight = record f { stage = stage_behind f.stage (steps_of f.op) }; answer = a }

-- nothing is decided, and the call stays at its stage
abbrev pub still : Flight → Progress
still f = record { flight = f; answer = None }

-- the call is refused with this answer
abbrev pub refused : Flight → Answer → Progress
refused f a = record { flight = record f { stage = stage_refused f.op; loaded = 0 }; answer = Some a }

-- 1 if it is so, otherwise 0
abbrev pub one_if : Bool → ℕ
one_if true = 1
one_if false = 0

-- `reg` that loads q and finds this value
abbrev pub progress_q : Flight → Op → ℕ → Progress
progress_q f (Op.Move d q) found = onward (record f { q = found }) None
progress_q f (Op.Same p q) found = onward (record f { q = found }) (Some (Answer.Num (one_if (f.p == found))))
progress_q f _ found = if found == 0 then refused (record f { q = found }) Answer.Null
    else onward (record f { q = found }) None

-- `reg` that loads p
abbrev pub progress_p : Flight → Op → ℕ → Progress
progress_p f (Op.IsNull p) found = onward (record f { p = found }) (Some (Answer.Num (one_if (found == 0))))
progress_p f (Op.Free p) found =
    if found == 0
    then record { flight = record f { stage = Give; p = found }; answer = Some Answer.Done }
    else onward (record f { p = found }) None
progress_p f _ found = onward (record f { p = found }) None

-- what `reg` makes of the call at this stage
abbrev pub progress_reg : Flight → Stage → ℕ → Progress
progress_reg f LoadQ found = progress_q f f.op found
progress_reg f LoadP found = progress_p f f.op found
progress_reg f LoadR found = onward (record f { r = found }) None
progress_reg f Store found = onward f (Some Answer.Done)
progress_reg f Put found = record { flight = record f { stage = Leave }; answer = None }
progress_reg f _ found = still f

-- `read`: a number is the answer, and a pointer is put into d besides
abbrev pub progress_read : Flight → Op → ℕ → Progress
progress_read f (Op.GetPtr d q i) found = onward (record f { loaded = found }) (Some (Answer.Word found))
progress_read f _ found = onward f (Some (Answer.Num found))

-- what `cas` makes of the call
abbrev pub progress_cas : Flight → ℕ → Progress
progress_cas f found = onward f (Some (Answer.Num (one_if (found == f.p))))

-- what `getg` makes of the call
abbrev pub progress_getg : Flight → ℕ → Progress
progress_getg f found = onward (record f { loaded = found }) (Some (Answer.Word found))

-- A decided call: its caller, its operation and its answer.
pub record Decided : Type 0 where
  pub caller : ℕ
  pub op : Op
  pub answer : Answer

-- Whether a New is full says its answer.
abbrev pub flagged : Op → Answer → Op
flagged (Op.New d ty full) Answer.Full = Op.New d ty true
flagged (Op.New d ty full) _ = Op.New d ty false
flagged o _ = o

-- the entry of a call that is decided with this answer, or none
abbrev pub entry_of : ℕ → Op → Option Answer → List Decided
entry_of caller o (Some a) = record { caller = caller; op = flagged o a; answer = a } ∷ []
entry_of caller o None = []

-- the calls that were asked
abbrev pub asked : List Decided → List Call
asked cs = map (λ (x : Decided). record { caller = x.caller; op = x.op }) cs

-- their answers
abbrev pub answered : List Decided → List Answer
answered cs = map (λ (x : Decided). x.answer) cs
