-- All that is known of a moment after an enabled list, of whatever calls.
use Rattle.mk_laws.proofs.Vocabulary.{Answer, AreEnabled, AreEnabledFrom, AreOfPages, Bool, Caller, Config, Event}
use Rattle.mk_laws.proofs.Vocabulary.{Flight, Holds, IsEnabled, IsWithinLimits, List, Moment, None, Op, Progress, Seat}
use Rattle.mk_laws.proofs.Vocabulary.{Some, Stage, Step, World, ℕ, access, accessed_lengths, and_parts, arith, at_rest}
use Rattle.mk_laws.proofs.Vocabulary.{begun, d_of, enabled_meets, false, first_moment, first_world, flight_of, found}
use Rattle.mk_laws.proofs.Vocabulary.{g_of, has_operands, if◌then◌else◌, inl, inr, is_heap_store, is_in_range, left}
use Rattle.mk_laws.proofs.Vocabulary.{left_from, ltb-true, onward, p_of, progress, progress_p, progress_q}
use Rattle.mk_laws.proofs.Vocabulary.{progress_read, progress_reg, q_of, r_of, refl, refused, register_met, set_by}
use Rattle.mk_laws.proofs.Vocabulary.{slice_index_or, true, word_accessed, world_behind, zero_lengths, [], ◌<◌, ◌==◌}
use Rattle.mk_laws.proofs.{Vocabulary.{◌∙◌, ◌∷◌, ◌≡◌, ◌≢◌, ◌≤◌, ◌⊎◌}, OrderlyLists.{at_first, not_astray}}
use Rattle.mk_laws.proofs.{OrderlyLists.{orderly_at_first, orderly_behind}, Standings.{in_turn_told, under_turn_is}}
use Rattle.mk_laws.proofs.{Actors.Meets, Orderly.Orderly, SameWords.Behind, Views.{HoldsTurn, view_of}}
use Rattle.mk_core.specs.Effects.{moment_behind}

-- The operands of each call in flight are in range.

-- what a step makes of the call in flight
pub data CallStep (f : Flight) (x : Step) : Flight → Type 0 where
  Stays : CallStep f x f
  Begins : (o : Op) → (x ≡ Step.Enter o) ⊎ (x ≡ Step.Take (Some o)) → CallStep f x (begun o)
  Ends : CallStep f x at_rest
  GoesOn : (g : Flight) → g.stage ≡ f.stage → g.op ≡ f.op → is_heap_store x ≡ false
      → CallStep f x (onward g None).flight
  Stores : is_heap_store x ≡ true → CallStep f x (onward f None).flight
  Refused : (g : Flight) (a : Answer) → g.op ≡ f.op → CallStep f x (refused g a).flight
  Comes : (g : Flight) (s : Stage) → g.op ≡ f.op → s ≢ Stage.Dirty → CallStep f x (record g { stage = s })

either : {f : Flight} {x : Step} (b : Bool) (p q : Progress) → CallStep f x p.flight → CallStep f x q.flight
    → CallStep f x (if b then p else q).flight
either true p q hp hq = hp
either false p q hp hq = hq

q_step : (f : Flight) (x : Step) (o : Op) (n : ℕ) → is_heap_store x ≡ false → CallStep f x (progress_q f o n).flight
q_step f x (Op.Move d q) n off = GoesOn (record f { q = n }) refl refl off
q_step f x (Op.Same p q) n off = GoesOn (record f { q = n }) refl refl off
q_step f x _ n off = either (n == 0) _ _ (Refused (record f { q = n }) Answer.Null refl)
    (GoesOn (record f { q = n }) refl refl off)

p_step : (f : Flight) (x : Step) (o : Op) (n : ℕ) → is_heap_store x ≡ false → CallStep f x (progress_p f o n).flight
p_step f x (Op.IsNull p) n off = GoesOn (record f { p = n }) refl refl off
p_step f x (Op.Free p) n off = either (n == 0) _ _ (Comes (record f { p = n }) Stage.Give refl (λ e. cc))
    (GoesOn (record f { p = n }) refl refl off)
p_step f x _ n off = GoesOn (record f { p = n }) refl refl off

reg_step : (f : Flight) (x : Step) (s : Stage) (n : ℕ) → is_heap_store x ≡ false
    → CallStep f x (progress_reg f s n).flight
reg_step f x Stage.LoadQ n off = q_step f x f.op n off
reg_step f x Stage.LoadP n off = p_step f x f.op n off
reg_step f x Stage.LoadR n off = GoesOn (record f { r = n }) refl refl off
reg_step f x Stage.Store n off = GoesOn f refl refl off
reg_step f x Stage.Put n off = Comes f Stage.Leave refl (λ e. cc)
reg_step f x _ n off = Stays

read_step : (f : Flight) (x : Step) (o : Op) (n : ℕ) → is_heap_store x ≡ false
    → CallStep f x (progress_read f o n).flight
read_step f x (Op.GetPtr d q i) n off = GoesOn (record f { loaded = n }) refl refl off
read_step f x _ n off = GoesOn f refl refl off

-- all kinds
pub call_step : (c : Config) (m : Moment) (f : Flight) (n : ℕ) (x : Step) → CallStep f x (progress c m f n x).flight
call_step c m f n (Step.Enter o) = either (n == 0) _ _ (Begins o (inl refl)) Stays
call_step c m f n (Step.Take (Some o)) = either (n == 0) _ _ (Begins o (inr refl)) Stays
call_step c m f n Step.Leave = Ends
call_step c m f n Step.Give = Ends
call_step c m f n Step.Reg = reg_step f Step.Reg f.stage n refl
call_step c m f n Step.Probe = either _ _ _ (Refused f Answer.Fault refl) (GoesOn f refl refl refl)
call_step c m f n Step.Read = read_step f Step.Read f.op n refl
call_step c m f n Step.Write = Stores refl
call_step c m f n Step.Cas = Stores refl
call_step c m f n Step.Getg = GoesOn (record f { loaded = n }) refl refl refl
call_step c m f n Step.Setg = GoesOn f refl refl refl
call_step c m f n Step.Dirty = GoesOn f refl refl refl
call_step c m f n (Step.Look x) = either _ _ _ (Comes f Stage.Give refl (λ e. cc)) Stays
call_step c m f n (Step.Quar p v) = grind (arith, Comes, Stays)
call_step c m f n Step.Grant = Comes f Stage.Give refl (λ e. cc)
call_step c m f n Step.Full = Comes f Stage.Give refl (λ e. cc)
call_step c m f n _ = Stays

abbrev pub HaveOperands : Config → List Flight → Type 0
HaveOperands c fs = (k : ℕ) → has_operands c (slice_index_or fs k at_rest).op ≡ true

operands_kept : (c : Config) (seat : Seat) (f : Flight) (x : Step) (g : Flight) → is_in_range c seat f x ≡ true
    → has_operands c f.op ≡ true → CallStep f x g → has_operands c g.op ≡ true
operands_kept c seat f x g range h Stays = h
operands_kept c seat f x g range h (Begins o (inl e)) = rw e at range
operands_kept c seat f x g range h (Begins o (inr e)) = rw e at range
operands_kept c seat f x g range h Ends = refl
operands_kept c seat f x g range h (GoesOn y at same off) = rw same h
operands_kept c seat f x g range h (Stores on) = h
operands_kept c seat f x g range h (Refused y a same) = rw same h
operands_kept c seat f x g range h (Comes y s same ne) = rw same h

pub operands_behind : (c : Config) (m : Moment) (seat : Seat) (x : Step) → HaveOperands c m.seats.flights
    → Meets c m seat x → HaveOperands c (Behind c m seat x).seats.flights
operands_behind c m (Caller k) x h on = λ b. set_by (λ (y : Flight). has_operands c y.op ≡ true) m.seats.flights k b
    (progress c m (flight_of m (Caller k)) (found c m (record { seat = Caller k; step = x })) x).flight at_rest
    (λ e. operands_kept c (Caller k) (flight_of m (Caller k)) x _ on.range (h k) (call_step c m _ _ x)) (h b)
operands_behind c m _ x h on = h

-- the registers and the global of a call
pub record Operands (o : Op) : Type 0 where
  pub q : q_of o < 8
  pub p : p_of o < 8
  pub r : r_of o < 8
  pub d : d_of o < 8
  pub g : g_of o < 64

pub operands_of : (c : Config) (o : Op) → has_operands c o ≡ true → Operands o
operands_of c o h = grind (arith, and_parts, ltb-true)

-- the register that a `reg` step meets is one of the eight
pub register_small : (f : Flight) (s : Stage) → Operands f.op → register_met f s < 8
register_small f x1 h = grind arith

pub record Known (c : Config) (m : Moment) : Type 0 where
  pub small : c.callers ≤ 16
  pub orderly : Orderly c (view_of m)
  pub operands : HaveOperands c m.seats.flights

pub known_behind : (c : Config) (m : Moment) (e : Event) → Known c m → IsEnabled c m e → Known c (moment_behind c m e)
known_behind c m e k on = record {
  small = k.small;
  orderly = orderly_behind m e.seat e.step k.small k.orderly (enabled_meets c m e on);
  operands = operands_behind c m e.seat e.step k.operands (enabled_meets c m e on);
}

pub known_at_first : {c : Config} → IsWithinLimits c → Known c (first_moment c)
known_at_first {c} limits = record {
  small = limits.callers.1;
  orderly = orderly_at_first c limits.callers.1;
  operands = λ k. rw (at_first c.callers k at_rest) refl;
}

enabled_from : {c : Config} (P : World → List Event → Type 0)
    → ((w : World) (e : Event) (es : List Event) → AreOfPages c.pages w.now.words → Known c w.now → IsEnabled c w.now e
    → P w (e ∷ es) → P (world_behind c w e) es) → (w : World) (es : List Event) → AreOfPages c.pages w.now.words
    → Known c w.now → AreEnabledFrom c w es → P w es → P (left_from c w es) []
unfolding left_from AreEnabledFrom
enabled_from P one w [] lengths known on here = here
enabled_from {c} P one w (e ∷ es) lengths known on here = enabled_from P one (world_behind c w e) es
    (accessed_lengths c.pages w.now.words (word_accessed c w.now e) (access c w.now e) lengths)
    (known_behind c w.now e known on.0) on.1 (one w e es lengths known on.0 here)

-- What is said of a world and the events to come holds at the end of enabled events, if each of them keeps it.
pub along_enabled : {c : Config} (P : World → List Event → Type 0) → ((w : World) (e : Event) (es : List Event)
    → AreOfPages c.pages w.now.words → Known c w.now → IsEnabled c w.now e → P w (e ∷ es) → P (world_behind c w e) es)
    → (es : List Event) → IsWithinLimits c → AreEnabled c es → P (first_world c) es → P (left c es) []
along_enabled {c} P one es limits on first =
    enabled_from P one (first_world c) es (zero_lengths c.pages) (known_at_first limits) on first

pub known_left : (c : Config) (es : List Event) → IsWithinLimits c → AreEnabled c es → Known c (left c es).now
known_left c es limits on = along_enabled (λ w xs. Known c w.now) (λ w e xs lengths known here k.
    known_behind c w.now e k here) es limits on (known_at_first limits)

-- who holds the turn by its call holds it by what the protocol reads
pub holds_turn : (c : Config) (m : Moment) (seat : Seat) → Orderly c (view_of m) → Holds c m seat
    → HoldsTurn c (view_of m) seat
holds_turn c m (Caller k) o h = (h.0, under_turn_is _ (in_turn_told _ _ (not_astray c m o k h.0) ∙ h.1))
holds_turn c m _ o h = h
