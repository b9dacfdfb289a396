-- The word that an access of a call in flight meets is one of the heap: at the `probe`, and after it up to the end.
use Rattle.mk_laws.proofs.Vocabulary.{AreEnabled, Bool, Caller, CarriesOwn, Config, Event, Flight, IsAdmitted}
use Rattle.mk_laws.proofs.Vocabulary.{NeverState, None, Null, Num, Op, Ptr, Seat, Some, Stage, Step, Value, World, ℕ}
use Rattle.mk_laws.proofs.Vocabulary.{Progress, and_from, ap, arith, at_rest, bases_of, begun, comes_next}
use Rattle.mk_laws.proofs.Vocabulary.{enabled_meets, false, flight_of, found, header_of, histories_keep_lengths, i_of}
use Rattle.mk_laws.proofs.Vocabulary.{if◌then◌else◌, image_of, is_in_range, is_unmapped_header, le-leb, left, list_any}
use Rattle.mk_laws.proofs.Vocabulary.{lt-ltb, never_behind, onward, progress, q_of, refl, refused, register_at, set_by}
use Rattle.mk_laws.proofs.Vocabulary.{true, Answer, Cell, Option, cell_freed, decided, progress_freed, progress_read}
use Rattle.mk_laws.proofs.Vocabulary.{sees_double, stage_behind, steps_of, still, subst, sym, target, true≢false, ◌==◌}
use Rattle.mk_laws.proofs.{Vocabulary.{◌∙◌, ◌≢◌, [], ◌*◌, ◌+◌, ◌<◌, ◌∷◌, ◌≡◌}, OrderlyLists.at_first}
use Rattle.mk_laws.proofs.Basics.{Behind, Meets, at_its_stage, at_reg, base_at, is_astray, not_astray, standing_at}
use Rattle.mk_laws.proofs.{ProbesStill.ready, Stages.{behind_reg, is_reg_stage}}
use Rattle.mk_laws.specs.Theorems.{has_q, has_some_q}
use Rattle.mk_core.specs.{Calls.{is_same_stage, progress_reg}, Conditions.is_word_met}
use Rattle.mk_laws.proofs.Vocabulary.{IsHistory, IsSafe, IsSound, IsWithinLimits, List, Meets as MeetsWord, Moment}
use Rattle.mk_laws.proofs.{CallSorts.{access_meets, at_probe}, Known.along_enabled, LastEvents.{Stands, stands}}

-- the stages from the `probe` on to the dirty mark
abbrev pub has_met : Stage → Bool
has_met s = list_any (is_same_stage s) (Stage.Read ∷ Stage.Write ∷ Stage.Cas ∷ Stage.Dirty ∷ [])

abbrev pub MeetsItsWord : Config → Flight → Type 0
MeetsItsWord c f = has_met f.stage ≡ true → is_word_met c f ≡ true

either_meets : (c : Config) (b : Bool) (p q : Progress) → MeetsItsWord c p.flight → MeetsItsWord c q.flight
    → MeetsItsWord c (if b then p else q).flight
either_meets c true p q hp hq = hp
either_meets c false p q hp hq = hq

reg_meets_none : (s : Stage) (o : Op) (q p r l x : ℕ) → is_reg_stage s ≡ true
    → has_met (behind_reg s o q p r l x).stage ≡ false
reg_meets_none s o q p r l x h = grind arith

begun_meets_none : (o : Op) → has_met (begun o).stage ≡ false
begun_meets_none o = grind arith

read_meets_none : (f : Flight) (o : Op) (n : ℕ) → f.stage ≡ Stage.Read
    → has_met (progress_read f o n).flight.stage ≡ false
read_meets_none f o n h = grind arith

getg_meets_none : (s : Stage) (o : Op) → s ≡ Stage.Getg → has_met (stage_behind s (steps_of o)) ≡ false
getg_meets_none s o h = grind arith

setg_meets_none : (s : Stage) (o : Op) → s ≡ Stage.Setg → has_met (stage_behind s (steps_of o)) ≡ false
setg_meets_none s o h = grind arith

none_met : (c : Config) (g : Flight) → has_met g.stage ≡ false → MeetsItsWord c g
none_met c g h = λ e. absurd (true≢false (sym e ∙ h))

met_step : (c : Config) (m : Moment) (seat : Seat) (f : Flight) (n : ℕ) (x : Step) → comes_next f.stage f.op x ≡ true
    → is_in_range c seat f x ≡ true → MeetsItsWord c f → MeetsItsWord c (progress c m f n x).flight
met_step c m seat f n (Step.Enter o) h on was =
    either_meets c (n == 0) (record { flight = begun o; answer = None }) (still f)
    (none_met c (begun o) (begun_meets_none o)) was
met_step c m seat f n (Step.Take (Some o)) h on was =
    either_meets c (n == 0) (record { flight = begun o; answer = None }) (still f)
    (none_met c (begun o) (begun_meets_none o)) was
met_step c m seat f n Step.Reg h on was =
    none_met c (progress_reg f f.stage n).flight
    (reg_meets_none f.stage f.op f.q f.p f.r f.loaded n (at_reg f.stage f.op h))
met_step c m seat f n Step.Probe h on was =
    either_meets c (is_unmapped_header (header_of n)) (refused f Answer.Fault) (onward f None) (λ e. on) (λ e. on)
met_step c m seat f n Step.Read h on was = none_met c (progress_read f f.op n).flight
    (read_meets_none f f.op n (at_its_stage f.stage f.op Step.Read refl h))
met_step c m seat f n Step.Write h on was = λ e. on
met_step c m seat f n Step.Cas h on was = λ e. on
met_step c m seat f n Step.Getg h on was =
    none_met c (onward f None).flight (getg_meets_none f.stage f.op (at_its_stage f.stage f.op Step.Getg refl h))
met_step c m seat f n Step.Setg h on was =
    none_met c (onward f None).flight (setg_meets_none f.stage f.op (at_its_stage f.stage f.op Step.Setg refl h))
met_step c m seat f n Step.Dirty h on was = λ e. on
met_step c m seat f n Step.Leave h on was = none_met c at_rest refl
met_step c m seat f n Step.Give h on was = none_met c at_rest refl
met_step c m seat f n (Step.Look y) h on was =
    either_meets c (sees_double m.words (target c.pages m.words f) y) (decided f Answer.Double) (still f)
    (none_met c (decided f Answer.Double).flight refl) was
met_step c m seat f n (Step.Quar p v) h on was = freed_meets (cell_freed c.pages m.words f p v)
  where
    freed_meets : (cell : Option Cell) → MeetsItsWord c (progress_freed f cell).flight
    freed_meets None = was
    freed_meets (Some x) = none_met c (decided f Answer.Done).flight refl
met_step c m seat f n Step.Grant h on was = none_met c (decided f Answer.Done).flight refl
met_step c m seat f n Step.Full h on was = none_met c (decided f Answer.Full).flight refl
met_step c m seat f n _ h on was = was

met_behind : (c : Config) (m : Moment) (seat : Seat) (x : Step)
    → ((k : ℕ) → MeetsItsWord c (flight_of m (Caller k))) → Meets c m seat x
    → (k : ℕ) → MeetsItsWord c (flight_of (Behind c m seat x) (Caller k))
met_behind c m (Caller j) x all on = λ k. set_by (λ (y : Flight). MeetsItsWord c y) m.seats.flights j k
    (progress c m (flight_of m (Caller j)) (found c m (record { seat = Caller j; step = x })) x).flight at_rest
    (λ e. met_step c m (Caller j) (flight_of m (Caller j)) _ x on.order on.range (all j)) (all k)
met_behind c m _ x all on = all

pub words_are_met : (c : Config) (es : List Event) → IsWithinLimits c → AreEnabled c es → (k : ℕ)
    → MeetsItsWord c (flight_of (left c es).now (Caller k))
words_are_met c es limits on =
    along_enabled (λ w xs. (k : ℕ) → MeetsItsWord c (flight_of w.now (Caller k)))
    (λ w e xs lengths known here all. met_behind c w.now e.seat e.step all (enabled_meets c w.now e here)) es limits on
    (λ k. rw (at_first c.callers k at_rest) (none_met c at_rest refl))

-- The word that is accessed through a value lies in the heap.
module _ (c : Config) (es : List Event) (k : ℕ) (h : IsHistory c es) (lt : k < c.callers)
    (at : (flight_of (left c es).now (Caller k)).stage ≡ Stage.Probe) where
  abbrev f : Flight
  f = flight_of (left c es).now (Caller k)

  abbrev n : NeverState
  n = never_behind c es

  abbrev w : World
  w = left c es

  st : Stands c es
  st = stands c es h

  car : CarriesOwn (bases_of w.allocations) n k f
  car = st.all.mirrors.images.carried k

  by : (v : Value) → f.q ≡ image_of (bases_of w.allocations) v → f.q ≢ 0 → IsSound n v
      → IsSafe st.all.mirrors.safe.0 v → MeetsWord n v (i_of f.op) (λ kind. Unit {0}) → is_word_met c f ≡ true
  by Null is some sound safe meets = absurd (some is)
  by (Num x) is some sound safe meets = absurd sound
  by (Ptr a t o) is some sound safe meets =
      let r = ready c w n st.known st.all in
      let inside = r.bound a (o + i_of f.op) (r.set.unreleased a safe) meets.0 in
      let base = base_at w.allocations a in
      let long = (histories_keep_lengths c es).heap in
      and_from _ _ (le-leb 65536 f.q (omega arith)) (lt-ltb _ (64 * c.pages) (omega arith))

  pub probe_meets_a_word : IsAdmitted c.globals n k f.op → is_word_met c f ≡ true
  probe_meets_a_word ad =
      let astray : is_astray (standing_at Stage.Probe f.op) ≡ false =
      subst (λ (s : Stage). is_astray (standing_at s f.op) ≡ false) at (not_astray c w.now st.known.now.orderly k lt) in
      by (register_at n k (q_of f.op)) (car.q (ap (λ (s : Stage). has_q s f.op) at))
      (car.some_q (ap (λ (s : Stage). has_some_q s f.op) at))
      (st.all.mirrors.typed.registers (8 * k + q_of f.op)) (st.all.mirrors.safe.1.registers (8 * k + q_of f.op))
      (access_meets n k f.op (at_probe f.op astray).access ad.access)
