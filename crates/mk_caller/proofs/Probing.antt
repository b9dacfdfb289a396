-- What a probe says of the heap that never reuses storage.
use Rattle.mk_words.proofs.Below.Laws.Vocabulary.{AreOfOthers, Bool, Caller, CarriesOwn, Config, Event, Flight}
use Rattle.mk_words.proofs.Below.Laws.Vocabulary.{IsHistory, IsMet, IsSound, List, Meets, NeverState, Null, Num, Op}
use Rattle.mk_words.proofs.Below.Laws.Vocabulary.{Ptr, Seat, Stage, Step, Unmapped, Value, WordOf, World, ℕ, ap}
use Rattle.mk_words.proofs.Below.Laws.Vocabulary.{bases_of, caller_number, false, flight_of, header_at, header_in}
use Rattle.mk_words.proofs.Below.Laws.Vocabulary.{header_of, i_of, if◌then◌else◌, image_scene_of, is_unmapped_header}
use Rattle.mk_words.proofs.Below.Laws.Vocabulary.{left, never_behind, page_met, q_of, refl, register_at, subst, sym}
use Rattle.mk_words.proofs.Below.Laws.Vocabulary.{target_of, true, [], ◌*◌, ◌++◌, ◌+◌, ◌<◌, ◌∙◌, ◌∷◌, ◌≡◌, ◌≢◌}
use Rattle.mk_words.proofs.Below.Laws.{FramesLongerLists.meets_register, LastEvents.{Stands, stands}}
use Rattle.mk_words.proofs.Below.Laws.OrderlyLists.{not_astray}
use Rattle.mk_words.proofs.Below.Laws.OtherCalls.{never_continues, registers_are_left}
use Rattle.mk_words.proofs.Below.Laws.ProbesStill.{pages_tell, ready}
use Rattle.mk_words.proofs.Below.Laws.Reached.{mapped_met, unmapped_target}
use Rattle.mk_words.proofs.Below.Laws.{Stages.{calls_stand, is_call_stage}, Standings.{InCall, standing}}
use Rattle.mk_words.specs.Below.Laws.Theorems.{has_q, has_some_q}
use Rattle.mk_caller.proofs.{Enabling.met_is_small, OneStep.own_seat, WordsMet.access_meets}
use Rattle.mk_caller.specs.{States.{caller_of_pass, never_of, value_of}, Called.{Probes, ProbesAWord}}
use Rattle.mk_caller.specs.Moves.{IsUnderway, is_access}
use Rattle.mk_words.{proofs.Made.{Made, made}, specs.{States.{PassState, call_of, event_of}, Steps.Finds}}

-- the word that is got to
pub record GetsToWord (n : NeverState) (v : Value) (i : ℕ) : Type 0 where
  pub number : ℕ
  pub place : ℕ
  pub is : target_of n v i ≡ WordOf number place

abbrev GetsTo : Bool → NeverState → Value → ℕ → Type 0
GetsTo true n v i = target_of n v i ≡ Unmapped
GetsTo false n v i = GetsToWord n v i

mapped_word : {n : NeverState} (v : Value) {i : ℕ} → v ≢ Null → IsSound n v → Meets n v i (λ kind. Unit {0})
    → IsMet n v i → GetsToWord n v i
mapped_word Null some sound meets met = absurd (some refl)
mapped_word (Num m) some sound meets met = absurd sound
mapped_word (Ptr a t o) {i} some sound meets met =
    record { number = a; place = o + i; is = ap (λ (b : Bool). if b then Unmapped else WordOf a (o + i)) (met meets.0) }

module _ (c : Config) (es : List Event) (k : ℕ) (h : IsHistory c es) (lt : k < c.callers)
    (at : (flight_of (left c es).now (Caller k)).stage ≡ Stage.Probe) (meets : Meets (never_behind c es)
    (register_at (never_behind c es) k (q_of (flight_of (left c es).now (Caller k)).op))
    (i_of (flight_of (left c es).now (Caller k)).op) (λ kind. Unit {0})) where
  abbrev f : Flight
  f = flight_of (left c es).now (Caller k)

  abbrev n : NeverState
  n = never_behind c es

  abbrev w : World
  w = left c es

  abbrev v : Value
  v = register_at n k (q_of f.op)

  st : Stands c es
  st = stands c es h

  car : CarriesOwn (bases_of w.allocations) n k f
  car = st.all.mirrors.images.carried k

  in_call : standing f ≡ InCall
  in_call = calls_stand _ f.op (ap (λ (s : Stage). is_call_stage s) at) (not_astray c w.now st.known.now.orderly k lt)

  has : has_q f.stage f.op ≡ true
  has = ap (λ (s : Stage). has_q s f.op) at

  some : has_some_q f.stage f.op ≡ true
  some = ap (λ (s : Stage). has_some_q s f.op) at

  not_null : v ≢ Null
  not_null is = car.some_q some (car.q has ∙ ap (λ (x : Value). Rattle.mk_core.specs.History.image_of
      (bases_of w.allocations) x) is)

  pub gets_to : (b : Bool) → is_unmapped_header (header_in w.now.words (page_met f)) ≡ b → GetsTo b n v (i_of f.op)
  gets_to true u =
      unmapped_target c.globals st.all.mirrors.safe.0 (image_scene_of w) n (ready c w n st.known st.all)
      (header_at w.now.words) (pages_tell c w n st.known st.all k lt in_call) v f.q (i_of f.op) (λ kind. Unit {0})
      (car.q has) (car.some_q some) (st.all.mirrors.typed.registers (8 * k + q_of f.op))
      (st.all.mirrors.safe.1.registers (8 * k + q_of f.op)) meets u
  gets_to false u =
      mapped_word v not_null (st.all.mirrors.typed.registers (8 * k + q_of f.op)) meets
      (mapped_met _ st.all.mirrors.safe.0 _ n (ready c w n st.known st.all) (header_at w.now.words)
      (pages_tell c w n st.known st.all k lt in_call) v f.q _ (car.q has) (car.some_q some)
      (st.all.mirrors.typed.registers (8 * k + q_of f.op)) (st.all.mirrors.safe.1.registers (8 * k + q_of f.op)) u)

-- a seat's, after what others did
gets_to_for : {c : Config} {es : List Event} (t : Seat) (k : ℕ) → t ≡ Caller k → IsHistory c es → k < c.callers
    → (flight_of (left c es).now t).stage ≡ Stage.Probe → Meets (never_behind c es) (register_at (never_behind c es)
    (caller_number t) (q_of (flight_of (left c es).now t).op)) (i_of (flight_of (left c es).now t).op)
    (λ kind. Unit {0}) → (b : Bool) → is_unmapped_header (header_in (left c es).now.words
    (page_met (flight_of (left c es).now t))) ≡ b → GetsTo b (never_behind c es) (register_at (never_behind c es)
    (caller_number t) (q_of (flight_of (left c es).now t).op)) (i_of (flight_of (left c es).now t).op)
gets_to_for {c} {es} t k is h lt at meets b u =
    subst (λ (t : Seat). (flight_of (left c es).now t).stage ≡ Stage.Probe → Meets (never_behind c es)
    (register_at (never_behind c es) (caller_number t) (q_of (flight_of (left c es).now t).op))
    (i_of (flight_of (left c es).now t).op) (λ kind. Unit {0}) → is_unmapped_header
    (header_in (left c es).now.words (page_met (flight_of (left c es).now t))) ≡ b → GetsTo b (never_behind c es)
    (register_at (never_behind c es) (caller_number t) (q_of (flight_of (left c es).now t).op))
    (i_of (flight_of (left c es).now t).op)) (sym is) (λ at' meets' u'. gets_to c es k h lt at' meets' b u') at meets u

module _ (p : PassState) (q : PassState) (n : ℕ) (u : IsUnderway p) (finds : Finds p Step.Probe n q)
    (at : (call_of p).stage ≡ Stage.Probe) (through : is_access (call_of p).op ≡ true) where
  abbrev es : List Event
  es = p.seen ++ finds.makes.others

  abbrev o : Op
  o = (call_of p).op

  d : Made p Step.Probe q finds.makes
  d = made p Step.Probe q finds.makes

  others : AreOfOthers (Caller (caller_of_pass p) ∷ []) finds.makes.others
  others = subst (λ (t : Seat). AreOfOthers (t ∷ []) finds.makes.others) (own_seat p u.caller u.seat) d.others

  keeps : (r : ℕ) → r < 8 → register_at (never_behind p.table.config es) (caller_of_pass p) r ≡ value_of p r
  keeps = registers_are_left p.table.config p.seen finds.makes.others (caller_of_pass p) d.history others

  same : flight_of (left p.table.config es).now p.seat ≡ call_of p
  same = d.frame.own.flight

  small : q_of o < 8
  small = met_is_small p Stage.LoadQ u.pass.history

  meets : Meets (never_behind p.table.config es)
      (register_at (never_behind p.table.config es) (caller_of_pass p) (q_of o)) (i_of o) (λ kind. Unit {0})
  meets =
      meets_register p.table.config.globals (never_of p) (never_behind p.table.config es) (caller_of_pass p)
      (never_continues p.table.config p.seen finds.makes.others) keeps
      (stands p.table.config p.seen u.pass.history).all.mirrors.typed (q_of o) (i_of o) (λ kind. Unit {0}) small
      (access_meets (never_of p) (caller_of_pass p) o through
      (u.admits (ap (λ (s : Stage). Rattle.mk_caller.specs.Moves.is_past_decision s) at)).access)

  gets : (b : Bool) → is_unmapped_header (header_of n) ≡ b
      → GetsTo b (never_behind p.table.config es) (value_of p (q_of o)) (i_of o)
  gets b is =
      subst (λ (x : Value). GetsTo b (never_behind p.table.config es) x (i_of o)) (keeps (q_of o) small)
      (rw same at (gets_to_for p.seat u.caller u.seat d.history u.exists (ap (λ (f : Flight). f.stage) same ∙ at)
      (rw same meets) b (sym (ap (λ x. is_unmapped_header (header_of x)) finds.finds) ∙ is)))

  seen : q.seen ≡ p.seen ++ finds.makes.others ++ event_of p Step.Probe ∷ []
  seen = ap (λ (r : PassState). r.seen) finds.makes.is

  pub probes_unmapped : is_unmapped_header (header_of n) ≡ true → Probes p o q Unmapped
  probes_unmapped is = record { before = finds.makes.others; behind = []; is = seen; gets_to = gets true is }

  pub probes_a_word : is_unmapped_header (header_of n) ≡ false → ProbesAWord p o q
  probes_a_word is =
      let g = gets false is in
      record {
        number = g.number;
        place = g.place;
        probes = record { before = finds.makes.others; behind = []; is = seen; gets_to = g.is };
      }
