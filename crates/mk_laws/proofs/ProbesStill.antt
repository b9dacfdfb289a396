-- A run that a `probe` finds unmapped stays so: the call's own register points into its allocation.
use Rattle.mk_laws.proofs.Vocabulary.{AccessIsAdmitted, Caller, CarriesOwn, Config, Continues, Flight, ImagePremises}
use Rattle.mk_laws.proofs.Vocabulary.{Invariant, IsAdmitted, IsMet, IsSound, Meets, NeverState, Op, Ptr, Stage}
use Rattle.mk_laws.proofs.Vocabulary.{Unmapped, Value, World, ℕ, and_from, and_parts, ap, arith, bases_of, cases_Bool}
use Rattle.mk_laws.proofs.Vocabulary.{false, flight_of, header_at, header_in, i_of, image_scene_of, inl, inr}
use Rattle.mk_laws.proofs.Vocabulary.{is_unmapped_header, page_met, q_of, refl, register_at, subst, target_of, true}
use Rattle.mk_laws.proofs.Vocabulary.{◌*◌, ◌+◌, ◌<◌, ◌∙◌, ◌≡◌}
use Rattle.mk_laws.proofs.Basics.{InCall, KnownWorld, PagesShow, Ready, Stands, calls_stand, flight, is_astray}
use Rattle.mk_laws.proofs.Basics.{is_call_stage, not_astray, ready_of, standing, standing_at, stands_of}
use Rattle.mk_laws.proofs.{CallSorts.access_meets, CallSorts.at_probe, CallSorts.literal, ImagesBefore.shown_in_call}
use Rattle.mk_laws.proofs.{InvariantHistories.told_to_images, Reached.mapped_met, Reached.unmapped_target}

clash : {n m : NeverState} (v : Value) (i : ℕ) → Continues n m → IsSound n v → Meets n v i (λ kind. Unit {0})
    → target_of n v i ≡ Unmapped → IsMet m v i → ⊥
clash {n} {m} (Ptr a t o) i on sound meets is met = grind (arith, and_parts, and_from, Unmapped)
clash _ i on sound meets is met = cc

module _ (c : Config) (w : World) (n : NeverState) (known : KnownWorld c w) (all : Invariant c w n) where
  others : ImagePremises c w
  others = told_to_images c w n known all

  pub st : Stands c w.now.words w.allocations
  st = stands_of c w known.limits others

  pub ready : Ready c.globals all.mirrors.safe.0 (image_scene_of w) n
  ready = ready_of c w n known all.mirrors st all.mirrors.safe.0 all.mirrors.safe.1

  -- Headers tell who is in a call what is unmapped.
  pub pages_tell : (k : ℕ) → k < c.callers → standing (flight_of w.now (Caller k)) ≡ InCall
      → PagesShow (header_at w.now.words) (image_scene_of w) n
  pages_tell k lt in_call = shown_in_call c w n known all.mirrors others st k lt in_call

  own_sound : (k r : ℕ) → IsSound n (register_at n k r)
  own_sound k r = all.mirrors.typed.registers (8 * k + r)

  -- What a `probe` finds unmapped is so to the heap that never reuses storage,
  finds_unmapped : (k : ℕ) (o : Op) (q p r l : ℕ) → k < c.callers → flight_of w.now (Caller k) ≡ flight Stage.Probe o q
      p r l → standing (flight_of w.now (Caller k)) ≡ InCall → Meets n (register_at n k (q_of o)) (i_of o)
      (λ kind. Unit {0}) → is_unmapped_header (header_in w.now.words (page_met (flight Stage.Probe o q p r l))) ≡ true
      → target_of n (register_at n k (q_of o)) (i_of o) ≡ Unmapped
  finds_unmapped k o q p r l lt is in_call meets u =
      let car : CarriesOwn (bases_of w.allocations) n k (flight Stage.Probe o q p r l) =
      rw is at (all.mirrors.images.carried k) in
      unmapped_target c.globals all.mirrors.safe.0 (image_scene_of w) n ready (header_at w.now.words)
      (pages_tell k lt in_call) _ q (i_of o) (λ kind. Unit {0})
      (car.q refl) (car.some_q refl) (own_sound k (q_of o)) (all.mirrors.safe.1.registers (8 * k + q_of o)) meets u

  -- and what it finds mapped isn't.
  finds_mapped : (k : ℕ) (o : Op) (q p r l : ℕ) → k < c.callers
      → flight_of w.now (Caller k) ≡ flight Stage.Probe o q p r l → standing (flight_of w.now (Caller k)) ≡ InCall
      → is_unmapped_header (header_in w.now.words (page_met (flight Stage.Probe o q p r l))) ≡ false
      → IsMet n (register_at n k (q_of o)) (i_of o)
  finds_mapped k o q p r l lt is in_call u =
      let car : CarriesOwn (bases_of w.allocations) n k (flight Stage.Probe o q p r l) =
      rw is at (all.mirrors.images.carried k) in
      mapped_met c.globals all.mirrors.safe.0 (image_scene_of w) n ready (header_at w.now.words)
      (pages_tell k lt in_call) _ q (i_of o)
      (car.q refl) (car.some_q refl) (own_sound k (q_of o)) (all.mirrors.safe.1.registers (8 * k + q_of o)) u

probe_meets : (n : NeverState) (k : ℕ) (o : Op) → is_astray (standing_at Stage.Probe o) ≡ false → AccessIsAdmitted n k o
    → Meets n (register_at n k (q_of o)) (i_of o) (λ kind. Unit {0})
probe_meets n k o a h = access_meets n k o (at_probe o a).access h

pub probe_still : {c : Config} {w v : World} {n m : NeverState} (kw : KnownWorld c w) (kv : KnownWorld c v)
    (aw : Invariant c w n) (av : Invariant c v m) {k : ℕ} → k < c.callers
    → flight_of v.now (Caller k) ≡ flight_of w.now (Caller k) → (flight_of w.now (Caller k)).stage ≡ Stage.Probe
    → Continues n m → register_at m k (q_of (flight_of w.now (Caller k)).op)
    ≡ register_at n k (q_of (flight_of w.now (Caller k)).op) → IsAdmitted c.globals n k (flight_of w.now (Caller k)).op
    → is_unmapped_header (header_in w.now.words (page_met (flight_of w.now (Caller k)))) ≡ true
    → is_unmapped_header (header_in v.now.words (page_met (flight_of w.now (Caller k)))) ≡ true
probe_still {c} {w} {v} {n} {m} kw kv aw av {k = k} lt same at on own admitted u =
    let lit : f ≡ flight Stage.Probe f.op f.q f.p f.r f.loaded = literal f Stage.Probe at in
    let in_call : standing f ≡ InCall = calls_stand f.stage f.op (ap is_call_stage at) astray in
    elim (cases_Bool (is_unmapped_header (header_in v.now.words (page_met f)))) [
      | inl is ↦ is
      | inr mapped ↦
          let met = finds_mapped c v m kv av k f.op f.q f.p f.r f.loaded lt (same ∙ lit)
          (ap standing same ∙ in_call) mapped in
          absurd (clash _ (i_of f.op) on (aw.mirrors.typed.registers _) meets
          (finds_unmapped c w n kw aw k f.op f.q f.p f.r f.loaded lt lit in_call meets u) (rw own at met))
    ]
  where
    f : Flight
    f = flight_of w.now (Caller k)

    astray : is_astray (standing f) ≡ false
    astray = not_astray c w.now kw.now.orderly k lt

    meets : Meets n (register_at n k (q_of f.op)) (i_of f.op) (λ kind. Unit {0})
    meets = probe_meets n k f.op (subst (λ (s : Stage). is_astray (standing_at s f.op)
        ≡ false) at astray) admitted.access
