-- What the images tell the other groups.
use Rattle.mk_laws.proofs.Vocabulary.{AreAdmitted, Bool, Caller, CarriesOwn, Cell, Config, ImagePremises, ImagesSay}
use Rattle.mk_laws.proofs.Vocabulary.{IsAdmitted, IsNumber, IsPointer, IsSafe, IsSound, Kind, MeetsAll, Mirrors}
use Rattle.mk_laws.proofs.Vocabulary.{NeverState, Null, Num, Op, ProbedOwn, Ptr, RunPages, Seat, Some, Stage, Step}
use Rattle.mk_laws.proofs.Vocabulary.{Value, World, ℕ, ap, arith, asked, bases_of, call_decided, cases_eq}
use Rattle.mk_laws.proofs.Vocabulary.{cell_of_allocation, enabled_meets, false, false≢true, flight_of, i_of, image_of}
use Rattle.mk_laws.proofs.Vocabulary.{image_scene_of, inl, inr, is_marked, is_put, is_undecided_free, is_under_turn}
use Rattle.mk_laws.proofs.Vocabulary.{list_any, ltb-true, object_placed, p_of, phase_of, placed_at, pointed_cell, refl}
use Rattle.mk_laws.proofs.Vocabulary.{register_at, run_begins, subst, sym, target, true, typed_size, word_met, [], ◌*◌}
use Rattle.mk_laws.proofs.Vocabulary.{◌+◌, ◌-◌, ◌/◌, ◌∙◌, ◌∷◌, ◌≡◌, ◌≢◌, ◌⊎◌}
use Rattle.mk_core.{proofs.PlacesNow.target_is, proofs.StandingAllocations.run_cell, specs.Calls.is_same_stage}
use Rattle.mk_laws.proofs.Basics.{KnownWorld, Ready, Stands, at_its_stage, exists_placed, flight, is_astray}
use Rattle.mk_laws.proofs.Basics.{is_call_stage, not_astray, ready_of, standing_at, stands_of, unmapped_is, words_fit}
use Rattle.mk_laws.proofs.{CallSorts.admitted_call, CallSorts.call_outside, FreedRuns.decided_free_gives}
use Rattle.mk_laws.proofs.{GrantMoves.pointer_cell, ImagesKept.own_plain, NextSteps.has_stage_of_its_own}
use Rattle.mk_laws.proofs.{NextSteps.stage_of, Protocols.protocol_of, Reached.Reaches, Reached.reaches}
use Rattle.mk_laws.proofs.ImagesSay.{IsCellOfUnreleased, IsMappedWord}

abbrev is_storing : Stage → Bool
is_storing s = list_any (is_same_stage s) (Stage.Write ∷ Stage.Cas ∷ [])

storing_calls : (s : Stage) → is_storing s ≡ true → is_call_stage s ≡ true
storing_calls s h = grind arith

module _ (c : Config) (w : World) (n : NeverState) (known : KnownWorld c w) (others : ImagePremises c w)
    (mirrors : Mirrors c w n) where
  st : Stands c w.now.words w.allocations
  st = stands_of c w known.limits others

  ready : Ready c.globals mirrors.safe.0 (image_scene_of w) n
  ready = ready_of c w n known mirrors st mirrors.safe.0 mirrors.safe.1

  own_sound : (k r : ℕ) → IsSound n (register_at n k r)
  own_sound k r = mirrors.typed.registers (8 * k + r)

  own_safe : (k r : ℕ) → IsSafe mirrors.safe.0 (register_at n k r)
  own_safe k r = mirrors.safe.1.registers (8 * k + r)

  -- The target of a Free

  value_cell : (v : Value) (p : ℕ) (cell : Cell) → IsSound n v → IsSafe mirrors.safe.0 v
      → p ≡ image_of (bases_of w.allocations) v → p ≢ 0
      → pointed_cell c.pages w.now.words.pages p ≡ Some cell → IsCellOfUnreleased c w cell
  value_cell Null p cell sound is e ne points = absurd (ne e)
  value_cell (Num m) p cell sound is e ne points = absurd sound
  value_cell (Ptr a t o) p cell sound is e ne points =
      let here : Some (cell_of_allocation c (placed_at w.allocations a)) ≡ Some cell =
      sym (pointer_cell c w n known mirrors mirrors.safe.0 ready st a t o p sound is e) ∙ points in
      record { number = a; unreleased = mirrors.safe.1.unreleased a is; cell = cc }

  free_target : (k : ℕ) (s : Stage) (o : Op) (q p r l : ℕ) (cell : Cell) → is_undecided_free (flight s o q p r l) ≡ true
      → pointed_cell c.pages w.now.words.pages p ≡ Some cell
      → CarriesOwn (bases_of w.allocations) n k (flight s o q p r l) → IsCellOfUnreleased c w cell
  free_target k Stage.Turn (Op.Free p') q p r l cell undecided points car =
      value_cell _ p cell (own_sound k p') (own_safe k p') (car.p refl) (car.some_p refl) points
  free_target k _ _ q p r l cell undecided points car = absurd (false≢true undecided)

  target_cell : (seat : Seat) (cell : Cell) → target c.pages w.now.words (flight_of w.now seat) ≡ Some cell
      → IsCellOfUnreleased c w cell
  target_cell (Caller k) cell e =
      let f = flight_of w.now (Caller k) in
      let is = target_is c.pages w.now.words f cell e in
      free_target k f.stage f.op f.q f.p f.r f.loaded cell is.free is.pointed (ready.images.carried k)
  target_cell _ cell e = cc

  -- The run of a Free, at the end of a stop

  run_marked : phase_of w.now.words ≡ 3 → (run : RunPages) → w.now.seats.holding.freed ≡ Some run
      → is_marked w.now.words (record { page = run.page; index = 0 }) ≡ true
  run_marked phase run e =
      let who = (protocol_of c w.now known.now).freed run e in
      let k = who.caller in
      let f = flight_of w.now (Caller k) in
      let points = mirrors.freed_run run e k who.holds in
      let owner = others.freed_run run e in
      let x = placed_at w.allocations owner.number in
      let h = others.laid_out owner.number owner.unreleased in
      let sized = typed_size c x known.limits h.stands.typed in
      let start = (run_begins (object_placed c x) x.base owner.large h.stands.begins).1 in
      let page : run.page ≡ x.base / 64 = ap (λ (r : RunPages). r.page) owner.is in
      let is : IsSafe mirrors.safe.0 (Ptr points.number points.ty points.offset) =
      subst (λ (v : Value). IsSafe mirrors.safe.0 v) points.is (own_safe k (p_of f.op)) in
      let sound : IsSound n (Ptr points.number points.ty points.offset) =
      subst (λ (v : Value). IsSound n v) points.is (own_sound k (p_of f.op)) in
      let there = mirrors.safe.1.unreleased points.number is in
      let one : points.number ≡ owner.number = elim (cases_eq points.number owner.number) [
        | inl same ↦ same
        | inr ne ↦ absurd (others.apart points.number owner.number there owner.unreleased ne
            (let b = points.base in omega arith))
      ] in
      let plain : is_put f.stage ≡ false = ap is_put (decided_free_gives f.stage f.op who.holds) in
      let word = own_plain ready.images k (p_of f.op) (ready.small k).1 plain
      ∙ ap (image_of (bases_of w.allocations)) points.is in
      let cell = pointer_cell c w n known mirrors mirrors.safe.0 ready st points.number points.ty points.offset _ sound
      is word in
      let well = (others.marks phase).registers (8 * k + p_of f.op) in
      cc (page, one, run_cell c x sized owner.large, cell, well)

  -- The word that a caller stores to

  reached_word : (k i q : ℕ) (v : Value) (P : Kind → Type 0) → Reaches mirrors.safe.0 (image_scene_of w) n v q i P
      → IsMappedWord c w ((q - 65536) / 8 + i)
  reached_word k i q v P to = grind (arith, exists_placed, words_fit, unmapped_is)

  -- at `write` and at `cas`
  access_word : (k : ℕ) (s : Stage) (o : Op) (q p r l : ℕ) → is_storing s ≡ true → is_astray (standing_at s o) ≡ false
      → CarriesOwn (bases_of w.allocations) n k (flight s o q p r l) → ProbedOwn n k (flight s o q p r l)
      → IsAdmitted c.globals n k o → IsMappedWord c w ((q - 65536) / 8 + i_of o)
  access_word k Stage.Write (Op.SetNum q' i m) q p r l is a car pro ad = reached_word k i q _ IsNumber
      (reaches _ mirrors.safe.0 _ n ready _ q i IsNumber (car.q refl) (car.some_q refl) (own_sound k q')
      (own_safe k q') (pro refl) ad.access)
  access_word k Stage.Write (Op.SetPtr q' i p') q p r l is a car pro ad = reached_word k i q _ IsPointer
      (reaches _ mirrors.safe.0 _ n ready _ q i IsPointer (car.q refl) (car.some_q refl) (own_sound k q')
      (own_safe k q') (pro refl) ad.access)
  access_word k Stage.Cas (Op.CasPtr q' i p' r') q p r l is a car pro ad = reached_word k i q _ IsPointer
      (reaches _ mirrors.safe.0 _ n ready _ q i IsPointer (car.q refl) (car.some_q refl) (own_sound k q')
      (own_safe k q') (pro refl) ad.access)
  access_word k _ _ q p r l is a car pro ad = cc

  stored_at : (k : ℕ) (x : Step) → has_stage_of_its_own x ≡ true → is_storing (stage_of x) ≡ true
      → MeetsAll c w.now (record { seat = Caller k; step = x })
      → (is_under_turn (flight_of w.now (Caller k)).op ≡ false
      → IsAdmitted c.globals n k (flight_of w.now (Caller k)).op)
      → IsMappedWord c w (word_met (flight_of w.now (Caller k)))
  stored_at k x own is h admits =
      let f = flight_of w.now (Caller k) in
      let at = at_its_stage f.stage f.op x own h.order in
      let a = not_astray c w.now known.now.orderly k (ltb-true k c.callers h.seat) in
      let storing = ap is_storing at ∙ is in
      access_word k f.stage f.op f.q f.p f.r f.loaded storing a (ready.images.carried k) (ready.images.probed k)
      (admits (call_outside f.op f.stage (storing_calls f.stage storing) a))

  stored_word : (k : ℕ) (x : Step) → (x ≡ Step.Write) ⊎ (x ≡ Step.Cas)
      → MeetsAll c w.now (record { seat = Caller k; step = x })
      → AreAdmitted c.globals n (asked (call_decided c w.now (record { seat = Caller k; step = x })))
      → IsMappedWord c w (word_met (flight_of w.now (Caller k)))
  stored_word k Step.Write is h ad = stored_at k Step.Write refl refl h (λ out. admitted_call _ _ k _ _ out ad)
  stored_word k Step.Cas is h ad = stored_at k Step.Cas refl refl h (λ out. admitted_call _ _ k _ _ out ad)
  stored_word k _ (inl e) h ad = cc
  stored_word k _ (inr e) h ad = cc

  pub images_say : ImagesSay c w n
  images_say = record {
    target = target_cell;
    marked = run_marked;
    stored = λ k x now. stored_word k x now.step (enabled_meets c w.now _ now.enabled) now.admitted;
  }
