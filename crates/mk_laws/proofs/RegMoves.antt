-- `reg` leads to what the images allow, at each stage.
use Rattle.mk_laws.proofs.Vocabulary.{Answer, AreAdmitted, Bool, Carries, CarriesOwn, Done, Flight, ImageScene, IsSafe}
use Rattle.mk_laws.proofs.Vocabulary.{IsSound, List, Meets, NeverState, None, Null, Num, Op, ProbedOwn, Ptr, Some}
use Rattle.mk_laws.proofs.Vocabulary.{Stage, Value, ℕ, answer_of, ap, arith, asked, bases_of, d_of, entry_of, eqb-false}
use Rattle.mk_laws.proofs.Vocabulary.{eqb-true, false, false≢true, flight_among, has_p, has_r, has_some_p}
use Rattle.mk_laws.proofs.Vocabulary.{if◌then◌else◌, image_of, is_past_probe, is_put, is_same, length, one_if, onward}
use Rattle.mk_laws.proofs.Vocabulary.{p_of, progress_p, progress_q, progress_reg, q_of, r_of, refl, refused}
use Rattle.mk_laws.proofs.Vocabulary.{register_at, register_met, slice_set, stage_behind, steps_of, sym, true, ◌%◌, ◌*◌}
use Rattle.mk_laws.proofs.{Vocabulary.{◌+◌, ◌<◌, ◌==◌, ◌^◌, ◌∙◌, ◌≡◌, ◌≢◌}, ImagesMoves.{Flies, Pays, Stores}}
use Rattle.mk_laws.proofs.Ready.{Leads, LeadsBy, Ready, bit_is, either_leads, image_test, image_zero, one_right}
use Rattle.mk_laws.proofs.{Refusals.{accesses, decides_nothing, owes_null, refuses}, Standings.{is_astray, standing_at}}
use Rattle.mk_laws.proofs.{ImagesKept.base_at, Pairs.shows_plain, Stages.is_reg_stage}
use Rattle.mk_never.specs.{NeverHeap.{free_reply, lea_reply, moved_on}, declared.values.Target.TheVariants.Nothing}
use Rattle.mk_core.specs.Calls.{value_for}

abbrev pub flight : Stage → Op → ℕ → ℕ → ℕ → ℕ → Flight
flight st o q p r l = record { stage = st; op = o; q = q; p = p; r = r; loaded = l }

-- only q is carried
carries_q : (bs : List ℕ) (f : Flight) (a b d : Value) → f.q ≡ image_of bs a → f.q ≢ 0 → has_p f.stage f.op ≡ false
    → has_some_p f.stage f.op ≡ false → has_r f.stage f.op ≡ false → Carries bs f a b d
carries_q bs f a b d e ne p sp r = grind arith

-- after the load of q, an access carries only q
record BehindLoadQ (s : Stage) (o : Op) : Type 0 where
  pub p : has_p s o ≡ false
  pub some_p : has_some_p s o ≡ false
  pub r : has_r s o ≡ false
  pub put : is_put s ≡ false
  pub probed : is_past_probe s ≡ false

-- a flight that goes on undecided
pub flies_on : (safe : ℕ → Bool) (s : ImageScene) (n : NeverState) (k : ℕ) (o : Op) (f : Flight) → is_put
    (flight_among s.flights k).stage ≡ false → is_put f.stage ≡ false → CarriesOwn (bases_of s.allocations) n k f
    → ProbedOwn n k f → Leads safe s n k o (record s { flights = slice_set s.flights k f }) None
flies_on safe s n k o f was is carries probed = grind (arith, shows_plain, Flies)

-- a pointer i words on
lea_value : {listed : List ℕ} {safe : ℕ → Bool} {s : ImageScene} {n : NeverState} → Ready listed safe s n
    → (v : Value) (x i : ℕ) → IsSound n v → IsSafe safe v → x ≡ image_of (bases_of s.allocations) v → x ≢ 0
    → Meets n v i (λ kind. Unit {0}) → ((x + 8 * i) % 2 ^ 64 ≡ image_of (bases_of s.allocations) (moved_on v i))
    × IsSafe safe (moved_on v i) × (lea_reply v ≡ Done)
lea_value h Null x i sound is e ne meets = absurd (ne e)
lea_value h (Num m) x i sound is e ne meets = absurd sound
lea_value {s = s} h (Ptr a t o) x i sound is e ne meets =
    (omega (arith, h.bound a (o + i) (h.set.unreleased a is) meets.0, base_at s.allocations a, h.room), is, refl)

-- the registers after `reg`
abbrev pub registers_behind : List ℕ → ℕ → Flight → Stage → List ℕ
registers_behind xs k f Stage.Store = slice_set xs (8 * k + d_of f.op) (value_for f f.op)
registers_behind xs k f Stage.Put = slice_set xs (8 * k + d_of f.op) f.loaded
registers_behind xs k f _ = xs

module _ (listed : List ℕ) (safe : ℕ → Bool) (s : ImageScene) (n : NeverState) (k : ℕ) (h : Ready listed safe s n)
    (there : k < length s.flights) (long : 8 * k + 7 < length n.registers) (longs : 8 * k + 7 < length s.registers)
  where
    abbrev bases : List ℕ
    bases = bases_of s.allocations

    null_at : (q x : ℕ) → x ≡ image_of bases (register_at n k q) → (x == 0) ≡ true → register_at n k q ≡ Null
    null_at q x e z = image_zero n _ (register_at n k q) (h.typed.registers (8 * k + q)) (sym e ∙ eqb-true x 0 z)

    -- an access loads its pointer, or is refused
    load_q : (o : Op) (q p r l x : ℕ) → accesses o ≡ true → flight_among s.flights k ≡ flight Stage.LoadQ o q p r l
        → d_of o < 8 → x ≡ image_of bases (register_at n k (q_of o))
        → LeadsBy safe s n k o s (if x == 0 then refused (flight Stage.LoadQ o x p r l) Answer.Null
        else onward (flight Stage.LoadQ o x p r l) None)
    load_q o q p r l x access is ld e =
        let was = ap (λ (f : Flight). is_put f.stage) is in
        let next : BehindLoadQ (stage_behind Stage.LoadQ (steps_of o)) o = grind arith in
        either_leads safe s n k o s (x == 0) _ _ (λ z. refuses safe s n k o x p r Answer.Null Nothing access there long
        was ld refl (rw (null_at (q_of o) x e z)) (λ bs. refl)) (λ nz. flies_on safe s n k o _ was next.put (carries_q _
        _ _ _ _ e (eqb-false x 0 nz) next.p next.some_p next.r) (λ y. absurd (false≢true (sym next.probed ∙ y))))

    reg_q : (o : Op) (q p r l x : ℕ) → flight_among s.flights k ≡ flight Stage.LoadQ o q p r l → d_of o < 8
        → is_astray (standing_at Stage.LoadQ o) ≡ false → CarriesOwn bases n k (flight Stage.LoadQ o q p r l)
        → x ≡ image_of bases (register_at n k (q_of o))
        → LeadsBy safe s n k o s (progress_q (flight Stage.LoadQ o q p r l) o x)
    reg_q (Op.GetNum q' i) q p r l x is ld a car e = load_q (Op.GetNum q' i) q p r l x refl is ld e
    reg_q (Op.SetNum q' i m) q p r l x is ld a car e = load_q (Op.SetNum q' i m) q p r l x refl is ld e
    reg_q (Op.GetPtr d q' i) q p r l x is ld a car e = load_q (Op.GetPtr d q' i) q p r l x refl is ld e
    reg_q (Op.SetPtr q' i p') q p r l x is ld a car e = load_q (Op.SetPtr q' i p') q p r l x refl is ld e
    reg_q (Op.CasPtr q' i p' r') q p r l x is ld a car e = load_q (Op.CasPtr q' i p' r') q p r l x refl is ld e
    reg_q (Op.Lea d q' i) q p r l x is ld a car e =
        let was = ap (λ (f : Flight). is_put f.stage) is in
        either_leads safe s n k (Op.Lea d q' i) s (x == 0) _ _
        (λ z. owes_null safe s n k d (Op.Lea d q' i) _ Answer.Null refl there long was refl refl ld refl
        (rw (null_at q' x e z)) (λ bs. ap (λ v. answer_of bs (lea_reply v)) (sym (null_at q' x e z))))
        (λ nz. flies_on safe s n k (Op.Lea d q' i) _ was refl
        (carries_q _ _ _ _ _ e (eqb-false x 0 nz) refl refl refl) (λ y. cc))
    reg_q (Op.Move d q') q p r l x is ld a car e =
        flies_on safe s n k (Op.Move d q') _ (rw is) refl (grind arith) (λ y. cc)
    reg_q (Op.Same p' q') q p r l x is ld a car e =
        let u = register_at n k p' in
        let v = register_at n k q' in
        let tests : (p == x) ≡ is_same u v = grind (arith, image_test) in
        decides_nothing safe s n k (Op.Same p' q') _ (Answer.Num (one_if (p == x))) refl (rw is) refl refl
        (λ bs. rw tests (ap Answer.Num (bit_is (is_same u v))))
    reg_q _ q p r l x is ld a car e = cc

    reg_p : (o : Op) (q p r l x : ℕ) → flight_among s.flights k ≡ flight Stage.LoadP o q p r l
        → is_astray (standing_at Stage.LoadP o) ≡ false → CarriesOwn bases n k (flight Stage.LoadP o q p r l)
        → x ≡ image_of bases (register_at n k (p_of o))
        → LeadsBy safe s n k o s (progress_p (flight Stage.LoadP o q p r l) o x)
    reg_p (Op.SetPtr q' i p') q p r l x is a car e =
        flies_on safe s n k (Op.SetPtr q' i p') _ (rw is) refl (grind arith) (λ y. cc)
    reg_p (Op.CasPtr q' i p' r') q p r l x is a car e =
        flies_on safe s n k (Op.CasPtr q' i p' r') _ (rw is) refl (grind arith) (λ y. cc)
    reg_p (Op.SetGlobal g p') q p r l x is a car e =
        flies_on safe s n k (Op.SetGlobal g p') _ (rw is) refl (grind arith) (λ y. cc)
    reg_p (Op.Same p' q') q p r l x is a car e =
        flies_on safe s n k (Op.Same p' q') _ (rw is) refl (grind arith) (λ y. cc)
    reg_p (Op.IsNull p') q p r l x is a car e =
        let v = register_at n k p' in
        let tests : (x == 0) ≡ is_same v Null = rw e
        (image_test h v Null (h.typed.registers (8 * k + p')) tt (h.set.registers (8 * k + p')) tt) in
        decides_nothing safe s n k (Op.IsNull p') _ _ refl (rw is) refl refl (λ bs. rw tests (ap Answer.Num (bit_is _)))
    reg_p (Op.Free p') q p r l x is a car e =
        let was = ap (λ (f : Flight). is_put f.stage) is in
        either_leads safe s n k (Op.Free p') s (x == 0) _ _
        (λ z. decides_nothing safe s n k (Op.Free p') _ Answer.Done refl was refl (rw (null_at p' x e z))
        (λ bs. ap (λ v. answer_of bs (free_reply n v)) (sym (null_at p' x e z))))
        (λ nz. flies_on safe s n k (Op.Free p') _ was refl
        (record { q = λ y. cc; some_q = λ y. cc; p = λ y. e; some_p = λ y. eqb-false x 0 nz; r = λ y. cc }) (λ y. cc))
    reg_p _ q p r l x is a car e = cc

    reg_r : (o : Op) (q p r l x : ℕ) → flight_among s.flights k ≡ flight Stage.LoadR o q p r l
        → is_astray (standing_at Stage.LoadR o) ≡ false → CarriesOwn bases n k (flight Stage.LoadR o q p r l)
        → x ≡ image_of bases (register_at n k (r_of o))
        → LeadsBy safe s n k o s (onward (record (flight Stage.LoadR o q p r l) { r = x }) None)
    reg_r (Op.CasPtr q' i p' r') q p r l x is a car e =
        flies_on safe s n k (Op.CasPtr q' i p' r') _ (rw is) refl (grind arith) (λ y. cc)
    reg_r _ q p r l x is a car e = cc

    reg_store : (o : Op) (q p r l : ℕ) → flight_among s.flights k ≡ flight Stage.Store o q p r l → d_of o < 8
        → is_astray (standing_at Stage.Store o) ≡ false → CarriesOwn bases n k (flight Stage.Store o q p r l)
        → AreAdmitted listed n (asked (entry_of k o (Some Answer.Done))) → LeadsBy safe s n k o
        (record s { registers = slice_set s.registers (8 * k + d_of o) (value_for (flight Stage.Store o q p r l) o) })
        (onward (flight Stage.Store o q p r l) (Some Answer.Done))
    reg_store (Op.Lea d q' i) q p r l is ld a car ad = grind (arith, lea_value, flight, one_right, Stores)
    reg_store o q p r l is ld a car ad = grind (arith, flight, Stores)

    pub reg_leads : (st : Stage) (o : Op) (q p r l x : ℕ) → flight_among s.flights k ≡ flight st o q p r l → d_of o < 8
        → is_reg_stage st ≡ true → is_astray (standing_at st o) ≡ false → CarriesOwn bases n k (flight st o q p r l)
        → (is_put st ≡ false → x ≡ image_of bases (register_at n k (register_met (flight st o q p r l) st)))
        → AreAdmitted listed n (asked (entry_of k o (progress_reg (flight st o q p r l) st x).answer))
        → LeadsBy safe s n k o (record s { registers = registers_behind s.registers k (flight st o q p r l) st })
        (progress_reg (flight st o q p r l) st x)
    reg_leads Stage.LoadQ o q p r l x is ld rs a car e ad = reg_q o q p r l x is ld a car (e refl)
    reg_leads Stage.LoadP o q p r l x is ld rs a car e ad = reg_p o q p r l x is a car (e refl)
    reg_leads Stage.LoadR o q p r l x is ld rs a car e ad = reg_r o q p r l x is a car (e refl)
    reg_leads Stage.Store o q p r l x is ld rs a car e ad = reg_store o q p r l is ld a car ad
    reg_leads Stage.Put o q p r l x is ld rs a car e ad = grind (arith, flight, Pays)
    reg_leads _ o q p r l x is ld rs a car e ad = cc
