-- Each step of a caller's call outside the turn leads to what the images allow.
use Rattle.mk_laws.proofs.Vocabulary.{AccessIsAdmitted, Answer, AreAdmitted, Bool, Caller, CarriesOwn, Config, Done}
use Rattle.mk_laws.proofs.Vocabulary.{Flight, ImageScene, IsAdmitted, IsMet, IsNumber, IsPointer, IsSafe, IsSound, Kind}
use Rattle.mk_laws.proofs.Vocabulary.{List, Meets, MeetsAll, Mirrors, Named, NeverState, None, Num, Op, ProbedOwn, Ptr}
use Rattle.mk_laws.proofs.Vocabulary.{Some, Stage, Step, Unmapped, Value, Word, Words, World, ℕ, accessed}
use Rattle.mk_laws.proofs.Vocabulary.{allocation_at, answer_decided, answer_of, ap, arith, asked, at_rest, bases_of}
use Rattle.mk_laws.proofs.Vocabulary.{begun, bit, call_decided, d_of, entry_of, false, false≢true, flagged}
use Rattle.mk_laws.proofs.Vocabulary.{flight_among, flight_of, g_of, global_at, has_p, has_r, has_some_p, header_at}
use Rattle.mk_laws.proofs.Vocabulary.{header_of, i_of, if◌then◌else◌, image_of, image_scene_of, is_past_probe, is_put}
use Rattle.mk_laws.proofs.Vocabulary.{is_same, is_under_turn, is_unmapped, is_unmapped_header, length, ltb-true}
use Rattle.mk_laws.proofs.Vocabulary.{number_of, one_if, onward, page_met, placed_at, progress_read, q_of, refl}
use Rattle.mk_laws.proofs.Vocabulary.{refused, reg_access, register_at, register_met, register_word, set-get_or}
use Rattle.mk_laws.proofs.Vocabulary.{slice_index, slice_set, stage_behind, steps_of, subst, sym, true, with_word}
use Rattle.mk_laws.proofs.Vocabulary.{word_at, word_met, words_of, world_behind, ◌*◌, ◌++◌, ◌+◌, ◌-◌, ◌/◌, ◌<◌, ◌==◌}
use Rattle.mk_laws.proofs.{Vocabulary.{◌∙◌, ◌≡◌, ◌≢◌}, Basics.{KnownWorld, Leads, Move, PagesShow, Ready, Writes}}
use Rattle.mk_laws.proofs.Basics.{at_its_stage, at_reg, either_leads, flight, goes_bare, is_astray, is_call_stage}
use Rattle.mk_laws.proofs.Basics.{not_astray, operands_of, register_small, standing, standing_at}
use Rattle.mk_laws.proofs.{ImagesMoves.{Decides, Flies, Owes, Shares, is_bare}, Reached.{Reaches, mapped_met}}
use Rattle.mk_laws.proofs.{Reached.{of_number, reaches, sound_more, suits, unmapped_target}, Ready.{LeadsBy, bit_is}}
use Rattle.mk_laws.proofs.{Ready.{image_test, one_right}, ImagesKept.own_plain, NextSteps.at_enter}
use Rattle.mk_laws.proofs.{Refusals.{accesses, decides_nothing, refuses}, RegMoves.{flies_on, reg_leads}}
use Rattle.mk_laws.proofs.RegMoves.{registers_behind}
use Rattle.mk_never.{proofs.Soundness.{suited_is_sound}, specs.NeverHeap.{reply_at}}
use Rattle.mk_core.{proofs.RegisterAccesses.{register_leaves}, specs.Calls.{progress_cas, progress_getg, value_written}}
use Rattle.mk_core.specs.Effects.{begins_where_free, progress_probe}
use Rattle.mk_never.specs.declared.operations.Reply.TheVariants.{Num as Number, Val}

-- the access of an operation, at whatever kind of word
meets_some : (n : NeverState) (v : Value) (i : ℕ) (P : Kind → Type 0) → Meets n v i P → Meets n v i (λ kind. Unit {0})
meets_some n (Ptr a t o) i P h = (h.0, tt)
meets_some n _ i P h = tt

pub access_meets : (n : NeverState) (k : ℕ) (o : Op) → accesses o ≡ true → AccessIsAdmitted n k o
    → Meets n (register_at n k (q_of o)) (i_of o) (λ kind. Unit {0})
access_meets n k o a h = grind (arith, meets_some)

-- after its `probe` an access carries what it did before
pub record BehindProbe (s : Stage) (o : Op) : Type 0 where
  pub access : accesses o ≡ true
  pub put : is_put s ≡ false
  pub p : has_p s o ≡ has_p Stage.Probe o
  pub some_p : has_some_p s o ≡ false
  pub r : has_r s o ≡ has_r Stage.Probe o

pub at_probe : (o : Op) → is_astray (standing_at Stage.Probe o) ≡ false
    → BehindProbe (stage_behind Stage.Probe (steps_of o)) o
at_probe (Op.GetNum q i) h = record { access = refl; put = refl; p = refl; some_p = refl; r = refl }
at_probe _ h = record { access = cc; put = cc; p = cc; some_p = cc; r = cc }

module _ {listed : List ℕ} {safe : ℕ → Bool} {s : ImageScene} {n : NeverState} (k : ℕ) (h : Ready listed safe s n)
    (there : k < length s.flights) (long : 8 * k + 7 < length n.registers) where
  abbrev bases : List ℕ
  bases = bases_of s.allocations

  own_sound : (r : ℕ) → IsSound n (register_at n k r)
  own_sound r = h.typed.registers (8 * k + r)

  own_safe : (r : ℕ) → IsSafe safe (register_at n k r)
  own_safe r = h.set.registers (8 * k + r)

  -- an access goes on if its page is mapped, and is refused if it isn't
  pub probe_leads : (header : ℕ → ℕ) → PagesShow header s n → (o : Op) (q p r l x : ℕ) → flight_among s.flights k
      ≡ flight Stage.Probe o q p r l → d_of o < 8 → is_astray (standing_at Stage.Probe o) ≡ false
      → CarriesOwn bases n k (flight Stage.Probe o q p r l) → x ≡ header (((q - 65536) / 8 + i_of o) / 64)
      → (is_unmapped_header (header_of x) ≡ true → IsAdmitted listed n k o)
      → LeadsBy safe s n k o s (progress_probe (flight Stage.Probe o q p r l) x)
  probe_leads header show o q p r l x is ld a car e ad =
      let was = ap (λ (f : Flight). is_put f.stage) is in
      let table = at_probe o a in
      let unmapped = ap (λ y. is_unmapped_header (header_of y)) (sym e) in
      either_leads safe s n k o s _ _ _ (λ u. refuses safe s n k o q p r Answer.Fault Unmapped table.access there long
      was ld refl (unmapped_target listed safe s n h header show (register_at n k (q_of o)) q (i_of o)
      (λ kind. Unit {0}) (car.q refl) (car.some_q refl) (own_sound (q_of o)) (own_safe (q_of o))
      (access_meets n k o table.access (ad u).access) (unmapped ∙ u)) (λ bs. refl))
      (λ u. flies_on safe s n k o (flight (stage_behind Stage.Probe (steps_of o)) o q p r l) was table.put (record {
        q = λ y. car.q refl;
        some_q = λ y. car.some_q refl;
        p = λ y. car.p (sym table.p ∙ y);
        some_p = λ y. absurd (false≢true (sym table.some_p ∙ y));
        r = λ y. car.r (sym table.r ∙ y);
      }) (λ y. mapped_met listed safe s n h header show (register_at n k (q_of o)) q (i_of o) (car.q refl)
      (car.some_q refl) (own_sound (q_of o)) (own_safe (q_of o)) (unmapped ∙ u)))

  -- the word of pointers that an access reaches: the word of the heap there is the image of its value
  record PointerMet (q' q i x : ℕ) : Type 0 where
    pub to : Reaches safe s n (register_at n k q') q i IsPointer
    pub value : x ≡ image_of bases (word_at n to.number to.place)
    pub sound : IsSound n (word_at n to.number to.place)

  pointer_met : (q' q i x : ℕ) → q ≡ image_of bases (register_at n k q') → q ≢ 0 → IsMet n (register_at n k q') i
      → Meets n (register_at n k q') i IsPointer → x ≡ slice_index s.heap ((q - 65536) / 8 + i) → PointerMet q' q i x
  pointer_met q' q i x same some_q probed access e =
      let to = reaches listed safe s n h _ q i IsPointer same some_q (own_sound q')
      (own_safe q') probed access in record {
        to = to;
        value = e ∙ ap (slice_index s.heap) to.word
            ∙ h.images.heap to.number to.place to.unreleased to.mapped to.inside;
        sound = suited_is_sound n _ _ to.kind (suits listed safe s n h to.number to.place to.exists to.inside);
      }

  pub read_leads : (o : Op) (q p r l x : ℕ) → flight_among s.flights k ≡ flight Stage.Read o q p r l → d_of o < 8
      → is_astray (standing_at Stage.Read o) ≡ false → CarriesOwn bases n k (flight Stage.Read o q p r l)
      → ProbedOwn n k (flight Stage.Read o q p r l) → x ≡ slice_index s.heap ((q - 65536) / 8 + i_of o)
      → IsAdmitted listed n k o → LeadsBy safe s n k o s (progress_read (flight Stage.Read o q p r l) o x)
  read_leads (Op.GetNum q' i) q p r l x is ld a car pro e ad =
      let to = reaches listed safe s n h (register_at n k q') q i IsNumber (car.q refl) (car.some_q refl) (own_sound q')
      (own_safe q') (pro refl) ad.access in
      let word = word_at n to.number to.place in
      let value = e ∙ ap (slice_index s.heap) to.word ∙ h.images.heap to.number to.place to.unreleased to.mapped
      to.inside ∙ of_number n _ word _ to.kind (suits listed safe s n h to.number to.place to.exists to.inside) in
      decides_nothing safe s n k (Op.GetNum q' i) _ (Answer.Num x) refl (rw is) refl refl (λ bs. ap Answer.Num value
      ∙ ap (λ t. answer_of bs (reply_at t (λ a w. Number (number_of (word_at n a w))))) (sym to.target))
  read_leads (Op.GetPtr d q' i) q p r l x is ld a car pro e ad =
      let met = pointer_met q' q i x (car.q refl) (car.some_q refl) (pro refl) ad.access e in
      let to = met.to in
      let word = word_at n to.number to.place in (
        rw to.target (Owes k (flight Stage.Put (Op.GetPtr d q' i) q p r x) word there long (rw is) refl ld met.value
            (h.set.closed to.number to.place to.of_set to.mapped)),
        λ more. one_right _ (Answer.Word x) n k (Op.GetPtr d q' i)
            (ap Answer.Word (met.value ∙ sound_more listed safe s n h word more met.sound) ∙ ap (λ t. answer_of
            (bases_of s.allocations ++ more) (reply_at t (λ a w. Val (word_at n a w)))) (sym to.target)),
      )
  read_leads _ q p r l x is ld a car pro e ad = cc

  decides : (f : Flight) (st : Stage) (o : Op) (q p r l : ℕ) → flight_among s.flights k ≡ flight st o q p r l
      → is_put st ≡ false → Decides s n k (flight Stage.Dirty o q p r l)
  decides f st o q p r l is np = record { there = there; registers = long; was = rw is np; bare = refl }

  pub write_leads : (o : Op) (q p r l : ℕ) → flight_among s.flights k ≡ flight Stage.Write o q p r l
      → is_astray (standing_at Stage.Write o) ≡ false → CarriesOwn bases n k (flight Stage.Write o q p r l)
      → ProbedOwn n k (flight Stage.Write o q p r l) → IsAdmitted listed n k o → LeadsBy safe s n k o
      (record s { heap = slice_set s.heap ((q - 65536) / 8 + i_of o) (value_written (flight Stage.Write o q p r l) o) })
      (onward (flight Stage.Write o q p r l) (Some Answer.Done))
  write_leads (Op.SetNum q' i m) q p r l is a car pro ad =
      let to = reaches listed safe s n h _ q i IsNumber (car.q refl) (car.some_q refl) (own_sound q')
      (own_safe q') (pro refl) ad.access in
      let f = flight Stage.Dirty (Op.SetNum q' i m) q p r l in (
        rw to.word (rw to.target
            (Writes k to.number to.place m f (Num m) (decides f Stage.Write (Op.SetNum q' i m) q p r l is refl)
            to.unreleased to.mapped to.inside (h.bound to.number to.place to.unreleased to.inside) refl tt)),
        λ more. one_right _ Answer.Done n k (Op.SetNum q' i m)
            (ap (λ t. answer_of (bases_of s.allocations ++ more) (reply_at t (λ a w. Done))) (sym to.target)),
      )
  write_leads (Op.SetPtr q' i p') q p r l is a car pro ad =
      let to = reaches listed safe s n h _ q i IsPointer (car.q refl) (car.some_q refl)
      (own_sound q') (own_safe q') (pro refl) ad.access in
      let f = flight Stage.Dirty (Op.SetPtr q' i p') q p r l in (
        rw to.word (rw to.target (Writes k to.number to.place p f (register_at n k p')
            (decides f Stage.Write (Op.SetPtr q' i p') q p r l is refl) to.unreleased to.mapped to.inside
            (h.bound to.number to.place to.unreleased to.inside) (car.p refl) (own_safe p'))),
        λ more. one_right _ Answer.Done n k (Op.SetPtr q' i p')
            (ap (λ t. answer_of (bases_of s.allocations ++ more) (reply_at t (λ a w. Done))) (sym to.target)),
      )
  write_leads _ q p r l is a car pro ad = cc

  cas_by : (b : Bool) (o : Op) (q p r l r' a i w x : ℕ) → w ≡ (placed_at s.allocations a).base + i → x ≡ slice_index
      s.heap w → (placed_at s.allocations a).released ≡ false → is_unmapped (allocation_at n a) ≡ false → i < length
      (words_of n a) → r ≡ image_of bases (register_at n k r') → Decides s n k (flight Stage.Dirty o q p r l)
      → Move safe s n (record s {
        heap = slice_set s.heap w (if b then r else x);
        flights = slice_set s.flights k
            (flight Stage.Dirty o q p r l);
      }) (if b then with_word n a i (register_at n k r') else n)
  cas_by true o q p r l r' a i w x ew ex u m inside er at =
      rw ew (Writes k a i r (flight Stage.Dirty o q p r l) (register_at n k r') at u m inside (h.bound a i u inside) er
      (own_safe r'))
  cas_by false o q p r l r' a i w x ew ex u m inside er at =
      rw (ap (slice_set s.heap w) ex ∙ set-get_or s.heap w 0) (goes_bare safe s n k _ at.was refl)

  -- A compare and exchange reaches a word, and compares its value to that of its caller's register p.
  pub cas_compares : {q' i p' r' : ℕ} (q p r l x : ℕ)
      → CarriesOwn bases n k (flight Stage.Cas (Op.CasPtr q' i p' r') q p r l)
      → ProbedOwn n k (flight Stage.Cas (Op.CasPtr q' i p' r') q p r l) → x ≡ slice_index s.heap ((q - 65536) / 8 + i)
      → IsAdmitted listed n k (Op.CasPtr q' i p' r') → (to : Reaches safe s n (register_at n k q') q i IsPointer)
      × ((x == p) ≡ is_same (word_at n to.number to.place) (register_at n k p'))
  cas_compares {q'} {i} {p'} q p r l x car pro e ad =
      let met = pointer_met q' q i x (car.q refl) (car.some_q refl) (pro refl) ad.access e in
      let to = met.to in (
        to,
        ap (λ (y : ℕ). y == p) met.value ∙ rw (car.p refl) (image_test h _ (register_at n k p') met.sound
            (own_sound p') (h.set.closed to.number to.place to.of_set to.mapped) (own_safe p')),
      )

  pub cas_leads : (o : Op) (q p r l x : ℕ) → flight_among s.flights k ≡ flight Stage.Cas o q p r l
      → is_astray (standing_at Stage.Cas o) ≡ false → CarriesOwn bases n k (flight Stage.Cas o q p r l) → ProbedOwn n k
      (flight Stage.Cas o q p r l) → x ≡ slice_index s.heap ((q - 65536) / 8 + i_of o) → IsAdmitted listed n k o
      → LeadsBy safe s n k o (record s { heap = slice_set s.heap ((q - 65536) / 8 + i_of o) (if x == p then r else x) })
      (progress_cas (flight Stage.Cas o q p r l) x)
  cas_leads (Op.CasPtr q' i p' r') q p r l x is a car pro e ad =
      let compared = cas_compares q p r l x car pro e ad in
      let to = compared.0 in
      let f = flight Stage.Dirty (Op.CasPtr q' i p' r') q p r l in
      let at : ℕ → ℕ → NeverState = λ a w. if is_same (word_at n a w) (register_at n k p')
      then with_word n a w (register_at n k r') else n in (
        rw to.target (grind (arith, cas_by, decides)),
        λ more. one_right _ (Answer.Num (one_if (x == p))) n k (Op.CasPtr q' i p' r') (rw compared.1
            (ap Answer.Num (bit_is _) ∙ ap (λ t. answer_of (bases_of s.allocations ++ more)
            (reply_at t (λ a w. Number (bit (is_same (word_at n a w) (register_at n k p')))))) (sym to.target))),
      )
  cas_leads _ q p r l x is a car pro e ad = cc

  pub getg_leads : (o : Op) (q p r l x : ℕ) → flight_among s.flights k ≡ flight Stage.Getg o q p r l → d_of o < 8
      → is_astray (standing_at Stage.Getg o) ≡ false → x ≡ slice_index s.globals (g_of o)
      → LeadsBy safe s n k o s (progress_getg (flight Stage.Getg o q p r l) x)
  getg_leads (Op.GetGlobal d g) q p r l x is ld a e =
      let value : x ≡ image_of bases (global_at n g) = e ∙ h.images.globals g in (
        Owes k (flight Stage.Put (Op.GetGlobal d g) q p r x) (global_at n g) there long
            (rw is) refl ld value (h.set.globals g),
        λ more. one_right _ (Answer.Word x) n k (Op.GetGlobal d g)
            (ap Answer.Word (value ∙ sound_more listed safe s n h (global_at n g) more (h.typed.globals g))),
      )
  getg_leads _ q p r l x is ld a e = cc

  pub setg_leads : (o : Op) (q p r l : ℕ) → flight_among s.flights k ≡ flight Stage.Setg o q p r l
      → is_astray (standing_at Stage.Setg o) ≡ false → CarriesOwn bases n k (flight Stage.Setg o q p r l)
      → g_of o < length s.globals → g_of o < length n.globals → LeadsBy safe s n k o
      (record s { globals = slice_set s.globals (g_of o) p }) (onward (flight Stage.Setg o q p r l) (Some Answer.Done))
  setg_leads (Op.SetGlobal g p') q p r l is a car lg ln = grind (arith, flight, own_safe, Shares)
  setg_leads _ q p r l is a car lg ln = cc

abbrev pub LeadsAt : Config → World → NeverState → (ℕ → Bool) → ℕ → Step → Type 0
LeadsAt c w n safe k x = Leads safe (image_scene_of w) n k (flight_of w.now (Caller k)).op
    (image_scene_of (world_behind c w (record { seat = Caller k; step = x })))
    (answer_decided c w.now (record { seat = Caller k; step = x }))

abbrev pub AdmittedAt : Config → World → NeverState → ℕ → Step → Type 0
AdmittedAt c w n k x = AreAdmitted c.globals n (asked (call_decided c w.now (record { seat = Caller k; step = x })))

abbrev pub MeetsAt : Config → World → ℕ → Step → Type 0
MeetsAt c w k x = MeetsAll c w.now (record { seat = Caller k; step = x })

pub flag_is : (o : Op) (a : Answer) → is_under_turn o ≡ false → flagged o a ≡ o
flag_is (Op.New d ty full) a h = cc
flag_is _ a h = refl

-- a call outside the turn
pub call_outside : (o : Op) (s : Stage) → is_call_stage s ≡ true → is_astray (standing_at s o) ≡ false
    → is_under_turn o ≡ false
call_outside (Op.GetNum q i) Stage.Idle h a = cc
call_outside x0 x1 h a = grind arith

pub admitted_call : (listed : List ℕ) (n : NeverState) (k : ℕ) (o : Op) (a : Answer) → is_under_turn o ≡ false
    → AreAdmitted listed n (asked (entry_of k o (Some a))) → IsAdmitted listed n k o
admitted_call listed n k o a out ad = rw (flag_is o a out) at ad.0

read_admitted : (listed : List ℕ) (n : NeverState) (k : ℕ) (f : Flight) (o : Op) (x : ℕ) → is_under_turn o ≡ false
    → AreAdmitted listed n (asked (entry_of k o (progress_read f o x).answer)) → IsAdmitted listed n k o
read_admitted listed n k f (Op.GetPtr d q i) x out ad = ad.0
read_admitted listed n k f o x out ad = grind (arith, admitted_call)

pub literal : (f : Flight) (st : Stage) → f.stage ≡ st → f ≡ flight st f.op f.q f.p f.r f.loaded
literal f st e = rw e

-- the words after `reg`
reg_registers : (w : Words) (k : ℕ) (f : Flight) (st : Stage) → (accessed w (Named (Word.Reg k (register_met f st)))
    (reg_access f st)).registers ≡ registers_behind w.registers k f st
reg_registers w k f Stage.Store = refl
reg_registers w k f _ = cc

begun_plain : (o : Op) → (is_past_probe (begun o).stage ≡ false) × (is_put (begun o).stage ≡ false)
begun_plain (Op.New d ty full) = (refl, refl)
begun_plain _ = (refl, refl)

module _ (c : Config) (w : World) (n : NeverState) (known : KnownWorld c w) (mirrors : Mirrors c w n) (safe : ℕ
    → Bool) (ready : Ready c.globals safe (image_scene_of w) n) where
  pub there_is : (k : ℕ) → k < c.callers → k < length w.now.seats.flights
  there_is k lt = let e = known.now.orderly.flights in omega (arith, e)

  pub own_registers : (k : ℕ) → k < c.callers → 8 * k + 7 < length n.registers
  own_registers k lt = let e = mirrors.register_count in omega (arith, e)

  pub own_words : (k : ℕ) → k < c.callers → 8 * k + 7 < length w.now.words.registers
  own_words k lt = let e = known.lengths.registers in let m = known.limits.callers.1 in omega (arith, e)

  pub own_d : (k : ℕ) → d_of (flight_of w.now (Caller k)).op < 8
  own_d k = (ready.small k).3

  own_astray : (k : ℕ) → k < c.callers → is_astray (standing (flight_of w.now (Caller k))) ≡ false
  own_astray k lt = not_astray c w.now known.now.orderly k lt

  -- a call that begins, or doesn't
  pub begins : (k : ℕ) (o next : Op) (x : ℕ) → is_put (flight_of w.now (Caller k)).stage ≡ false
      → LeadsBy safe (image_scene_of w) n k o (image_scene_of w) (begins_where_free (flight_of w.now (Caller k)) next x)
  begins k o next x was = either_leads safe _ n k o (image_scene_of w) (x == 0) (record {
    flight = begun next;
    answer = None;
  }) _ (λ z. flies_on safe _ n k o (begun next) was (begun_plain next).1 (grind arith)
      (λ past. let y : false ≡ true = sym (begun_plain next).0 ∙ past in cc))
      (λ z. flies_on safe _ n k o (flight_of w.now (Caller k)) was was (ready.images.carried k) (ready.images.probed k))

  -- a call that stays at its stage
  pub stays : (k : ℕ) (o : Op) → Leads safe (image_scene_of w) n k o
      (record (image_scene_of w) { flights = slice_set w.now.seats.flights k (flight_of w.now (Caller k)) }) None
  stays k o = (
    Flies k (flight_of w.now (Caller k)) (λ r x. refl) (ready.images.carried k) (ready.images.probed k),
    λ more. refl,
  )

  pub bare_on : (k : ℕ) (o : Op) (f : Flight) → is_put (flight_of w.now (Caller k)).stage ≡ false
      → is_bare f.stage ≡ true → Leads safe (image_scene_of w) n k o
      (record (image_scene_of w) { flights = slice_set w.now.seats.flights k f }) None
  bare_on k o f was bare = (goes_bare safe _ n k f was bare, λ more. refl)

  pub enter_leads : (k : ℕ) (o : Op) → MeetsAt c w k (Step.Enter o) → LeadsAt c w n safe k (Step.Enter o)
  enter_leads k o h =
      let f = flight_of w.now (Caller k) in
      begins k f.op o _ (ap is_put (at_enter f.stage f.op o h.order).0)

  pub leave_leads : (k : ℕ) → MeetsAt c w k Step.Leave → LeadsAt c w n safe k Step.Leave
  leave_leads k h = let f = flight_of w.now (Caller k) in bare_on k f.op at_rest
      (ap is_put (at_its_stage f.stage f.op Step.Leave refl h.order)) refl

  pub dirty_leads : (k : ℕ) → MeetsAt c w k Step.Dirty → LeadsAt c w n safe k Step.Dirty
  dirty_leads k h =
      let f = flight_of w.now (Caller k) in
      let e = literal f Stage.Dirty (at_its_stage f.stage f.op Step.Dirty refl h.order) in
      rw e (dirty_by f.op f.q f.p f.r f.loaded (rw e at (own_astray k (ltb-true k c.callers h.seat))) (rw e))
    where
      dirty_by : (o : Op) (q p r l : ℕ) → is_astray (standing_at Stage.Dirty o) ≡ false → is_put
          (flight_of w.now (Caller k)).stage ≡ false → Leads safe (image_scene_of w) n k o (record (image_scene_of w)
          { flights = slice_set w.now.seats.flights k (onward (flight Stage.Dirty o q p r l) None).flight }) None
      dirty_by (Op.SetNum q' i m) q p r l a was = bare_on k (Op.SetNum q' i m) _ was refl
      dirty_by (Op.SetPtr q' i p') q p r l a was = bare_on k (Op.SetPtr q' i p') _ was refl
      dirty_by (Op.CasPtr q' i p' r') q p r l a was = bare_on k (Op.CasPtr q' i p' r') _ was refl
      dirty_by _ q p r l a was = cc

  module _ (k : ℕ) where
    abbrev f : Flight
    f = flight_of w.now (Caller k)

    lt : {s : Step} → MeetsAt c w k s → k < c.callers
    lt h = ltb-true k c.callers h.seat

    pub reg_leads_at : MeetsAt c w k Step.Reg → AdmittedAt c w n k Step.Reg → LeadsAt c w n safe k Step.Reg
    reg_leads_at h ad =
        let x = register_word w.now.words k (register_met f f.stage) in
        let kept = register_leaves w.now.words k (register_met f f.stage) (reg_access f f.stage) in
        rw (reg_registers w.now.words k f f.stage, kept.globals, kept.heap) (reg_leads c.globals safe _ n k ready
        (there_is k (lt h)) (own_registers k (lt h)) (own_words k (lt h)) f.stage f.op f.q f.p f.r f.loaded x refl
        (own_d k) (at_reg f.stage f.op h.order) (own_astray k (lt h)) (ready.images.carried k)
        (λ np. own_plain ready.images k _ (register_small f f.stage (operands_of c f.op (known.now.operands k))) np) ad)

    pub probe_leads_at : PagesShow (header_at w.now.words) (image_scene_of w) n → MeetsAt c w k Step.Probe
        → AdmittedAt c w n k Step.Probe → LeadsAt c w n safe k Step.Probe
    probe_leads_at show h ad =
        let st = at_its_stage f.stage f.op Step.Probe refl h.order in
        let e = literal f Stage.Probe st in
        let out = call_outside f.op f.stage (ap is_call_stage st) (own_astray k (lt h)) in
        subst (λ (g : Flight). LeadsBy safe (image_scene_of w) n k g.op (image_scene_of w)
        (progress_probe g (header_at w.now.words (page_met f)))) (sym e)
        (probe_leads k ready (there_is k (lt h)) (own_registers k (lt h)) (header_at w.now.words) show f.op f.q f.p f.r
        f.loaded (header_at w.now.words (page_met f)) e (own_d k) (rw e at (own_astray k (lt h))) (rw e at
        (ready.images.carried k)) refl (λ u. admitted_call c.globals n k f.op Answer.Fault out (subst (λ b. AreAdmitted
        c.globals n (asked (entry_of k f.op (if b then refused f Answer.Fault else onward f None).answer))) u ad)))

    pub read_leads_at : MeetsAt c w k Step.Read → AdmittedAt c w n k Step.Read → LeadsAt c w n safe k Step.Read
    read_leads_at h ad =
        let st = at_its_stage f.stage f.op Step.Read refl h.order in
        let e = literal f Stage.Read st in
        let out = call_outside f.op f.stage (ap is_call_stage st) (own_astray k (lt h)) in
        let x = slice_index w.now.words.heap (word_met f) in
        subst (λ (g : Flight). LeadsBy safe (image_scene_of w) n k g.op (image_scene_of w) (progress_read g g.op x))
        (sym e) (read_leads k ready (there_is k (lt h)) (own_registers k (lt h)) f.op f.q f.p f.r _ x e
        (own_d k) (rw e at (own_astray k (lt h))) (rw e at (ready.images.carried k)) (rw e at (ready.images.probed k))
        refl (read_admitted _ n k f f.op x out ad))

    pub write_leads_at : MeetsAt c w k Step.Write → AdmittedAt c w n k Step.Write → LeadsAt c w n safe k Step.Write
    write_leads_at h ad =
        let st = at_its_stage f.stage f.op Step.Write refl h.order in
        let e = literal f Stage.Write st in
        let out = call_outside f.op f.stage (ap is_call_stage st) (own_astray k (lt h)) in
        rw e (write_leads k ready (there_is k (lt h)) (own_registers k (lt h)) f.op f.q f.p f.r
        f.loaded e (rw e at (own_astray k (lt h))) (rw e at (ready.images.carried k))
        (rw e at (ready.images.probed k)) (admitted_call c.globals n k f.op Answer.Done out ad))

    pub cas_leads_at : MeetsAt c w k Step.Cas → AdmittedAt c w n k Step.Cas → LeadsAt c w n safe k Step.Cas
    cas_leads_at h ad =
        let st = at_its_stage f.stage f.op Step.Cas refl h.order in
        let e = literal f Stage.Cas st in
        let out = call_outside f.op f.stage (ap is_call_stage st) (own_astray k (lt h)) in
        let x = slice_index w.now.words.heap (word_met f) in
        rw e (cas_leads k ready (there_is k (lt h)) (own_registers k (lt h)) f.op f.q f.p f.r
        f.loaded x e (rw e at (own_astray k (lt h))) (rw e at (ready.images.carried k))
        (rw e at (ready.images.probed k)) refl (admitted_call c.globals n k f.op _ out ad))

    pub getg_leads_at : MeetsAt c w k Step.Getg → LeadsAt c w n safe k Step.Getg
    getg_leads_at h =
        let e = literal f Stage.Getg (at_its_stage f.stage f.op Step.Getg refl h.order) in
        let x = slice_index w.now.words.globals (g_of f.op) in
        rw e (getg_leads k ready (there_is k (lt h))
        (own_registers k (lt h)) f.op f.q f.p f.r f.loaded x e (own_d k) (rw e at (own_astray k (lt h))) refl)

    pub setg_leads_at : MeetsAt c w k Step.Setg → LeadsAt c w n safe k Step.Setg
    setg_leads_at h =
        let e = literal f Stage.Setg (at_its_stage f.stage f.op Step.Setg refl h.order) in
        let small = (operands_of c f.op (known.now.operands k)).g in
        let ln = mirrors.global_count in
        rw e (setg_leads k ready (there_is k (lt h)) (own_registers k (lt h)) f.op f.q f.p f.r
        f.loaded e (rw e at (own_astray k (lt h))) (rw e at (ready.images.carried k)) (omega arith) (omega arith))
