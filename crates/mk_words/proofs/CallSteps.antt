-- What the steps of a caller's call find and leave.
use Rattle.mk_laws.proofs.Vocabulary.{Access, Answer, Caller, Config, Flight, Group, Host, Load, Marker, Moment, Named}
use Rattle.mk_laws.proofs.Vocabulary.{None, Op, Progress, Seat, Some, Stage, Step, Store, Word, ℕ, access, accessed}
use Rattle.mk_laws.proofs.Vocabulary.{answer_decided, ap, arith, at_rest, begun, caller_number, enabled_meets, eq-eqb}
use Rattle.mk_laws.proofs.Vocabulary.{flight_of, found, get_or-set_other, get_or-set_same, group_of}
use Rattle.mk_laws.proofs.Vocabulary.{histories_keep_lengths, is_open_to, length, ltb-true, ne_eqb, one_if, onward}
use Rattle.mk_laws.proofs.Vocabulary.{progress, progress_reg, refl, reg_access, register_met, register_word}
use Rattle.mk_laws.proofs.Vocabulary.{seat_exists, slice_index, slice_set, still, subst, sym, true, word_accessed, ◌*◌}
use Rattle.mk_laws.proofs.{Vocabulary.{◌++◌, ◌+◌, ◌<◌, ◌==◌, ◌∙◌, ◌≡◌, ◌≢◌, ◌≤◌}, NextSteps.at_enter}
use Rattle.mk_laws.proofs.ProtocolHeldGates.{gates_tell_holds}
use Rattle.mk_core.specs.{Calls.progress_cas, Effects.{begins_where_free, moment_behind}, Layout.IsOfTable}
use Rattle.mk_core.specs.{Conditions.is_in_order, Words.with_named, declared.accesses.TableWord.TableWord}
use Rattle.mk_words.{proofs.Made.{made}, specs.Steps.{FindsHeld, KeepsOtherRegisters, LeavesRegisters, register_of}}
use Rattle.mk_words.specs.{States.{PassState, call_of, event_of, now_of}, Steps.{Finds, Goes, IsEnabledTo, Makes}}
use Rattle.mk_words.specs.{Steps.{Tells, found_by, moment_of}, Rule.told_by, States.is_caller}

-- a step of a call is its caller's
pub is_callers : (s : Seat) → is_open_to s Group.Callers ≡ true → (k : ℕ) × (s ≡ Caller k)
is_callers (Caller k) h = (k, refl)
is_callers (Marker k) h = cc
is_callers Host h = cc

-- Who may load the register of a call, or grant a New its object, is a caller.

pub loads_to : (p : PassState) → IsEnabledTo p Step.Reg → is_caller p.seat ≡ true
loads_to p enabled = grind (arith, is_callers, enabled_meets)

grants : (c : Config) (m : Moment) (s : Seat) → is_open_to s Group.Turn ≡ true → is_in_order c m s Step.Grant ≡ true
    → is_caller s ≡ true
grants c m (Caller k) opens order = refl
grants c m (Marker k) opens order = cc
grants c m Host opens order = grind arith

call_behind : (c : Config) (m : Moment) (seat : Seat) (k : ℕ) (s : Step) → seat ≡ Caller k → k < length m.seats.flights
    → flight_of (moment_behind c m (record { seat = seat; step = s })) seat
    ≡ (progress c m (flight_of m seat) (found c m (record { seat = seat; step = s })) s).flight
call_behind c m (Caller j) k s is lt =
    let same : j ≡ k = cc in
    get_or-set_same m.seats.flights j _ at_rest (omega arith)
call_behind c m (Marker j) k s is lt = cc
call_behind c m Host k s is lt = cc

answer_behind : (c : Config) (m : Moment) (seat : Seat) (k : ℕ) (s : Step) → seat ≡ Caller k
    → answer_decided c m (record { seat = seat; step = s })
    ≡ (progress c m (flight_of m seat) (found c m (record { seat = seat; step = s })) s).answer
answer_behind c m (Caller j) k s is = refl
answer_behind c m (Marker j) k s is = cc
answer_behind c m Host k s is = cc

caller_exists : (c : Config) (seat : Seat) (k : ℕ) → seat ≡ Caller k → seat_exists c seat ≡ true → k < c.callers
caller_exists c seat k is h = ltb-true k c.callers (subst (λ (s : Seat). seat_exists c s ≡ true) is h)

-- How a caller's step makes its call go on.
pub goes : (p : PassState) (s : Step) (q : PassState) (m : Makes p s q) → (k : ℕ) → p.seat ≡ Caller k
    → Goes p s (progress p.table.config (moment_of m) (call_of p) (found_by m) s) q
goes p s q m k is =
    let c : Config = p.table.config in
    let d = made p s q m in
    let n : Moment = moment_of m in
    let same : flight_of n p.seat ≡ call_of p = d.frame.own.flight in
    let lt : k < length n.seats.flights = grind (arith, caller_exists) in
    record {
      makes = m;
      call = cc (d.seat, d.world, call_behind c n p.seat k s is lt, same);
      answer = answer_behind c n p.seat k s is ∙ ap (λ (f : Flight). (progress c n f (found_by m) s).answer) same;
    }

-- The registers are as the pass knew them.
pub registers_before : (p : PassState) (s : Step) (q : PassState) (m : Makes p s q) → (k : ℕ) → p.seat ≡ Caller k
    → (r : ℕ) → r < 8 → register_word (moment_of m).words k r ≡ register_word (now_of p).words k r
registers_before p s q m k is r lt = (made p s q m).frame.own.registers k r is lt

number_is : (s : Seat) (k : ℕ) → s ≡ Caller k → caller_number s ≡ k
number_is s k is = ap (λ (t : Seat). caller_number t) is

-- What a register is after the step, from what the access makes of the registers.
pub register_behind : (p : PassState) (s : Step) (q : PassState) (m : Makes p s q) → (r : ℕ) → register_of q r
    ≡ register_word (moment_behind p.table.config (moment_of m) (event_of p s)).words (caller_number p.seat) r
register_behind p s q m r =
    let d = made p s q m in
    cc (d.seat, d.world)

-- The same, from what a call says.
module _ {p : PassState} {s : Step} {n : ℕ} {q : PassState} (t : Tells p s n q)
    (kind : group_of s ≡ Group.Callers) where
  pub caller_is : (k : ℕ) × (p.seat ≡ Caller k)
  caller_is = is_callers _ (subst (λ (g : Group). is_open_to p.seat g ≡ true) kind (made p s q t.makes).meets.kind)

  pub goes_on : (x : Progress) → progress p.table.config (moment_of t.makes) (call_of p) (found_by t.makes) s ≡ x
      → Goes p s x q
  goes_on x is = let k = caller_is in subst (λ (y : Progress). Goes p s y q) is (goes p s q t.makes k.0 k.1)

  pub keeps : (moment_behind p.table.config (moment_of t.makes) (event_of p s)).words.registers
      ≡ (moment_of t.makes).words.registers → LeavesRegisters p q
  keeps same = let k = caller_is in λ r lt. cc
      (register_behind p s q t.makes r, number_is p.seat k.0 k.1, registers_before p s q t.makes k.0 k.1 r lt)

  pub same_call : flight_of (moment_of t.makes) p.seat ≡ call_of p
  same_call = (made p s q t.makes).frame.own.flight

  pub same_register : (r : ℕ) → r < 8
      → register_word (moment_of t.makes).words (caller_number p.seat) r ≡ register_of p r
  same_register r lt =
      let k = caller_is in
      cc (number_is p.seat k.0 k.1, registers_before p s q t.makes k.0 k.1 r lt)

  pub register_now : (r : ℕ) → register_of q r ≡ register_word
      (moment_behind p.table.config (moment_of t.makes) (event_of p s)).words (caller_number p.seat) r
  register_now r = register_behind p s q t.makes r

-- A store's progress doesn't read what was there.
unread : (f : Flight) (s : Stage) (v n : ℕ) → reg_access f s ≡ Store v → progress_reg f s n ≡ progress_reg f s v
unread f Stage.Store v n h = refl
unread f Stage.Put v n h = refl
unread f _ v n h = cc

-- `reg`, by the access that the call makes at its stage

-- the access is the one that the pass's own list gives
reg_access_is : (p : PassState) (q : PassState) (m : Makes p Step.Reg q) (a : Access)
    → flight_of (moment_of m) p.seat ≡ call_of p → reg_access (call_of p) (call_of p).stage ≡ a
    → access p.table.config (moment_of m) (event_of p Step.Reg) ≡ a
reg_access_is p q m a same is = ap (λ (f : Flight). reg_access f f.stage) same ∙ is

reg_goes : (p : PassState) (q : PassState) (m : Makes p Step.Reg q) (n : ℕ) → n ≡ found_by m → progress p.table.config
    (moment_of m) (call_of p) (found_by m) Step.Reg ≡ progress_reg (call_of p) (call_of p).stage n
reg_goes p q m n is = ap (λ (i : ℕ). progress_reg (call_of p) (call_of p).stage i) (sym is)

module _ {p : PassState} {n : ℕ} {q : PassState} (t : Tells p Step.Reg n q) (r : ℕ)
    (met : r ≡ register_met (call_of p) (call_of p).stage) where
  same : flight_of (moment_of t.makes) p.seat ≡ call_of p
  same = same_call t refl

  reaches : word_accessed p.table.config (moment_of t.makes) (event_of p Step.Reg)
      ≡ Named (Word.Reg (caller_number p.seat) r)
  reaches = grind (arith, same)

  small : r < 8
  small = (subst (λ (x : TableWord). IsOfTable p.table.config.pages x) reaches (made p Step.Reg q t.makes).of_table).1

  module _ (loads : reg_access (call_of p) (call_of p).stage ≡ Load) where
    found_is : n ≡ found_by t.makes
    found_is = t.tells ∙ ap (λ (a : Access). told_by a (found_by t.makes)) loads

    pub load_finds : Finds p Step.Reg n q
    load_finds = record { makes = t.makes; finds = found_is }

    pub load_goes : Goes p Step.Reg (progress_reg (call_of p) (call_of p).stage n) q
    load_goes = goes_on t refl _ (reg_goes p q t.makes n found_is)

    pub load_keeps : LeavesRegisters p q
    load_keeps =
        keeps t refl (ap (λ (a : Access). (accessed (moment_of t.makes).words (word_accessed p.table.config
        (moment_of t.makes) (event_of p Step.Reg)) a).registers) (reg_access_is p q t.makes Load same loads))

    pub load_own : n ≡ register_of p r
    load_own = cc (found_is, reaches, same_register t refl r small)

  module _ (v : ℕ) (stores : reg_access (call_of p) (call_of p).stage ≡ Store v) where
    words_now : (moment_behind p.table.config (moment_of t.makes) (event_of p Step.Reg)).words
        ≡ with_named (moment_of t.makes).words (Word.Reg (caller_number p.seat) r) v
    words_now = grind (arith, reg_access_is, same, reaches)

    register_set : (x : ℕ) → register_of q x ≡ slice_index
        (slice_set (moment_of t.makes).words.registers (8 * caller_number p.seat + r) v) (8 * caller_number p.seat + x)
    register_set x = cc (register_now t refl x, words_now)

    pub store_goes : Goes p Step.Reg (progress_reg (call_of p) (call_of p).stage v) q
    store_goes = goes_on t refl _ (unread _ (call_of p).stage v _ stores)

    pub store_keeps : KeepsOtherRegisters r p q
    store_keeps x lt ne =
        register_set x ∙ get_or-set_other (moment_of t.makes).words.registers (8 * caller_number p.seat + r)
        (8 * caller_number p.seat + x) v 0 (λ e. ne (omega arith)) ∙ same_register t refl x lt

    pub store_stored : register_of q r ≡ v
    store_stored =
        register_set r ∙ get_or-set_same (moment_of t.makes).words.registers (8 * caller_number p.seat + r) v 0
        (let long = (histories_keep_lengths p.table.config (p.seen ++ t.makes.others)).registers in
        let k = caller_is t refl in
        let number : caller_number p.seat ≡ k.0 = number_is p.seat k.0 k.1 in
        let d = made p Step.Reg q t.makes in
        let within = caller_exists p.table.config p.seat k.0 k.1 d.meets.seat in
        let most = d.known.small in
        let lt = small in
        omega arith)

-- `cas`
pub cas_goes : (f : Flight) (n found expected : ℕ) → n ≡ found → expected ≡ f.p
    → progress_cas f found ≡ onward f (Some (Answer.Num (one_if (n == expected))))
cas_goes f n found expected is old = grind arith

-- `enter`

pub begins : (f : Flight) (o : Op) (n found : ℕ) → n ≡ found → n ≡ 0
    → begins_where_free f o found ≡ record { flight = begun o; answer = None }
begins f o n found is free = grind (arith, eq-eqb)

pub waits : (f : Flight) (o : Op) (n found : ℕ) → n ≡ found → n ≢ 0 → begins_where_free f o found ≡ still f
waits f o n found is held = grind (arith, ne_eqb)

module _ {p : PassState} {o : Op} {n : ℕ} {q : PassState} (t : Tells p (Step.Enter o) n q) where
  pub enter_goes : n ≡ 0 → Goes p (Step.Enter o) (record { flight = begun o; answer = None }) q
  enter_goes free = goes_on t refl _ (begins _ o n _ t.tells free)

  pub enter_waits : n ≢ 0 → Goes p (Step.Enter o) (still (call_of p)) q
  enter_waits held = goes_on t refl _ (waits _ o n _ t.tells held)

  pub enter_keeps : LeavesRegisters p q
  enter_keeps = keeps t refl refl

  pub enter_held : n ≢ 0 → FindsHeld p o q
  enter_held held =
      let c : Config = p.table.config in
      let d = made p (Step.Enter o) q t.makes in
      let k = caller_is t refl in
      let m : Moment = moment_of t.makes in
      let within : k.0 < c.callers = caller_exists c p.seat k.0 k.1 d.meets.seat in
      let number : caller_number p.seat ≡ k.0 = number_is p.seat k.0 k.1 in
      let order : is_in_order c m (Caller k.0) (Step.Enter o) ≡ true = grind arith in
      let idle = (at_enter (flight_of m (Caller k.0)).stage (flight_of m (Caller k.0)).op o order).0 in
      let gate : ℕ = slice_index m.words.gates k.0 in
      let is : n ≡ gate = t.tells ∙ ap (λ (i : ℕ). slice_index m.words.gates i) number in
      let not_one : gate ≢ 1 = grind arith in
      let least : gate ≤ 2 = d.protocol.gate k.0 within in
      let two : gate ≡ 2 = omega arith in
      record {
        makes = t.makes;
        found = ap (λ (i : ℕ). slice_index m.words.gates i) number ∙ two;
        held = cc (number, (gates_tell_holds c (p.seen ++ t.makes.others) k.0).0 two);
      }
