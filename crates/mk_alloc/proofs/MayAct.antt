-- What the turn's holder may do, whatever the moment.
use Rattle.std.proofs.{Common.⊎_elim, lemmas.List.length-replicate}
use Rattle.mk_caller.proofs.Below.Laws.Vocabulary.{Answer, AreAdmitted, Bool, Call, Caller, Config, Event, Flight}
use Rattle.mk_caller.proofs.Below.Laws.Vocabulary.{Group, Host, IsAdmitted, IsEnabled, IsHistory, List, Marker, Moment}
use Rattle.mk_caller.proofs.Below.Laws.Vocabulary.{Null, Op, Option, Seat, Some, Stage, Step, Tally, Value, Word, ℕ}
use Rattle.mk_caller.proofs.Below.Laws.Vocabulary.{after_calls, and_from, and_parts, answer_decided, ap, arith, asked}
use Rattle.mk_caller.proofs.Below.Laws.Vocabulary.{call_decided, calls, carves, comes_next, d_of, entry_of, eq-eqb}
use Rattle.mk_caller.proofs.Below.Laws.Vocabulary.{false, flight_of, frees, group_of, has_gates, has_operands}
use Rattle.mk_caller.proofs.Below.Laws.Vocabulary.{has_phase, header_of, holder_may, inl, inr, is_held, is_in_range}
use Rattle.mk_caller.proofs.Below.Laws.Vocabulary.{is_new_at, is_number_of, is_open_to, is_phase, is_run_cell}
use Rattle.mk_caller.proofs.Below.Laws.Vocabulary.{is_run_gone, is_undecided_free, is_undecided_new, is_unmapped_header}
use Rattle.mk_caller.proofs.Below.Laws.Vocabulary.{is_used_once, left, length, lt-ltb, ltb-true, map-append, marker_at}
use Rattle.mk_caller.proofs.Below.Laws.Vocabulary.{marker_may, marks_place, nat_lt, not, object_made, or_left, or_right}
use Rattle.mk_caller.proofs.Below.Laws.Vocabulary.{others_are_held, phase_of, place_now, refl, seat_exists, subst, sym}
use Rattle.mk_caller.proofs.Below.Laws.Vocabulary.{takes_cell, target, true, undecided_free, undecided_new, unmaps, []}
use Rattle.mk_caller.proofs.Below.Laws.Vocabulary.{◌*◌, ◌++◌, ◌<◌, ◌==◌, ◌||◌, ◌∙◌, ◌∷◌, ◌≡◌, ◌⊎◌}
use Rattle.mk_alloc.proofs.ObjectVocabulary.{IsAdmittedBehind, IsOutOfStop, calls_more, is_acting, is_steady_word}
use Rattle.mk_never.proofs.{Later.calls_stay, Parts.admitted_join}
use Rattle.mk_core.{proofs.Conditions.{meets_enabled}, specs.TurnConditions.{is_in_gone_run, takes_snapshot}}
use Rattle.mk_core.specs.{History.never_first, Conditions.{is_in_order, is_of_any_holder, may_decide_new}}
use Rattle.mk_core.specs.Conditions.{is_word}

-- A seat that is acting is a caller's, and has the steps of any holder next.

pub record IsActing (c : Config) (m : Moment) (s : Seat) : Type 0 where
  pub there : seat_exists c s ≡ true
  pub acts : is_acting (flight_of m s).stage ≡ true

any_may_decide : (o : Op) (x : Step) → is_of_any_holder x ≡ true → may_decide_new o x ≡ true
any_may_decide x0 x h = grind arith

order_of_acting : (c : Config) (m : Moment) (s : Seat) (x : Step) → is_acting (flight_of m s).stage ≡ true
    → is_of_any_holder x ≡ true → is_in_order c m s x ≡ true
order_of_acting c m (Caller k) x acts any = grind (arith, any_may_decide)
order_of_acting c m (Marker k) x acts any = cc
order_of_acting c m Host x acts any = cc

-- An undecided New is acting, and has `grant` next besides.

pub new_is_acting : (f : Flight) → is_undecided_new f ≡ true → is_acting f.stage ≡ true
new_is_acting f new = ap is_acting (undecided_new f new).stage

pub free_is_acting : (f : Flight) → is_undecided_free f ≡ true → is_acting f.stage ≡ true
free_is_acting f free = ap is_acting (undecided_free f free).stage

grant_comes_next : (s : Stage) (o : Op) → is_new_at s o ≡ true → comes_next s o Step.Grant ≡ true
grant_comes_next Stage.Turn (Op.New d ty full) h = refl
grant_comes_next _ _ h = cc

low_phase : (n : ℕ) → (n ≡ 0) ⊎ (n ≡ 1) → ((n == 0) || (n == 1)) ≡ true
low_phase n (inl none) = or_left (n == 0) (n == 1) (eq-eqb n 0 none)
low_phase n (inr one) = or_right (n == 0) (n == 1) (eq-eqb n 1 one)

low_or_more : (n k : ℕ) → (n ≡ 0) ⊎ (n ≡ 1) → ((n == 0) || (n == 1) || (n == k)) ≡ true
low_or_more n k low = or_left ((n == 0) || (n == 1)) (n == k) (low_phase n low)

pub off_four : (m : Moment) → IsOutOfStop m → is_phase m.words 4 ≡ false
off_four m (inl none) = ap (λ (n : ℕ). n == 4) none
off_four m (inr one) = ap (λ (n : ℕ). n == 4) one

open_to_acting : (m : Moment) (s : Seat) → is_acting (flight_of m s).stage ≡ true → is_open_to s Group.Turn ≡ true
open_to_acting m (Caller k) acts = refl
open_to_acting m (Marker k) acts = cc
open_to_acting m Host acts = cc

grant_in_order : (c : Config) (m : Moment) (s : Seat) → is_undecided_new (flight_of m s) ≡ true
    → is_in_order c m s Step.Grant ≡ true
grant_in_order c m (Caller k) new = grant_comes_next (flight_of m (Caller k)).stage (flight_of m (Caller k)).op new
grant_in_order c m (Marker k) new = cc
grant_in_order c m Host new = cc

module _ {c : Config} {m : Moment} {s : Seat} (at : IsActing c m s) where
  -- a step of any holder, or one that is in order
  may_by : (x : Step) → group_of x ≡ Group.Turn → (is_of_any_holder x ≡ true) ⊎ (is_in_order c m s x ≡ true)
      → is_in_range c s (flight_of m s) x ≡ true → has_gates c m.words s (flight_of m s) x ≡ true → has_phase
      (phase_of m.words) x ≡ true → marker_may c (marker_at m s) x ≡ true → holder_may c m (flight_of m s) x ≡ true
      → IsEnabled c m (record { seat = s; step = x })
  may_by x turn next range gates phase marker own = meets_enabled c m (record { seat = s; step = x }) (record {
    seat = at.there;
    kind = ap (λ g. is_open_to s g) turn ∙ open_to_acting m s at.acts;
    order = ⊎_elim (λ (any : is_of_any_holder x ≡ true). order_of_acting c m s x at.acts any)
        (λ (is : is_in_order c m s x ≡ true). is) next;
    range = range;
    gates = gates;
    phase = phase;
    marker = marker;
    holder = own;
  })

  pub may_look : (x : Word) → is_steady_word x ≡ true → is_word c x ≡ true
      → IsEnabled c m (record { seat = s; step = Step.Look x })
  may_look x steady within = may_by (Step.Look x) refl (inl refl) within (gates x steady) refl refl refl
    where
      gates : (x : Word) → is_steady_word x ≡ true → has_gates c m.words s (flight_of m s) (Step.Look x) ≡ true
      gates (Word.Reg j r) steady = cc
      gates x steady = refl

  pub may_look_phase : IsEnabled c m (record { seat = s; step = Step.Look Word.Phase })
  may_look_phase = may_by (Step.Look Word.Phase) refl (inl refl) refl refl refl refl refl

  pub may_look_quarantine : (p : ℕ) → p < c.pages → IsEnabled c m (record { seat = s; step = Step.Look (Word.Quar p) })
  may_look_quarantine p within =
      may_by (Step.Look (Word.Quar p)) refl (inl refl) (lt-ltb p c.pages within) refl refl refl refl

  pub may_free : (p v : ℕ) → p < c.pages → IsOutOfStop m
      → (not (is_run_cell m.words (target c.pages m.words (flight_of m s))) || others_are_held c.callers m.words s)
      ≡ true → frees m.words (target c.pages m.words (flight_of m s)) p v ≡ true
      → IsEnabled c m (record { seat = s; step = Step.Quar p v })
  may_free p v within low gates frees =
      may_by (Step.Quar p v) refl (inl refl) (lt-ltb p c.pages within) gates (low_or_more (phase_of m.words) 4 low) refl
      (rw (off_four m low) (or_left _ (takes_snapshot m.words p v) frees))

  pub may_tally : (n : Tally) (v : ℕ) → IsEnabled c m (record { seat = s; step = Step.Tally n v })
  may_tally n v = may_by (Step.Tally n v) refl (inl refl) refl refl refl refl refl

  pub may_mark_place : (p v : ℕ) → p < c.pages → phase_of m.words ≡ 1
      → marks_place m.words (object_made c (flight_of m s).op) (place_now c m (flight_of m s)) p v ≡ true
      → IsEnabled c m (record { seat = s; step = Step.Mark p v })
  may_mark_place p v within one places =
      may_by (Step.Mark p v) refl (inl refl) (lt-ltb p c.pages within) refl (ap (λ (n : ℕ). (n == 1) || (n == 2)) one)
      refl (or_right _ _ places)

  pub may_carve : (p v : ℕ) → p < c.pages → IsOutOfStop m → is_unmapped_header (header_of v) ≡ false
      → carves m.words (object_made c (flight_of m s).op) (place_now c m (flight_of m s)) p v ≡ true
      → IsEnabled c m (record { seat = s; step = Step.Head p v })
  may_carve p v within low mapped carve =
      may_by (Step.Head p v) refl (inl refl) (lt-ltb p c.pages within) (ap (λ b. not b
      || others_are_held c.callers m.words s) mapped) (low_or_more (phase_of m.words) 4 low) refl
      (rw (off_four m low) (or_left _ (unmaps m.words m.seats.holding.freed p v) carve))

  pub may_take : (p v : ℕ) → p < c.pages → IsOutOfStop m → is_used_once m.seats.holding.placing ≡ false
      → takes_cell m.words (object_made c (flight_of m s).op) (place_now c m (flight_of m s)) p v ≡ true
      → IsEnabled c m (record { seat = s; step = Step.Used p v })
  may_take p v within low once takes =
      may_by (Step.Used p v) refl (inl refl) (lt-ltb p c.pages within) refl (low_or_more _ 4 low) refl
      (rw (off_four m low, once) takes)

  pub may_grant : is_undecided_new (flight_of m s) ≡ true → IsOutOfStop m → is_used_once m.seats.holding.placing ≡ true
      → IsEnabled c m (record { seat = s; step = Step.Grant })
  may_grant new low once =
      may_by Step.Grant refl (inr (grant_in_order c m s new)) refl refl (low_phase (phase_of m.words) low) refl once

  pub may_hold : (j : ℕ) → j < c.callers → is_number_of s j ≡ false → is_held m.words j ≡ false
      → IsEnabled c m (record { seat = s; step = Step.Hold j })
  may_hold j lt other not_held =
      may_by (Step.Hold j) refl (inl refl) (and_from _ (not _) (lt-ltb j c.callers lt) (ap not other)) (ap not not_held)
      refl refl refl

  pub may_open : (j : ℕ) → j < c.callers → is_number_of s j ≡ false → is_held m.words j ≡ true → IsOutOfStop m
      → is_run_gone m.words m.seats.holding.freed ≡ true → IsEnabled c m (record { seat = s; step = Step.Open j })
  may_open j lt other held low gone =
      may_by (Step.Open j) refl (inl refl) (and_from (nat_lt j c.callers) (not (is_number_of s j))
      (lt-ltb j c.callers lt) (ap not other)) held (ap not (elim low [
        | inl none ↦ ap (λ (n : ℕ). n == 3) none
        | inr one ↦ ap (λ (n : ℕ). n == 3) one
      ])) refl gone

  pub may_unmap : (p v : ℕ) → p < c.pages → IsOutOfStop m → others_are_held c.callers m.words s ≡ true
      → unmaps m.words m.seats.holding.freed p v ≡ true → IsEnabled c m (record { seat = s; step = Step.Head p v })
  may_unmap p v within low held unmap =
      may_by (Step.Head p v) refl (inl refl) (lt-ltb p c.pages within) (or_right (not _) _ held) (low_or_more _ 4 low)
      refl (rw (off_four m low) (or_right (carves m.words (object_made c (flight_of m s).op)
      (place_now c m (flight_of m s)) p v) _ unmap))

  pub may_look_heap : (n : ℕ) → n < 64 * c.pages → IsEnabled c m (record { seat = s; step = Step.Look (Word.Heap n) })
  may_look_heap n within =
      may_by (Step.Look (Word.Heap n)) refl (inl refl) (lt-ltb n (64 * c.pages) within) refl refl refl refl

  pub may_wipe : (n : ℕ) → n < 64 * c.pages → is_in_gone_run m.words m.seats.holding.freed n ≡ true
      → IsEnabled c m (record { seat = s; step = Step.Wipe n })
  may_wipe n within gone =
      may_by (Step.Wipe n) refl (inl refl) (lt-ltb n (64 * c.pages) within) refl refl refl (or_right _ _ gone)

-- A New is admitted wherever its call is.

pub new_in_range : (c : Config) {o : Op} (d ty : ℕ) (full : Bool) → o ≡ Op.New d ty full → has_operands c o ≡ true
    → (d < 8) × (ty < length c.types)
new_in_range c d ty full is h = grind (arith, and_parts, ltb-true)

pub register_small : (c : Config) (f : Flight) → is_undecided_new f ≡ true → has_operands c f.op ≡ true → d_of f.op < 8
register_small c f new h = grind (arith, undecided_new, new_in_range)

pub new_admitted : (c : Config) (k d ty : ℕ) (full : Bool) (xs : List Call) → k < c.callers → d < 8
    → ty < length c.types → IsAdmitted c.globals (after_calls (never_first c) xs) k (Op.New d ty full)
new_admitted c k d ty full xs lt small typed =
    let stays = calls_stay (never_first c) xs in
    record {
      of_a_caller = let many = length-replicate {A = Value} (8 * c.callers) Null in let same =
          stays.registers in omega arith;
      in_range = (small, subst (λ (ts : _). ty < length ts) (sym stays.types) typed);
      access = tt;
      store = tt;
    }

pub asked_more : (c : Config) (es : List Event) (e : Event)
    → asked (calls c (es ++ e ∷ [])) ≡ asked (calls c es) ++ asked (call_decided c (left c es).now e)
asked_more c es e = grind (arith, calls_more, map-append)

-- A step is admitted, where the calls that it decides are.
pub step_admits : {c : Config} {es : List Event} (e : Event) → IsHistory c es → AreAdmitted c.globals (after_calls
    (never_first c) (asked (calls c es))) (asked (call_decided c (left c es).now e)) → IsAdmittedBehind c es e
step_admits {c} {es} e h decided =
    subst (λ (xs : List Call). AreAdmitted c.globals (never_first c) xs) (sym (asked_more c es e)) (admitted_join
    c.globals (never_first c) (asked (calls c es)) (asked (call_decided c (left c es).now e)) (h.admitted, decided))

-- So is one that decides a New.
pub new_step_admitted : {c : Config} {es : List Event} (k : ℕ) (x : Step) (a : Answer) → IsHistory c es → k < c.callers
    → is_undecided_new (flight_of (left c es).now (Caller k)) ≡ true
    → has_operands c (flight_of (left c es).now (Caller k)).op ≡ true → answer_decided c (left c es).now
    (record { seat = Caller k; step = x }) ≡ Some a → IsAdmittedBehind c es (record { seat = Caller k; step = x })
new_step_admitted {c} {es} k x a h lt new operands decides =
    let n = undecided_new (flight_of (left c es).now (Caller k)) new in
    let ranges = new_in_range c n.d n.ty n.full n.op operands in
    step_admits (record { seat = Caller k; step = x }) h (subst (λ (b : Option Answer). AreAdmitted c.globals
    (after_calls (never_first c) (asked (calls c es))) (asked (entry_of k (flight_of (left c es).now (Caller k)).op b)))
    (sym decides) (subst (λ (o : Op). AreAdmitted c.globals (after_calls (never_first c) (asked (calls c es)))
    (asked (entry_of k o (Some a)))) (sym n.op) (by a n.d n.ty n.full ranges.0 ranges.1)))
  where
    by : (a : Answer) (d ty : ℕ) (full : Bool) → d < 8 → ty < length c.types → AreAdmitted c.globals
        (after_calls (never_first c) (asked (calls c es))) (asked (entry_of k (Op.New d ty full) (Some a)))
    by Answer.Full d ty full small typed = (new_admitted c k d ty true (asked (calls c es)) lt small typed, tt)
    by _ d ty full small typed = (new_admitted c k d ty false (asked (calls c es)) lt small typed, tt)

pub grant_admitted : {c : Config} {es : List Event} (k : ℕ) → IsHistory c es → k < c.callers → is_undecided_new
    (flight_of (left c es).now (Caller k)) ≡ true → has_operands c (flight_of (left c es).now (Caller k)).op ≡ true
    → IsAdmittedBehind c es (record { seat = Caller k; step = Step.Grant })
grant_admitted k h lt new operands = new_step_admitted k Step.Grant Answer.Done h lt new operands refl
