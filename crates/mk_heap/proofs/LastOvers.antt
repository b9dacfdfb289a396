-- After the host's last cycle: it says that all is over, and markers are joined. No cycle is begun there.
use Rattle.mk_alloc.proofs.Below.Laws.Vocabulary.{AreOfOthers, Caller, Config, Event, Host, IsHistory, List, None, Seat}
use Rattle.mk_alloc.proofs.Below.Laws.Vocabulary.{Step, Word, World, ℕ, ap, append_assoc, before_close}
use Rattle.mk_alloc.proofs.Below.Laws.Vocabulary.{earlier_part_is_history, enabled_in_parts, false, inl, inr, is_begin}
use Rattle.mk_alloc.proofs.Below.Laws.Vocabulary.{left, list_any, or_from, or_parts, refl, subst, sym, [], ◌++◌, ◌<◌}
use Rattle.mk_alloc.proofs.Below.Laws.Vocabulary.{◌∙◌, ◌∷◌, ◌≡◌}
use Rattle.mk_alloc.proofs.{Below.Laws.Actors.is_holders, ListParts.{Lacks, lacks_append, lacks_one}}
use Rattle.mk_alloc.proofs.{CycleParts.{finish_does, finish_in, begins_held}, Parts.{has_then, in_turn_then, seen_then}}
use Rattle.mk_alloc.proofs.{Parts.{behind_step, made_as, others_lack, seen_made}, CalmStretches.is_of_cycles}
use Rattle.mk_alloc.proofs.Below.Words.{Seats.{others_append, others_own}, Waiting.waits_more}
use Rattle.mk_alloc.proofs.Below.Words.Made.{pass_before}
use Rattle.mk_alloc.specs.Below.Words.States.{Has, HasCallers, PassState, WordsState, IsTurn}
use Rattle.mk_alloc.specs.{Below.Words.States.event_of, TurnCycles.{has_step, within_turn}}
use Rattle.mk_alloc.specs.Below.Words.{TurnSteps.turn_stays, Steps.Does}
use Rattle.mk_alloc.specs.Below.Words.{TurnSteps.{TakesTurn, Waits}, Steps.Makes}
use Rattle.mk_heap.proofs.{LastTurns.{cycle_moves, over_moves, still_behind_over}, HostTurnParts.{idle_turn, stays}}
use Rattle.mk_heap.proofs.{HostTurnParts.turn_taken, LastCycles.last_cycle}
use Rattle.mk_heap.proofs.HomeCallers.{HoldersStepNone, others_hold_none, waiting_holds_none}
use Rattle.mk_heap.specs.{Hosts.IsWhole, Ending.{SaysOver, EndsCycle, TakesLastTurns}}
use Rattle.mk_heap.specs.{Ending.{EndsWithCycle, MakesLastCycle}, declared.reports.Report.Report}
use Rattle.std.proofs.lemmas.List.{append_cancel_left}
use Rattle.mk_heap.specs.Hosts as report

-- From what the one pass had seen to what the other has seen no cycle is begun.
pub record Unbegun (p q : PassState) : Type 0 where
  pub more : List Event
  pub is : q.seen ≡ p.seen ++ more
  pub none : Lacks is_begin more

unbegun_then : {p q : PassState} (r : PassState) → Unbegun p q → Unbegun q r → Unbegun p r
unbegun_then {p} {q} r one two = record {
  more = one.more ++ two.more;
  is = seen_then p.seen q.seen r.seen one.more two.more one.is two.is;
  none = lacks_append is_begin one.more two.more one.none two.none;
}

pub unbegun_made : {p : PassState} (q : PassState) (s : Step) → IsTurn p → is_begin s ≡ false → Makes p s q
    → Unbegun p q
unbegun_made {p} q s t other m = record {
  more = m.others ++ event_of p s ∷ [];
  is = seen_made p q s m;
  none =
      lacks_append is_begin m.others (event_of p s ∷ []) (others_lack is_begin p q s begins_held t m m.pass.history)
      (lacks_one is_begin (event_of p s) other);
}

-- Where no holder steps nobody begins one.
pub unheld_unbegun : (es : List Event) → HoldersStepNone es → Lacks is_begin es
unheld_unbegun [] h = refl
unheld_unbegun (e ∷ es) h =
    let parts = or_parts (is_holders e.step) (list_any (λ (x : Event). is_holders x.step) es) h in
    or_from (is_begin e.step) (has_step is_begin es) (begins_held e.step parts.0) (unheld_unbegun es parts.1)

-- A cycle that is on may be finished.
pub ends_unbegun : {taken idle : PassState} → IsTurn taken → EndsCycle taken idle
    → IsHistory idle.table.config idle.seen → Unbegun taken idle
ends_unbegun {taken} {idle} t ends history = elim ends.phase [
  | inl none ↦
      let is : idle ≡ ends.looked = ends.none none in rw is look
  | inr on ↦
      let does : Does is_of_cycles ends.looked idle = finish_does ends.looked idle looked_own (ends.on on) in
      let finish = finish_in ends.looked idle looked_own (ends.on on)
      (in_turn_then turn_stays taken ends.looked stays t looks ends.looks.pass.history) history in
      unbegun_then idle look (record { more = finish.more; is = finish.is; none = finish.begins_none })
]
  where
    looks : Does turn_stays taken ends.looked
    looks = made_as turn_stays taken ends.looked (Step.Look Word.Phase) t.own ends.looks refl

    looked_own : Has ends.looked.seats ends.looked.seat
    looked_own = has_then turn_stays taken ends.looked looks t.own

    look : Unbegun taken ends.looked
    look = unbegun_made ends.looked (Step.Look Word.Phase) t refl ends.looks

-- While the host waits for the turn nobody begins one, and it takes the turn.
pub wait_unbegun : {p taken : PassState} → Has p.seats Host → HasCallers p.table.config p.seats
    → TakesTurn p None taken → Unbegun p taken
wait_unbegun {p} {taken} host callers takes =
    let c : Config = p.table.config in
    let w : Waits p taken = waits_more p takes.waited taken None takes.waits takes.takes.makes in
    let long : IsHistory c (p.seen ++ w.more) =
    subst (λ (r : PassState). IsHistory r.table.config r.seen) w.is takes.takes.makes.pass.history in
    let on = ((enabled_in_parts c p.seen w.more).0 long.enabled).1 in
    record {
      more = w.more;
      is = ap (λ (r : PassState). r.seen) w.is;
      none = unheld_unbegun w.more (waiting_holds_none p c host callers (left c p.seen) w.more w.only on);
    }

-- So up to where no cycle is on.
pub idle_unbegun : {p taken idle : PassState} → Has p.seats Host → HasCallers p.table.config p.seats
    → TakesTurn p None taken → EndsCycle taken idle → IsHistory idle.table.config idle.seen → Unbegun p idle
idle_unbegun {idle = idle} host callers takes ends history =
    unbegun_then idle (wait_unbegun host callers takes) (ends_unbegun (turn_taken takes) ends history)

-- The host says that all is over.
pub over_unbegun : {p q : PassState} → Has p.seats Host → HasCallers p.table.config p.seats → SaysOver p q
    → Unbegun p q
over_unbegun {q = q} host callers o =
    let idle = (pass_before o.says).history in
    let t_idle = idle_turn o.idles.takes o.idles.ends idle in
    unbegun_then q (idle_unbegun host callers o.idles.takes o.idles.ends idle) (unbegun_then q
    (unbegun_made o.said Step.Over t_idle refl o.says) (unbegun_made q Step.Give (behind_step t_idle o.says refl) refl
    o.gives))

-- So the host's last turns end the list with their cycle.
pub ends_with_cycle : {tells : Config → World → Type 0} {w : WordsState} {p : PassState} → TakesLastTurns tells w p
    → IsHistory w.config p.seen → EndsWithCycle tells w.config p.seen
ends_with_cycle {tells} {p} t history =
    let a : PassState = t.joined in
    let b : PassState = t.cycled in
    let s : PassState = t.said in
    let c : Config = a.table.config in
    let more : List Event = t.behind.more in
    let own : Has a.seats a.seat = subst (λ (x : Seat). Has a.seats x) (sym t.seat) t.own in
    let callers = subst (λ (x : WordsState). HasCallers x.config a.seats) (sym t.table) t.callers in
    let made = (cycle_moves t.cycle.makes).is in
    let said = (over_moves b s t.over).is in
    let b_seat : b.seat ≡ Host = ap (λ (r : PassState). r.seat) made ∙ t.seat in
    let b_callers : HasCallers b.table.config b.seats =
    subst (λ (r : PassState). HasCallers r.table.config r.seats) (sym made) callers in
    let whole : IsHistory c p.seen = subst (λ (x : WordsState). IsHistory x.config p.seen) (sym t.table) history in
    let long : IsHistory c (s.seen ++ more) = subst (λ (l : List Event). IsHistory c l) t.behind.is whole in
    let config : s.table.config ≡ c =
    ap (λ (r : PassState). r.table.config) said ∙ ap (λ (r : PassState). r.table.config) made in
    let over = over_unbegun (subst (λ (r : PassState). Has r.seats Host) (sym made) t.own) b_callers t.over in
    let tail : List Event = over.more ++ more in
    let is : p.seen ≡ b.seen ++ tail =
    t.behind.is ∙ ap (λ (l : List Event). l ++ more) over.is ∙ append_assoc b.seen over.more more in
    let ends : IsHistory c (b.seen ++ tail) = subst (λ (l : List Event). IsHistory c l) is whole in
    let b_history : IsHistory b.table.config b.seen =
    rw (ap (λ (r : PassState). r.table.config) made) (earlier_part_is_history c b.seen tail ends) in
    let none : Lacks is_begin tail =
    lacks_append is_begin over.more more over.none (unheld_unbegun more (others_hold_none a c t.own callers _ more
    t.behind.of_others ((enabled_in_parts c s.seen more).0 long.enabled).1)) in
    let still : (k : ℕ) → k < c.callers → AreOfOthers (Caller k ∷ []) tail = λ k lt.
    let said_still = still_behind_over b_seat t.over k
    (subst (λ (r : PassState). Has r.seats (Caller k)) (sym made) (callers k lt)) in
    others_append (Caller k ∷ []) over.more more
    (rw (append_cancel_left b.seen said_still.more over.more (sym said_still.is ∙ over.is)) at said_still.of_others)
    (others_own a.seats (Caller k) more (callers k lt) t.behind.of_others) in
    subst (λ (x : WordsState). EndsWithCycle tells x.config p.seen) t.table (subst (λ (l : List Event). EndsWithCycle
    tells c l) (sym is) (subst (λ (x : Seat). MakesLastCycle x tells c (b.seen ++ tail)) t.seat
    (last_cycle t.cycle.makes t.cycle.at_close t.seat callers tail ends none still)))

-- and that of the whole run, when the heap is closed.
pub run_ends_with_cycle : {tells : Config → World → Type 0} (c : Config) {w : WordsState} {p : PassState} (r : Report)
    → w.config ≡ c → TakesLastTurns tells w p → report.history_of r ≡ p.seen → report.config_of r ≡ w.config
    → IsWhole (report.config_of r) (report.history_of r) → EndsWithCycle tells c (report.history_of r)
run_ends_with_cycle {tells} c {w = w} {p = p} r made t history config whole =
    let es : List Event = report.history_of r in
    subst (λ (d : Config). EndsWithCycle tells d es) made (subst (λ (l : List Event). EndsWithCycle tells w.config l)
    (sym history) (ends_with_cycle t (rw history at (subst (λ (d : Config). IsHistory d es) config whole.history))))

-- What is told may tell more.
pub ends_weaker : (tells others : Config → World → Type 0) (c : Config) (es : List Event)
    → ((w : World) → tells c w → others c w) → EndsWithCycle tells c es → EndsWithCycle others c es
ends_weaker tells others c es weaker h = record {
  before = h.before;
  behind = h.behind;
  is = h.is;
  turn = h.turn;
  callers = h.callers;
  cycle = h.cycle;
  last = h.last;
  told = weaker (left c (within_turn h.turn (before_close h.cycle.releasing.marking))) h.told;
}
