-- What the host does in a run: it makes no step before the scripts are joined, and then begins the last cycle alone.
use Rattle.std.proofs.{Math.Bool.cond, lemmas.List.{Sums.{sum_by-append, sum_by-cons}, append_cancel_left}}
use Rattle.mk_alloc.proofs.Below.Laws.Vocabulary.{AreOfOthers, Bool, Caller, Config, Event, Host, IsHistory, List, Seat}
use Rattle.mk_alloc.proofs.Below.Laws.Vocabulary.{Step, ℕ, ap, append_assoc, arith, enabled_in_parts, false, is_begin}
use Rattle.mk_alloc.proofs.Below.Laws.Vocabulary.{left, or_parts, refl, subst, sym, true, [], ◌++◌, ◌+◌, ◌∙◌, ◌∷◌, ◌≡◌}
use Rattle.mk_alloc.proofs.{ListParts.Lacks, Below.Words.Seats.{others_append, others_none, others_own}}
use Rattle.mk_alloc.proofs.{Parts.seen_then, CycleParts.BeginIn}
use Rattle.mk_alloc.specs.{Below.Words.States.{Has, HasCallers, PassState}, TurnCycles.has_step}
use Rattle.mk_core.specs.History.{Grows}
use Rattle.mk_heap.proofs.{LastCycles.{ends, h_idle, t_ended}, LastOvers.{Unbegun, idle_unbegun, over_unbegun}}
use Rattle.mk_heap.proofs.{LastOvers.{unbegun_made, unheld_unbegun}, HomeCallers.others_hold_none}
use Rattle.mk_heap.specs.Ending.{CallersAreStill, BeginsAsAsked, HostComesLast, cycles_begun}
use Rattle.mk_heap.specs.{Hosts.{HostState, with_seen}, Ending.{SaysOver, MakesCycle}}
use Rattle.mk_heap.proofs.LastCycles.{begins as begins_in}

-- Before the scripts are joined the host makes no step.

pub unseen_by_host : (es : List Event) → es ≡ [] → AreOfOthers (Host ∷ []) es
unseen_by_host es is = subst (λ (l : List Event). AreOfOthers (Host ∷ []) l) (sym is) (others_none (Host ∷ []))

pub host_is_still : {seats : List Seat} {es fs : List Event} → Has seats Host → Grows seats es fs
    → AreOfOthers (Host ∷ []) es → AreOfOthers (Host ∷ []) fs
host_is_still own g before = grind (arith, others_append, others_own)

-- the cycles that are begun in a list

abbrev begins : Event → ℕ
begins e = cond (is_begin e.step) 1 0

begun_append : (xs ys : List Event) → cycles_begun (xs ++ ys) ≡ cycles_begun xs + cycles_begun ys
begun_append xs ys = sum_by-append begins xs ys

by_none : (b : Bool) (n : ℕ) → b ≡ false → n ≡ 0 → cond b 1 0 + n ≡ 0
by_none x0 n is none = grind arith

by_one : (b : Bool) (n : ℕ) → b ≡ true → n ≡ 0 → cond b 1 0 + n ≡ 1
by_one x0 n is none = grind arith

none_begun : (es : List Event) → Lacks is_begin es → cycles_begun es ≡ 0
none_begun [] h = refl
none_begun (e ∷ es) h =
    let parts = or_parts (is_begin e.step) (has_step is_begin es) h in
    sum_by-cons begins e es ∙ by_none (is_begin e.step) (cycles_begun es) parts.0 (none_begun es parts.1)

-- From what the one pass had seen to what the other has seen this many cycles are begun.
record Begins (n : ℕ) (p q : PassState) : Type 0 where
  pub more : List Event
  pub is : q.seen ≡ p.seen ++ more
  pub count : cycles_begun more ≡ n

begins_then : {m : ℕ} (n : ℕ) {p q : PassState} (r : PassState) → Begins m p q → Begins n q r → Begins (m + n) p r
begins_then n {p = p} {q = q} r one two =
    record {
      more = one.more ++ two.more;
      is = seen_then p.seen q.seen r.seen one.more two.more one.is two.is;
      count = begun_append one.more two.more ∙ omega arith;
    }

begins_none : (p q : PassState) → Unbegun p q → Begins 0 p q
begins_none p q u = record { more = u.more; is = u.is; count = none_begun u.more u.none }

begins_one : {p q : PassState} → BeginIn p q → Begins 1 p q
begins_one b =
    let before = none_begun b.before b.none_before in
    let one = sum_by-cons begins b.begin b.behind ∙ by_one (is_begin b.begin.step) (cycles_begun b.behind) b.begins
    (none_begun b.behind b.none_behind) in
    record { more = b.before ++ b.begin ∷ b.behind; is = b.is; count = begun_append b.before _ ∙ omega arith }

-- The host makes one cycle.
cycle_begins : {p q : PassState} → Has p.seats Host → HasCallers p.table.config p.seats → MakesCycle p q → Begins 1 p q
cycle_begins {p} {q} host callers m =
    let finish = ends m in
    begins_then 1 q (begins_none p m.idle (idle_unbegun host callers m.idles.takes m.idles.ends (h_idle m)))
    (begins_then 0 q (begins_one (begins_in m)) (begins_then 0 q
    (begins_none m.begun m.ended (record { more = finish.more; is = finish.is; none = finish.begins_none }))
    (begins_none m.ended q (unbegun_made q Step.Give (t_ended m) refl m.gives))))

-- The host's last turns, without a cycle of its own and with one.

pub over_begins : {p q : PassState} → Has p.seats Host → HasCallers p.table.config p.seats → SaysOver p q
    → BeginsAsAsked false p.seen q.seen
over_begins host callers over =
    let u = over_unbegun host callers over in
    record { more = u.more; is = u.is; cycles = none_begun u.more u.none }

pub both_begin : (h g i : HostState) → Has h.pass.seats Host → HasCallers h.pass.table.config h.pass.seats
    → g ≡ with_seen h g.pass.seen → MakesCycle h.pass g.pass → SaysOver g.pass i.pass
    → BeginsAsAsked true h.pass.seen i.pass.seen
both_begin h g i host callers is cycle over =
    let g_host : Has g.pass.seats Host = subst (λ (x : HostState). Has x.pass.seats Host) (sym is) host in
    let g_callers : HasCallers g.pass.table.config g.pass.seats =
    subst (λ (x : HostState). HasCallers x.pass.table.config x.pass.seats) (sym is) callers in
    let after = over_begins g_host g_callers over in
    let both = begins_then 0 i.pass (cycle_begins host callers cycle)
    (record { more = after.more; is = after.is; count = after.cycles }) in
    record { more = both.more; is = both.is; cycles = both.count }

-- So the host comes last,

pub comes_last : (c : Config) {with_cycle : Bool} (p : PassState) {fs : List Event} → HasCallers c p.seats
    → AreOfOthers (Host ∷ []) p.seen → CallersAreStill p fs → BeginsAsAsked with_cycle p.seen fs
    → HostComesLast c.callers with_cycle fs
comes_last c p callers before still begins = record {
  scripts = p.seen;
  last = begins.more;
  is = begins.is;
  without_host = before;
  without_callers = λ k lt.
      let s = still k (callers k lt) in
      rw (append_cancel_left p.seen s.more begins.more (sym s.is ∙ begins.is)) at s.of_others;
  cycles = begins.cycles;
}

-- and still does as a marker is joined.
pub still_last : (c : Config) {with_cycle : Bool} (p : PassState) {fs : List Event} → Has p.seats Host
    → HasCallers c p.seats → Grows p.seats p.seen fs → IsHistory c fs → HostComesLast c.callers with_cycle p.seen
    → HostComesLast c.callers with_cycle fs
still_last c p host callers g history l =
    let long : IsHistory c (p.seen ++ g.more) = subst (λ (es : List Event). IsHistory c es) g.is history in
    let on = ((enabled_in_parts c p.seen g.more).0 long.enabled).1 in
    let none = none_begun g.more
    (unheld_unbegun g.more (others_hold_none p c host callers (left c p.seen) g.more g.of_others on)) in
    let before = l.cycles in
    record {
      scripts = l.scripts;
      last = l.last ++ g.more;
      is = g.is ∙ ap (λ (es : List Event). es ++ g.more) l.is ∙ append_assoc l.scripts l.last g.more;
      without_host = l.without_host;
      without_callers = λ k lt. others_append (Caller k ∷ []) l.last g.more (l.without_callers k lt)
          (others_own p.seats (Caller k) g.more (callers k lt) g.of_others);
      cycles = begun_append l.last g.more ∙ omega arith;
    }
