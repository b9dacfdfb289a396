-- What the client's calls ask.
use Rattle.std.proofs.lemmas.List.{length-replicate}
use Rattle.mk_alloc.proofs.Below.Laws.Vocabulary.{Caller, Config, Event, IsWithinLimits, List, Null, Op, Step, ℕ, ap}
use Rattle.mk_alloc.proofs.Below.Laws.Vocabulary.{arith, asked, calls, length, list_any-append, never_behind, refl}
use Rattle.mk_alloc.proofs.Below.Laws.Vocabulary.{subst, sym, true, [], ◌*◌, ◌<◌, ◌∙◌, ◌∷◌, ◌≡◌}
use Rattle.mk_alloc.{proofs.Below.Words.Seats.{has_right}, specs.Below.Words.Steps.{Makes}}
use Rattle.mk_alloc.specs.Below.{Callers.States.{Admits, CallerState, IsAtHome}, Words.States.{Has, has_over}}
use Rattle.mk_alloc.specs.Below.Words.States.{is_over, PassState, WordsState}
use Rattle.mk_never.proofs.Later.{calls_stay}
use Rattle.mk_core.specs.History.{never_first}
use Rattle.mk_heap.specs.Hosts.{AllAreJoined, HostState, first_host, pass_for, with_caller_made, with_joined, with_seen}
use Rattle.mk_heap.specs.{Hosts.IsPassOf, Ending.SaysOver}

-- Each caller has eight registers, whatever happened.
registers_are : (c : Config) (es : List Event) → length (never_behind c es).registers ≡ 8 * c.callers
registers_are c es = (calls_stay (never_first c) (asked (calls c es))).registers ∙ length-replicate (8 * c.callers) Null

pub may_clear : {p : PassState} (d : ℕ) → IsPassOf p.table p → d < 8 → Admits p (Op.Clear d)
may_clear d of small = grind (arith, registers_are)

pub pass_of_next : (h : HostState) (x : CallerState) (w : WordsState) → IsAtHome x (pass_for h (Caller h.callers))
    → h.pass.table ≡ w → h.callers < w.config.callers → IsPassOf x.pass.table x.pass
pass_of_next h x w is table lt = subst (λ (p : PassState). IsPassOf p.table p) (sym is.pass) (record {
  number = h.callers;
  exists = subst (λ (v : WordsState). h.callers < v.config.callers) (sym table) lt;
  table = refl;
  seat = refl;
  seats = refl;
})

-- the host after one caller
pub behind_one : (h g : HostState) (w : WordsState) → h ≡ first_host w → g ≡ with_caller_made h
    → (g.callers ≡ 1) × (g.pass.table ≡ w)
behind_one h g w first is = grind arith

-- its pass after a call
pub pass_of_later : {p : PassState} (q : PassState) → q ≡ record p { seen = q.seen } → IsPassOf p.table p
    → IsPassOf q.table q
pass_of_later q is of = grind arith

-- the first caller
pub pass_of_first : (h : HostState) (x : CallerState) (w : WordsState) → h ≡ first_host w → IsWithinLimits w.config
    → IsAtHome x (pass_for h (Caller h.callers)) → IsPassOf x.pass.table x.pass
pass_of_first h x w first limits is = grind (arith, pass_of_next)

-- Where one caller was made, and no marker, all are joined when it is, whatever was seen since.
pub one_is_joined : (w : WordsState) (first made h joined over : HostState) (p : PassState) (seen later : List Event)
    → first ≡ first_host w → made ≡ with_caller_made first → h ≡ with_seen made h.pass.seen → p.seats
    ≡ Caller first.callers ∷ [] → joined ≡ with_joined h p seen → over ≡ with_seen joined later → AllAreJoined over
one_is_joined w first made h joined over p seen later is_first is_made is seats is_joined is_over =
    let begun : h ≡ with_seen (with_caller_made (first_host w)) h.pass.seen = cc (is, is_made, is_first) in
    let callers : h.callers ≡ 1 = ap (λ (g : HostState). g.callers) begun in
    let markers : h.markers ≡ 0 = ap (λ (g : HostState). g.markers) begun in
    let has : Has p.seats (Caller 0) = grind arith in
    rw (is_over ∙ ap (λ (g : HostState). with_seen g later) is_joined) (record {
      callers = λ k lt.
          let zeroth : k ≡ 0 = omega arith in
          has_right h.pass.seats p.seats (Caller k) (rw (← zeroth) at has);
      markers = λ k lt. absurd (omega arith);
    })

-- After a call that says so, an `over` is among what was seen.

over_last : {p q : PassState} → Makes p Step.Over q → has_over q.seen ≡ true
over_last m = grind (arith, list_any-append)

pub has_said_over : {p q : PassState} → SaysOver p q → has_over q.seen ≡ true
has_said_over o = grind (arith, over_last, list_any-append)
