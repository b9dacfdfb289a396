-- The host's callers and markers before their first call, and after their last.
use Rattle.std.proofs.lemmas.List.{length-replicate}
use Rattle.mk_run.proofs.Below.Laws.Vocabulary.{Caller, Config, Event, Host, List, Null, Seat, ℕ, all_below-at, ap}
use Rattle.mk_run.proofs.Below.Laws.Vocabulary.{arith, asked}
use Rattle.mk_run.proofs.Below.Laws.Vocabulary.{calls, false, host_has_turn, inl, inr, is_held, length, lt-ltb}
use Rattle.mk_run.proofs.Below.Laws.Vocabulary.{never_behind, not}
use Rattle.mk_run.proofs.Below.Laws.Vocabulary.{not-true, refl, subst, sym, true, [], ◌*◌, ◌++◌, ◌+◌, ◌<◌, ◌∙◌, ◌∷◌}
use Rattle.mk_run.proofs.Below.Laws.Vocabulary.{◌≡◌, ◌⊎◌}
use Rattle.mk_run.proofs.Below.Laws.OrderlyLists.{at_first}
use Rattle.mk_heap_tests.proofs.Vocabulary.{CallerState, Has, HoldsNull, HostState, IsAtHome, IsCaller, IsIdleCaller}
use Rattle.mk_heap_tests.proofs.Vocabulary.{IsPassFor, PassState, WordsState, caller_of_pass, has_all, now_of, pass_for}
use Rattle.mk_heap_tests.proofs.Vocabulary.{value_of}
use Rattle.mk_never.proofs.Later.{calls_stay}
use Rattle.mk_core.specs.{History.{calls_from, never_first}, Moments.none_is_held}
use Rattle.mk_run.specs.Below.{Callers.States.never_of, Heaps.Ending.CallersAreJoined}
use Rattle.mk_run.specs.Below.Heaps.Hosts.{AllAreJoined, IsHost, first_host, with_caller_made, with_joined}
use Rattle.mk_run.specs.Below.{Heaps.Hosts.{IsFirstPass, IsPassOf}, Words.States.{all_seats, has_over}}
use Rattle.mk_run.proofs.Below.{Heaps.HostsKept.first_is_host, Words.Seats.{has_first, has_left, has_right}}

-- Each caller has eight registers, and there are 64 globals, whatever happened. Before the first call all are null.

registers_are : (c : Config) (es : List Event) → length (never_behind c es).registers ≡ 8 * c.callers
registers_are c es = (calls_stay (never_first c) (asked (calls c es))).registers ∙ length-replicate (8 * c.callers) Null

pub globals_are : (c : Config) (es : List Event) → length (never_behind c es).globals ≡ 64
globals_are c es = (calls_stay (never_first c) (asked (calls c es))).globals ∙ length-replicate 64 Null

pub has_registers : (p : PassState) → caller_of_pass p < p.table.config.callers
    → IsCaller (never_of p) (caller_of_pass p)
has_registers p exists =
    let count = registers_are p.table.config p.seen in
    omega arith

none_called : (c : Config) → never_behind c [] ≡ never_first c
unfolding calls_from
none_called c = refl

pub null_at_first : (p : PassState) (r : ℕ) → p.seen ≡ [] → value_of p r ≡ Null
null_at_first p r is =
    let c : Config = p.table.config in
    cc (is, none_called c, at_first (8 * c.callers) (8 * caller_of_pass p + r) Null)

pub holds_null : {w : WordsState} {k : ℕ} {p : PassState} → IsFirstPass w k p → k < w.config.callers → HoldsNull p
holds_null first lt = grind (arith, null_at_first)

-- A pass after its caller's calls.
pub pass_after : {w : WordsState} {k : ℕ} {p q r : PassState} {s : CallerState} → IsFirstPass w k p → IsAtHome s p
    → r ≡ record s.pass { seen = r.seen } → q ≡ r → IsIdleCaller r → IsPassFor w k q
pass_after first is_s is_r is_q idle = grind arith

-- A pass before its caller's first call.
pub first_for : {w : WordsState} {k : ℕ} {p : PassState} → IsFirstPass w k p → IsPassFor w k p
first_for first = record { table = first.table; seat = first.seat; alone = first.alone; idle = first.idle }

pub alone_in : {w : WordsState} {k : ℕ} {p : PassState} → IsPassFor w k p → p.seats ≡ p.seat ∷ []
alone_in f = f.alone ∙ ap (λ (s : Seat). s ∷ []) (sym f.seat)

-- A host's callers before their first call.

pub first_pass : (w : WordsState) (k : ℕ) (h : HostState) (s : CallerState) (p : PassState) → h.pass.table ≡ w
    → h.pass.seen ≡ [] → h.callers ≡ k → IsAtHome s (pass_for h (Caller h.callers)) → p ≡ s.pass
    → IsIdleCaller s.pass → IsFirstPass w k p
first_pass w k h s p table seen count is same idle =
    let next : s.pass ≡ pass_for h (Caller h.callers) = is.pass in
    let seat : Caller h.callers ≡ Caller k = ap (λ (j : ℕ). Caller j) count in
    subst (λ (r : PassState). IsFirstPass w k r) (sym same) (record {
      table = ap (λ (r : PassState). r.table) next ∙ table;
      seat = ap (λ (r : PassState). r.seat) next ∙ seat;
      alone = ap (λ (r : PassState). r.seats) next ∙ ap (λ (x : Seat). x ∷ []) seat;
      seen = ap (λ (r : PassState). r.seen) next ∙ seen;
      idle = idle;
    })

pub first_of : (w : WordsState) (h : HostState) (s : CallerState) (p : PassState) → h ≡ first_host w
    → IsAtHome s (pass_for h (Caller h.callers)) → p ≡ s.pass → IsIdleCaller s.pass → IsFirstPass w 0 p
first_of w h s p is = first_pass w 0 h s p (ap (λ (x : HostState). x.pass.table) is)
    (ap (λ (x : HostState). x.pass.seen) is) (ap (λ (x : HostState). x.callers) is)

pub second_of : (w : WordsState) (h g : HostState) (s : CallerState) (p : PassState) → h ≡ first_host w
    → g ≡ with_caller_made h → IsAtHome s (pass_for g (Caller g.callers)) → p ≡ s.pass → IsIdleCaller s.pass
    → IsFirstPass w 1 p
second_of w h g s p is made =
    let all : g ≡ with_caller_made (first_host w) = made ∙ ap (λ (x : HostState). with_caller_made x) is in
    first_pass w 1 g s p (ap (λ (x : HostState). x.pass.table) all) (ap (λ (x : HostState). x.pass.seen) all)
    (ap (λ (x : HostState). x.callers) all)

-- The seat of a pass that is joined is home.
pub has_joined : (xs ys : List Seat) (s : Seat) → ys ≡ s ∷ [] → Has (xs ++ ys) s
has_joined xs ys s is = has_right xs ys s (subst (λ (l : List Seat). Has l s) (sym is) (has_first s []))

zero_or_one : (k : ℕ) → k < 2 → (k ≡ 0) ⊎ (k ≡ 1)
zero_or_one x0 lt = grind arith

-- of a host that made two callers, and joins the second, and then the first
pub two_are_joined : {w : WordsState} {h a b : HostState} {p q : PassState} (es fs : List Event)
    → h ≡ with_caller_made (with_caller_made (first_host w)) → IsPassFor w 1 p → IsPassFor w 0 q
    → a ≡ with_joined h p es → b ≡ with_joined a q fs → AllAreJoined b
two_are_joined {w} {h} {a} {b} {p} {q} es fs is second first is_a is_b =
    let seats = ap (λ (x : HostState). x.pass.seats) is_b ∙ ap (λ (x : HostState). x.pass.seats ++ q.seats) is_a in
    let callers : b.callers ≡ 2 = ap (λ (x : HostState). x.callers) is_b ∙ ap (λ (x : HostState). x.callers) is_a
    ∙ ap (λ (x : HostState). x.callers) is in
    let markers : b.markers ≡ 0 = ap (λ (x : HostState). x.markers) is_b ∙ ap (λ (x : HostState). x.markers) is_a
    ∙ ap (λ (x : HostState). x.markers) is in
    let zeroth : Has b.pass.seats (Caller 0) = rw seats (has_joined (h.pass.seats ++ p.seats) _ _ first.alone) in
    let other : Has b.pass.seats (Caller 1) = rw seats (has_left (h.pass.seats ++ p.seats) q.seats (Caller 1)
    (has_joined h.pass.seats p.seats (Caller 1) second.alone)) in
    record {
      callers = λ k lt. elim (zero_or_one k (omega arith)) [
        | inl e ↦ rw e zeroth
        | inr e ↦ rw e other
      ];
      markers = λ k lt. absurd (omega arith);
    }

-- One caller and one marker.

pub only_zero : (k n : ℕ) → n ≡ 1 → k < n → k ≡ 0
only_zero k n one lt = omega arith

-- The host has joined its one caller, and made its one marker.
pub record HasJoinedOne (w : WordsState) (h : HostState) : Type 0 where
  pub table : h.pass.table ≡ w
  pub before_over : has_over h.pass.seen ≡ false
  pub callers : h.callers ≡ 1
  pub joined : Has h.pass.seats (Caller 0)
  pub markers : h.markers ≡ 1

pub callers_are_joined : {w : WordsState} {h : HostState} → HasJoinedOne w h → CallersAreJoined h
callers_are_joined {h} run =
    λ k lt. subst (λ (i : ℕ). Has h.pass.seats (Caller i)) (sym (only_zero k h.callers run.callers lt)) run.joined

-- The host's pass of a table that nobody has used. Passes may have been split off it.
pub record IsUnused (w : WordsState) (h : PassState) : Type 0 where
  pub table : h.table ≡ w
  pub seat : h.seat ≡ Host
  pub seen : h.seen ≡ []

pub unused : {w : WordsState} {h : PassState} {seats : List Seat}
    → h ≡ record { table = w; seat = Host; seats = seats; seen = [] } → IsUnused w h
unused is = record {
  table = ap (λ (p : PassState). p.table) is;
  seat = ap (λ (p : PassState). p.seat) is;
  seen = ap (λ (p : PassState). p.seen) is;
}

pub still_unused : {w : WordsState} {h g : PassState} {seats : List Seat} → IsUnused w h
    → g ≡ record h { seats = seats } → IsUnused w g
still_unused u is = record {
  table = ap (λ (p : PassState). p.table) is ∙ u.table;
  seat = ap (λ (p : PassState). p.seat) is ∙ u.seat;
  seen = ap (λ (p : PassState). p.seen) is ∙ u.seen;
}

-- It has the seat of each caller at first,
pub caller_is_home : {w : WordsState} {h : PassState} (c : Config) (k : ℕ) → k < c.callers
    → h ≡ record { table = w; seat = Host; seats = all_seats c; seen = [] } → Has h.seats (Caller k)
caller_is_home c k lt is =
    subst (λ (p : PassState). Has p.seats (Caller k)) (sym is) (has_all c (Caller k) (lt-ltb k c.callers lt))

-- hasn't the turn, and the passes that it splits off for callers are idle.

pub free_at_first : {w : WordsState} {h : PassState} → IsUnused w h → host_has_turn h.table.config (now_of h) ≡ false
free_at_first {w} u = cc (u.table, u.seen, (first_is_host w).no_turn)

pub split_is : {w : WordsState} {h : PassState} (p : PassState) (s : Seat) → IsUnused w h
    → p ≡ record h { seat = s; seats = s ∷ [] } → p ≡ record { table = w; seat = s; seats = s ∷ []; seen = [] }
split_is p s u is = cc (u.table, u.seen)

pub first_split : {w : WordsState} (k : ℕ) {h : PassState} (p : PassState) → IsUnused w h → k < w.config.callers
    → p ≡ record h { seat = Caller k; seats = Caller k ∷ [] } → IsFirstPass w k p
first_split {w} k {h = h} p u some is =
    let host : IsHost (first_host w) = first_is_host w in
    subst (λ (q : PassState). IsFirstPass w k q) (sym (split_is p (Caller k) u is)) (record {
      table = refl;
      seat = refl;
      alone = refl;
      seen = refl;
      idle = record {
        seat = refl;
        rest = (host.rests (Caller k) (host.callers k (omega arith) some)).call;
      };
    })

-- the caller's pass, as its calls ask for it
pub pass_of : {w : WordsState} {k : ℕ} {p : PassState} (s : CallerState) → IsFirstPass w k p → k < w.config.callers
    → IsAtHome s p → IsPassOf s.pass.table s.pass
pass_of s pass few is = grind arith

pub none_is_held_at : (p : PassState) (j : ℕ) → j < p.table.config.callers
    → none_is_held p.table.config.callers (now_of p).words ≡ true → is_held (now_of p).words j ≡ false
none_is_held_at p j lt none = not-true _ (all_below-at _ j (λ i. not (is_held (now_of p).words i)) none lt)
