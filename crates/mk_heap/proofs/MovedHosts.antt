-- The host's pass goes on: it waits for the turn, and makes steps of its own.
use Rattle.std.specs.List.{list_all}
use Rattle.mk_alloc.proofs.Below.Laws.Vocabulary.{Bool, Caller, Event, Host, IsHistory, List, Marker, None, Op, Option}
use Rattle.mk_alloc.proofs.Below.Laws.Vocabulary.{Seat, Step, Word, and_parts, ap, append_assoc, arith, false}
use Rattle.mk_alloc.proofs.Below.Laws.Vocabulary.{host_has_turn, inl, inr, is_one_of, left, not, not-true, or_cases}
use Rattle.mk_alloc.proofs.Below.Laws.Vocabulary.{refl, subst, sym, true, true≢false, [], ◌&&◌, ◌++◌, ◌||◌, ◌∙◌, ◌∷◌}
use Rattle.mk_alloc.proofs.Below.Laws.Vocabulary.{◌≡◌, ◌⊎◌}
use Rattle.mk_alloc.proofs.Below.Words.{Waiting.{joined_lists, waits_more}, Seats.{has_not, only_one, others_append}}
use Rattle.mk_alloc.proofs.Below.Words.{Seats.{others_one, others_own, same_seat, same_self}, Made.own_before}
use Rattle.mk_alloc.specs.Below.Words.{Steps.{Makes, AreOwnOrOfOthers, Does, is_open}, TurnSteps.{TakesTurn, Waits}}
use Rattle.mk_alloc.specs.Below.Words.{TurnSteps.{is_take, waits_for}, States.{Has, PassState, event_of, now_of}}
use Rattle.mk_alloc.specs.Below.Cycles.TurnKeeps.{begins_marking, clears, holds_gates, is_giving_back, sets_tallies}
use Rattle.mk_alloc.specs.Below.Cycles.{Tracing.is_tracing, BeginCycle.BeginsCycle, FinishCycle.FinishesCycle}
use Rattle.mk_core.specs.History.{AreOfOthers, is_same_seat}
use Rattle.mk_heap.{proofs.HostsKept.{still_rests}, specs.{Ending.TakesIdleTurn, Hosts.{HostState, IsHost, Rests}}}

-- The host's pass has seen more: no event of a seat that is home, but for its own.
pub record MovesOn (p q : PassState) : Type 0 where
  pub more : List Event
  pub is : q ≡ record p { seen = p.seen ++ more }
  pub leaves : (s : Seat) → Has p.seats s → is_same_seat s p.seat ≡ false → AreOfOthers (s ∷ []) more

pub moves_more : (p q r : PassState) (s : Step) → MovesOn p q → Makes q s r → MovesOn p r
moves_more p q r s v m = record {
  more = v.more ++ (m.others ++ event_of p s ∷ []);
  is = joined_lists p q r v.more s v.is m;
  leaves = λ x has other. others_append (x ∷ []) v.more (m.others ++ event_of p s ∷ []) (v.leaves x has other)
      (others_append (x ∷ []) m.others (event_of p s ∷ [])
      (others_own p.seats x m.others has (subst (λ (x : PassState). AreOfOthers x.seats m.others) v.is m.of_others))
      (others_one (x ∷ []) (event_of p s) (λ own. true≢false
      (sym (subst (λ (y : Seat). is_same_seat x y ≡ true) (sym (only_one x p.seat own)) (same_self x)) ∙ other))));
}

-- While it waits it makes no step but that.
waits_leave : (p : PassState) (x : Seat) (es : List Event) → Has p.seats x → is_same_seat x p.seat ≡ false
    → list_all (waits_for p) es ≡ true → AreOfOthers (x ∷ []) es
unfolding AreOfOthers
waits_leave p x [] has other h = tt
waits_leave p x (e ∷ es) has other h =
    let parts = and_parts (waits_for p e) (list_all (waits_for p) es) h in (
      has_not (x ∷ []) e.seat (λ own. by (only_one x e.seat own)
          (or_cases (not (is_one_of p.seats e.seat)) (is_take e.step && is_same_seat e.seat p.seat) parts.0)),
      waits_leave p x es has other parts.1,
    )
  where
    by : e.seat ≡ x → (not (is_one_of p.seats e.seat) ≡ true) ⊎ ((is_take e.step && is_same_seat e.seat p.seat) ≡ true)
        → ⊥
    by same x1 = grind (arith, not-true, and_parts)

pub waits_move : {p q : PassState} → Waits p q → MovesOn p q
waits_move {p} w = record { more = w.more; is = w.is; leaves = λ x has other. waits_leave p x w.more has other w.only }

-- It is one of its own seats.
pub taken_own : {p q : PassState} {o : Option Op} → TakesTurn p o q → Has p.seats p.seat
taken_own t = subst (λ (r : PassState). Has r.seats r.seat) t.waits.is (own_before t.takes.makes)

pub turn_moves : (p q : PassState) → TakesTurn p None q → MovesOn p q
turn_moves p q t = waits_move (waits_more p t.waited q None t.waits t.takes.makes)

-- So it is over steps of its own of whatever kinds,

does_leave : (s : Seat) (seats : List Seat) (x : Seat) (es : List Event) → Has seats x → is_same_seat x s ≡ false
    → AreOwnOrOfOthers s seats es → AreOfOthers (x ∷ []) es
unfolding AreOfOthers AreOwnOrOfOthers
does_leave s seats x [] has other h = tt
does_leave s seats x (e ∷ es) has other h = (
  has_not (x ∷ []) e.seat (λ own. by (only_one x e.seat own)),
  does_leave s seats x es has other h.1,
)
  where
    by : e.seat ≡ x → ⊥
    by same =
        let own : s ≡ e.seat = same_seat s e.seat (sym h.0 ∙ subst (λ (y : Seat). Has seats y) (sym same) has) in
        true≢false (sym (subst (λ (y : Seat). is_same_seat x y ≡ true) (sym (own ∙ same)) (same_self x)) ∙ other)

pub moves_does : (kinds : Step → Bool) (p q r : PassState) → MovesOn p q → Does kinds q r → MovesOn p r
moves_does kinds p q r v d = record {
  more = v.more ++ d.more;
  is = cc (d.is, v.is, append_assoc p.seen v.more d.more);
  leaves = λ x has other. others_append (x ∷ []) v.more d.more (v.leaves x has other) (does_leave p.seat p.seats x
      d.more has other (subst (λ (y : PassState). AreOwnOrOfOthers y.seat y.seats d.more) v.is d.own_or_others));
}

-- and so over the end of a cycle, and over a `begin`.

pub finish_moves : (p q r : PassState) → MovesOn p q → FinishesCycle q r → MovesOn p r
finish_moves p q r v f =
    let m = f.makes in
    let release = m.releases in
    let held : MovesOn p m.held = moves_does holds_gates p q m.held v m.holds in
    let closing : MovesOn p release.closing =
    moves_does is_tracing p m.held release.closing held release.marks.does in
    let closed : MovesOn p release.closed =
    moves_more p release.closing release.closed Step.Close closing release.close in
    let released : MovesOn p m.released = moves_more p release.closed m.released Step.Release closed release.release in
    let opened : MovesOn p m.opened = moves_does is_open p m.released m.opened released m.opens in
    let freed : MovesOn p m.freed = moves_does is_giving_back p m.opened m.freed opened m.frees in
    moves_does sets_tallies p m.ended r (moves_more p m.freed m.ended Step.End freed m.end) m.behind

pub begin_moves : (p q r : PassState) → MovesOn p q → BeginsCycle q r → MovesOn p r
begin_moves p q r v b =
    let m = b.makes in
    let cleared : MovesOn p m.cleared = moves_does clears p q m.cleared v m.before in
    moves_does begins_marking p m.begun r (moves_more p m.cleared m.begun Step.Begin cleared m.begin) m.behind

pub idle_moves : (p q : PassState) → TakesIdleTurn p q → MovesOn p q
idle_moves p q t =
    let e = t.ends in
    let looked : MovesOn p e.looked =
    moves_more p t.taken e.looked (Step.Look Word.Phase) (turn_moves p t.taken t.takes) e.looks in
    elim e.phase [
      | inl none ↦ subst (λ (r : PassState). MovesOn p r) (sym (e.none none)) looked
      | inr on ↦ finish_moves p e.looked q looked (e.on on)
    ]

-- the host, after steps of its own
pub moved_is_host : {h : HostState} {q : PassState} → IsHost h → MovesOn h.pass q → IsHistory q.table.config q.seen
    → host_has_turn q.table.config (now_of q) ≡ false → IsHost (record h { pass = q })
moved_is_host {h} is v history no_turn =
    subst (λ (r : PassState). IsHost (record h { pass = r })) (sym v.is) (record {
      seat = is.seat;
      no_turn = subst (λ (r : PassState). host_has_turn r.table.config (now_of r) ≡ false) v.is no_turn;
      rests = rests;
      callers = is.callers;
      markers = is.markers;
      unmade = λ k le lt. others_append (Marker k ∷ []) h.pass.seen v.more (is.unmade k le lt)
          (v.leaves (Marker k) (is.markers k le lt) (ap (λ (x : Seat). is_same_seat (Marker k) x) is.seat));
    })
  where
    whole : IsHistory h.pass.table.config (h.pass.seen ++ v.more)
    whole = subst (λ (r : PassState). IsHistory r.table.config r.seen) v.is history

    by : (s : Seat) → Has h.pass.seats s → is_same_seat s Host ≡ false
        → Rests (left h.pass.table.config (h.pass.seen ++ v.more)).now s
    by s has other = still_rests (s ∷ []) h.pass.seen whole (record {
      more = v.more;
      is = refl;
      of_others = v.leaves s has (ap (λ (x : Seat). is_same_seat s x) is.seat ∙ other);
    }) (ap (λ (b : Bool). b || false) (same_self s)) (is.rests s has)

    rests : (s : Seat) → Has h.pass.seats s → Rests (left h.pass.table.config (h.pass.seen ++ v.more)).now s
    rests (Caller k) has = by (Caller k) has refl
    rests (Marker k) has = by (Marker k) has refl
    rests Host has = record { call = refl; out = refl }
