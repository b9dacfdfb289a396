-- A New seeks room: the parts of its turn one after the other.
use Rattle.mk_caller.proofs.Below.Laws.Vocabulary.{eqb-false, inr, is_undecided_new}
use Rattle.mk_alloc.proofs.{Parts.Part, Stretches.widened, JoinedLooks.{looks_object, looks_unplaced}}
use Rattle.mk_alloc.proofs.{CalmStretches.{cycles_in_turn, is_of_cycles}, CycleParts.{begin_done, finish_done}}
use Rattle.mk_alloc.proofs.{FullLeaves.{cycles_leave, leaves_then}, PlacedTurns.{looked_beside, place_part, placed_on}}
use Rattle.mk_alloc.proofs.{PlacedTurns.served_by, Going.{IsCallers, begun_on, finished_on, look_part, looked_on}}
use Rattle.mk_alloc.proofs.{Going.{on_then, same_phase}, GrantParts.{calm_last, finish_room, grants_none, last_behind}}
use Rattle.mk_alloc.proofs.GrantParts.{no_place, none_behind, none_last, none_then, nowhere_then, part_begun, room_kept}
use Rattle.mk_alloc.proofs.{GrantParts.{room_lacks, room_then}, Vocabulary.{Answer, AsksRoom, BeginsCycle, Bool}}
use Rattle.mk_alloc.proofs.Vocabulary.{Config, Does, FinishesCycle, FitsNowhere, Flight, HasNoPlace, IsAtPhase}
use Rattle.mk_alloc.proofs.Vocabulary.{IsHistory, IsOutOfStop, IsPlaced, IsQuiet, IsTurn, IsUnplaced, List, OnlyDoes}
use Rattle.mk_alloc.proofs.Vocabulary.{Misfits, None, Object, OnlyLooks, Option, PassState, PlacedAllocation, Seeks}
use Rattle.mk_alloc.proofs.Vocabulary.{Some, Steady, TurnGoesOn, ℕ, acting_caller, ap, arith, call_of, false, is_look}
use Rattle.mk_alloc.proofs.Vocabulary.{looks_left, new_is_acting, now_of, object_for, object_made, only_seen, own_seat}
use Rattle.mk_alloc.proofs.Vocabulary.{phase_of, place_after, place_now_for, refl, subst, world_of, ◌==◌, ◌∙◌, ◌≡◌}
use Rattle.mk_alloc.proofs.Vocabulary.{Holding}
use Rattle.mk_alloc.specs.{declared.objects.Request.Request, Rooms.{NeedsRoom, SeeksRoom, PlacesOrMisfits}}
use Rattle.mk_caller.specs.Below.Words.States.{WordsState}
use Rattle.mk_core.specs.Allocations.{place_among_allocations}

-- An undecided New is a caller's.
pub new_callers : {p : PassState} → IsUnplaced p → IsCallers p
new_callers u = grind (arith, acting_caller, new_is_acting, own_seat)

same_object : {a : Option Answer} {p q : PassState} → TurnGoesOn a p q → object_for q ≡ object_for p
same_object on = cc (on.does.is, on.op)

-- one part after another that decided nothing
pub seeks_then : {a : Option Answer} {p q r : PassState} → Seeks None p q → Seeks a q r → Seeks a p r
seeks_then {a} {p} {q} {r} x y =
    let one = x.on.does in
    let two = y.on.does in
    record {
      on = on_then x.on y.on;
      room = room_then (object_for p) one two x.room (subst (λ (o : Object). AsksRoom o q r) (same_object x.on) y.room);
      none = λ none. none_then one two (x.none refl) (y.none none);
      leaves = λ none. leaves_then (only_seen p q one.more one.is) (x.leaves refl) (y.leaves none);
      last = last_behind one two (x.none refl) y.last;
    }

-- a try after one part
pub misfits_then : {p q r : PassState} → Seeks None p q → Misfits q r → Misfits p r
misfits_then x m = record { turn = m.turn; seeks = seeks_then x m.seeks; unplaced = m.unplaced; nowhere = m.nowhere }

pub tried_then : {is_placed : Bool} {p q r : PassState} → Seeks None p q → PlacesOrMisfits is_placed q r
    → PlacesOrMisfits is_placed p r
tried_then x t = record {
  placed = λ granted. seeks_then x (t.placed granted);
  misfits = λ none. misfits_then x (t.misfits none);
}

-- No cycle is on after one was finished.
pub idle_still : {p q r : PassState} → FinishesCycle p q → OnlyLooks q r → IsAtPhase r 0
idle_still f looks = ap (λ (s : Steady). s.phase) (looks_left looks).steady ∙ f.phase

pub still_nowhere : (p q : PassState) → (world_of q).allocations ≡ (world_of p).allocations
    → q.table.config ≡ p.table.config → object_for q ≡ object_for p → place_now_for p ≡ None → place_now_for q ≡ None
still_nowhere p q same config object none =
    ap (λ (xs : List PlacedAllocation). place_among_allocations q.table.config (object_for q).words
    (object_for q).leaf xs) same ∙ ap
    (λ (c : Config). place_among_allocations c (object_for q).words (object_for q).leaf (world_of p).allocations) config
    ∙ ap (λ (o : Object). place_among_allocations p.table.config o.words o.leaf (world_of p).allocations) object ∙ none

pub unplaced_kept : {p q : PassState} → IsUnplaced p → call_of q ≡ call_of p → (now_of q).seats.holding.placing
    ≡ (now_of p).seats.holding.placing → phase_of (now_of q).words ≡ phase_of (now_of p).words → IsUnplaced q
unplaced_kept u call placing phase = grind (arith, same_phase)

-- Where the object is granted no room is asked for.
pub seeks_placed : {p q : PassState} → IsTurn p → IsUnplaced p → IsQuiet p → IsPlaced p q
    → IsHistory q.table.config q.seen → Seeks (Some Answer.Done) p q
seeks_placed {p} t u quiet placed history =
    let x = place_part t (served_by placed) history in
    record {
      on = placed_on t u quiet placed history;
      room = room_lacks (object_for p) x (λ x h. grind arith);
      none = λ none. cc;
      leaves = λ none. cc;
      last = calm_last x (λ x h. grind arith);
    }

-- What seeks room still does, after a part that decided nothing.
pub still_seeks : {w : WordsState} {p q : PassState} {request : Request} → SeeksRoom w p request → IsTurn q
    → Seeks None p q
    → IsUnplaced q → SeeksRoom w q request
still_seeks room turn seeks unplaced = record {
  one_table = cc (seeks.on.does.is, room.one_table);
  turn = turn;
  requested = record { full = room.requested.full; op = seeks.on.op ∙ room.requested.op };
  quiet = seeks.on.quiet;
  unplaced = unplaced;
}

pub misfit_seeks : {w : WordsState} {p q : PassState} {request : Request} → SeeksRoom w p request → Misfits p q
    → SeeksRoom w q request
misfit_seeks room m = still_seeks room m.turn m.seeks m.unplaced

pub still_needs : {w : WordsState} {old new : ℕ} {p q : PassState} {request : Request} → NeedsRoom w old p request
    → new ≡ old → Misfits p q → NeedsRoom w new q request
still_needs needs same m = record {
  seeks = misfit_seeks needs.seeks m;
  nowhere = m.nowhere;
  made_for = same ∙ needs.made_for;
}

module _ {w : WordsState} {p : PassState} {request : Request} (asked : SeeksRoom w p request) where
  -- A part that grants nothing leaves the New undecided,
  undecided : {q : PassState} → TurnGoesOn None p q → Does is_of_cycles p q → IsHistory q.table.config q.seen
      → AsksRoom (object_for p) p q → Seeks None p q
  undecided {q} on d history room =
      let x : Part is_of_cycles p q =
      record { turn = asked.turn; stays = cycles_in_turn; does = d; history = history } in
      let none = grants_none x (λ x h. grind arith) in
      record {
        on = on;
        room = room;
        none = λ undecided. none;
        leaves = λ undecided. cycles_leave (new_callers asked.unplaced) asked.quiet.free.decided x;
        last = none_last p q none;
      }

  -- as where it only looks.
  looked_undecided : {q : PassState} → TurnGoesOn None p q → Does is_look p q → IsHistory q.table.config q.seen
      → Seeks None p q
  looked_undecided on d history =
      undecided on (widened (λ x h. grind arith) d) history
      (room_lacks (object_for p) (look_part asked.turn d history) (λ x h. grind arith))

  pub misfits_here : {q : PassState} → FitsNowhere p q → IsTurn q → Misfits p q
  misfits_here {q} f turn = record {
    turn = turn;
    seeks = looked_undecided (looked_beside p q asked.turn asked.unplaced asked.quiet f.looks turn.history) f.looks.does
        turn.history;
    unplaced = looks_unplaced f.looks asked.unplaced;
    nowhere = still_nowhere p q (ap (λ (s : Steady). s.allocations) (looks_left f.looks).steady)
        (ap (λ (x : PassState). x.table.config) f.looks.same) (looks_object f.looks) f.nowhere;
  }

  module _ (none : place_now_for p ≡ None) where
    no_place_now : HasNoPlace p.table.config (object_for p) p.seen
    no_place_now = no_place p.table.config p.seen (object_for p) none

    -- where a cycle is begun, after which it has no place either,
    pub misfits_begun : {q : PassState} → BeginsCycle p q → IsTurn q → Misfits p q
    misfits_begun {q} b turn =
        let seat = new_callers asked.unplaced in
        let part = part_begun b asked.turn turn.history in
        record {
          turn = turn;
          seeks = undecided (begun_on asked.turn seat asked.quiet b turn.history) (begin_done b) turn.history
              (room_kept (object_for p) seat asked.quiet.free.decided no_place_now part);
          unplaced = record {
            new = ap is_undecided_new b.call ∙ asked.unplaced.new;
            placing = ap (λ (x : Holding). x.placing) b.done ∙ asked.unplaced.placing;
            phase = inr (ap (λ (s : Steady). s.phase) b.steady);
          };
          nowhere = ap (λ (c : Config). place_after c q.seen (object_for q))
              (ap (λ (x : PassState). x.table.config) b.pass) ∙ ap (λ (o : Object). place_after p.table.config q.seen o)
              (ap (λ (x : PassState). object_made x.table.config (call_of q).op) b.pass ∙ ap
              (λ (f : Flight). object_made p.table.config f.op) b.call) ∙ nowhere_then p.table.config q.seen
              (object_for p) (none_behind (object_for p) seat asked.quiet.free.decided no_place_now part);
        }

    -- where one is finished,
    pub seeks_finished : {q : PassState} → FinishesCycle p q → IsHistory q.table.config q.seen → Seeks None p q
    seeks_finished {q} f history =
        let seat = new_callers asked.unplaced in
        undecided (finished_on asked.turn seat asked.quiet f history) (finish_done f) history
        (finish_room (object_for p) seat asked.quiet.free.decided no_place_now f asked.turn history)

    pub room_finished : {q : PassState} → FinishesCycle p q → IsTurn q → SeeksRoom w q request
    room_finished f turn = grind (arith, still_seeks, seeks_finished, Holding)

    -- and where it looked at the phase.
    pub misfits_seen : {q : PassState} → OnlyDoes is_look p q → IsTurn q → Misfits p q
    misfits_seen {q} k turn =
        let on = looked_on asked.turn (new_callers asked.unplaced) asked.quiet k turn.history in
        record {
          turn = turn;
          seeks = looked_undecided on k.does turn.history;
          unplaced = unplaced_kept asked.unplaced k.keeps.call.call
              (ap (λ (x : Holding). x.placing) k.keeps.call.done) (ap (λ (s : Steady). s.phase) k.keeps.steady);
          nowhere = still_nowhere p q (ap (λ (s : Steady). s.allocations) k.keeps.steady)
              (ap (λ (x : PassState). x.table.config) k.keeps.call.pass) (same_object on) none;
        }

-- The phase that was seen is that after the look: no cycle is on, or one is.

pub seen_at : {p q : PassState} {n : ℕ} → OnlyDoes is_look p q → IsAtPhase p n → IsAtPhase q n
seen_at k at = ap (λ (s : Steady). s.phase) k.keeps.steady ∙ at

pub phase_seen : (p : PassState) → IsOutOfStop (now_of p) → (phase_of (now_of p).words == 1) ≡ false → IsAtPhase p 0
phase_seen p x1 off = grind (arith, eqb-false)
