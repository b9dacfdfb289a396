-- What the engine does after each `begin` of the host's.
use Rattle.std.proofs.Common.{⊎_elim}
use Rattle.mk_alloc.proofs.Below.Laws.Vocabulary.{Config, Event, List, None, Seat, Step, Word, ap, arith, false, refl}
use Rattle.mk_alloc.proofs.Below.Laws.Vocabulary.{subst, sym, ◌∙◌, ◌≡◌}
use Rattle.mk_alloc.proofs.Below.Words.{Unswept.taking_sweeps, Sweeping.{only_seen, only_seen_by, other_step_sweeps}}
use Rattle.mk_alloc.proofs.Below.Words.{Sweeping.{others_sweep, step_then_sweeps, sweeps_then}, TakesAlone.taking_does}
use Rattle.mk_alloc.proofs.Below.Cycles.Begun.{begun_then, does_begin_none, finish_begins_none, has_on, left_then}
use Rattle.mk_alloc.proofs.Below.Cycles.{Begun.step_begins_none, HeldFirst.finish_holds}
use Rattle.mk_alloc.specs.Below.Cycles.{BeginCycle.{BeginsCycle, EachIsBegun}, EngineLaw.IsAtPhase}
use Rattle.mk_alloc.specs.Below.Cycles.FinishCycle.{FinishesCycle}
use Rattle.mk_alloc.specs.Below.Words.{Sweeping.{SweepsNothing, is_mark}, TurnSteps.{TakesTurn, is_take}}
use Rattle.mk_alloc.specs.Below.Words.{States.{Has, PassState, world_of}, Steps.Makes}
use Rattle.mk_core.specs.History.{Grows}
use Rattle.mk_heap.proofs.MovedHosts.{MovesOn, idle_moves, taken_own, turn_moves}
use Rattle.mk_heap.specs.Ending.{EndsCycle, SaysOver, TakesIdleTurn}
use Rattle.std.specs.Prelude.{true}

module _ (begins : Config → Seat → List Event → List Event → Type 0) where
  -- It finishes the cycle that is on, if one is.
  ending_begun : {p q : PassState} → Has p.seats p.seat → EndsCycle p q → EachIsBegun false begins p q
  ending_begun {p} {q} own ends =
      let look = step_begins_none begins p ends.looked (Step.Look Word.Phase) own ends.looks refl in
      ⊎_elim (λ (none : IsAtPhase p 0). subst (λ (x : PassState). EachIsBegun false begins p x) (sym (ends.none none))
      look)
      (λ (on : IsAtPhase p 1). begun_then begins p ends.looked q (only_seen_by p ends.looked
      (Step.Look Word.Phase) ends.looks) look (finish_begins_none begins ends.looked q (has_on p ends.looked
      (only_seen_by p ends.looked (Step.Look Word.Phase) ends.looks) own) (ends.on on))) ends.phase

  idle_same : {p idle : PassState} → TakesIdleTurn p idle → idle ≡ record p { seen = idle.seen }
  idle_same {p} {idle} takes = let m = idle_moves p idle takes in only_seen p idle m.more m.is

  pub idle_begun : {p idle : PassState} → TakesIdleTurn p idle → EachIsBegun false begins p idle
  idle_begun {p} {idle} takes =
      let own = taken_own takes.takes in
      let m = turn_moves p takes.taken takes.takes in
      let same = only_seen p takes.taken m.more m.is in
      begun_then begins p takes.taken idle same (does_begin_none begins is_take p takes.taken (λ x h. grind arith)
      (taking_does p None takes.taken own takes.takes)) (ending_begun (has_on p takes.taken same own) takes.ends)

  -- a whole cycle
  pub cycle_begun : {p idle begun ended q : PassState} → TakesIdleTurn p idle → BeginsCycle idle begun
      → EachIsBegun true begins idle begun → FinishesCycle begun ended → Makes ended Step.Give q
      → EachIsBegun false begins p q
  cycle_begun {p} {idle} {begun} {ended} {q} takes law part finishes gives =
      let own_begun = has_on idle begun law.pass (has_on p idle (idle_same takes) (taken_own takes.takes)) in
      let whole : EachIsBegun false begins idle ended = left_then begins law.pass part
      (finish_begins_none begins begun ended own_begun finishes) (finish_holds own_begun finishes) in
      let same_ended = finishes.pass ∙ ap (λ (x : PassState). record x { seen = ended.seen }) law.pass in
      begun_then begins p idle q (idle_same takes) (idle_begun takes) (begun_then begins idle ended q same_ended whole
      (step_begins_none begins ended q Step.Give (has_on begun ended finishes.pass own_begun) gives refl))

  -- and an `over`, which begins none
  pub over_begun : (p q : PassState) → SaysOver p q → EachIsBegun false begins p q
  over_begun p q over =
      let same = idle_same over.idles in
      let same_said = only_seen_by over.idle over.said Step.Over over.says in
      let own_idle = has_on p over.idle same (taken_own over.idles.takes) in
      begun_then begins p over.idle q same (idle_begun over.idles) (begun_then begins over.idle over.said q same_said
      (step_begins_none begins over.idle over.said Step.Over own_idle over.says refl)
      (step_begins_none begins over.said q Step.Give (has_on over.idle over.said same_said own_idle) over.gives refl))

-- The host's turns sweep nothing, where their parts don't.

pub moved_then_sweeps : {p q r : PassState} → MovesOn p q → SweepsNothing p q → SweepsNothing q r → SweepsNothing p r
moved_then_sweeps {p} {q} {r} m one two = sweeps_then p q r (only_seen p q m.more m.is) one two

-- It takes the turn, and then its parts sweep nothing.
pub taken_then_sweeps : {p taken q : PassState} → TakesTurn p None taken → SweepsNothing taken q → SweepsNothing p q
taken_then_sweeps {p} {taken} takes rest =
    moved_then_sweeps (turn_moves p taken takes) (taking_sweeps p None taken (taken_own takes) takes) rest

-- with no cycle on
pub idle_then_sweeps : {p idle q : PassState} → TakesIdleTurn p idle → SweepsNothing p idle → SweepsNothing idle q
    → SweepsNothing p q
idle_then_sweeps {p} {idle} {q} takes one two = moved_then_sweeps (idle_moves p idle takes) one two

-- a step more, and the `give`
pub given_sweeps : {p q r : PassState} {s : Step} → Makes p s q → Makes q Step.Give r → is_mark s ≡ false
    → SweepsNothing p r
given_sweeps {p} {q} {r} {s} m give other = step_then_sweeps p q r s m other (other_step_sweeps q r Step.Give give refl)

-- Who is joined has seen none of its steps.
pub grown_sweeps : (p q : PassState) → Has p.seats p.seat → Grows p.seats p.seen q.seen → SweepsNothing p q
grown_sweeps p q own g = record {
  more = g.more;
  is = g.is;
  none = others_sweep p.table.config p.seat p.seats (world_of p) g.more own g.of_others;
}
