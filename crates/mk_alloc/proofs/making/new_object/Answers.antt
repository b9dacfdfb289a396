use Rattle.mk_alloc.proofs.Vocabulary.{Answer, Bool, Flight, IsAnsweredFull, Misfits, Op, PassKeeps, PassState, ℕ, ap}
use Rattle.mk_alloc.proofs.{Vocabulary.{arith, false, refl}, OneCycles.{none_runs_one, none_then_one}}
use Rattle.mk_alloc.proofs.{SeekingTurns.{misfit_seeks, misfits_then, seeks_then}, UnsweptTurns.{part_then, turn_keeps}}
use Rattle.mk_alloc.proofs.{UnsweptTurns.unbegun_keeps, making.new_object.Goals.{After-give, After-give-2}}
use Rattle.mk_alloc.proofs.{making.new_object.Goals.After-take-turn, CalledTurns.took_by}
use Rattle.mk_alloc.proofs.NewTurns.{NewGiven, begun_quiet, begun_unplaced, census_told, given, is_answered_full}
use Rattle.mk_alloc.{proofs.NewTurns.{new_called}, specs.Rooms.{CountsFull, SeeksRoom, answer_with}}
use Rattle.mk_geom.specs.declared.pages.Census.{Census}
use Rattle.mk_alloc.proofs.making.new_object.Goals as goal

-- what the turn of the call requests
sought : (g : _) (c : After-take-turn g)
    → SeeksRoom c.words-words.result.now c.take-turn.result.pass (record { register = c.args.d; ty = c.args.ty })
sought g c = record {
  one_table = grind arith;
  turn = c.take-turn.result.in_order;
  requested = record { full = false; op = ap (λ (f : Flight). f.op) c.take-turn.ensures.begins.fresh.call };
  quiet = begun_quiet c.take-turn.ensures.begins;
  unplaced = begun_unplaced c.take-turn.ensures.begins;
}

pub try_place-requires : goal.try_place-requires
try_place-requires g c = sought g (goal.at.try_place-requires g c).After-take-turn

pub make_room_or_count-turn-requires-clause-needs : goal.make_room_or_count-turn-requires-clause-needs
make_room_or_count-turn-requires-clause-needs g c κs within =
    let misfits = c.try_place.ensures.tried.misfits c.if-try_place.false in
    record {
      seeks = misfit_seeks
          (sought g (goal.at.make_room_or_count-turn-requires-clause-needs g c).After-take-turn) misfits;
      nowhere = misfits.nowhere;
      made_for = grind arith;
    }

-- The object is placed at once,
at_once : (g : _) (c : After-give g)
    → NewGiven c.args.d c.args.ty Answer.Done c.args.caller.now.pass c.take-turn.result.pass c.try_place.new.turn.pass
    c.give.result
at_once g c = record {
  took = took_by c.lend-home.ensures.pass (c.args.caller.now.in_order c.requires.may.home) c.take-turn.ensures.takes;
  begins = c.take-turn.ensures.begins;
  seeks = c.try_place.ensures.tried.placed c.if-try_place.true;
  runs = none_runs_one c.try_place.ensures.begins;
  gives = c.give.ensures.gives;
  rests = c.give.ensures.rests;
}

pub returns-then-try_place-clause-made : goal.returns-then-try_place-clause-made
returns-then-try_place-clause-made g c =
    let x = goal.at.returns-then-try_place-clause-made g c in
    rw c.back.ensures.pass (new_called (at_once g x.After-give) g.E.Engine.ways.on)

pub returns-then-try_place-clause-keeps : goal.returns-then-try_place-clause-keeps
returns-then-try_place-clause-keeps g c =
    let x = goal.at.returns-then-try_place-clause-keeps g c in
    rw c.back.ensures.pass (turn_keeps (given (at_once g x.After-give))
    (unbegun_keeps c.try_place.ensures.begins c.try_place.ensures.closes c.try_place.ensures.reached))

-- or it isn't, and room is made, or the answer is Full.
later : (g : _) (c : After-give-2 g)
    → NewGiven c.args.d c.args.ty (answer_with c.make_room_or_count-turn.result.1) c.args.caller.now.pass
    c.take-turn.result.pass c.make_room_or_count-turn.result.0.pass c.give-2.result
later g c = record {
  took = took_by c.lend-home.ensures.pass (c.args.caller.now.in_order c.requires.may.home) c.take-turn.ensures.takes;
  begins = c.take-turn.ensures.begins;
  seeks = seeks_then (c.try_place.ensures.tried.misfits c.if-try_place.false).seeks
      c.make_room_or_count-turn.ensures.seeks;
  runs = none_then_one c.try_place.ensures.begins c.make_room_or_count-turn.ensures.one;
  gives = c.give-2.ensures.gives;
  rests = c.give-2.ensures.rests;
}

later_keeps : (g : _) (c : After-give-2 g)
    → PassKeeps false g.E.Engine.ways
    c.args.caller.now.pass c.give-2.result
later_keeps g c =
    let tried = c.try_place.ensures in
    turn_keeps (given (later g c)) (part_then (tried.tried.misfits c.if-try_place.false).seeks.on.does
    (unbegun_keeps tried.begins tried.closes tried.reached) c.make_room_or_count-turn.ensures.keeps)

pub returns-in-None-clause-made : goal.returns-in-None-clause-made
returns-in-None-clause-made g c =
    let x = goal.at.returns-in-None-clause-made g c in
    rw c.back-2.ensures.pass (rw c.in-None.is at (new_called (later g x.After-give-2) g.E.Engine.ways.on))

pub returns-in-None-clause-keeps : goal.returns-in-None-clause-keeps
returns-in-None-clause-keeps g c =
    rw c.back-2.ensures.pass (later_keeps g (goal.at.returns-in-None-clause-keeps g c).After-give-2)

pub returns-in-Some-clause-keeps : goal.returns-in-Some-clause-keeps
returns-in-Some-clause-keeps g c =
    rw c.back-2.ensures.pass (later_keeps g (goal.at.returns-in-Some-clause-keeps g c).After-give-2)

-- With Full come the counts of the pages where it misfits at last.
full_is : {on : Bool} {d ty : ℕ} {p taken tried done q : PassState} {census : Census}
    → NewGiven d ty Answer.Full p taken done q → Misfits taken tried → CountsFull tried done census
    → IsAnsweredFull on p (Op.New d ty false) census q
full_is {on = on} {taken = taken} {tried = tried} m first full =
    let misfits = misfits_then first.seeks full.misfits in
    is_answered_full m misfits full.full on
    (census_told misfits.turn misfits.seeks.on.quiet refl full.counts)

pub returns-in-Some-clause-full : goal.returns-in-Some-clause-full
returns-in-Some-clause-full g c =
    let x = goal.at.returns-in-Some-clause-full g c in
    let p : PassState = c.args.caller.now.pass in
    let taken : PassState = c.take-turn.result.pass in
    let tried : PassState = c.try_place.new.turn.pass in
    let done : PassState = c.make_room_or_count-turn.result.0.pass in
    let q : PassState = c.give-2.result in
    let m = rw c.in-Some.is at (later g x.After-give-2) in
    let full = rw c.in-Some.is at c.make_room_or_count-turn.ensures.full in
    rw c.back-2.ensures.pass (full_is {on = g.E.Engine.ways.on} m
    (c.try_place.ensures.tried.misfits c.if-try_place.false) full)
