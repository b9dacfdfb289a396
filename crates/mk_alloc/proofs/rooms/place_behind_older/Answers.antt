use Rattle.mk_alloc.proofs.OneCycles.{ends_none, looks_begins_none, none_then_none}
use Rattle.mk_alloc.proofs.SeekingTurns.{misfits_seen, phase_seen, seen_at, still_needs, tried_then}
use Rattle.mk_alloc.proofs.{UnsweptTurns.{kinds_keep, kinds_then}, Vocabulary.{Misfits, SeesNone, arith, is_begin}}
use Rattle.mk_alloc.proofs.Vocabulary.{refl, sym, ◌∙◌}
use Rattle.mk_alloc.proofs.rooms.place_behind_older.Goals as goal
use Rattle.mk_alloc.proofs.rooms.place_behind_older.Goals.{After-is_cycle_on-is_on}

-- the look at the phase
seen : (g : _) (c : After-is_cycle_on-is_on g) → Misfits c.args.turn.pass c.is_cycle_on-is_on.new.turn.pass
seen g c =
    misfits_seen c.requires.needs.seeks c.requires.needs.nowhere c.is_cycle_on-is_on.ensures.looks
    c.is_cycle_on-is_on.new.turn.in_order

begins_none : (g : _) (c : After-is_cycle_on-is_on g) → SeesNone is_begin c.args.turn.pass
    c.is_cycle_on-is_on.new.turn.pass
begins_none g c =
    looks_begins_none c.args.turn.in_order c.is_cycle_on-is_on.ensures.looks.does
    c.is_cycle_on-is_on.new.turn.in_order.history

pub returns-then-not-is_on-clause-tried : goal.returns-then-not-is_on-clause-tried
returns-then-not-is_on-clause-tried g c = record {
  placed = λ placed. cc;
  misfits = λ none. seen g (goal.at.returns-then-not-is_on-clause-tried g c).After-is_cycle_on-is_on;
}

pub returns-then-not-is_on-clause-idle : goal.returns-then-not-is_on-clause-idle
returns-then-not-is_on-clause-idle g c none =
    seen_at c.is_cycle_on-is_on.ensures.looks (phase_seen c.args.turn.pass c.requires.needs.seeks.quiet.phase
    (sym c.is_cycle_on-is_on.ensures.on ∙ c.if-not-is_on.true))

pub returns-then-not-is_on-clause-begins : goal.returns-then-not-is_on-clause-begins
returns-then-not-is_on-clause-begins g c =
    begins_none g (goal.at.returns-then-not-is_on-clause-begins g c).After-is_cycle_on-is_on

pub returns-then-not-is_on-clause-keeps : goal.returns-then-not-is_on-clause-keeps
returns-then-not-is_on-clause-keeps g c =
    kinds_keep (λ x h. grind arith) c.is_cycle_on-is_on.ensures.looks.does

pub finish_and_place-requires-clause-needs : goal.finish_and_place-requires-clause-needs
finish_and_place-requires-clause-needs g c κs within =
    still_needs c.requires.needs refl
    (seen g (goal.at.finish_and_place-requires-clause-needs g c).After-is_cycle_on-is_on)

pub returns-clause-tried : goal.returns-clause-tried
returns-clause-tried g c =
    tried_then (seen g (goal.at.returns-clause-tried g c).After-is_cycle_on-is_on).seeks
    c.finish_and_place.ensures.tried

pub returns-clause-begins : goal.returns-clause-begins
returns-clause-begins g c =
    none_then_none (begins_none g (goal.at.returns-clause-begins g c).After-is_cycle_on-is_on)
    (ends_none c.finish_and_place.ensures.ends)

pub returns-clause-keeps : goal.returns-clause-keeps
returns-clause-keeps g c =
    kinds_then (λ x h. grind arith) c.is_cycle_on-is_on.ensures.looks.does c.finish_and_place.ensures.keeps
