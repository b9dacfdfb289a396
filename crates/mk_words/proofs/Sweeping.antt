-- What sweeps nothing, in parts, by kinds of step, and by one step.
use Rattle.std.proofs.Common.{Bool, List, ap, append-nil, append_assoc, false, if◌then◌else◌, refl, subst, sym, true}
use Rattle.std.proofs.{Common.{true≢false, [], ◌++◌, ◌∙◌, ◌∷◌, ◌≡◌}, lemmas.Bool.and_parts}
use Rattle.mk_core.proofs.HistoryParts.{left_in_parts}
use Rattle.mk_core.specs.{Accesses.found, Cycles.sweeps, History.{AreOfOthers, Finding, is_same_seat, own_from}}
use Rattle.mk_core.specs.{History.{World, left, left_from, world_behind}, Moments.{Moment, flight_of}}
use Rattle.mk_core.specs.declared.{config.Config.Config, events.{Event.Event, Seat.Seat}}
use Rattle.mk_core.specs.declared.{events.Step.Step, seats.Flight.Flight}
use Rattle.mk_words.proofs.Doing.{not_own}
use Rattle.mk_words.specs.Sweeping.{HaveNoMark, NothingIsSweptInTurn, NothingSweepsNothing, OtherKindsSweepNothing}
use Rattle.mk_words.specs.{Sweeping.{StepsMaySweepNothing, SweepsNothing, SweepsNothingFrom, is_mark}, Steps.are_of}
use Rattle.mk_words.proofs.Made.{own_before}
use Rattle.mk_words.specs.{States.{Has, PassState, event_of, world_of}, Steps.{Makes, moment_of}}

-- lists in parts, and lists of others

pub sweeps_append : (c : Config) (s : Seat) (w : World) (xs ys : List Event) → SweepsNothingFrom c s w xs
    → SweepsNothingFrom c s (left_from c w xs) ys → SweepsNothingFrom c s w (xs ++ ys)
unfolding SweepsNothingFrom left_from
sweeps_append c s w [] ys one two = two
sweeps_append c s w (e ∷ es) ys one two = (one.0, sweeps_append c s (world_behind c w e) es ys one.1 two)

pub others_sweep : (c : Config) (s : Seat) (seats : List Seat) (w : World) (es : List Event) → Has seats s
    → AreOfOthers seats es → SweepsNothingFrom c s w es
unfolding SweepsNothingFrom AreOfOthers
others_sweep c s seats w [] has others = tt
others_sweep c s seats w (e ∷ es) has others = (
  λ same. absurd (true≢false (sym same ∙ not_own seats s e.seat has others.0)),
  others_sweep c s seats (world_behind c w e) es has others.1,
)

-- one event
pub one_sweeps : (c : Config) (s : Seat) (w : World) (e : Event)
    → (is_same_seat s e.seat ≡ true → sweeps c w.now (flight_of w.now e.seat) e.step ≡ false)
    → SweepsNothingFrom c s w (e ∷ [])
unfolding SweepsNothingFrom
one_sweeps c s w e none = (none, tt)

-- Only a mark may sweep.
pub other_steps_sweep : (c : Config) (m : Moment) (f : Flight) (x : Step) → is_mark x ≡ false → sweeps c m f x ≡ false
other_steps_sweep c m f (Step.Mark p v) h = cc
other_steps_sweep c m f _ h = refl

own_first : (kinds : Step → Bool) (b : Bool) (x : Finding) (rest : List Finding)
    → are_of kinds (if b then x ∷ rest else rest) ≡ true
    → (b ≡ true → kinds x.event.step ≡ true) × (are_of kinds rest ≡ true)
own_first kinds true x rest all =
    let parts = and_parts (kinds x.event.step) (are_of kinds rest) all in
    (λ same. parts.0, parts.1)
own_first kinds false x rest all = (λ same. absurd (true≢false (sym same)), all)

pub kinds_sweep : (kinds : Step → Bool) (c : Config) (s : Seat) (w : World) (es : List Event) → HaveNoMark kinds
    → are_of kinds (own_from c s w es) ≡ true → SweepsNothingFrom c s w es
unfolding SweepsNothingFrom own_from
kinds_sweep kinds c s w [] apart all = tt
kinds_sweep kinds c s w (e ∷ es) apart all =
    let parts = own_first kinds (is_same_seat s e.seat) (record { event = e; found = found c w.now e })
    (own_from c s (world_behind c w e) es) all in (
      λ same. other_steps_sweep c w.now (flight_of w.now e.seat) e.step (apart e.step (parts.0 same)),
      kinds_sweep kinds c s (world_behind c w e) es apart parts.1,
    )

-- The laws.

pub nothing_sweeps : NothingSweepsNothing
unfolding SweepsNothingFrom
nothing_sweeps p = record { more = []; is = sym (append-nil p.seen); none = tt }

pub sweeps_then : NothingIsSweptInTurn
sweeps_then p q r same one two =
    let c : Config = p.table.config in
    let there : world_of q ≡ left_from c (left c p.seen) one.more =
    rw same (rw one.is (left_in_parts c p.seen one.more)) in
    record {
      more = one.more ++ two.more;
      is = two.is ∙ rw one.is (append_assoc p.seen one.more two.more);
      none = sweeps_append c p.seat (world_of p) one.more two.more one.none (subst
          (λ (w : World). SweepsNothingFrom c p.seat w two.more) there
          (subst (λ (x : PassState). SweepsNothingFrom x.table.config x.seat (world_of q) two.more) same two.none));
    }

pub does_sweep : OtherKindsSweepNothing
does_sweep kinds p q apart d = record {
  more = d.more;
  is = ap (λ (x : PassState). x.seen) d.is;
  none = kinds_sweep kinds p.table.config p.seat (world_of p) d.more apart d.of_kinds;
}

pub step_sweeps : StepsMaySweepNothing
step_sweeps p q s m none = record {
  more = m.others ++ event_of p s ∷ [];
  is = ap (λ (x : PassState). x.seen) m.is ∙ append_assoc p.seen m.others (event_of p s ∷ []);
  none = sweeps_append p.table.config p.seat (world_of p) m.others (event_of p s ∷ [])
      (others_sweep p.table.config p.seat p.seats (world_of p) m.others (own_before m) m.of_others)
      (rw (← (left_in_parts p.table.config p.seen m.others))
      (one_sweeps p.table.config p.seat (left p.table.config (p.seen ++ m.others)) (event_of p s) (λ same. none)));
}

-- Only its list has grown.
pub only_seen : (p q : PassState) (more : List Event) → q ≡ record p { seen = p.seen ++ more }
    → q ≡ record p { seen = q.seen }
only_seen p q more is = cc

pub only_seen_by : (p q : PassState) (s : Step) → Makes p s q → q ≡ record p { seen = q.seen }
only_seen_by p q s m = cc

-- a step that isn't a mark, before others
pub other_step_sweeps : (p q : PassState) (s : Step) → Makes p s q → is_mark s ≡ false → SweepsNothing p q
other_step_sweeps p q s m other =
    step_sweeps p q s m (other_steps_sweep p.table.config (moment_of m) (flight_of (moment_of m) p.seat) s other)

pub step_then_sweeps : (p q r : PassState) (s : Step) → Makes p s q → is_mark s ≡ false
    → SweepsNothing q r → SweepsNothing p r
step_then_sweeps p q r s m other rest = sweeps_then p q r (only_seen_by p q s m) (other_step_sweeps p q s m other) rest

pub ruleset what_sweeps_nothing_adds_up_facts = (nothing_sweeps, sweeps_then, step_sweeps)
