-- Who waits for the turn marks nothing: it only tries to take it.
use Rattle.std.proofs.Common.{List, ap, false, not, refl, subst, true, [], ⊎_elim, ◌&&◌, ◌∷◌, ◌≡◌}
use Rattle.std.{proofs.lemmas.Bool.{and_parts, not-true, or_cases}, specs.List.{list_all}}
use Rattle.mk_core.specs.{History.{is_one_of, is_same_seat, World, world_behind}, Moments.flight_of}
use Rattle.mk_core.specs.declared.events.{Event.Event, Seat.Seat, Step.Step}
use Rattle.mk_words.proofs.Sweeping.{only_seen, other_step_sweeps, other_steps_sweep, sweeps_then}
use Rattle.mk_words.specs.{Sweeping.{SweepsNothingFrom, is_mark}, TurnSteps.{is_take, waits_for}}
use Rattle.mk_words.specs.Sweeping.{TakingSweepsNothing}
use Rattle.mk_words.{proofs.Seats.{not_both, same_seat}, specs.{States.Has, States.{PassState, world_of}}}

take_is_no_mark : (x : Step) → is_take x ≡ true → is_mark x ≡ false
take_is_no_mark (Step.Take o) h = refl
take_is_no_mark _ h = cc

waiting : (p : PassState) (e : Event) → Has p.seats p.seat → waits_for p e ≡ true → is_same_seat p.seat e.seat ≡ true
    → is_mark e.step ≡ false
waiting p e has waits same =
    ⊎_elim (λ (out : not (is_one_of p.seats e.seat) ≡ true).
    absurd (not_both p.seats e.seat (not-true (is_one_of p.seats e.seat) out)
    (subst (λ (t : Seat). Has p.seats t) (same_seat p.seat e.seat same) has)))
    (λ (take : (is_take e.step && is_same_seat e.seat p.seat) ≡ true).
    take_is_no_mark e.step (and_parts (is_take e.step) (is_same_seat e.seat p.seat) take).0)
    (or_cases (not (is_one_of p.seats e.seat)) (is_take e.step && is_same_seat e.seat p.seat) waits)

waits_sweep : (p : PassState) (w : World) (es : List Event) → Has p.seats p.seat → list_all (waits_for p) es ≡ true
    → SweepsNothingFrom p.table.config p.seat w es
unfolding SweepsNothingFrom
waits_sweep p w [] has all = tt
waits_sweep p w (e ∷ es) has all =
    let parts = and_parts (waits_for p e) (list_all (waits_for p) es) all in (
      λ same. other_steps_sweep p.table.config w.now (flight_of w.now e.seat) e.step (waiting p e has parts.0 same),
      waits_sweep p (world_behind p.table.config w e) es has parts.1,
    )

pub taking_sweeps : TakingSweepsNothing
taking_sweeps p o q has t =
    let w = t.waits in
    sweeps_then p t.waited q (only_seen p t.waited w.more w.is) (record {
      more = w.more;
      is = ap (λ (x : PassState). x.seen) w.is;
      none = waits_sweep p (world_of p) w.more has w.only;
    }) (other_step_sweeps t.waited q (Step.Take o) t.takes.makes refl)
