-- Who waits for the turn, and takes it, only tries to take it.
use Rattle.std.proofs.Common.{Bool, List, Option, ap, false, if◌then◌else◌, not, refl, subst, sym, true, [], ⊎_elim}
use Rattle.std.proofs.{Common.{◌&&◌, ◌∙◌, ◌∷◌, ◌≡◌}, lemmas.Bool.{and_from, and_parts, not-true, or_cases}}
use Rattle.std.specs.List.{list_all}
use Rattle.mk_never.specs.declared.operations.Op.{Op}
use Rattle.mk_core.specs.{History.{Finding, is_one_of, is_same_seat, own_from}, Accesses.found}
use Rattle.mk_core.specs.{History.{World, world_behind}, declared.events.{Event.Event, Seat.Seat}}
use Rattle.mk_core.specs.declared.events.Step.{Step}
use Rattle.mk_words.proofs.Doing.{does_step, does_then, not_own}
use Rattle.mk_words.specs.{Steps.{AreOwnOrOfOthers, Does, are_of}, TurnSteps.{TakesTurn, is_take, waits_for}}
use Rattle.mk_words.{proofs.Seats.{not_both, same_seat, same_self}, specs.{States.Has, States.{PassState, world_of}}}

-- Its own events are takes.
pub own_take : (p : PassState) (e : Event) → Has p.seats p.seat → waits_for p e ≡ true
    → is_same_seat p.seat e.seat ≡ true → is_take e.step ≡ true
own_take p e own waits same =
    ⊎_elim (λ (out : not (is_one_of p.seats e.seat) ≡ true).
    absurd (not_both p.seats e.seat (not-true (is_one_of p.seats e.seat) out)
    (subst (λ (s : Seat). Has p.seats s) (same_seat p.seat e.seat same) own)))
    (λ (take : (is_take e.step && is_same_seat e.seat p.seat) ≡ true).
    (and_parts (is_take e.step) (is_same_seat e.seat p.seat) take).0)
    (or_cases (not (is_one_of p.seats e.seat)) (is_take e.step && is_same_seat e.seat p.seat) waits)

own_or_other : (p : PassState) (e : Event) → Has p.seats p.seat → waits_for p e ≡ true
    → is_one_of p.seats e.seat ≡ is_same_seat p.seat e.seat
own_or_other p e own waits =
    ⊎_elim (λ (out : not (is_one_of p.seats e.seat) ≡ true).
    let none = not-true (is_one_of p.seats e.seat) out in
    none ∙ sym (not_own p.seats p.seat e.seat own none))
    (λ (take : (is_take e.step && is_same_seat e.seat p.seat) ≡ true).
    let same : e.seat ≡ p.seat =
    same_seat e.seat p.seat (and_parts (is_take e.step) (is_same_seat e.seat p.seat) take).1 in
    ap (λ (s : Seat). is_one_of p.seats s) same ∙ own
    ∙ sym (ap (λ (s : Seat). is_same_seat p.seat s) same ∙ same_self p.seat))
    (or_cases (not (is_one_of p.seats e.seat)) (is_take e.step && is_same_seat e.seat p.seat) waits)

all_own_or_others : (p : PassState) (es : List Event) → Has p.seats p.seat → list_all (waits_for p) es ≡ true
    → AreOwnOrOfOthers p.seat p.seats es
unfolding AreOwnOrOfOthers
all_own_or_others p [] own all = tt
all_own_or_others p (e ∷ es) own all =
    let parts = and_parts (waits_for p e) (list_all (waits_for p) es) all in
    (own_or_other p e own parts.0, all_own_or_others p es own parts.1)

one_more : (b : Bool) (x : Finding) (rest : List Finding) → (b ≡ true → is_take x.event.step ≡ true)
    → are_of is_take rest ≡ true → are_of is_take (if b then x ∷ rest else rest) ≡ true
one_more true x rest h all = and_from (is_take x.event.step) (are_of is_take rest) (h refl) all
one_more false x rest h all = all

all_take : (p : PassState) (w : World) (es : List Event) → Has p.seats p.seat → list_all (waits_for p) es ≡ true
    → are_of is_take (own_from p.table.config p.seat w es) ≡ true
unfolding own_from
all_take p w [] own all = refl
all_take p w (e ∷ es) own all =
    let parts = and_parts (waits_for p e) (list_all (waits_for p) es) all in
    one_more (is_same_seat p.seat e.seat) (record { event = e; found = found p.table.config w.now e })
    (own_from p.table.config p.seat (world_behind p.table.config w e) es)
    (λ same. own_take p e own parts.0 same) (all_take p (world_behind p.table.config w e) es own parts.1)

pub taking_does : (p : PassState) (o : Option Op) (q : PassState) → Has p.seats p.seat → TakesTurn p o q
    → Does is_take p q
taking_does p o q own t =
    let w = t.waits in
    does_then is_take p t.waited q (record {
      more = w.more;
      is = w.is;
      own_or_others = all_own_or_others p w.more own w.only;
      of_kinds = all_take p (world_of p) w.more own w.only;
    }) (does_step is_take t.waited q (Step.Take o) t.takes.makes refl)
