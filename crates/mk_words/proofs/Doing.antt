-- What is done in parts, and by one step.
use Rattle.std.proofs.Common.{Bool, List, ap, append-nil, append_assoc, false, if◌then◌else◌, refl, subst, sym, true}
use Rattle.std.proofs.{Common.{[], ◌++◌, ◌∙◌, ◌∷◌, ◌≡◌}, lemmas.Bool.{and_from, false_from_ne_true}}
use Rattle.std.proofs.lemmas.List.Folds.{list_all-append}
use Rattle.mk_core.proofs.HistoryParts.{left_in_parts}
use Rattle.mk_core.specs.History.{AreOfOthers, Finding, is_one_of, is_same_seat, own_from, World, left}
use Rattle.mk_core.specs.{History.{left_from, world_behind}, Accesses.found, declared.config.Config.Config}
use Rattle.mk_core.specs.declared.events.{Event.Event, Seat.Seat, Step.Step}
use Rattle.mk_words.specs.Steps.{AreOwnOrOfOthers, Does, DoneInTurn, NothingIsDone, StepsAreDone, are_of, done_in}
use Rattle.mk_words.proofs.{Made.own_before, Seats.{not_both, same_seat, same_self}}
use Rattle.mk_words.specs.States.{Has, PassState, event_of}

chosen_first : (b : Bool) (x : Finding) (xs ys : List Finding)
    → (if b then x ∷ xs else xs) ++ ys ≡ (if b then x ∷ (xs ++ ys) else xs ++ ys)
chosen_first true x xs ys = refl
chosen_first false x xs ys = refl

-- the own events of a list in two parts
pub own_in_parts : (c : Config) (s : Seat) (w : World) (xs ys : List Event)
    → own_from c s w (xs ++ ys) ≡ own_from c s w xs ++ own_from c s (left_from c w xs) ys
unfolding own_from left_from
own_in_parts c s w [] ys = refl
own_in_parts c s w (e ∷ es) ys =
    rw (own_in_parts c s (world_behind c w e) es ys) (sym (chosen_first (is_same_seat s e.seat) _ _ _))

pub done_in_parts : (p : PassState) (xs ys : List Event)
    → done_in p (xs ++ ys) ≡ done_in p xs ++ done_in (record p { seen = p.seen ++ xs }) ys
done_in_parts p xs ys = own_in_parts p.table.config p.seat _ xs ys ∙ rw (left_in_parts p.table.config p.seen xs)

pub of_kinds_in_parts : (kinds : Step → Bool) (xs ys : List Finding)
    → are_of kinds xs ≡ true → are_of kinds ys ≡ true → are_of kinds (xs ++ ys) ≡ true
of_kinds_in_parts kinds xs ys one two =
    list_all-append (λ (x : Finding). kinds x.event.step) xs ys ∙ and_from _ _ one two

pub own_or_others_in_parts : (s : Seat) (seats : List Seat) (xs ys : List Event)
    → AreOwnOrOfOthers s seats xs → AreOwnOrOfOthers s seats ys → AreOwnOrOfOthers s seats (xs ++ ys)
unfolding AreOwnOrOfOthers
own_or_others_in_parts s seats [] ys one two = two
own_or_others_in_parts s seats (e ∷ es) ys one two = (one.0, own_or_others_in_parts s seats es ys one.1 two)

pub does_nothing : NothingIsDone
unfolding AreOwnOrOfOthers own_from
does_nothing kinds p = record { more = []; is = rw (append-nil p.seen); own_or_others = tt; of_kinds = refl }

pub does_then : DoneInTurn
does_then kinds p q r d e =
    let f = subst (λ (x : PassState). Does kinds x r) d.is e in
    record {
      more = d.more ++ f.more;
      is = f.is ∙ ap (λ (es : List Event). record p { seen = es }) (append_assoc p.seen d.more f.more);
      own_or_others = own_or_others_in_parts p.seat p.seats d.more f.more d.own_or_others f.own_or_others;
      of_kinds =
          rw (done_in_parts p d.more f.more) (of_kinds_in_parts kinds (done_in p d.more) _ d.of_kinds f.of_kinds);
    }

pub not_own : (seats : List Seat) (s t : Seat) → Has seats s → is_one_of seats t ≡ false → is_same_seat s t ≡ false
not_own seats s t has out =
    false_from_ne_true (is_same_seat s t) (λ (same : is_same_seat s t ≡ true).
    not_both seats t out (subst (λ (x : Seat). Has seats x) (same_seat s t same) has))

-- events of others are none of a seat's own
pub none_own : (c : Config) (seats : List Seat) (s : Seat) (w : World) (xs : List Event) → Has seats s
    → AreOfOthers seats xs → own_from c s w xs ≡ []
unfolding own_from AreOfOthers
none_own c seats s w [] has others = refl
none_own c seats s w (e ∷ es) has others =
    rw (not_own seats s e.seat has others.0) (none_own c seats s (world_behind c w e) es has others.1)

pub others_are_so : (seats : List Seat) (s : Seat) (xs : List Event) → Has seats s → AreOfOthers seats xs
    → AreOwnOrOfOthers s seats xs
unfolding AreOwnOrOfOthers AreOfOthers
others_are_so seats s [] has others = tt
others_are_so seats s (e ∷ es) has others =
    (others.0 ∙ sym (not_own seats s e.seat has others.0), others_are_so seats s es has others.1)

-- one own event
one_own : (c : Config) (s : Seat) (w : World) (e : Event) → is_same_seat s e.seat ≡ true
    → own_from c s w (e ∷ []) ≡ record { event = e; found = found c w.now e } ∷ []
unfolding own_from
one_own c s w e same = cc

itself : (s : Seat) (seats : List Seat) (e : Event) → e.seat ≡ s → Has seats s → AreOwnOrOfOthers s seats (e ∷ [])
unfolding AreOwnOrOfOthers
itself s seats e same has =
    (ap (λ (x : Seat). is_one_of seats x) same ∙ has ∙ sym (ap (λ (x : Seat). is_same_seat s x) same ∙ same_self s), tt)

pub does_step : StepsAreDone
does_step kinds p q s made allowed =
    let has = own_before made in
    let e : Event = event_of p s in
    let c : Config = p.table.config in
    record {
      more = made.others ++ e ∷ [];
      is = made.is ∙ ap (λ (es : List Event). record p { seen = es }) (append_assoc p.seen made.others (e ∷ []));
      own_or_others = own_or_others_in_parts p.seat p.seats made.others (e ∷ [])
          (others_are_so p.seats p.seat made.others has made.of_others) (itself p.seat p.seats e refl has);
      of_kinds = rw (done_in_parts p made.others (e ∷ []))
          (rw (none_own c p.seats p.seat (left c p.seen) made.others has made.of_others)
          (rw (one_own c p.seat (left c (p.seen ++ made.others)) e (same_self p.seat)) (rw allowed)));
    }
