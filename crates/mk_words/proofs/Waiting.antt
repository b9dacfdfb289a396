-- Waiting for the turn, a try after the other.
use Rattle.std.proofs.Common.{Bool, List, Option, ap, append-nil, append_assoc, false, not, refl, subst, sym, true, []}
use Rattle.std.{proofs.{Common.{◌&&◌, ◌++◌, ◌||◌, ◌∙◌, ◌∷◌, ◌≡◌}, lemmas.Bool.and_from}, specs.List.{list_all}}
use Rattle.std.proofs.lemmas.List.Folds.{list_all-append}
use Rattle.mk_never.specs.declared.operations.Op.{Op}
use Rattle.mk_core.specs.{History.{AreOfOthers, is_one_of, is_same_seat}, declared.events.Event.Event}
use Rattle.mk_core.specs.declared.events.Step.{Step}
use Rattle.mk_words.specs.TurnSteps.{TakesTurn, Waits, is_take, waits_for}
use Rattle.mk_words.{proofs.Seats.{same_self}, specs.{States.{PassState, event_of}, Steps.Makes}}

-- the list of a pass that made a step
pub joined_lists : (p q r : PassState) (first : List Event) (s : Step) → q ≡ record p { seen = p.seen ++ first }
    → (m : Makes q s r) → r ≡ record p { seen = p.seen ++ (first ++ (m.others ++ event_of p s ∷ [])) }
joined_lists p q r first s is m =
    m.is ∙ ap (λ (x : PassState). record x { seen = x.seen ++ m.others ++ event_of x s ∷ [] }) is
    ∙ ap (λ (l : List Event). record p { seen = l }) (append_assoc (p.seen ++ first) m.others (event_of p s ∷ [])
    ∙ append_assoc p.seen first (m.others ++ event_of p s ∷ []))

others_wait : (p : PassState) (es : List Event) → AreOfOthers p.seats es → list_all (waits_for p) es ≡ true
unfolding AreOfOthers
others_wait p [] h = refl
others_wait p (e ∷ es) h =
    and_from (waits_for p e) (list_all (waits_for p) es)
    (ap (λ (b : Bool). not b || (is_take e.step && is_same_seat e.seat p.seat)) h.0) (others_wait p es h.1)

or_last : (b : Bool) → (b || true) ≡ true
or_last true = refl
or_last false = refl

pub waits_none : (p : PassState) → Waits p p
waits_none p =
    record { more = []; is = ap (λ (l : List Event). record p { seen = l }) (sym (append-nil p.seen)); only = refl }

pub waits_then : {p q r : PassState} → Waits p q → Waits q r → Waits p r
waits_then {p} {r = r} w v = record {
  more = w.more ++ v.more;
  is = v.is ∙ ap (λ (x : PassState). record x { seen = x.seen ++ v.more }) w.is
      ∙ ap (λ (l : List Event). record p { seen = l }) (append_assoc p.seen w.more v.more);
  only = list_all-append (waits_for p) w.more v.more
      ∙ and_from (list_all (waits_for p) w.more) (list_all (waits_for p) v.more) w.only
      (subst (λ (x : PassState). list_all (waits_for x) v.more ≡ true) w.is v.only);
}

-- One try more.
pub waits_more : (p q r : PassState) (o : Option Op) → Waits p q → Makes q (Step.Take o) r → Waits p r
waits_more p q r o w m =
    let e : Event = event_of q (Step.Take o) in
    waits_then w (record {
      more = m.others ++ e ∷ [];
      is = m.is ∙ ap (λ (l : List Event). record q { seen = l }) (append_assoc q.seen m.others (e ∷ []));
      only = list_all-append (waits_for q) m.others (e ∷ [])
          ∙ and_from (list_all (waits_for q) m.others) (list_all (waits_for q) (e ∷ []))
          (others_wait q m.others m.of_others) (and_from (waits_for q e) true
          (ap (λ (b : Bool). not (is_one_of q.seats q.seat) || b) (same_self q.seat)
          ∙ or_last (not (is_one_of q.seats q.seat))) refl);
    })

pub takes_then : {p q r : PassState} {o : Option Op} → Waits p q → TakesTurn q o r → TakesTurn p o r
takes_then w t = record { waited = t.waited; waits = waits_then w t.waits; takes = t.takes }
