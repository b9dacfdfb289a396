-- Parts of a turn, one after the other: each pass knows whose turn it is, and what its part lacks.
use Rattle.mk_alloc.proofs.Vocabulary.{Does, Event, Has, IsHistory, IsTurn, List, Makes, Moment, PassState, Step}
use Rattle.mk_alloc.proofs.Vocabulary.{actor_of, ap, append_assoc, cases_Bool, does_nothing, does_step}
use Rattle.mk_alloc.proofs.Vocabulary.{earlier_part_is_history, event_of, false, has_step, inl, inr, left, or_from}
use Rattle.mk_alloc.proofs.Vocabulary.{refl, subst, sym, true, turn_stays, [], ⊎_elim, ◌++◌, ◌∙◌, ◌∷◌, ◌≡◌, ◌≢◌}
use Rattle.mk_caller.proofs.{Below.Laws.Basics.is_holders, Below.Laws.FramesHolders.acts_as_holder}
use Rattle.mk_alloc.proofs.Stretches.{AreOfTurn, IsOwn, SomeKinds, Stretch, does_once, does_stretch, first_of}
use Rattle.mk_alloc.proofs.Stretches.{holds_behind, holds_none, no_kinds, others_stretch}
use Rattle.mk_alloc.proofs.ListParts.{Lacks, SomeKind, lacks_append}

-- What stretches of a turn lack, by their kinds of step: what they don't do, others don't do either, where it is the
-- turn's holder's.

-- The kind is one of the holder's, and none of the others.

abbrev pub IsHolders : SomeKind → Type 0
IsHolders kind = (x : Step) → is_holders x ≡ false → kind x ≡ false

abbrev pub AreApart : SomeKinds → SomeKind → Type 0
AreApart kinds kind = (x : Step) → kinds x ≡ true → kind x ≡ false

pub lacks : (p : PassState) (kinds : SomeKinds) (kind : SomeKind) (es more : List Event) → AreOfTurn kinds
    → Has p.seats p.seat → IsHolders kind → AreApart kinds kind → Stretch p kinds es more → Lacks kind more
lacks p kinds kind es [] stays own holders apart s = refl
lacks p kinds kind es (e ∷ rest) stays own holders apart s =
    let f = first_of e rest stays own s in
    or_from (kind e.step) (has_step kind rest) (⊎_elim (λ (mine : IsOwn p kinds e). apart e.step mine.1)
    (λ (ne : e.seat ≢ p.seat). holders e.step (elim (cases_Bool (is_holders e.step)) [
      | inr other ↦ other
      | inl holders ↦
          let m : Moment = (left p.table.config es).now in
          absurd (holds_none f.at ne (acts_as_holder p.table.config m e.seat e.step
          (actor_of p.table.config m e.seat e.step f.at.known.orderly f.at.meets) holders))
    ])) f.who) (lacks p kinds kind (es ++ e ∷ []) rest stays own holders apart f.on)

-- what a pass has seen after parts

pub seen_behind : (kinds : SomeKinds) (p q : PassState) (d : Does kinds p q) → q.seen ≡ p.seen ++ d.more
seen_behind kinds p q d = ap (λ (x : PassState). x.seen) d.is

pub seen_made : (p q : PassState) (s : Step) (m : Makes p s q) → q.seen ≡ p.seen ++ (m.others ++ event_of p s ∷ [])
seen_made p q s m = ap (λ (x : PassState). x.seen) m.is ∙ append_assoc p.seen m.others (event_of p s ∷ [])

pub seen_then : (es fs gs xs ys : List Event) → fs ≡ es ++ xs → gs ≡ fs ++ ys → gs ≡ es ++ (xs ++ ys)
seen_then es fs gs xs ys a b = b ∙ ap (λ (l : List Event). l ++ ys) a ∙ append_assoc es xs ys

pub seen_by : {kinds : SomeKinds} {p q : PassState} (d : Does kinds p q) → q.seen ≡ p.seen ++ d.more
seen_by d = ap (λ (x : PassState). x.seen) d.is

pub seen_by_both : {first second : SomeKinds} {p q r : PassState} (one : Does first p q) (two : Does second q r)
    → r.seen ≡ p.seen ++ (one.more ++ two.more)
seen_by_both {p = p} {q = q} {r = r} one two =
    seen_then p.seen q.seen r.seen one.more two.more (seen_by one) (seen_by two)

pub seen_after : {p : PassState} {s : Step} {q : PassState} (m : Makes p s q)
    → q.seen ≡ p.seen ++ (m.others ++ event_of p s ∷ [])
seen_after {p} {s} {q} m = seen_made p q s m

-- One step is done after events of others.
pub made_as : (kinds : SomeKinds) (p q : PassState) (s : Step) → Has p.seats p.seat → Makes p s q → kinds s ≡ true
    → Does kinds p q
made_as kinds p q s own m allowed = does_step kinds p q s m allowed

-- what a pass knew before

pub history_before : (kinds : SomeKinds) (p q : PassState) → Does kinds p q → IsHistory q.table.config q.seen
    → IsHistory p.table.config p.seen
history_before kinds p q d history =
    earlier_part_is_history _ _ d.more (subst (λ (x : PassState). IsHistory x.table.config x.seen) d.is history)

pub has_then : (kinds : SomeKinds) (p q : PassState) → Does kinds p q → Has p.seats p.seat → Has q.seats q.seat
has_then kinds p q d own = subst (λ (x : PassState). Has x.seats x.seat) (sym d.is) own

-- and what it knows after
pub in_turn_then : (kinds : SomeKinds) (p q : PassState) → AreOfTurn kinds → IsTurn p → Does kinds p q
    → IsHistory q.table.config q.seen → IsTurn q
in_turn_then kinds p q stays t d history = record {
  own = has_then kinds p q d t.own;
  holds = rw d.is (holds_behind p kinds stays t.own (does_stretch d history t.holds));
  history = history;
}

-- A part of a turn: its holder took only steps of these kinds.
pub record Part (kinds : SomeKinds) (p q : PassState) : Type 0 where
  pub turn : IsTurn p
  pub stays : AreOfTurn kinds
  pub does : Does kinds p q
  pub history : IsHistory q.table.config q.seen

pub nothing_part : {p : PassState} → IsTurn p → Part no_kinds p p
nothing_part {p} t = record { turn = t; stays = λ x h. cc; does = does_nothing no_kinds p; history = t.history }

pub behind_part : {kinds : SomeKinds} {p q : PassState} → Part kinds p q → IsTurn q
behind_part {kinds} {p} {q} x = in_turn_then kinds p q x.stays x.turn x.does x.history

pub behind_step : {p : PassState} {s : Step} {q : PassState} → IsTurn p → Makes p s q → turn_stays s ≡ true → IsTurn q
behind_step {p} {s} {q} t m stays = in_turn_then turn_stays p q (λ x h. h) t (does_once m stays) m.pass.history

-- what a part lacks

pub part_lacks : {kinds : SomeKinds} {p q : PassState} (kind : SomeKind) (x : Part kinds p q) → IsHolders kind
    → AreApart kinds kind → Lacks kind x.does.more
part_lacks {kinds} {p} {q} kind x holders apart =
    lacks p kinds kind p.seen x.does.more x.stays x.turn.own holders apart (does_stretch x.does x.history x.turn.holds)

pub others_lack : (kind : SomeKind) (p q : PassState) (s : Step) → IsHolders kind → IsTurn p → (m : Makes p s q)
    → IsHistory q.table.config q.seen → Lacks kind m.others
others_lack kind p q s holders t m history =
    lacks p no_kinds kind p.seen m.others (λ x h. cc) t.own holders (λ x h. cc) (others_stretch p p.seen m.others t.own
    (earlier_part_is_history p.table.config (p.seen ++ m.others) (event_of p s ∷ [])
    (subst (λ (x : PassState). IsHistory x.table.config x.seen) m.is history)) t.holds m.of_others)

-- One step after a part, and what stands before it: the events of the part, and of others.
pub record StepBehind (kinds : SomeKinds) (p r : PassState) (s : Step) (q : PassState) : Type 0 where
  pub before : List Event
  pub is : q.seen ≡ p.seen ++ (before ++ event_of r s ∷ [])
  pub turn : IsTurn q
  pub lacks : (kind : SomeKind) → IsHolders kind → AreApart kinds kind → Lacks kind before

pub step_behind : {kinds : SomeKinds} {p r : PassState} {s : Step} {q : PassState} → Part kinds p r → Makes r s q
    → turn_stays s ≡ true → StepBehind kinds p r s q
step_behind {kinds} {p} {r} {s} {q} x m stays = record {
  before = x.does.more ++ m.others;
  is =
      seen_then p.seen r.seen q.seen x.does.more _ (seen_by x.does) (seen_after m)
      ∙ ap (λ (l : List Event). p.seen ++ l) (sym (append_assoc x.does.more m.others (event_of r s ∷ [])));
  turn = behind_step (behind_part x) m stays;
  lacks = λ kind holders apart. lacks_append kind x.does.more m.others (part_lacks kind x holders apart)
      (others_lack kind r q s holders (behind_part x) m m.pass.history);
}
