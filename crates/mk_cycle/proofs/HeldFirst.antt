-- Lists in which a seat holds gates, wants the close or gives its turn back, and what begins so.
use Rattle.mk_words.proofs.Below.Laws.Vocabulary.{Bool, Config, Event, List, Seat, Step, World, and_from, and_parts, ap}
use Rattle.mk_words.proofs.Below.Laws.Vocabulary.{append_assoc, arith, false, found, if◌then◌else◌, left, not, refl}
use Rattle.mk_words.proofs.Below.Laws.Vocabulary.{subst, sym, true, true≢false, world_behind, [], ◌&&◌, ◌++◌, ◌||◌}
use Rattle.mk_words.proofs.{Below.Laws.Vocabulary.{◌∙◌, ◌∷◌, ◌≡◌}, Doing.not_own, Seats.same_self}
use Rattle.mk_words.specs.Steps.{Does, are_of}
use Rattle.mk_cycle.proofs.Vocabulary.{Has, Makes, PassState, event_of, holds_gates}
use Rattle.mk_core.specs.History.{AreOfOthers, Finding, is_same_seat, own_from}
use Rattle.mk_cycle.specs.{BeginCycle.{HoldsFirst, are_own_of, leaves_begun, only_holds}, FinishCycle.FinishesCycle}

-- What the own events of a list are of is said of the list itself.

kind_first : (kinds : Step → Bool) (b : Bool) (x : Finding) (rest : List Finding)
    → are_of kinds (if b then x ∷ rest else rest) ≡ true
    → ((not b || kinds x.event.step) ≡ true) × (are_of kinds rest ≡ true)
kind_first kinds true x rest all = and_parts (kinds x.event.step) (are_of kinds rest) all
kind_first kinds false x rest all = (refl, all)

pub own_kinds : (kinds : Step → Bool) (c : Config) (s : Seat) (w : World) (es : List Event)
    → are_of kinds (own_from c s w es) ≡ true → are_own_of kinds s es ≡ true
unfolding own_from
own_kinds kinds c s w [] all = refl
own_kinds kinds c s w (e ∷ es) all =
    let parts = kind_first kinds (is_same_seat s e.seat) (record { event = e; found = found c w.now e })
    (own_from c s (world_behind c w e) es) all in
    and_from (not (is_same_seat s e.seat) || kinds e.step) (are_own_of kinds s es) parts.0
    (own_kinds kinds c s (world_behind c w e) es parts.1)

-- A list in which the seat holds gates, or wants the close, or gives its turn back.

choose : (b x y : Bool) → (if b then x else y) ≡ true → (b ≡ true → x ≡ true) × (b ≡ false → y ≡ true)
choose true x y h = ((λ e. h), (λ e. cc))
choose false x y h = ((λ e. cc), (λ e. h))

chosen : (b x y : Bool) → (b ≡ true → x ≡ true) → (b ≡ false → y ≡ true) → (if b then x else y) ≡ true
chosen true x y one two = one refl
chosen false x y one two = two refl

one_step : (l h x y : Bool) → (x ≡ true → y ≡ true) → (l || (h && x)) ≡ true → (l || (h && y)) ≡ true
one_step true h x y on e = refl
one_step false true x y on e = on e
one_step false false x y on e = cc

-- Where it has wanted or given, more may come.
pub holds_longer : (yet : Bool) (s : Seat) (xs ys : List Event) → only_holds false s xs ≡ true
    → only_holds yet s (xs ++ ys) ≡ true
unfolding only_holds
holds_longer yet s [] ys h = cc
holds_longer yet s (e ∷ es) ys h =
    let parts = choose (is_same_seat s e.seat) _ _ h in
    chosen (is_same_seat s e.seat) _ _
    (λ same. one_step (leaves_begun e.step) (holds_gates e.step) _ _ (holds_longer yet s es ys) (parts.0 same))
    (λ other. holds_longer yet s es ys (parts.1 other))

-- Where it may not have, what comes begins so.
pub holds_on : (yet : Bool) (s : Seat) (xs ys : List Event) → only_holds true s xs ≡ true
    → only_holds yet s ys ≡ true → only_holds yet s (xs ++ ys) ≡ true
unfolding only_holds
holds_on yet s [] ys h on = on
holds_on yet s (e ∷ es) ys h on =
    let parts = choose (is_same_seat s e.seat) _ _ h in
    chosen (is_same_seat s e.seat) _ _
    (λ same. one_step (leaves_begun e.step) (holds_gates e.step) _ _ (λ x. holds_on yet s es ys x on) (parts.0 same))
    (λ other. holds_on yet s es ys (parts.1 other) on)

-- Its own events are those that hold gates,
pub holding_holds : (c : Config) (s : Seat) (w : World) (es : List Event)
    → are_of holds_gates (own_from c s w es) ≡ true → only_holds true s es ≡ true
unfolding own_from only_holds
holding_holds c s w [] all = refl
holding_holds c s w (e ∷ es) all =
    let parts = kind_first holds_gates (is_same_seat s e.seat) (record { event = e; found = found c w.now e })
    (own_from c s (world_behind c w e) es) all in
    let rest = holding_holds c s (world_behind c w e) es parts.1 in
    chosen (is_same_seat s e.seat) _ _ (λ same. grind (arith, parts, rest)) (λ other. rest)

-- or there are none.
pub others_hold : (seats : List Seat) (s : Seat) (es : List Event) → Has seats s → AreOfOthers seats es
    → only_holds true s es ≡ true
unfolding AreOfOthers only_holds
others_hold seats s [] has others = refl
others_hold seats s (e ∷ es) has others =
    let other = not_own seats s e.seat has others.0 in
    chosen (is_same_seat s e.seat) _ _ (λ same. absurd (true≢false (sym same ∙ other)))
    (λ o. others_hold seats s es has others.1)

-- What a seat does from one pass to another begins so: a step by which it leaves,

pub step_holds : {p q : PassState} {x : Step} → Has p.seats p.seat → Makes p x q → leaves_begun x ≡ true
    → HoldsFirst p q
unfolding only_holds
step_holds {p} {q} {x} own m leaves = record {
  more = m.others ++ event_of p x ∷ [];
  is = ap (λ (y : PassState). y.seen) m.is ∙ append_assoc p.seen m.others (event_of p x ∷ []);
  holds = holds_on false p.seat m.others (event_of p x ∷ []) (others_hold p.seats p.seat m.others own m.of_others)
      (chosen (is_same_seat p.seat p.seat) _ _ (λ same. or_left (leaves_begun x) _ leaves)
      (λ other. absurd (true≢false (sym (same_self p.seat) ∙ other))));
}
  where
    or_left : (a b : Bool) → a ≡ true → (a || b) ≡ true
    or_left a b h = grind arith

-- also after gates were held, and before more is seen,

pub holding_then : {p q r : PassState} → Does holds_gates p q → HoldsFirst q r → HoldsFirst p r
holding_then {p} {q} d h = record {
  more = d.more ++ h.more;
  is = h.is ∙ ap (λ (y : PassState). y.seen ++ h.more) d.is ∙ append_assoc p.seen d.more h.more;
  holds = holds_on false p.seat d.more h.more
      (holding_holds p.table.config p.seat (left p.table.config p.seen) d.more d.of_kinds)
      (subst (λ (y : PassState). only_holds false y.seat h.more ≡ true) d.is h.holds);
}

pub first_then : {p q r : PassState} → HoldsFirst p q → (more : List Event) → r.seen ≡ q.seen ++ more
    → HoldsFirst p r
first_then {p} h more is = record {
  more = h.more ++ more;
  is = is ∙ ap (λ (l : List Event). l ++ more) h.is ∙ append_assoc p.seen h.more more;
  holds = holds_longer false p.seat h.more more h.holds;
}

first_by_step : {p q r : PassState} {x : Step} → HoldsFirst p q → Makes q x r → HoldsFirst p r
first_by_step {q = q} {x = x} h m =
    first_then h (m.others ++ event_of q x ∷ [])
    (ap (λ (y : PassState). y.seen) m.is ∙ append_assoc q.seen m.others (event_of q x ∷ []))

first_by_kinds : {kinds : Step → Bool} {p q r : PassState} → HoldsFirst p q → Does kinds q r → HoldsFirst p r
first_by_kinds h d = first_then h d.more (ap (λ (y : PassState). y.seen) d.is)

-- or the end of a cycle.
pub finish_holds : {p q : PassState} → Has p.seats p.seat → FinishesCycle p q → HoldsFirst p q
finish_holds {p} own law =
    let m = law.makes in
    let k = m.releases in
    let w = k.marks.wants in
    let own_held : Has m.held.seats m.held.seat = subst (λ (x : PassState). Has x.seats x.seat) (sym m.holds.is) own in
    let wished = step_holds own_held w.want refl in
    let closing : HoldsFirst m.held k.closing = first_then wished w.rest w.is in
    holding_then m.holds (first_by_kinds (first_by_step (first_by_kinds (first_by_kinds (first_by_step
    (first_by_step closing k.close) k.release) m.opens) m.frees) m.end) m.behind)
