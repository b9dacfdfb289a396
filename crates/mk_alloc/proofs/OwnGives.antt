-- Lists in which a seat gives no turn back: its turns stay exact after them.
use Rattle.std.proofs.Math.Bool.{and-false}
use Rattle.mk_caller.proofs.Below.Laws.Vocabulary.{false_from_ne_true, list_any}
use Rattle.mk_caller.specs.{Below.Words.Steps.done_in, Called.steps_made}
use Rattle.mk_alloc.proofs.Vocabulary.{Answer, Bool, Config, Does, EndsExactly, Event, Finding, Has, List, Makes, Op}
use Rattle.mk_alloc.proofs.Vocabulary.{PassState, Seat, Stage, Step, TurnsOfAreExact, World, and_from, and_parts, ap}
use Rattle.mk_alloc.proofs.Vocabulary.{append-nil, are_of, arith, event_of, false, found, if◌then◌else◌, is_same_seat}
use Rattle.mk_alloc.proofs.Vocabulary.{list_all, list_any-append, map, not, not-true, not_both, or_from, or_parts}
use Rattle.mk_alloc.proofs.Vocabulary.{own_steps, refl, same_seat, same_self, stages_made, step_at, subst, sym, true}
use Rattle.mk_alloc.proofs.Vocabulary.{turn_stays, world_behind, world_of, [], ⊎_elim, ◌&&◌, ◌++◌, ◌∙◌, ◌∷◌, ◌≡◌}
use Rattle.mk_alloc.proofs.ListParts.{InFirst, InSecond, stands}
use Rattle.mk_core.specs.{Cycles.is_give, History.{AreOfOthers, own_from}}

abbrev pub own_give : Seat → Event → Bool
own_give s e = is_same_seat s e.seat && is_give e.step

abbrev pub GivesNone : Seat → List Event → Type 0
GivesNone s es = list_any (own_give s) es ≡ false

pub gives_append : (s : Seat) (xs ys : List Event) → GivesNone s xs → GivesNone s ys → GivesNone s (xs ++ ys)
gives_append s xs ys one two =
    list_any-append (own_give s) xs ys ∙ or_from (list_any (own_give s) xs) (list_any (own_give s) ys) one two

gives_at : (s : Seat) (es before : List Event) (e : Event) (behind : List Event) → GivesNone s es → es
    ≡ before ++ e ∷ behind → e.step ≡ Step.Give → e.seat ≡ s → ⊥
gives_at s es before e behind none is give same =
    grind (arith, or_parts, own_give, list_any-append, and_from, same_self)

-- Turns stay exact where none more is given back,
pub none_more : (on : Bool) (c : Config) (s : Seat) (es more : List Event) → GivesNone s more
    → TurnsOfAreExact on c s es → TurnsOfAreExact on c s (es ++ more)
none_more on c s es more none exact before e behind is give same =
    ⊎_elim (λ (t : InFirst es before e). exact before e t.behind t.is give same)
    (λ (t : InSecond es more before e behind). absurd (gives_at s more t.rest e behind none t.is give same))
    (stands es more before e behind is)

-- and where one is, which is exact.
pub one_more : (on : Bool) (c : Config) (s : Seat) (es : List Event) (g : Event) → TurnsOfAreExact on c s es
    → EndsExactly on c s es → TurnsOfAreExact on c s (es ++ g ∷ [])
one_more on c s es g exact ends before e behind is give same =
    ⊎_elim (λ (t : InFirst es before e). exact before e t.behind t.is give same)
    (λ (t : InSecond es (g ∷ []) before e behind). by t.rest t.first t.is) (stands es (g ∷ []) before e behind is)
  where
    by : (rest : List Event) → before ≡ es ++ rest → g ∷ [] ≡ rest ++ e ∷ behind → EndsExactly on c s before
    by [] first is = subst (λ (l : List Event). EndsExactly on c s l) (sym (first ∙ append-nil es)) ends
    by (r ∷ []) first is = cc
    by (r ∷ (x ∷ xs)) first is = cc

-- Others give back none of its turns.
pub others_give : (s : Seat) (seats : List Seat) (es : List Event) → Has seats s → AreOfOthers seats es → GivesNone s es
unfolding AreOfOthers
others_give s seats [] has others = refl
others_give s seats (e ∷ es) has others =
    or_from (own_give s e) (list_any (own_give s) es)
    (ap (λ (b : Bool). b && is_give e.step) (false_from_ne_true (is_same_seat s e.seat) (λ same. not_both seats e.seat
    others.0 (subst (λ (t : Seat). Has seats t) (same_seat s e.seat same) has)))) (others_give s seats es has others.1)

-- Own steps of kinds without a `give` give nothing back.

abbrev pub HaveNoGive : (Step → Bool) → Type 0
HaveNoGive kinds = (x : Step) → kinds x ≡ true → is_give x ≡ false

first_gives : (kinds : Step → Bool) (b : Bool) (x : Finding) (rest : List Finding) → HaveNoGive kinds → are_of kinds
    (if b then x ∷ rest else rest) ≡ true → ((b && is_give x.event.step) ≡ false) × (are_of kinds rest ≡ true)
first_gives kinds x1 x rest none all = grind (arith, and_parts)

kinds_give : (kinds : Step → Bool) (c : Config) (s : Seat) (w : World) (es : List Event) → HaveNoGive kinds
    → are_of kinds (own_from c s w es) ≡ true → GivesNone s es
unfolding own_from
kinds_give kinds c s w [] none all = refl
kinds_give kinds c s w (e ∷ es) none all =
    let parts = first_gives kinds (is_same_seat s e.seat) (record { event = e; found = found c w.now e })
    (own_from c s (world_behind c w e) es) none all in
    or_from (own_give s e) (list_any (own_give s) es) parts.0 (kinds_give kinds c s
    (world_behind c w e) es none parts.1)

pub does_give_none : {kinds : Step → Bool} {p q : PassState} → HaveNoGive kinds → (d : Does kinds p q)
    → GivesNone p.seat d.more
does_give_none none d = grind (arith, kinds_give)

pub doing_gives : (p q : PassState) (d : Does turn_stays p q) → GivesNone p.seat d.more
doing_gives p q d = does_give_none (λ x h. grind arith) d

-- The own steps of a call with `enter` and `leave` are those of its stages,

stages_are : (kinds : Step → Bool) → ((s : Stage) → kinds (step_at s) ≡ true) → (xs : List Stage)
    → list_all kinds (map step_at xs) ≡ true
stages_are kinds at [] = refl
stages_are kinds at (x ∷ xs) = and_from (kinds (step_at x)) (list_all kinds (map step_at xs)) (at x)
    (stages_are kinds at xs)

all_of_steps : (kinds : Step → Bool) (xs : List Finding)
    → list_all kinds (map (λ (x : Finding). x.event.step) xs) ≡ are_of kinds xs
all_of_steps kinds [] = refl
all_of_steps kinds (x ∷ xs) = ap (λ (b : Bool). kinds x.event.step && b) (all_of_steps kinds xs)

pub steps_are : (kinds : Step → Bool) → ((s : Stage) → kinds (step_at s) ≡ true) → (p : PassState) (o : Op)
    (a : Answer) (more : List Event) → kinds (Step.Enter o) ≡ true → own_steps p more ≡ steps_made o a
    → are_of kinds (done_in p more) ≡ true
steps_are kinds at p o a more enter steps =
    sym (all_of_steps kinds (done_in p more)) ∙ ap (λ (l : List Step). list_all kinds l) steps ∙ and_from (kinds
    (Step.Enter o)) (list_all kinds (map step_at (stages_made o a))) enter (stages_are kinds at (stages_made o a))

-- so it gives nothing back.

no_give : Step → Bool
no_give x = not (is_give x)

at_no_give : (s : Stage) → no_give (step_at s) ≡ true
unfolding no_give
at_no_give x0 = grind arith

pub calls_give : (p : PassState) (o : Op) (a : Answer) (more : List Event) → own_steps p more ≡ steps_made o a
    → GivesNone p.seat more
unfolding no_give
calls_give p o a more steps =
    kinds_give no_give p.table.config p.seat (world_of p) more (λ x h. not-true (is_give x) h)
    (steps_are no_give at_no_give p o a more refl steps)

-- What is made by one step, which isn't a `give`.
pub one_gives : {p : PassState} {x : Step} {q : PassState} (m : Makes p x q) → Has p.seats p.seat → is_give x ≡ false
    → GivesNone p.seat (m.others ++ event_of p x ∷ [])
one_gives m has none = grind (arith, gives_append, others_give, or_from, own_give, and-false)
