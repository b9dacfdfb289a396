-- What is marked beside others, in parts.
use Rattle.std.{proofs.{Common.below_more, lemmas.List.Folds.list_all-append}, specs.List.{list_all}}
use Rattle.mk_words.proofs.Below.Laws.Vocabulary.{Bool, Event, List, Step, Word, ℕ, and_from, and_parts, ap, arith}
use Rattle.mk_words.proofs.Below.Laws.Vocabulary.{eq-eqb, false, is_held, is_number_of, list_any, list_any-append}
use Rattle.mk_words.proofs.Below.Laws.Vocabulary.{ltb-true, not, or_right, points_well, refl, subst, sym, true, []}
use Rattle.mk_words.proofs.Below.Laws.Vocabulary.{◌++◌, ◌+◌, ◌<◌, ◌==◌, ◌||◌, ◌∙◌, ◌∷◌, ◌≡◌}
use Rattle.mk_words.proofs.Doing.{does_nothing, does_then}
use Rattle.mk_cycle.proofs.Since.{done_then, nothing_done, nothing_keeps, rule_then}
use Rattle.mk_cycle.specs.Beside.{FindsInRoot, GoesBeside, IsBeside, KeepsOtherGates, LooksAt, MarksBeside}
use Rattle.mk_cycle.specs.Beside.{MarksReachedAlone, SetsGate, StaysWell, done_since, found_well, looks_at}
use Rattle.mk_cycle.specs.{Grays.TracesReached, Stops.{is_root, IsHeldOrOwn, IsForGate}}
use Rattle.mk_cycle.specs.TurnKeeps.{KeepsGates, LeavesTurn, unchanged, begins_marking}
use Rattle.mk_words.specs.Steps.{Does}
use Rattle.mk_core.specs.{History.Finding, Conditions.is_word}
use Rattle.mk_cycle.proofs.KeptInParts.{free_then, gates_then, keeps_at_once, keeps_then, same_config}
use Rattle.mk_words.specs.States.{PassState, TurnState, WordsState, event_of, now_of}

-- The turn goes on being free, and the cycle marking.
pub still_beside : {p q : PassState} → IsBeside p → LeavesTurn unchanged p q → IsBeside q
still_beside b k = grind (arith, free_then)

pub goes_nowhere : (t : TurnState) → IsBeside t.pass → GoesBeside t t
goes_nowhere t b = grind (arith, does_nothing, keeps_at_once, nothing_keeps, nothing_done)

-- What is found points well after more marks.

all_on : (test more : Finding → Bool) → ((f : Finding) → test f ≡ true → more f ≡ true) → (xs : List Finding)
    → list_all test xs ≡ true → list_all more xs ≡ true
all_on test more h [] is = refl
all_on test more h (x ∷ xs) is =
    let parts = and_parts (test x) (list_all test xs) is in
    and_from (more x) (list_all more xs) (h x parts.0) (all_on test more h xs parts.1)

or_on : (a b more : Bool) → (b ≡ true → more ≡ true) → (a || b) ≡ true → (a || more) ≡ true
or_on true b more h is = refl
or_on false b more h is = h is

-- Two parts, where the first is of these events.
module _ (p : PassState) (xs : List Event) (r : PassState) where
  abbrev q : PassState
  q = record p { seen = p.seen ++ xs }

  abbrev still_found : List Finding → Bool
  still_found fs = list_all (found_well p.table.config.pages (now_of r).words) fs

  joined : Does begins_marking p q → LeavesTurn unchanged p q → MarksReachedAlone p q → StaysWell p q
      → still_found (done_since p q) ≡ true → MarksBeside q r → MarksBeside p r
  joined does keeps reached well found b = record {
    does = does_then begins_marking p q r does b.does;
    keeps = keeps_then unchanged p q r keeps b.keeps;
    reached = rule_then p xs r b.does.more b.does.is TracesReached reached b.reached;
    found =
        ap still_found (done_then p xs r b.does.more b.does.is)
        ∙ list_all-append (found_well p.table.config.pages (now_of r).words) (done_since p q) (done_since q r)
        ∙ and_from (still_found (done_since p q)) (still_found (done_since q r)) found b.found;
    well = λ u h. b.well u (well u h);
  }

  two_parts : MarksBeside p q → MarksBeside q r → MarksBeside p r
  two_parts a b = grind (arith, joined, all_on, or_on)

  root_part : (x : Word) (n : ℕ) → Does begins_marking p q → LeavesTurn unchanged p q → MarksReachedAlone p q
      → StaysWell p q → done_since p q ≡ record { event = event_of p (Step.Look x); found = n } ∷ []
      → MarksBeside q r → points_well p.table.config.pages (now_of r).words n ≡ true → MarksBeside p r
  root_part x n does keeps reached well done b here =
      joined does keeps reached well (ap still_found done
      ∙ and_from (not (is_root x) || points_well p.table.config.pages (now_of r).words n) true
      (or_right (not (is_root x)) (points_well p.table.config.pages (now_of r).words n) here) refl) b

  looked_first : (x : Word) → Does begins_marking q r → LooksAt x p q → LooksAt x p r
  looked_first x d here =
      let test : Finding → Bool = λ (f : Finding). looks_at x f.event.step in
      cc (done_then p xs r d.more d.is, list_any-append test (done_since p q) (done_since q r), here)

  looked_second : (x : Word) → Does begins_marking q r → LooksAt x q r → LooksAt x p r
  looked_second x d here =
      let test : Finding → Bool = λ (f : Finding). looks_at x f.event.step in
      ap (λ (fs : List Finding). list_any test fs) (done_then p xs r d.more d.is) ∙ list_any-append test (done_since p
      q) (done_since q r) ∙ or_right (list_any test (done_since p q)) (list_any test (done_since q r)) here

-- One part after another.

pub beside_then : {p q r : PassState} → MarksBeside p q → MarksBeside q r → MarksBeside p r
beside_then {p} {r} a b =
    subst (λ (x : PassState). MarksBeside p x → MarksBeside x r → MarksBeside p r) (sym a.does.is)
    (two_parts p a.does.more r) a b

pub goes_then : {t u v : TurnState} → GoesBeside t u → GoesBeside u v → GoesBeside t v
goes_then {t} {u} {v} a b = record { table = b.table ∙ a.table; beside = b.beside; marks = beside_then a.marks b.marks }

-- A root was looked at in the first part, or in the second.

pub looked_then : (x : Word) {p q r : PassState} → Does begins_marking p q → Does begins_marking q r
    → LooksAt x p q → LooksAt x p r
looked_then x {p = p} {r = r} d e here =
    subst (λ (y : PassState). Does begins_marking y r → LooksAt x p y → LooksAt x p r) (sym d.is)
    (looked_first p d.more r x) e here

pub then_looked : (x : Word) {p q r : PassState} → Does begins_marking p q → Does begins_marking q r
    → LooksAt x q r → LooksAt x p r
then_looked x {p = p} {r = r} d e here =
    subst (λ (y : PassState). Does begins_marking y r → LooksAt x y r → LooksAt x p r) (sym d.is)
    (looked_second p d.more r x) e here

-- A look at a root, and the marks after it by which its value points well.

same_root : (x : Word) → is_root x ≡ true → looks_at x (Step.Look x) ≡ true
same_root (Word.Reg j r) h = and_from (j == j) (r == r) (eq-eqb j j refl) (eq-eqb r r refl)
same_root (Word.Global g) h = eq-eqb g g refl
same_root _ h = cc

module _ {x : Word} {n : ℕ} {t u v : TurnState} (f : FindsInRoot x n t u) (b : GoesBeside u v) where
  pub root_then : points_well t.pass.table.config.pages (now_of v.pass).words n ≡ true → GoesBeside t v
  root_then here = record {
    table = b.table ∙ f.table;
    beside = b.beside;
    marks =
        subst (λ (y : PassState). Does begins_marking t.pass y → LeavesTurn unchanged t.pass y
        → MarksReachedAlone t.pass y → StaysWell t.pass y
        → done_since t.pass y ≡ record { event = event_of t.pass (Step.Look x); found = n } ∷ [] → MarksBeside y v.pass
        → points_well t.pass.table.config.pages (now_of v.pass).words n ≡ true → MarksBeside t.pass v.pass)
        (sym f.does.is) (root_part t.pass f.does.more v.pass x n) f.does f.keeps f.reached f.well f.done b.marks here;
  }

  pub root_looked : is_root x ≡ true → LooksAt x t.pass v.pass
  root_looked root =
      looked_then x f.does b.marks.does (ap (λ (fs : List Finding). list_any
      (λ (g : Finding). looks_at x g.event.step) fs) f.done ∙ ap (λ (c : Bool). c || false) (same_root x root))

-- gates

pub gates_at_once : (p : PassState) → KeepsGates p p
gates_at_once p j lt = refl

pub gates_on : {t u : TurnState} (v : TurnState) → GoesBeside t u → KeepsGates t.pass u.pass → KeepsGates u.pass v.pass
    → KeepsGates t.pass v.pass
gates_on {t} {u} v on a b = gates_then t.pass u.pass v.pass on.marks.keeps.call.pass a b

pub others_on : (caller : ℕ) {t u : TurnState} (v : TurnState) → GoesBeside t u → KeepsOtherGates caller t.pass u.pass
    → KeepsOtherGates caller u.pass v.pass → KeepsOtherGates caller t.pass v.pass
others_on caller v on a b j lt ne = grind (arith, same_config)

pub may_on : {w : WordsState} {t u : TurnState} {caller : ℕ} → IsForGate IsBeside w t.pass caller → GoesBeside t u
    → IsForGate IsBeside w u.pass caller
may_on {caller = caller} may on = record {
  one_table = on.table ∙ may.one_table;
  ready = on.beside;
  within = may.within;
  another = ap (λ (p : PassState). is_number_of p.seat caller) on.marks.does.is ∙ may.another;
}

pub sets_then : {caller : ℕ} {held : Bool} {t u v : TurnState} → GoesBeside t u → KeepsOtherGates caller t.pass u.pass
    → SetsGate caller held u v → SetsGate caller held t v
sets_then {caller} {v = v} on others sets =
    record { on = goes_then on sets.on; others = others_on caller v on others sets.others; set = sets.set }

pub held_is : (p : PassState) (caller : ℕ) → is_held (now_of p).words caller ≡ true → IsHeldOrOwn p caller
held_is p caller h = or_right (is_number_of p.seat caller) (is_held (now_of p).words caller) h

pub own_is : (p : PassState) (caller : ℕ) → is_number_of p.seat caller ≡ true → IsHeldOrOwn p caller
own_is p caller h = ap (λ (b : Bool). b || is_held (now_of p).words caller) h

-- Each root was looked at.
pub all_looked : (p q : PassState) → ((k r : ℕ) → k < p.table.config.callers → r < 8 → LooksAt (Word.Reg k r) p q)
    → ((g : ℕ) → g < 64 → LooksAt (Word.Global g) p q)
    → (x : Word) → is_root x ≡ true → is_word p.table.config x ≡ true → LooksAt x p q
all_looked p q registers globals (Word.Reg k r) root h = grind (arith, and_parts, ltb-true)
all_looked p q registers globals (Word.Global g) root h = globals g (ltb-true g 64 h)
all_looked p q registers globals _ root h = cc

-- A root that was looked at was so over more of the turn.

pub looked_on : (x : Word) {t u v : TurnState} → GoesBeside t u → GoesBeside u v → LooksAt x t.pass u.pass
    → LooksAt x t.pass v.pass
looked_on x {t = t} {u = u} {v = v} a b here = looked_then x a.marks.does b.marks.does here

pub on_looked : (x : Word) {t u v : TurnState} → GoesBeside t u → GoesBeside u v → LooksAt x u.pass v.pass
    → LooksAt x t.pass v.pass
on_looked x {t = t} {u = u} {v = v} a b here = then_looked x a.marks.does b.marks.does here

-- The roots below one are looked at, one after the other.
pub record RootsLooked (t u : TurnState) (root : ℕ → Word) (n : ℕ) : Type 0 where
  pub on : GoesBeside t u
  pub gates : KeepsGates t.pass u.pass
  pub looked : (k : ℕ) → k < n → LooksAt (root k) t.pass u.pass

pub no_root_yet : {t : TurnState} {root : ℕ → Word} → IsBeside t.pass → RootsLooked t t root 0
no_root_yet {t} beside = grind (arith, goes_nowhere, gates_at_once)

pub next_root : {t u v : TurnState} {root : ℕ → Word} {i : ℕ} → RootsLooked t u root i → GoesBeside u v
    → KeepsGates u.pass v.pass → LooksAt (root i) u.pass v.pass → RootsLooked t v root (i + 1)
next_root {t} {u} {v} {root} {i} before on gates here = record {
  on = goes_then before.on on;
  gates = gates_on v before.on before.gates gates;
  looked = below_more _ _ (λ k lt. looked_on (root k) before.on on (before.looked k lt))
      (on_looked (root i) before.on on here);
}
