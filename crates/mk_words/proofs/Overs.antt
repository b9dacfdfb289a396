-- An `over` is the host's, who has the seats of all callers then, so no caller steps after one.
use Rattle.std.proofs.Common.{set, ⊎_elim}
use Rattle.mk_laws.proofs.Vocabulary.{Bool, Caller, Config, Event, Host, IsEnabled, List, Moment, Seat, Step, World, ℕ}
use Rattle.mk_laws.proofs.Vocabulary.{ap, arith, enabled_meets, false, false_from_ne_true, inl, inr, list_any-append}
use Rattle.mk_laws.proofs.Vocabulary.{or_cases, refl, subst, suc, sym, true, world_behind, zero, [], ◌++◌, ◌||◌, ◌∙◌}
use Rattle.mk_laws.proofs.Vocabulary.{◌∷◌, ◌≡◌, ◌≢◌, ◌⊎◌}
use Rattle.mk_core.specs.History.{AreOfOthers, AreEnabledFrom}
use Rattle.atomic_table.proofs.Lists.{at_set}
use Rattle.mk_words.{proofs.Seats.not_both, specs.{Rule.seats_of, States.{CallersAreBeforeOver, Has}}}
use Rattle.mk_words.specs.States.{HasCallers, has_over, is_over}
use Rattle.mk_words.specs.declared.rule.View.{View}
use mathlib.Core.Option.{some, some-ne-none}
use lib.ListN.{get_elem?}

over_step : (s : Step) → is_over s ≡ true → s ≡ Step.Over
over_step Step.Over h = refl
over_step _ h = cc

pub over_is_hosts : (c : Config) (m : Moment) (e : Event) → IsEnabled c m e → is_over e.step ≡ true → e.seat ≡ Host
over_is_hosts c m e on h = grind (arith, over_step, enabled_meets)

neither : (a b : Bool) → a ≡ false → b ≡ false → (a || b) ≡ false
neither a b one two = ap (λ (x : Bool). x || b) one ∙ two

-- no `over` is among the events of others than the host
pub none_over : (c : Config) (w : World) (seats : List Seat) (es : List Event) → Has seats Host → AreOfOthers seats es
    → AreEnabledFrom c w es → has_over es ≡ false
unfolding AreOfOthers AreEnabledFrom
none_over c w seats [] has others on = refl
none_over c w seats (e ∷ es) has others on =
    neither (is_over e.step) (has_over es) (false_from_ne_true (is_over e.step) (λ (h : is_over e.step ≡ true).
    not_both seats e.seat others.0 (subst (λ (s : Seat). Has seats s) (sym (over_is_hosts c w.now e on.0 h)) has)))
    (none_over c (world_behind c w e) seats es has others.1 on.1)

in_parts : (xs ys : List Event) → has_over (xs ++ ys) ≡ (has_over xs || has_over ys)
in_parts xs ys = list_any-append (λ (e : Event). is_over e.step) xs ys

pub none_in_parts : (xs ys : List Event) → has_over xs ≡ false → has_over ys ≡ false → has_over (xs ++ ys) ≡ false
none_in_parts xs ys one two = in_parts xs ys ∙ neither (has_over xs) (has_over ys) one two

-- one more event
later : (es : List Event) (e : Event) → has_over (es ++ e ∷ []) ≡ true → (has_over es ≡ true) ⊎ (is_over e.step ≡ true)
later es e h =
    ⊎_elim (λ (t : has_over es ≡ true). inl t)
    (λ (t : has_over (e ∷ []) ≡ true). ⊎_elim (λ (u : is_over e.step ≡ true). inr u) (λ (u : false ≡ true). cc)
    (or_cases (is_over e.step) false t)) (or_cases (has_over es) (has_over (e ∷ [])) (sym (in_parts es (e ∷ [])) ∙ h))

-- So it is with all of these views.
abbrev pub AllBeforeOver : Config → List View → List Event → Type 0
AllBeforeOver c vs es = (id : ℕ) (v : View) → get_elem? vs id ≡ some v → CallersAreBeforeOver c (seats_of v) es

abbrev pub NoneTwice : List View → Type 0
NoneTwice vs =
    (i j : ℕ) (v w : View) (x : Seat) → get_elem? vs i ≡ some v → get_elem? vs j ≡ some w → Has (seats_of v) x
    → Has (seats_of w) x → i ≡ j

-- One view goes on by an event, with the same seats.
pub overs_later : (c : Config) (m : Moment) (vs : List View) (id : ℕ) (v w : View) (es : List Event) (e : Event)
    → get_elem? vs id ≡ some v
    → seats_of w ≡ seats_of v → NoneTwice vs → AllBeforeOver c vs es → IsEnabled c m e → Has (seats_of v) e.seat
    → (is_over e.step ≡ true → HasCallers c (seats_of v)) → AllBeforeOver c (set vs id w) (es ++ e ∷ [])
overs_later c m vs id v w es e at same apart before on has home j d p k lt h over =
    let back : (x : Seat) → w ≡ d → Has (seats_of d) x → Has (seats_of v) x = λ x is there. subst
    (λ (seats : List Seat). Has seats x) same (subst (λ (z : View). Has (seats_of z) x) (sym is) there) in
    let forth : (x : Seat) → w ≡ d → Has (seats_of v) x → Has (seats_of d) x = λ x is there. subst
    (λ (z : View). Has (seats_of z) x) is (subst (λ (seats : List Seat). Has seats x) (sym same) there) in
    ⊎_elim (λ (old : has_over es ≡ true). ⊎_elim
    (λ (t : (j ≡ id) × (w ≡ d)). forth Host t.1 (before id v at k lt (back (Caller k) t.1 h) old))
    (λ (t : (j ≢ id) × (get_elem? vs j ≡ some d)). before j d t.1 k lt h old) (at_set vs id j w d p))
    (λ (new : is_over e.step ≡ true). ⊎_elim (λ (t : (j ≡ id) × (w ≡ d)). forth Host t.1
    (subst (λ (s : Seat). Has (seats_of v) s) (over_is_hosts c m e on new) has))
    (λ (t : (j ≢ id) × (get_elem? vs j ≡ some d)). absurd (t.0 (apart j id d v (Caller k) t.1 at h (home new k lt))))
    (at_set vs id j w d p)) (later es e over)

-- the view that was set is there
pub set_there : (vs : List View) (id : ℕ) (v w : View) → get_elem? vs id ≡ some v → get_elem? (set vs id w) id ≡ some w
set_there [] id v w e = absurd (some-ne-none v (sym e))
set_there (x ∷ xs) zero v w e = refl
set_there (x ∷ xs) (suc id) v w e = set_there xs id v w e

-- One view goes to another, of which so it is.
pub overs_with : (c : Config) (vs : List View) (id : ℕ) (w : View) (es : List Event) → AllBeforeOver c vs es
    → CallersAreBeforeOver c (seats_of w) es → AllBeforeOver c (set vs id w) es
overs_with c vs id w es before of j d p =
    ⊎_elim (λ (t : (j ≡ id) × (w ≡ d)). subst (λ (z : View). CallersAreBeforeOver c (seats_of z) es) t.1 of)
    (λ (t : (j ≢ id) × (get_elem? vs j ≡ some d)). before j d t.1) (at_set vs id j w d p)
