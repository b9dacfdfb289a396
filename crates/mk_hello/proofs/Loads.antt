-- Each operation of the first program is admitted, and it loads what it stored, or null where the heap was full.
use Rattle.mk_heap.proofs.Below.Laws.Vocabulary.{Answer, Config, Decided, IsAdmitted, List, Op, Some, false}
use Rattle.mk_heap.proofs.Below.Laws.Vocabulary.{after_calls, answer_of, answered, ap, arith, asked, entry_of, inl, inr}
use Rattle.mk_heap.proofs.Below.Laws.Vocabulary.{map, refl, replies_of, ℕ, [], ◌++◌, ◌∷◌, ◌≡◌, ◌⊎◌}
use Rattle.mk_heap.proofs.Below.Laws.Vocabulary.{Bool, Event, sym, ◌∙◌}
use Rattle.mk_heap.specs.{Below.Core.History.never_first, Dispatching.as_told}
use Rattle.mk_heap.specs.Below.{Objects.TurnCalls.{CalledInTurn, FreesObject, IsAnsweredDouble, IsAnsweredFull}}
use Rattle.mk_heap.specs.Below.{Objects.declared.making.Full.Full, Words.States.PassState}
use Rattle.mk_heap.specs.Below.Objects.declared.retirement.{Double.Double, Freed.Freed}
use Rattle.mk_heap.specs.Below.Never.declared.types.Kind.{Kind}
use Rattle.std.proofs.Common.{ap₂, Err, IfErr, IfOk, Ok, OnErr, OnOk, Result}

-- the heap of the first program: one page, one caller, and one type: a number
abbrev pub hello_config : Config
hello_config =
    record { pages = 1; resident = 1; callers = 1; markers = 0; types = (Kind.Num ∷ []) ∷ []; globals = [] }

-- the configuration, with these types and globals
abbrev with_tables : List (List Kind) → List ℕ → Config
with_tables types globals = record hello_config { types = types; globals = globals }

pub config_is : {types : List (List Kind)} {globals : List ℕ} → types ≡ (Kind.Num ∷ []) ∷ [] → globals ≡ []
    → with_tables types globals ≡ hello_config
config_is e f = ap₂ with_tables e f

-- the program's calls, by their answers
abbrev pub made : Answer → List Decided
made a = entry_of 0 (Op.New 0 0 false) (Some a)

abbrev pub stored : Answer → Answer → List Decided
stored a b = made a ++ entry_of 0 (Op.SetNum 0 0 42) (Some b)

abbrev pub loaded : Answer → Answer → Answer → List Decided
loaded a b x = stored a b ++ entry_of 0 (Op.GetNum 0 0) (Some x)

abbrev Admits : List Decided → Op → Type 0
Admits xs o = IsAdmitted [] (after_calls (never_first hello_config) (asked xs)) 0 o

pub may_store : (a : Answer) → Admits (made a) (Op.SetNum 0 0 42)
may_store Answer.Full = record { of_a_caller = omega arith; in_range = omega arith; access = tt; store = tt }
may_store _ = record {
  of_a_caller = omega arith;
  in_range = omega arith;
  access = (omega arith, refl);
  store = tt;
}

pub may_load : (a b : Answer) → Admits (stored a b) (Op.GetNum 0 0)
may_load Answer.Full b = record { of_a_caller = omega arith; in_range = omega arith; access = tt; store = tt }
may_load _ b = record { of_a_caller = omega arith; in_range = omega arith; access = (omega arith, refl); store = tt }

pub may_free : (a b x : Answer) → Admits (loaded a b x) (Op.Free 0)
may_free Answer.Full b x = record { of_a_caller = omega arith; in_range = omega arith; access = tt; store = tt }
may_free _ b x = record { of_a_caller = omega arith; in_range = omega arith; access = tt; store = refl }

-- the third of some answers
abbrev third : List Answer → Answer
third (a ∷ b ∷ x ∷ more) = x
third _ = Answer.Done

pub is_loaded : (a b x : Answer) (bases : List ℕ) → answered (loaded a b x)
    ≡ map (answer_of bases) (replies_of (never_first hello_config) (asked (loaded a b x)))
    → (x ≡ Answer.Num 42) ⊎ (x ≡ Answer.Null)
is_loaded Answer.Full b x bases e = inr (ap third e)
is_loaded _ b x bases e = inl (ap third e)

-- The caller is told a number as it was answered, and null too.
pub is_told : (told x : Answer) → told ≡ as_told x → (x ≡ Answer.Num 42) ⊎ (x ≡ Answer.Null)
    → (told ≡ Answer.Num 42) ⊎ (told ≡ Answer.Null)
is_told told x e (inl num) = inl (e ∙ ap as_told num)
is_told told x e (inr null) = inr (e ∙ ap as_told null)

-- A call in a turn adds to what its pass has seen.
adds : {on : Bool} {p q : PassState} {o : Op} {a : Answer} → CalledInTurn on p o a q → q ≡ record p { seen = q.seen }
adds {p = p} called =
    called.is ∙ ap (λ (es : List Event). record p { seen = es }) (sym (ap (λ (r : PassState). r.seen) called.is))

pub new_adds : (on : Bool) (p : PassState) {q : PassState} (o : Op) (r : Result (Unit {0}) Full)
    → OnOk r (CalledInTurn on p o Answer.Done q) → IfErr r (λ full. IsAnsweredFull on p o full.census q)
    → q ≡ record p { seen = q.seen }
new_adds on p o (Ok x) granted full = adds granted
new_adds on p o (Err x) granted full = adds full.called

pub free_adds : (on : Bool) (p : PassState) {q : PassState} (n : ℕ) (r : Result Freed Double)
    → IfOk r (λ freed. FreesObject on p n freed.due q) → OnErr r (IsAnsweredDouble on p n q)
    → q ≡ record p { seen = q.seen }
free_adds on p n (Ok x) freed double = adds freed.called
free_adds on p n (Err x) freed double = adds double.called
