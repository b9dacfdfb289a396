-- Lists in parts: where an event stands, and what they have of a kind.
use Rattle.mk_caller.proofs.Below.Laws.Vocabulary.{Cycle}
use Rattle.mk_alloc.proofs.Vocabulary.{At, Bool, Event, List, Step, ap, append-nil, append_cancel_left, false, has_step}
use Rattle.mk_alloc.proofs.Vocabulary.{inl, inr, is_begin, is_close, is_end, is_release, list_any-append, or_from}
use Rattle.mk_alloc.proofs.Vocabulary.{or_parts, refl, sym, true, true≢false, [], ⊎_elim, ◌++◌, ◌||◌, ◌∙◌, ◌∷◌, ◌≡◌}
use Rattle.mk_alloc.proofs.Vocabulary.{◌⊎◌}
use Rattle.mk_cycle.proofs.InParts as parts

-- An event of a list in two parts stands in the first, or in the second.

pub record InFirst (xs before : List Event) (e : Event) : Type 0 where
  pub behind : List Event
  pub is : xs ≡ before ++ e ∷ behind

pub record InSecond (xs ys before : List Event) (e : Event) (behind : List Event) : Type 0 where
  pub rest : List Event
  pub first : before ≡ xs ++ rest
  pub is : ys ≡ rest ++ e ∷ behind

pub stands : (xs ys before : List Event) (e : Event) (behind : List Event) → xs ++ ys ≡ before ++ e ∷ behind
    → InFirst xs before e ⊎ InSecond xs ys before e behind
stands xs ys before e behind h =
    ⊎_elim (λ (t : parts.InFirst xs ys before e behind). inl (record { behind = t.rest; is = t.is }))
    (λ (t : parts.InSecond xs ys before e behind). inr (record { rest = t.rest; first = t.first; is = t.is }))
    (parts.in_parts xs ys before e behind h)

-- kinds

abbrev pub SomeKind : Type 0
SomeKind = Step → Bool

abbrev pub Lacks : SomeKind → List Event → Type 0
Lacks kind es = has_step kind es ≡ false

pub has_append : (kind : SomeKind) (xs ys : List Event) → has_step kind (xs ++ ys)
    ≡ (has_step kind xs || has_step kind ys)
has_append kind xs ys = list_any-append (λ (e : Event). kind e.step) xs ys

pub lacks_append : (kind : SomeKind) (xs ys : List Event) → Lacks kind xs → Lacks kind ys → Lacks kind (xs ++ ys)
lacks_append kind xs ys one two = has_append kind xs ys ∙ or_from (has_step kind xs) (has_step kind ys) one two

pub lacks_one : (kind : SomeKind) (e : Event) → kind e.step ≡ false → Lacks kind (e ∷ [])
lacks_one kind e none = ap (λ (b : Bool). b || false) none

-- or in two parts of what comes after the same list
pub lacks_in_parts : (kind : SomeKind) (es xs ys more : List Event) → es ++ more ≡ es ++ (xs ++ ys) → Lacks kind xs
    → Lacks kind ys → Lacks kind more
lacks_in_parts kind es xs ys more same one two =
    cc (append_cancel_left es more (xs ++ ys) same, lacks_append kind xs ys one two)

pub lacks_first : (kind : SomeKind) (xs ys : List Event) → Lacks kind (xs ++ ys) → Lacks kind xs
lacks_first kind xs ys h = (or_parts (has_step kind xs) _ (sym (has_append kind xs ys) ∙ h)).0

pub lacks_second : (kind : SomeKind) (xs ys : List Event) → Lacks kind (xs ++ ys) → Lacks kind ys
lacks_second kind xs ys h = (or_parts (has_step kind xs) _ (sym (has_append kind xs ys) ∙ h)).1

-- What lacks a kind has no event of it.
pub lacks_at : (kind : SomeKind) (es before : List Event) (e : Event) (behind : List Event) → Lacks kind es
    → es ≡ before ++ e ∷ behind → kind e.step ≡ true → ⊥
lacks_at kind es before e behind lacks is of_kind =
    let last : Lacks kind (e ∷ behind) =
    lacks_second kind before (e ∷ behind) (ap (λ (l : List Event). has_step kind l) (sym is) ∙ lacks) in
    true≢false (sym of_kind ∙ (or_parts (kind e.step) _ last).0)

pub none_at : (kind : SomeKind) (es : List Event) → Lacks kind es → At kind es → ⊥
none_at kind es lacks at = lacks_at kind es at.before at.event at.behind lacks at.is at.of_kind

-- A list that has one event of a kind has it there.
pub record IsAt (xs ys before behind : List Event) : Type 0 where
  pub before_is : before ≡ xs
  pub behind_is : behind ≡ ys

pub only_at : (kind : SomeKind) (xs : List Event) (e : Event) (ys : List Event) → Lacks kind xs → Lacks kind ys
    → (at : At kind (xs ++ e ∷ ys)) → IsAt xs ys at.before at.behind
only_at kind xs e ys none_before none_behind at =
    ⊎_elim (λ (t : InFirst xs at.before at.event). absurd (lacks_at kind xs at.before at.event t.behind none_before t.is
    at.of_kind)) (λ (t : InSecond xs (e ∷ ys) at.before at.event at.behind). by t.rest t.first t.is)
    (stands xs (e ∷ ys) at.before at.event at.behind at.is)
  where
    by : (rest : List Event) → at.before ≡ xs ++ rest → e ∷ ys ≡ rest ++ at.event ∷ at.behind
        → IsAt xs ys at.before at.behind
    by [] first is = record { before_is = first ∙ append-nil xs; behind_is = sym (cc) }
    by (r ∷ rs) first is =
        let tail : ys ≡ rs ++ at.event ∷ at.behind = cc in
        absurd (lacks_at kind ys rs at.event at.behind none_behind tail at.of_kind)

-- A cycle in a list: from its `begin` to its `end`.
pub cycle_in : (es xs a b d ys : List Event) (begin close release end : Event)
    → es ≡ xs ++ begin ∷ (a ++ close ∷ (b ++ release ∷ (d ++ end ∷ ys)))
    → is_begin begin.step ≡ true → is_close close.step ≡ true → is_release release.step ≡ true → is_end end.step ≡ true
    → Lacks is_close a → Lacks is_release b → Lacks is_end d → Cycle es
cycle_in es xs a b d ys begin close release end is begins closes releases ends no_close no_release no_end = record {
  releasing = record {
    marking = record {
      begin = record {
        before = xs;
        event = begin;
        behind = a ++ close ∷ (b ++ release ∷ (d ++ end ∷ ys));
        is = is;
        of_kind = begins;
      };
      close = record {
        at = record { before = a; event = close; behind = b ++ release ∷ (d ++ end ∷ ys); is = refl; of_kind = closes };
        none_before = no_close;
      };
    };
    release = record {
      at = record { before = b; event = release; behind = d ++ end ∷ ys; is = refl; of_kind = releases };
      none_before = no_release;
    };
  };
  end = record {
    at = record { before = d; event = end; behind = ys; is = refl; of_kind = ends };
    none_before = no_end;
  };
}
