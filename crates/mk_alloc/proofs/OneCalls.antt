-- The one call of a pass's caller among some events: what comes before the event that decides it, and after it, is of
-- others.
use Rattle.std.proofs.Common.{length-append}
use Rattle.mk_caller.{proofs.Below.Laws.Vocabulary.{calls_from, flagged, length}, specs.Called.{IsDecidedIn}}
use Rattle.mk_alloc.proofs.Vocabulary.{Answer, Bool, Config, Decided, Event, IsHistory, List, Op, PassState, ℕ, ap}
use Rattle.mk_alloc.proofs.Vocabulary.{append_assoc, arith, by_append, call_decided, caller_of_pass, calls, calls_by}
use Rattle.mk_alloc.proofs.Vocabulary.{calls_in_parts, calls_more, earlier_part_is_history, eq-eqb, if◌then◌else◌, left}
use Rattle.mk_alloc.proofs.Vocabulary.{own_calls, refl, subst, sym, [], ◌++◌, ◌∙◌, ◌∷◌, ◌≡◌}

-- nothing is beside one element more
only_one : (a z y : List Decided) (e : Decided) → ((a ++ z) ++ e ∷ []) ++ y ≡ a ++ e ∷ [] → (z ≡ []) × (y ≡ [])
only_one a [] [] e h = (refl, refl)
only_one a [] (b ∷ y) e h = let lengths = ap length h in absurd (grind (arith, length-append, lengths))
only_one a (b ∷ z) y e h = let lengths = ap length h in absurd (grind (arith, length-append, lengths))

abbrev pub before_call : {p : PassState} {o : Op} {a : Answer} {more : List Event} → IsDecidedIn p o a more → List Event
before_call {p} d = p.seen ++ d.before

abbrev pub through_call : {p : PassState} {o : Op} {a : Answer} {more : List Event} → IsDecidedIn p o a more
    → List Event
through_call d = before_call d ++ d.event ∷ []

-- The caller's one call among these events: what comes before the event that decides it, and after it, is of others.
pub record OneCall (p : PassState) (o : Op) (a : Answer) (more : List Event) (d : IsDecidedIn p o a more)
    : Type 0 where
  pub cut : p.seen ++ more ≡ through_call d ++ d.behind
  pub before : IsHistory p.table.config (before_call d)
  pub through : IsHistory p.table.config (through_call d)
  pub decides : call_decided p.table.config (left p.table.config (before_call d)).now d.event
      ≡ record { caller = caller_of_pass p; op = o; answer = a } ∷ []
  pub none_before : calls_by (caller_of_pass p) (calls_from p.table.config (left p.table.config p.seen) d.before) ≡ []
  pub none_behind : calls_by (caller_of_pass p)
      (calls_from p.table.config (left p.table.config (through_call d)) d.behind) ≡ []

module _ {p : PassState} {o : Op} {a : Answer} {more : List Event} (once : flagged o a ≡ o)
    (history : IsHistory p.table.config (p.seen ++ more)) (entry : own_calls p (p.seen ++ more) ≡ own_calls p p.seen ++
    record { caller = caller_of_pass p; op = o; answer = a } ∷ []) (d : IsDecidedIn p o a more) where
  abbrev c : Config
  c = p.table.config

  abbrev k : ℕ
  k = caller_of_pass p

  abbrev x : Decided
  x = record { caller = caller_of_pass p; op = o; answer = a }

  cut : p.seen ++ more ≡ through_call d ++ d.behind
  cut = grind (arith, append_assoc, before_call)

  decides : call_decided c (left c (before_call d)).now d.event ≡ x ∷ []
  decides = d.decides ∙ ap (λ (y : Op). record { caller = k; op = y; answer = a } ∷ []) once

  through : IsHistory c (through_call d)
  through = earlier_part_is_history c (through_call d) d.behind (subst (λ (l : List Event). IsHistory c l) cut history)

  abbrev earlier : List Decided
  earlier = calls_by k (calls_from c (left c p.seen) d.before)

  abbrev later : List Decided
  later = calls_by k (calls_from c (left c (through_call d)) d.behind)

  own_through : own_calls p (through_call d) ≡ (own_calls p p.seen ++ earlier) ++ calls_by k (x ∷ [])
  own_through =
      ap (λ (l : List Decided). calls_by k l) (calls_more c _ (before_call d) d.event ∙ ap (λ (l : List Decided). calls
      c (before_call d) ++ l) decides ∙ ap (λ (l : List Decided). l ++ x ∷ []) (calls_in_parts c p.seen d.before))
      ∙ by_append k (calls c p.seen ++ calls_from c (left c p.seen) d.before) (x ∷ []) ∙ ap (λ (l : List Decided). l ++
      calls_by k (x ∷ [])) (by_append k (calls c p.seen) (calls_from c (left c p.seen) d.before))

  none : (earlier ≡ []) × (later ≡ [])
  none =
      only_one _ earlier later x (ap (λ (l : List Decided). l ++ later) (sym
      (own_through ∙ ap (λ (l : List Decided). (own_calls p p.seen ++ earlier) ++ l)
      (ap (λ (b : Bool). if b then x ∷ [] else []) (eq-eqb k k refl)))) ∙ sym (by_append k (calls
      c (through_call d)) (calls_from c (left c (through_call d)) d.behind)) ∙ ap (λ (l : List Decided). calls_by k l)
      (sym (calls_in_parts c (through_call d) d.behind)) ∙ ap (λ (l : List Event). own_calls p l) (sym cut) ∙ entry)

  pub one_call : OneCall p o a more d
  one_call = record {
    cut = cut;
    before = earlier_part_is_history c (before_call d) (d.event ∷ []) through;
    through = through;
    decides = decides;
    none_before = none.0;
    none_behind = none.1;
  }
