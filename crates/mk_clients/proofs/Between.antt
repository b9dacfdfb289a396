-- Two calls, of one caller or of two, one after the other, and the calls between the events that decide them.
use Rattle.std.proofs.{Common.{filter, length-append}, lemmas.List.Elements.filter-append}
use Rattle.mk_heap.proofs.Below.Laws.Vocabulary.{Answer, Bool, Config, Decided, Event, List, Op, after_calls, ap}
use Rattle.mk_heap.proofs.Below.Laws.Vocabulary.{append-nil}
use Rattle.mk_heap.proofs.Below.Laws.Vocabulary.{append_assoc, arith, asked, call_decided, calls, cond, first_world}
use Rattle.mk_heap.proofs.Below.Laws.Vocabulary.{flagged, left}
use Rattle.mk_heap.proofs.Below.Laws.Vocabulary.{length, never_behind, never_in_parts, refl, sym, true, [], ◌++◌, ◌∙◌}
use Rattle.mk_heap.proofs.Below.Laws.Vocabulary.{◌∷◌, ◌≡◌}
use Rattle.mk_never.specs.NeverHeap.{after_op}
use Rattle.mk_core.{proofs.{Histories.calls_more, HistoryParts.calls_in_parts}, specs.History.calls_from}
use Rattle.mk_heap.specs.Below.Callers.{Called.Called, States.caller_of_pass}
use Rattle.mk_heap.specs.Below.Words.States.{PassState}
use Rattle.mk_clients.specs.Clients.{HasSeenAllOf}

-- those of the calls whose operations pass a test
abbrev pub picked : (Op → Bool) → List Decided → List Decided
picked test xs = filter (λ (x : Decided). test x.op) xs

pick_append : (test : Op → Bool) (xs ys : List Decided) → picked test (xs ++ ys) ≡ picked test xs ++ picked test ys
pick_append test xs ys = filter-append (λ (x : Decided). test x.op) xs ys

-- nothing is left where the counts say so
none_left : {A : Type 0} (a z x y : List A) (e : A) → (a ++ z) ++ (e ∷ []) ++ x ++ y ≡ a ++ e ∷ [] → x ≡ []
none_left a z [] y e h = refl
none_left a z (b ∷ x) y e h =
    let lengths = ap length h in
    absurd (grind (arith, length-append, lengths))

one_call : (c : Config) (es : List Event) (e : Event) → calls_from c (left c es) (e ∷ []) ≡ call_decided c
    (left c es).now e
unfolding calls_from
one_call c es e = append-nil (call_decided c (left c es).now e)

-- where both calls are of one pass
pub at_once : (p : PassState) → HasSeenAllOf p p
at_once p = record { config = refl; more = []; is = sym (append-nil p.seen) }

module _ {p0 p1 r1 p2 : PassState} {o1 o2 : Op} {a1 a2 : Answer} (first : Called p0 o1 a1 p1)
    (later : HasSeenAllOf p1 r1) (second : Called r1 o2 a2 p2) where
  abbrev c : Config
  c = p0.table.config

  -- the history before the first one is decided, and with that
  abbrev pub before : List Event
  before = p0.seen ++ first.decided.before

  abbrev pub decided : List Event
  decided = before ++ first.decided.event ∷ []

  -- and what comes up to the second one's deciding event: what the second pass has seen more, and in the call
  abbrev came : List Event
  came = later.more ++ second.decided.before

  abbrev pub others : List Event
  others = first.decided.behind ++ came

  abbrev entry : Decided
  entry = record { caller = caller_of_pass p0; op = flagged o1 a1; answer = a1 }

  pub same_config : r1.table.config ≡ c
  same_config = later.config ∙ ap (λ (x : PassState). x.table.config) first.is

  pub same_number : caller_of_pass p1 ≡ caller_of_pass p0
  same_number = ap (λ (x : PassState). caller_of_pass x) first.is

  pub place : r1.seen ++ second.decided.before ≡ decided ++ others
  place =
      ap (λ (l : List Event). l ++ second.decided.before) later.is
      ∙ append_assoc p1.seen later.more second.decided.before ∙ ap (λ (x : PassState). x.seen ++ came) first.is
      ∙ ap (λ (l : List Event). (p0.seen ++ l) ++ came) first.decided.is ∙ ap (λ (l : List Event). l ++ came)
      (sym (append_assoc p0.seen first.decided.before (first.decided.event ∷ first.decided.behind)) ∙ sym (append_assoc
      before (first.decided.event ∷ []) first.decided.behind)) ∙ append_assoc decided first.decided.behind came

  calls_there : calls c decided ≡ calls c before ++ entry ∷ []
  calls_there = cc (calls_more c (first_world c) before first.decided.event, first.decided.decides)

  pub never_there : never_behind c decided ≡ after_op (never_behind c before) (caller_of_pass p0) (flagged o1 a1)
  never_there =
      never_in_parts c before (first.decided.event ∷ []) ∙ ap (λ (l : List Decided). after_calls (never_behind c before)
      (asked l)) (one_call c before first.decided.event ∙ first.decided.decides)

  -- the calls in between
  abbrev pub between : List Decided
  between = calls_from c (left c decided) others

  pub never_later : never_behind c (decided ++ others) ≡ after_calls (never_behind c decided) (asked between)
  never_later = never_in_parts c decided others

  module _ (test : Op → Bool) (es more : List Event) (on : es ≡ p2.seen ++ more)
      (passes : test (flagged o1 a1) ≡ true) where
    tail : List Event
    tail = (second.decided.event ∷ second.decided.behind) ++ more

    whole : es ≡ (decided ++ others) ++ tail
    unfolding tail
    whole =
        on ∙ ap (λ (x : PassState). x.seen ++ more) second.is
        ∙ ap (λ (l : List Event). (r1.seen ++ l) ++ more) second.decided.is ∙ ap (λ (l : List Event). l ++ more)
        (sym (append_assoc r1.seen second.decided.before (second.decided.event ∷ second.decided.behind)))
        ∙ append_assoc (r1.seen ++ second.decided.before) (second.decided.event ∷ second.decided.behind) more
        ∙ ap (λ (l : List Event). l ++ ((second.decided.event ∷ second.decided.behind) ++ more)) place

    abbrev z : List Decided
    z = calls_from c (left c p0.seen) first.decided.before

    abbrev y : List Decided
    y = calls_from c (left c (decided ++ others)) tail

    own_passes : picked test (entry ∷ []) ≡ entry ∷ []
    own_passes = ap (λ (b : Bool). cond b (entry ∷ []) []) passes

    -- Where the first call is the only one that passes the test since it began, none in between does.
    pub none_between : picked test (calls c es) ≡ picked test (calls c p0.seen) ++ entry ∷ [] → picked test between ≡ []
    none_between only =
        grind (
          arith,
          none_left,
          picked,
          between,
          entry,
          whole,
          calls_in_parts,
          decided,
          others,
          tail,
          pick_append,
          calls_there,
          before,
          own_passes,
        )
