-- The events of the cycle that a due Free begins, after one that was on.
use Rattle.mk_alloc.proofs.Vocabulary.{At, Bool, EndsOlder, Event, FinishesCycle, IsAtPhase, IsHistory, IsQuiet, IsTurn}
use Rattle.mk_alloc.proofs.Vocabulary.{List, None, PassState, TurnGoesOn, ap, append-nil, append_assoc, arith}
use Rattle.mk_alloc.proofs.Vocabulary.{cases_Bool, false, finishes, has_step, inl, inr, is_begin, is_close, is_end}
use Rattle.mk_alloc.proofs.Vocabulary.{or_from, or_parts, refl, subst, sym, true, true≢false, [], ◌++◌, ◌∙◌, ◌∷◌, ◌≡◌}
use Rattle.mk_alloc.proofs.CycleParts.{BeginIn, EndsIn, begin_done, begin_in, begins_held, finish_done, finish_in}
use Rattle.mk_alloc.proofs.Going.{IsCallers, begun_on, callers_then, finished_on, look_part, looked_on, on_then}
use Rattle.mk_alloc.proofs.{Going.quiet_looked, ListParts.{Lacks, SomeKind, lacks_append}}
use Rattle.mk_alloc.proofs.Parts.{behind_part, history_before, in_turn_then, part_lacks, seen_by, seen_then}
use Rattle.mk_alloc.{proofs.CalmStretches.{cycles_in_turn, is_of_cycles}, specs.Rooms.{RunsCycle}}
use Rattle.mk_caller.proofs.Below.Laws.Longer.{longer_at}

pub at_behind : {kind : SomeKind} (xs : List Event) {ys : List Event} → At kind ys → At kind (xs ++ ys)
at_behind xs at = record {
  before = xs ++ at.before;
  event = at.event;
  behind = at.behind;
  is = ap (λ (l : List Event). xs ++ l) at.is ∙ sym (append_assoc xs at.before (at.event ∷ at.behind));
  of_kind = at.of_kind;
}

-- An end that stands in the second of two lists stands in both.
pub ends_behind : (xs : List Event) {ys : List Event} → Lacks is_close xs → EndsIn ys → EndsIn (xs ++ ys)
ends_behind xs none e = record {
  to_close = xs ++ e.to_close;
  close = e.close;
  to_release = e.to_release;
  release = e.release;
  to_end = e.to_end;
  end = e.end;
  behind = e.behind;
  is = ap (λ (l : List Event). xs ++ l) e.is
      ∙ sym (append_assoc xs e.to_close (e.close ∷ (e.to_release ++ e.release ∷ (e.to_end ++ e.end ∷ e.behind))));
  closes = e.closes;
  releases = e.releases;
  ends = e.ends;
  none_closed = lacks_append is_close xs e.to_close none e.none_closed;
  none_released = e.none_released;
  none_ended = e.none_ended;
}

-- or in the first
pub ends_before : {xs : List Event} (ys : List Event) → EndsIn xs → EndsIn (xs ++ ys)
ends_before ys e = grind (arith, append_assoc)

pub end_at : {es : List Event} → EndsIn es → At is_end es
end_at e = record {
  before = e.to_close ++ e.close ∷ (e.to_release ++ e.release ∷ e.to_end);
  event = e.end;
  behind = e.behind;
  is = e.is ∙ ap (λ (l : List Event). e.to_close ++ e.close ∷ l)
      (sym (append_assoc e.to_release (e.release ∷ e.to_end) (e.end ∷ e.behind)))
      ∙ sym (append_assoc e.to_close (e.close ∷ (e.to_release ++ e.release ∷ e.to_end)) (e.end ∷ e.behind));
  of_kind = e.ends;
}

-- the lists of a turn in which a cycle runs
pub run_list : (a b d e : List Event) (x : Event) → (a ++ (b ++ x ∷ d)) ++ e ≡ (a ++ b) ++ x ∷ (d ++ e)
run_list a b d e x = simp append_assoc

-- An older cycle is ended, if one was on.
record OlderIn (p q : PassState) : Type 0 where
  turn : IsTurn q
  on : TurnGoesOn None p q
  more : List Event
  is : q.seen ≡ p.seen ++ more
  begins_none : Lacks is_begin more
  ended : IsAtPhase p 1 → At is_end more

older_in : {p q : PassState} → IsTurn p → IsCallers p → IsQuiet p → EndsOlder p q → IsHistory q.table.config q.seen
    → OlderIn p q
older_in {p} {q} t seat quiet e history = elim quiet.phase [
  | inl none ↦ let same : q ≡ e.looked = e.none none in
      let h = subst (λ (x : PassState). IsHistory x.table.config x.seen) same history in
      let look = look_part t e.looks.does h in
      subst (λ (x : PassState). OlderIn p x) (sym same) (record {
        turn = behind_part look;
        on = looked_on t seat quiet e.looks h;
        more = look.does.more;
        is = seen_by look.does;
        begins_none = part_lacks is_begin look begins_held (λ x h. grind arith);
        ended = λ (one : IsAtPhase p 1). absurd (omega arith);
      })
  | inr one ↦ let law : FinishesCycle e.looked q = e.on one in
      let look = look_part t e.looks.does (history_before is_of_cycles e.looked q (finish_done law) history) in
      let t1 = behind_part look in
      let f = finish_in e.looked q t1.own law t1 history in
      record {
        turn = in_turn_then is_of_cycles e.looked q cycles_in_turn t1 (finish_done law) history;
        on = on_then (looked_on t seat quiet e.looks look.history)
            (finished_on t1 (callers_then look.does seat) (quiet_looked quiet e.looks) law history);
        more = look.does.more ++ f.more;
        is = seen_then p.seen e.looked.seen q.seen look.does.more f.more (seen_by look.does) f.is;
        begins_none = lacks_append is_begin look.does.more f.more (part_lacks is_begin look begins_held
            (λ x h. grind arith)) f.begins_none;
        ended = λ here. at_behind look.does.more (end_at f.ends);
      }
]

-- One `begin`, with what stands before it and after.
pub record RunIn (on : Bool) (p q : PassState) : Type 0 where
  pub goes : TurnGoesOn None p q
  pub more : List Event
  pub is : q.seen ≡ p.seen ++ more
  pub begin : At is_begin more
  pub none_before : Lacks is_begin begin.before
  pub none_behind : Lacks is_begin begin.behind
  pub stopped : on ≡ false → EndsIn begin.behind
  pub goes_on : on ≡ true → Lacks finishes begin.behind
  pub older : IsAtPhase p 1 → At is_end begin.before

pub no_close : (es : List Event) → Lacks finishes es → Lacks is_close es
no_close [] h = refl
no_close (e ∷ es) h =
    let parts = or_parts (finishes e.step) (has_step finishes es) h in
    or_from (is_close e.step) (has_step is_close es) (grind arith) (no_close es parts.1)

module _ {on : Bool} {p q : PassState} (t : IsTurn p) (seat : IsCallers p) (quiet : IsQuiet p)
    (run : RunsCycle on p q) (history : IsHistory q.table.config q.seen) where
  h_begun : IsHistory run.begun.table.config run.begun.seen
  h_begun = elim (cases_Bool on) [
    | inl keeps ↦ subst (λ (x : PassState). IsHistory x.table.config x.seen) (run.goes_on keeps) history
    | inr stops ↦ history_before is_of_cycles run.begun q (finish_done (run.stops stops)) history
  ]

  old : OlderIn p run.idle
  old = older_in t seat quiet run.older (history_before is_of_cycles run.idle run.begun (begin_done run.begins) h_begun)

  begun : BeginIn run.idle run.begun
  begun = begin_in run.idle run.begun old.turn.own run.begins old.turn h_begun

  on_begun : TurnGoesOn None p run.begun
  on_begun = on_then old.on (begun_on old.turn (callers_then old.on.does seat) old.on.quiet run.begins h_begun)

  -- with what was seen after the begin of the cycle
  with_rest : (rest : List Event) → q.seen ≡ run.begun.seen ++ rest → Lacks is_begin rest → TurnGoesOn None p q
      → (on ≡ false → EndsIn rest) → (on ≡ true → Lacks finishes rest) → RunIn on p q
  with_rest rest is none goes stopped goes_on = record {
    goes = goes;
    more = (old.more ++ (begun.before ++ begun.begin ∷ begun.behind)) ++ rest;
    is =
        seen_then p.seen run.begun.seen q.seen _ rest
        (seen_then p.seen run.idle.seen run.begun.seen old.more _ old.is begun.is) is;
    begin = record {
      before = old.more ++ begun.before;
      event = begun.begin;
      behind = begun.behind ++ rest;
      is = run_list old.more begun.before begun.behind rest begun.begin;
      of_kind = begun.begins;
    };
    none_before = lacks_append is_begin old.more begun.before old.begins_none begun.none_before;
    none_behind = lacks_append is_begin begun.behind rest begun.none_behind none;
    stopped = λ off. ends_behind begun.behind (no_close begun.behind begun.finishes_none) (stopped off);
    goes_on = λ keeps. lacks_append finishes begun.behind rest begun.finishes_none (goes_on keeps);
    older = λ one. longer_at begun.before (old.ended one);
  }

  -- where the engine keeps on, and where it doesn't
  pub run_in : RunIn on p q
  run_in = elim (cases_Bool on) [
    | inl keeps ↦
        with_rest [] (ap (λ (x : PassState). x.seen) (run.goes_on keeps) ∙ sym (append-nil run.begun.seen)) refl
        (subst (λ (x : PassState). TurnGoesOn None p x) (sym (run.goes_on keeps)) on_begun)
        (λ stops. absurd (true≢false (sym keeps ∙ stops))) (λ here. refl)
    | inr stops ↦ stopping stops (run.stops stops)
  ]
    where
      stopping : on ≡ false → FinishesCycle run.begun q → RunIn on p q
      stopping stops law =
          let there = in_turn_then is_of_cycles run.idle run.begun cycles_in_turn old.turn (begin_done run.begins)
          h_begun in
          let f = finish_in run.begun q there.own law there history in
          with_rest f.more f.is f.begins_none (on_then on_begun (finished_on there (callers_then on_begun.does seat)
          on_begun.quiet law history)) (λ here. f.ends) (λ keeps. absurd (true≢false (sym keeps ∙ stops)))
