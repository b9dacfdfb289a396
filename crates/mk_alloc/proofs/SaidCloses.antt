-- What engines say at each close, in parts of a turn.
use Rattle.std.proofs.lemmas.List.Folds.{list_all-append}
use Rattle.mk_alloc.proofs.Vocabulary.{At, BeginsCycle, Bool, Config, Does, Event, FinishesCycle, IsHistory}
use Rattle.mk_alloc.proofs.Vocabulary.{IsTurn, List, PassState, Seat, Step, World, and_parts, ap}
use Rattle.mk_alloc.proofs.Vocabulary.{append-nil, append_assoc, append_cancel_left, are_of, arith, event_of, false}
use Rattle.mk_alloc.proofs.Vocabulary.{is_close, is_same_seat, left, not, not-true, refl, same_self, subst}
use Rattle.mk_alloc.proofs.Vocabulary.{sym, true, true≢false, [], ⊎_elim, ◌++◌, ◌∙◌, ◌∷◌, ◌≡◌}
use Rattle.mk_alloc.proofs.CycleParts.{ends_marking, gives_back, gives_room, part_closing}
use Rattle.mk_alloc.proofs.ListParts.{InFirst, InSecond, IsAt, Lacks, none_at, only_at, stands}
use Rattle.mk_alloc.proofs.Parts.{AreApart, IsHolders, Part, StepBehind, part_lacks, seen_by, seen_then, step_behind}
use Rattle.mk_alloc.proofs.Stretches.{AreOfTurn, SomeKinds, does_both, does_once, widened}
use Rattle.mk_caller.proofs.Below.Words.Doing.{own_in_parts}
use Rattle.mk_core.specs.History.{own_from}
use Rattle.mk_cycle.specs.{FinishCycle.{MakesFinish, MakesRelease}, Stops.IsToldAtClose}
use Rattle.mk_alloc.specs.{TurnCycles.{AreSaidAtCloses, EachIsSaid, IsSaid}, Rooms.SeesNone}

-- A `close` is the holder's.
pub closes_held : IsHolders is_close
closes_held x h = grind arith

abbrev no_close : SomeKinds
no_close x = not (is_close x)

-- what comes after it, up to the end of the cycle
abbrev gives_all_back : SomeKinds
gives_all_back Step.Close = false
gives_all_back x = gives_room x

gives_in_turn : AreOfTurn gives_all_back
gives_in_turn x h = grind arith

gives_done : {p q : PassState} (law : FinishesCycle p q) → Does gives_all_back law.makes.releases.closed q
gives_done law =
    let m = law.makes in
    does_both (does_once m.releases.release refl) (does_both (widened (λ y h. grind arith) (gives_back law))
    (does_both (does_once m.end refl) (widened (λ y h. grind arith) m.behind)))

-- kinds of step without one

own_kind : (kinds : Step → Bool) (c : Config) (s : Seat) (w : World) (before : List Event) (e : Event)
    (behind : List Event) → are_of kinds (own_from c s w (before ++ e ∷ behind)) ≡ true → is_same_seat s e.seat ≡ true
    → kinds e.step ≡ true
unfolding own_from
own_kind kinds c s w before e behind all same = grind (arith, and_parts, list_all-append, own_in_parts)

pub kinds_close_none : (kinds : Step → Bool) (c : Config) (s : Seat) (w : World) (es : List Event)
    → AreApart kinds is_close → are_of kinds (own_from c s w es) ≡ true → (k : At is_close es) → k.event.seat ≡ s → ⊥
kinds_close_none kinds c s w es none all k own =
    true≢false (sym k.of_kind ∙ none k.event.step (own_kind kinds c s w k.before k.event k.behind
    (subst (λ (l : List Event). are_of kinds (own_from c s w l) ≡ true) k.is all)
    (subst (λ (t : Seat). is_same_seat s t ≡ true) (sym own) (same_self s))))

nowhere : (before : List Event) (e : Event) (behind : List Event) → [] ≡ before ++ e ∷ behind → ⊥
nowhere [] e behind is = cc
nowhere (x ∷ xs) e behind is = cc

module _ {V : Type 0} (tells : V → Config → World → Type 0) where
  -- lists

  pub said_append : (c : Config) (s : Seat) (es xs ys : List Event) → AreSaidAtCloses tells c s es xs
      → AreSaidAtCloses tells c s (es ++ xs) ys → AreSaidAtCloses tells c s es (xs ++ ys)
  said_append c s es xs ys one two k own =
      ⊎_elim (λ (t : InFirst xs k.before k.event).
      one (record { before = k.before; event = k.event; behind = t.behind; is = t.is; of_kind = k.of_kind }) own)
      (λ (t : InSecond xs ys k.before k.event k.behind). subst (λ (l : List Event). IsSaid tells c (left c l))
      (append_assoc es xs t.rest ∙ ap (λ (l : List Event). es ++ l) (sym t.first))
      (two (record { before = t.rest; event = k.event; behind = k.behind; is = t.is; of_kind = k.of_kind }) own))
      (stands xs ys k.before k.event k.behind k.is)

  -- parts

  pub said_then : (p q r : PassState) → q ≡ record p { seen = q.seen } → EachIsSaid tells p q → EachIsSaid tells q r
      → EachIsSaid tells p r
  said_then p q r same one two = record {
    more = one.more ++ two.more;
    is = two.is ∙ ap (λ (l : List Event). l ++ two.more) one.is ∙ append_assoc p.seen one.more two.more;
    each = said_append p.table.config p.seat p.seen one.more two.more one.each
        (subst (λ (l : List Event). AreSaidAtCloses tells p.table.config p.seat l two.more) one.is
        (subst (λ (x : PassState). AreSaidAtCloses tells x.table.config x.seat q.seen two.more) same two.each));
  }

  pub nothing_said : (p : PassState) → EachIsSaid tells p p
  nothing_said p = record {
    more = [];
    is = sym (append-nil p.seen);
    each = λ k own. absurd (nowhere k.before k.event k.behind k.is);
  }

  pub does_say_none : (kinds : Step → Bool) (p q : PassState) → AreApart kinds is_close → Does kinds p q
      → EachIsSaid tells p q
  does_say_none kinds p q none d = record {
    more = d.more;
    is = ap (λ (x : PassState). x.seen) d.is;
    each = λ k own. absurd (kinds_close_none kinds p.table.config p.seat (left p.table.config p.seen) d.more none
        d.of_kinds k own);
  }

  pub unclosed_says_none : {p q : PassState} → SeesNone is_close p q → EachIsSaid tells p q
  unclosed_says_none none = record {
    more = none.more;
    is = none.is;
    each = λ k own. absurd (none_at is_close none.more none.none k);
  }

  pub begin_says_none : {p q : PassState} → BeginsCycle p q → EachIsSaid tells p q
  begin_says_none {p} {q} law =
      let m = law.makes in
      does_say_none no_close p q (λ x h. not-true (is_close x) h)
      (does_both (widened (λ x h. grind arith) m.before)
      (does_both (does_once m.begin refl) (widened (λ x h. grind arith) m.behind)))

  -- A cycle that is finished has one close, and there it is said.
  module _ (engine : V) {p q : PassState} (t : IsTurn p) (law : FinishesCycle p q)
      (history : IsHistory q.table.config q.seen) (told : IsToldAtClose (tells engine) p q) where
    abbrev m : MakesFinish p q
    m = law.makes

    abbrev r : MakesRelease m.held m.released
    r = m.releases

    abbrev close : Event
    close = event_of r.closing Step.Close

    abbrev x : StepBehind ends_marking p r.closing Step.Close r.closed
    x = step_behind (part_closing law t) r.close refl

    abbrev after : Part gives_all_back r.closed q
    after = record { turn = x.turn; stays = gives_in_turn; does = gives_done law; history = history }

    first : Lacks is_close x.before
    first = x.lacks is_close closes_held (λ y h. grind arith)

    last : Lacks is_close after.does.more
    last = part_lacks is_close after closes_held (λ y h. grind arith)

    abbrev more : List Event
    more = x.before ++ close ∷ after.does.more

    seen_is : q.seen ≡ p.seen ++ more
    seen_is =
        seen_then p.seen r.closed.seen q.seen (x.before ++ close ∷ []) after.does.more x.is (seen_by after.does)
        ∙ ap (λ (l : List Event). p.seen ++ l) (append_assoc x.before (close ∷ []) after.does.more)

    same_more : more ≡ told.before ++ event_of p Step.Close ∷ told.behind
    same_more =
        append_cancel_left p.seen more (told.before ++ event_of p Step.Close ∷ told.behind)
        (sym seen_is ∙ told.is ∙ append_assoc p.seen told.before (event_of p Step.Close ∷ told.behind))

    there : IsAt x.before after.does.more told.before told.behind
    there = only_at is_close x.before close after.does.more first last (record {
      before = told.before;
      event = event_of p Step.Close;
      behind = told.behind;
      is = same_more;
      of_kind = refl;
    })

    said_at : (k : At is_close more) → IsSaid tells p.table.config (left p.table.config (p.seen ++ k.before))
    said_at k =
        let here = only_at is_close x.before close after.does.more first last k in
        record {
          engine = engine;
          says = subst (λ (l : List Event). tells engine p.table.config (left p.table.config (p.seen ++ l)))
              (there.before_is ∙ sym here.before_is) told.told;
        }

    pub finish_says : EachIsSaid tells p q
    finish_says = record { more = more; is = seen_is; each = λ k own. said_at k }
