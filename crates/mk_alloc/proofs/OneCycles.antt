-- One cycle at most: in lists, and in parts of a turn.
use Rattle.mk_alloc.proofs.Vocabulary.{At, BeginsCycle, Does, Event, FinishesCycle, IsHistory, IsPlaced}
use Rattle.mk_alloc.proofs.Vocabulary.{IsTurn, List, PassState, RunsOne, RunsOneCycle, ap, append_assoc, arith, false}
use Rattle.mk_alloc.proofs.Vocabulary.{has_step, is_begin, is_end, is_look, subst, sym, ⊎_elim, ◌++◌, ◌∙◌, ◌∷◌, ◌≡◌}
use Rattle.mk_alloc.proofs.{CycleParts.{begin_in, begins_held, finish_in}, ListParts.{InFirst, InSecond, Lacks}}
use Rattle.mk_alloc.proofs.{ListParts.{lacks_append, lacks_at, none_at, only_at, stands}, Parts.{AreApart, Part}}
use Rattle.mk_alloc.proofs.{Parts.{part_lacks, seen_by, seen_then}, DueParts.{at_behind, end_at}, Going.look_part}
use Rattle.mk_alloc.proofs.{GrantParts.first_behind, PlacedTurns.{place_part, served_by}, Stretches.SomeKinds}
use Rattle.mk_caller.proofs.Below.Laws.Longer.{longer_at}
use Rattle.mk_alloc.{proofs.{SaidCloses.closes_held, Vocabulary.is_close}, specs.Rooms.{SeesNone, EndsOnly}}

-- lists

pub one_behind : (xs ys : List Event) → Lacks is_begin xs → RunsOneCycle ys → RunsOneCycle (xs ++ ys)
one_behind xs ys none one b =
    ⊎_elim
    (λ (x : InFirst xs b.before b.event). absurd (lacks_at is_begin xs b.before b.event x.behind none x.is b.of_kind))
    (λ (x : InSecond xs ys b.before b.event b.behind).
    one (record { before = x.rest; event = b.event; behind = b.behind; is = x.is; of_kind = b.of_kind }))
    (stands xs ys b.before b.event b.behind b.is)

pub one_before : (xs ys : List Event) → RunsOneCycle xs → Lacks is_begin ys → RunsOneCycle (xs ++ ys)
one_before xs ys one none b =
    ⊎_elim (λ (x : InFirst xs b.before b.event). first x.behind x.is) (λ (x : InSecond xs ys b.before b.event b.behind).
    absurd (lacks_at is_begin ys x.rest b.event b.behind none x.is b.of_kind))
    (stands xs ys b.before b.event b.behind b.is)
  where
    first : (rest : List Event) → xs ≡ b.before ++ b.event ∷ rest
        → (has_step is_begin b.behind ≡ false) × At is_end b.behind
    first rest is =
        let same : b.behind ≡ rest ++ ys = first_behind xs ys b.before b.event b.behind rest b.is is in
        let h = one (record { before = b.before; event = b.event; behind = rest; is = is; of_kind = b.of_kind }) in (
          ap (λ (l : List Event). has_step is_begin l) same ∙ lacks_append is_begin rest ys h.0 none,
          subst (λ (l : List Event). At is_end l) (sym same) (longer_at ys h.1),
        )

-- a begin and an end
pub one_run : (xs : List Event) (e : Event) {ys : List Event} → Lacks is_begin xs → Lacks is_begin ys → At is_end ys
    → RunsOneCycle (xs ++ e ∷ ys)
one_run xs e {ys = ys} none_before none_behind ended b =
    let there = only_at is_begin xs e ys none_before none_behind b in (
      ap (λ (l : List Event). has_step is_begin l) there.behind_is ∙ none_behind,
      subst (λ (l : List Event). At is_end l) (sym there.behind_is) ended,
    )

-- parts of a turn

pub begins_none_by : {kinds : SomeKinds} {p q : PassState} → Part kinds p q → AreApart kinds is_begin
    → SeesNone is_begin p q
begins_none_by {kinds} {p} {q} x apart = record {
  more = x.does.more;
  is = seen_by x.does;
  none = part_lacks is_begin x begins_held apart;
}

pub placed_begins_none : {p q : PassState} → IsTurn p → IsPlaced p q → IsHistory q.table.config q.seen
    → SeesNone is_begin p q
placed_begins_none t placed history = begins_none_by (place_part t (served_by placed) history) (λ x h. grind arith)

pub looks_begins_none : {p q : PassState} → IsTurn p → Does is_look p q → IsHistory q.table.config q.seen
    → SeesNone is_begin p q
looks_begins_none t d history = begins_none_by (look_part t d history) (λ x h. grind arith)

-- or have no close of one

pub closes_none_by : {kinds : SomeKinds} {p q : PassState} → Part kinds p q → AreApart kinds is_close
    → SeesNone is_close p q
closes_none_by x apart =
    record { more = x.does.more; is = seen_by x.does; none = part_lacks is_close x closes_held apart }

pub placed_closes_none : {p q : PassState} → IsTurn p → IsPlaced p q → IsHistory q.table.config q.seen
    → SeesNone is_close p q
placed_closes_none t placed history = closes_none_by (place_part t (served_by placed) history) (λ x h. grind arith)

pub looks_close_none : {p q : PassState} → IsTurn p → Does is_look p q → IsHistory q.table.config q.seen
    → SeesNone is_close p q
looks_close_none t d history = closes_none_by (look_part t d history) (λ x h. grind arith)

-- one after the other

pub none_then_none : {p q r : PassState} → SeesNone is_begin p q → SeesNone is_begin q r → SeesNone is_begin p r
none_then_none {p} {q} {r} x y = record {
  more = x.more ++ y.more;
  is = seen_then p.seen q.seen r.seen x.more y.more x.is y.is;
  none = lacks_append is_begin x.more y.more x.none y.none;
}

pub ends_none : {p q : PassState} → EndsOnly p q → SeesNone is_begin p q
ends_none x = x.begins_none

pub finish_then_none : {p q r : PassState} → IsTurn p → FinishesCycle p q → IsHistory q.table.config q.seen
    → SeesNone is_begin q r → EndsOnly p r
finish_then_none {p} {q} {r} t law history y =
    let f = finish_in p q t.own law t history in
    record {
      begins_none = record {
        more = f.more ++ y.more;
        is = seen_then p.seen q.seen r.seen f.more y.more f.is y.is;
        none = lacks_append is_begin f.more y.more f.begins_none y.none;
      };
      ended = longer_at y.more (end_at f.ends);
    }

pub begin_then_ends : {p q r : PassState} → IsTurn p → BeginsCycle p q → IsHistory q.table.config q.seen
    → EndsOnly q r → RunsOne p r
begin_then_ends {p} {q} {r} t law history ends =
    let b = begin_in p q t.own law t history in
    let y = ends.begins_none in
    record {
      more = b.before ++ b.begin ∷ (b.behind ++ y.more);
      is = seen_then p.seen q.seen r.seen (b.before ++ b.begin ∷ b.behind) y.more b.is y.is
          ∙ ap (λ (l : List Event). p.seen ++ l) (append_assoc b.before (b.begin ∷ b.behind) y.more);
      one = one_run b.before b.begin b.none_before
          (lacks_append is_begin b.behind y.more b.none_behind y.none) (at_behind b.behind ends.ended);
    }

pub none_runs_one : {p q : PassState} → SeesNone is_begin p q → RunsOne p q
none_runs_one x = record { more = x.more; is = x.is; one = (λ b. absurd (none_at is_begin x.more x.none b)) }

pub none_then_one : {p q r : PassState} → SeesNone is_begin p q → RunsOne q r → RunsOne p r
none_then_one {p} {q} {r} x y = record {
  more = x.more ++ y.more;
  is = seen_then p.seen q.seen r.seen x.more y.more x.is y.is;
  one = one_behind x.more y.more x.none y.one;
}

pub one_then_none : {p q r : PassState} → RunsOne p q → SeesNone is_begin q r → RunsOne p r
one_then_none {p} {q} {r} x y = record {
  more = x.more ++ y.more;
  is = seen_then p.seen q.seen r.seen x.more y.more x.is y.is;
  one = one_before x.more y.more x.one y.none;
}
