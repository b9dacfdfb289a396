-- The events of a cycle's parts: where its `begin` stands, and where it is closed, released and ended.
use Rattle.mk_alloc.proofs.Vocabulary.{BeginsCycle, Does, Event, FinishesCycle, Has, IsHistory, IsTurn, List, PassState}
use Rattle.mk_alloc.proofs.Vocabulary.{Step, ap, append_assoc, arith, begins_marking, clears, event_of, false, finishes}
use Rattle.mk_alloc.proofs.Vocabulary.{is_begin, is_close, is_end, is_giving_back, is_release, pass_before, refl, sym}
use Rattle.mk_alloc.proofs.{Vocabulary.{true, [], ◌++◌, ◌∙◌, ◌∷◌, ◌≡◌}, Parts.{IsHolders, Part, behind_part}}
use Rattle.mk_alloc.proofs.Parts.{nothing_part, part_lacks, seen_by, seen_then, step_behind}
use Rattle.mk_alloc.proofs.{Stretches.{SomeKinds, does_both, does_once, widened}, CalmStretches.is_of_cycles}
use Rattle.mk_alloc.proofs.ListParts.{Lacks, lacks_in_parts}

-- The kinds of the parts are of cycles. Up to a `close` nothing is released, and after it no room is asked for.

abbrev pub ends_marking : SomeKinds
ends_marking Step.Begin = false
ends_marking Step.Close = false
ends_marking Step.Release = false
ends_marking Step.End = false
ends_marking x = is_of_cycles x

abbrev pub gives_room : SomeKinds
gives_room Step.Begin = false
gives_room Step.Want = false
gives_room (Step.Hold j) = false
gives_room x = is_of_cycles x

-- A `begin` is the holder's.
pub begins_held : IsHolders is_begin
begins_held x h = grind arith

-- A cycle's close, release and end stand in a list one after the other.
pub record EndsIn (es : List Event) : Type 0 where
  pub to_close : List Event
  pub close : Event
  pub to_release : List Event
  pub release : Event
  pub to_end : List Event
  pub end : Event
  pub behind : List Event
  pub is : es ≡ to_close ++ close ∷ (to_release ++ release ∷ (to_end ++ end ∷ behind))
  pub closes : is_close close.step ≡ true
  pub releases : is_release release.step ≡ true
  pub ends : is_end end.step ≡ true
  pub none_closed : Lacks is_close to_close
  pub none_released : Lacks is_release to_release
  pub none_ended : Lacks is_end to_end

-- What a cycle's end does: it begins none.
pub record FinishIn (p q : PassState) : Type 0 where
  pub more : List Event
  pub is : q.seen ≡ p.seen ++ more
  pub ends : EndsIn more
  pub begins_none : Lacks is_begin more

-- up to the `close`, and from there on
module _ {p q : PassState} (law : FinishesCycle p q) where
  abbrev pub closing : PassState
  closing = law.makes.releases.closing

  pub ends_marks : Does ends_marking p closing
  ends_marks = does_both (widened (λ x h. grind arith) law.makes.holds)
      (widened (λ x h. grind arith) law.makes.releases.marks.does)

  -- the gates are opened, and what is released is given back
  pub gives_back : Does is_giving_back law.makes.released law.makes.freed
  gives_back = does_both (widened (λ x h. grind arith) law.makes.opens) law.makes.frees

  pub gives_room_back : Does gives_room closing q
  gives_room_back =
      let m = law.makes in
      let r = m.releases in
      does_both (does_once r.close refl) (does_both (does_once r.release refl) (does_both
      (widened (λ x h. grind arith) gives_back)
      (does_both (does_once m.end refl) (widened (λ x h. grind arith) m.behind))))

  pub part_closing : IsTurn p → Part ends_marking p closing
  part_closing t = record {
    turn = t;
    stays = λ x h. grind arith;
    does = ends_marks;
    history = (pass_before law.makes.releases.close).history;
  }

pub finish_done : {p q : PassState} → FinishesCycle p q → Does is_of_cycles p q
finish_done law = does_both (widened (λ x h. grind arith) (ends_marks law))
    (widened (λ x h. grind arith) (gives_room_back law))

pub finish_does : (p q : PassState) → Has p.seats p.seat → FinishesCycle p q → Does is_of_cycles p q
finish_does p q own law = finish_done law

pub part_behind_closing : {p q : PassState} (law : FinishesCycle p q) → IsTurn p → IsHistory q.table.config q.seen
    → Part gives_room (closing law) q
part_behind_closing law t history = record {
  turn = behind_part (part_closing law t);
  stays = λ x h. grind arith;
  does = gives_room_back law;
  history = history;
}

three : (a b d z : List Event) (x y w : Event)
    → (a ++ x ∷ []) ++ ((b ++ y ∷ []) ++ ((d ++ w ∷ []) ++ z)) ≡ a ++ x ∷ (b ++ y ∷ (d ++ w ∷ z))
three a b d z x y w = simp append_assoc

pub finish_in : (p q : PassState) → Has p.seats p.seat → FinishesCycle p q → IsTurn p
    → IsHistory q.table.config q.seen → FinishIn p q
finish_in p q own law t history =
    let m = law.makes in
    let r = m.releases in
    let x = step_behind (part_closing law t) r.close refl in
    let y = step_behind (nothing_part x.turn) r.release refl in
    let gives : Part is_giving_back m.released m.freed =
    record
    { turn = y.turn; stays = λ x h. grind arith; does = gives_back law; history = (pass_before m.end).history } in
    let z = step_behind gives m.end refl in
    let more : List Event = x.before ++ event_of r.closing Step.Close
    ∷ (y.before ++ event_of r.closed Step.Release ∷ (z.before ++ event_of m.freed Step.End ∷ m.behind.more)) in
    let is : q.seen ≡ p.seen ++ more = seen_then p.seen r.closed.seen q.seen
    (x.before ++ event_of r.closing Step.Close ∷ []) _ x.is (seen_then r.closed.seen m.released.seen q.seen
    (y.before ++ event_of r.closed Step.Release ∷ []) _ y.is (seen_then m.released.seen m.ended.seen q.seen
    (z.before ++ event_of m.freed Step.End ∷ []) m.behind.more z.is (seen_by m.behind)))
    ∙ ap (λ (l : List Event). p.seen ++ l) (three x.before y.before z.before m.behind.more _ _ _) in
    let first = part_closing law t in
    let last = part_behind_closing law t history in
    record {
      more = more;
      is = is;
      ends = record {
        to_close = x.before;
        close = event_of r.closing Step.Close;
        to_release = y.before;
        release = event_of r.closed Step.Release;
        to_end = z.before;
        end = event_of m.freed Step.End;
        behind = m.behind.more;
        is = refl;
        closes = refl;
        releases = refl;
        ends = refl;
        none_closed = x.lacks is_close (λ x h. grind arith) (λ x h. grind arith);
        none_released = y.lacks is_release (λ x h. grind arith) (λ k h. cc);
        none_ended = z.lacks is_end (λ x h. grind arith) (λ x h. grind arith);
      };
      begins_none = lacks_in_parts is_begin p.seen first.does.more last.does.more more (sym is ∙ seen_then p.seen
          r.closing.seen q.seen first.does.more last.does.more (seen_by first.does) (seen_by last.does)) (part_lacks
          is_begin first begins_held (λ x h. grind arith)) (part_lacks is_begin last begins_held (λ x h. grind arith));
    }

-- One `begin`, and no end of a cycle.
pub record BeginIn (p q : PassState) : Type 0 where
  pub before : List Event
  pub begin : Event
  pub behind : List Event
  pub is : q.seen ≡ p.seen ++ (before ++ begin ∷ behind)
  pub begins : is_begin begin.step ≡ true
  pub none_before : Lacks is_begin before
  pub none_behind : Lacks is_begin behind
  pub finishes_none_before : Lacks finishes before
  pub finishes_none : Lacks finishes behind

pub begin_done : {p q : PassState} → BeginsCycle p q → Does is_of_cycles p q
begin_done law =
    let m = law.makes in
    does_both (widened (λ x h. grind arith) m.before)
    (does_both (does_once m.begin refl) (widened (λ x h. grind arith) m.behind))

pub begin_does : (p q : PassState) → Has p.seats p.seat → BeginsCycle p q → Does is_of_cycles p q
begin_does p q own law = begin_done law

pub begin_in : (p q : PassState) → Has p.seats p.seat → BeginsCycle p q → IsTurn p
    → IsHistory q.table.config q.seen → BeginIn p q
begin_in p q own law t history =
    let m = law.makes in
    let clearing : Part clears p m.cleared =
    record { turn = t; stays = λ x h. grind arith; does = m.before; history = (pass_before m.begin).history } in
    let x = step_behind clearing m.begin refl in
    let marking : Part begins_marking m.begun q =
    record { turn = x.turn; stays = λ x h. grind arith; does = m.behind; history = history } in
    let e : Event = event_of m.cleared Step.Begin in
    record {
      before = x.before;
      begin = e;
      behind = m.behind.more;
      is = seen_then p.seen m.begun.seen q.seen (x.before ++ e ∷ []) m.behind.more x.is (seen_by
          m.behind) ∙ ap (λ (l : List Event). p.seen ++ l) (append_assoc x.before (e ∷ []) m.behind.more);
      begins = refl;
      none_before = x.lacks is_begin begins_held (λ x h. grind arith);
      none_behind = part_lacks is_begin marking begins_held (λ x h. grind arith);
      finishes_none_before = x.lacks finishes (λ x h. grind arith) (λ x h. grind arith);
      finishes_none = part_lacks finishes marking (λ x h. grind arith) (λ x h. grind arith);
    }
