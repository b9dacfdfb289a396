-- What the turn of a New does with cycles, and what it is answered.
use Rattle.mk_caller.proofs.Below.Laws.Vocabulary.{Page, histories_keep_lengths, uses_of_pages}
use Rattle.mk_caller.proofs.Below.Laws.InvariantHistories.{pages_show_the_storage}
use Rattle.mk_caller.proofs.Below.Laws.PlacementTheorems.{fulls_fit_nowhere}
use Rattle.mk_alloc.proofs.Vocabulary.{Answer, AnswersFull, At, BeginsTurn, Bool, CalledInTurn, Config, Event, Flight}
use Rattle.mk_alloc.proofs.Vocabulary.{HasNoPlace, Holding, IsAnsweredFull, IsQuiet, IsTurn, IsUnplaced, List, Makes}
use Rattle.mk_alloc.proofs.Vocabulary.{Misfits, Object, Op, PassState, PlacedAllocation, RunsOne, RunsOneCycle, Seeks}
use Rattle.mk_alloc.proofs.Vocabulary.{Some, Steady, Step, TurnOf, World, ℕ, and_from, ap, append_assoc}
use Rattle.mk_alloc.proofs.Vocabulary.{append_cancel_left, arith, asks_room, at_rest, call_of, event_of, false}
use Rattle.mk_alloc.proofs.Vocabulary.{gone_is_unmapped, has_operands, is_begin, is_grant, is_undecided_new, is_want}
use Rattle.mk_alloc.proofs.Vocabulary.{length, lets_go, lt-ltb, made, now_of, object_for, object_made, off_four}
use Rattle.mk_alloc.proofs.Vocabulary.{only_seen, only_seen_by, refl, subst, sym, true, unreleased_storage, within_turn}
use Rattle.mk_alloc.proofs.Vocabulary.{world_of, [], ⊎_elim, ◌&&◌, ◌++◌, ◌<◌, ◌∙◌, ◌∷◌, ◌≡◌}
use Rattle.mk_alloc.proofs.CalledTurns.{GivenBack, Taken, called, done_is, given_turn, lacks_given, taken_is, turn_of}
use Rattle.mk_alloc.proofs.{CalledTurns.within_is, FullLeaves.{leaves_then, made_leaves, taking_leaves}}
use Rattle.mk_alloc.proofs.{ListParts.{InFirst, InSecond, SomeKind, lacks_at, stands}, Parts.{seen_after, seen_by}}
use Rattle.mk_alloc.proofs.{CycleParts.begins_held, GrantParts.last_before, OneCycles.one_before}
use Rattle.mk_geom.proofs.Bridge.{same_census}
use Rattle.mk_geom.specs.{PageUses.census_among, Storages.census_of, declared.pages.Census.Census}
use Rattle.mk_core.specs.Allocations.{census_of_allocations}
use Rattle.mk_alloc.specs.TurnCycles.{NewIsExact, is_hold}

-- Directly after its `take` the turn of a New is quiet, and its object has no place yet.

pub begun_quiet : {p : PassState} {d ty : ℕ} {full : Bool} → BeginsTurn (Op.New d ty full) p → IsQuiet p
begun_quiet b = grind arith

pub begun_unplaced : {p : PassState} {d ty : ℕ} {full : Bool} → BeginsTurn (Op.New d ty full) p → IsUnplaced p
begun_unplaced b = record {
  new = ap (λ (f : Flight). is_undecided_new f) b.fresh.call;
  placing = ap (λ (h : Holding). h.placing) b.fresh.holding;
  phase = b.phase;
}

pub operands_of : (c : Config) (d ty : ℕ) → d < 8 → ty < length c.types → has_operands c (Op.New d ty false) ≡ true
operands_of c d ty small typed =
    and_from _ _ (ap (λ (b : Bool). true && b && true) (lt-ltb d 8 small)) (lt-ltb ty _ typed)

-- A New that sought room, and was answered in its turn.
pub record NewGiven (d ty : ℕ) (a : Answer) (p taken done q : PassState) : Type 0 where
  pub took : Taken (Op.New d ty false) p taken
  pub begins : BeginsTurn (Op.New d ty false) taken
  pub seeks : Seeks (Some a) taken done
  pub runs : RunsOne taken done
  pub gives : Makes done Step.Give q
  pub rests : call_of q ≡ at_rest

module _ {d ty : ℕ} {a : Answer} {p taken done q : PassState} (m : NewGiven d ty a p taken done q) where
  abbrev pub given : GivenBack (Op.New d ty false) a p taken done q
  given = record { took = m.took; fresh = m.begins.fresh; on = m.seeks.on; gives = m.gives; rests = m.rests }

  abbrev turn : TurnOf p.table.config p.seat (done.seen ++ m.gives.others)
  turn = turn_of given

  abbrev o : Object
  o = object_made p.table.config (Op.New d ty false)

  same_object : object_for taken ≡ o
  same_object = cc (m.begins.fresh.call, taken_is m.took)

  -- at each step that asks for room
  room_at : (kind : SomeKind) → ((x : Step) → kind x ≡ true → asks_room x ≡ true) → (at : At kind turn.behind)
      → HasNoPlace p.table.config o (within_turn turn at.before)
  room_at kind within at =
      ⊎_elim (λ (x : InFirst m.seeks.on.does.more at.before at.event). subst
      (λ (l : List Event). HasNoPlace p.table.config o l) (within_is given at.before)
      (subst (λ (y : Object). HasNoPlace p.table.config y (taken.seen ++ at.before)) same_object (subst
      (λ (y : PassState). HasNoPlace y.table.config (object_for taken) (taken.seen ++ at.before)) (taken_is m.took)
      (m.seeks.room at.before at.event x.behind (seen_by m.seeks.on.does ∙ ap (λ (l : List Event). taken.seen ++ l) x.is
      ∙ sym (append_assoc taken.seen at.before (at.event ∷ x.behind))) (within at.event.step at.of_kind)))))
      (λ (x : InSecond m.seeks.on.does.more m.gives.others at.before at.event at.behind). absurd (lacks_at asks_room
      m.gives.others x.rest at.event at.behind (lacks_given given asks_room (λ x h. grind arith)) x.is (within
      at.event.step at.of_kind))) (stands m.seeks.on.does.more m.gives.others at.before at.event at.behind at.is)

  one_done : RunsOneCycle m.seeks.on.does.more
  one_done =
      subst (λ (l : List Event). RunsOneCycle l) (append_cancel_left taken.seen m.runs.more m.seeks.on.does.more
      (sym m.runs.is ∙ seen_by m.seeks.on.does)) m.runs.one

  pub exact : NewIsExact turn o
  exact = record {
    begins = room_at is_begin (λ x h. grind arith);
    ends = room_at is_want (λ x h. grind arith);
    holds = room_at is_hold (λ x h. grind arith);
    one = one_before m.seeks.on.does.more m.gives.others one_done (lacks_given given is_begin begins_held);
    keeps =
        last_before m.seeks.on.does.more m.gives.others (m.seeks.last m.seeks.on.does.more (seen_by m.seeks.on.does))
        (lacks_given given is_grant (λ x h. grind arith)) (lacks_given given lets_go (λ x h. grind arith));
  }

  abbrev pub new_called : (flag : Bool) → CalledInTurn flag p (Op.New d ty false) a q
  new_called flag = called given flag exact

-- the counts of the pages, where all is quiet
pub census_told : {p : PassState} {pages : List Page} {census : Census} → IsTurn p → IsQuiet p
    → pages ≡ (now_of p).words.pages → census ≡ census_among (uses_of_pages pages)
    → census ≡ census_of_allocations p.table.config (world_of p).allocations
census_told {p} t quiet shows is =
    let c : Config = p.table.config in
    let pages : List Page = (now_of p).words.pages in
    is ∙ ap (λ (xs : List Page). census_among (uses_of_pages xs)) shows
    ∙ same_census pages (unreleased_storage c (world_of p).allocations) (pages_show_the_storage c p.seen t.history
    (record {
      releasing = off_four (now_of p) quiet.phase;
      placing = quiet.free.unplaced;
      unmapped = gone_is_unmapped
          (now_of p).words (now_of p).seats.holding.freed quiet.free.gone;
    })) ∙ ap
    (λ (n : ℕ). census_of n (unreleased_storage c (world_of p).allocations)) (histories_keep_lengths c p.seen).pages

-- Giving the turn back leaves the allocations.
given_allocations : {p q : PassState} → IsTurn p → Makes p Step.Give q
    → (world_of q).allocations ≡ (world_of p).allocations
given_allocations {p} {q} t m =
    let d = made p Step.Give q m in
    ap (λ (w : World). w.allocations) d.world ∙ ap (λ (s : Steady). s.allocations) ((d.frame.turn t.holds).0).steady

-- It is answered Full, where it fits nowhere last.
module _ {d ty : ℕ} {p taken last done q : PassState} (m : NewGiven d ty Answer.Full p taken done q)
    (misfits : Misfits taken last) (full : AnswersFull last done) where
  last_is : last ≡ record p { seen = last.seen }
  last_is = cc (only_seen taken last misfits.seeks.on.does.more misfits.seeks.on.does.is, taken_is m.took)

  q_is : q ≡ record p { seen = q.seen }
  q_is = only_seen_by done q Step.Give m.gives ∙ ap (λ (x : PassState). record x { seen = q.seen }) (done_is (given m))

  abbrev behind : List Event
  behind = full.behind ++ (m.gives.others ++ event_of done Step.Give ∷ [])

  seen_is : q.seen ≡ full.before ++ event_of p Step.Full ∷ behind
  seen_is =
      seen_after m.gives ∙ ap (λ (l : List Event). l ++ (m.gives.others ++ event_of done Step.Give ∷ [])) full.is
      ∙ append_assoc full.before (event_of last Step.Full ∷ full.behind) (m.gives.others ++ event_of done Step.Give ∷
      []) ∙ ap (λ (x : PassState). full.before ++ event_of x Step.Full ∷ behind) last_is

  pub is_answered_full : {census : Census} (flag : Bool) → census ≡ census_of_allocations last.table.config
      (world_of last).allocations → IsAnsweredFull flag p (Op.New d ty false) census q
  is_answered_full flag told = record {
    called = new_called m flag;
    before = full.before;
    behind = behind;
    is = seen_is;
    full = fulls_fit_nowhere p.table.config q.seen (rw q_is at m.gives.pass.history) full.before (event_of p Step.Full)
        behind seen_is refl;
    counts =
        told ∙ ap (λ (x : PassState). census_of_allocations x.table.config (world_of last).allocations) last_is
        ∙ ap (λ (xs : List PlacedAllocation). census_of_allocations p.table.config xs)
        (sym (given_allocations (given_turn (given m)) m.gives ∙ full.allocations));
    leaves =
        leaves_then (taken_is m.took) (taking_leaves m.took.own m.took.takes) (leaves_then (only_seen taken last
        misfits.seeks.on.does.more misfits.seeks.on.does.is) (misfits.seeks.leaves refl) (leaves_then (only_seen last
        done full.seeks.on.does.more full.seeks.on.does.is) full.leaves (made_leaves m.gives refl refl)));
  }
