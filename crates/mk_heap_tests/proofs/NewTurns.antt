-- A caller's turn for a New, from its `take` to its `give`.
use Rattle.mk_run.proofs.Below.Laws.Vocabulary.{Answer, Bool, Caller, IsHistory, Op, Some, Step, ℕ, ap, arith, at_rest}
use Rattle.mk_run.proofs.Below.Laws.Vocabulary.{caller_number, false, length, lt-ltb, refl, sym, ◌<◌, ◌∙◌, ◌≡◌}
use Rattle.mk_heap_tests.proofs.Vocabulary.{IsEnabledTo, IsPassFor, IsPassOfObjects, IsTurn, PassState, WordsState}
use Rattle.mk_heap_tests.proofs.Vocabulary.{caller_of_pass, now_of}
use Rattle.mk_run.proofs.Below.Objects.CalledTurns.{Taken, callers, take_allowed, taken_phase, taken_same}
use Rattle.mk_run.proofs.Below.Objects.FreedTurns.{Frees, Refuses, double_answered, freed, freed_object, refused}
use Rattle.mk_run.proofs.Below.Objects.{FreedTurns.unloaded, NewTurns.{begun_quiet, begun_unplaced}}
use Rattle.mk_run.proofs.Below.Objects.{NewTurns.operands_of, Going.give_allowed}
use Rattle.mk_run.proofs.Below.{Objects.SeekingTurns.seeks_placed, Heaps.MovedHosts.taken_own}
use Rattle.mk_run.specs.Below.Objects.{Rooms.Seeks, TurnCalls.CalledInTurn}
use Rattle.mk_run.specs.Below.Objects.{Rooms.{BeginsTurn, TurnGoesOn}, Placing.{IsOutOfStop, IsPlaced}}
use Rattle.mk_run.specs.Below.Objects.{Placing.IsUnplaced, Retiring.{FindsFreed, Retires}}
use Rattle.mk_run.specs.Below.{Objects.Retiring.IsUnloaded, Words.{States.call_of, Steps.Makes}}
use Rattle.mk_heap_tests.{proofs.{HeldObjects.free_keeps, JoinedHosts.alone_in}, specs.HeldObjects.IsTaken}

abbrev pub first_new : Op
first_new = Op.New 0 0 false

module _ {w : WordsState} {k : ℕ} {p : PassState} (is : IsPassFor w k p) where
  pub exists : k < w.config.callers → caller_of_pass p < p.table.config.callers
  exists few = grind arith

  pub may_free : k < w.config.callers → IsEnabledTo p (Step.Take (Some (Op.Free 0)))
  may_free few = take_allowed (Op.Free 0) is.idle (exists few) refl refl

  pub may_make : k < w.config.callers → 0 < length w.config.types → IsEnabledTo p (Step.Take (Some first_new))
  may_make few typed = grind (arith, take_allowed, first_new, exists, operands_of)

module _ {w : WordsState} {k : ℕ} {o : Op} {p q : PassState} (is : IsPassFor w k p) (t : IsTaken p (Some o) q) where
  taken_is : q ≡ record p { seen = q.seen }
  taken_is = taken_same (callers is.idle) (taken_own t.takes) t.takes

  pub taken_table : q.table ≡ w
  taken_table = ap (λ (x : PassState). x.table) taken_is ∙ is.table

  pub phase : k < w.config.callers → IsOutOfStop (now_of q)
  phase few =
      taken_phase (callers is.idle) (exists is few) (alone_in is)
      (taken_own t.takes) t.takes t.fresh t.turn.history t.before

  begins : k < w.config.callers → BeginsTurn o q
  begins few = record { fresh = t.fresh; phase = phase few; exact = t.exact; tidy = t.tidy }

  -- The pass that is given back, where the turn went on to an answer.
  pub back_of : {a : Answer} {d : PassState} → TurnGoesOn (Some a) q d → (b : PassState) → Makes d Step.Give b
      → call_of b ≡ at_rest → IsPassFor w k b
  back_of on b gives rests =
      let all : (b.table ≡ p.table) × (b.seat ≡ p.seat) × (b.seats ≡ p.seats) = (
        ap (λ (x : PassState). x.table) gives.is ∙ ap (λ (x : PassState). x.table) on.does.is
            ∙ ap (λ (x : PassState). x.table) taken_is,
        ap (λ (x : PassState). x.seat) gives.is ∙ ap (λ (x : PassState). x.seat) on.does.is
            ∙ ap (λ (x : PassState). x.seat) taken_is,
        ap (λ (x : PassState). x.seats) gives.is ∙ ap (λ (x : PassState). x.seats) on.does.is
            ∙ ap (λ (x : PassState). x.seats) taken_is,
      ) in
      let seat = all.1 ∙ is.seat in
      record {
        table = all.0 ∙ is.table;
        seat = seat;
        alone = all.2 ∙ is.alone;
        idle = record { seat = seat ∙ ap (λ s. Caller (caller_number s)) (sym seat); rest = rests };
      }

module _ {w : WordsState} {k : ℕ} {p q : PassState} (is : IsPassFor w k p) (few : k < w.config.callers)
    (t : IsTaken p (Some first_new) q) where
  -- Directly after its `take` the turn may place its object.
  pub unplaced : IsUnplaced q
  unplaced = begun_unplaced (begins is t few)

  -- Where it has placed it, it may be given back.
  module _ {r : PassState} (placed : IsPlaced q r) (history : IsHistory r.table.config r.seen) where
    pub seeks : Seeks (Some Answer.Done) q r
    seeks = seeks_placed t.turn unplaced (begun_quiet (begins is t few)) placed history

    pub placed_table : r.table ≡ w
    placed_table = ap (λ (x : PassState). x.table) seeks.on.does.is ∙ taken_table is t

    pub passed_back : {b : PassState} → Makes r Step.Give b → call_of b ≡ at_rest → IsPassFor w k b
    passed_back {b} gives rests = back_of is t seeks.on b gives rests

-- A caller's turn for a Free, from its `take` to its `give`, with no cycle.

pub may_retire : {w : WordsState} {k r : ℕ} {p : PassState} → IsPassOfObjects w k p → k < w.config.callers → r < 8
    → IsEnabledTo p (Step.Take (Some (Op.Free r)))
may_retire is few small = grind (arith, take_allowed, lt-ltb)

module _ {w : WordsState} {k r : ℕ} {p q : PassState} (of : IsPassOfObjects w k p) (few : k < w.config.callers)
    (t : IsTaken p (Some (Op.Free r)) q) where
  took : Taken (Op.Free r) p q
  took = record { seat = callers of.pass.idle; own = taken_own t.takes; takes = t.takes }

  pub is_unloaded : r < 8 → IsUnloaded q r
  is_unloaded small =
      unloaded (callers of.pass.idle) (taken_own t.takes) t.takes t.fresh t.turn.history small (of.objects r small)

  -- The pass that is given back has its objects still.
  back_with_objects : {on : Bool} {a : Answer} {d : PassState} → TurnGoesOn (Some a) q d → (b : PassState)
      → Makes d Step.Give b → call_of b ≡ at_rest → CalledInTurn on p (Op.Free r) a b → IsPassOfObjects w k b
  back_with_objects on b gives rests called =
      record { pass = back_of of.pass t on b gives rests; objects = free_keeps called of.objects }

  -- It was freed, and that isn't due.
  module _ {d : PassState} (retires : Retires q r false d) (u : IsTurn d) where
    frees : Frees false false r p q d d
    frees = record {
      took = took;
      begins = begins of.pass t few;
      retires = retires;
      decided = u;
      run = record { runs = λ h. cc; rests = λ h. refl };
      history = u.history;
    }

    pub freed_may_give : IsEnabledTo d Step.Give
    freed_may_give = give_allowed u (freed frees).quiet ((freed frees).decided refl)

    pub freed_back : {b : PassState} → Makes d Step.Give b → call_of b ≡ at_rest → IsPassOfObjects w k b
    freed_back {b} gives rests = back_with_objects (freed frees) b gives rests (freed_object frees gives rests).called

  -- It was freed already.
  module _ {d : PassState} (finds : FindsFreed q r d) (u : IsTurn d) where
    refuses : Refuses r p q d
    refuses = record { took = took; begins = begins of.pass t few; finds = finds }

    pub double_may_give : IsEnabledTo d Step.Give
    double_may_give = give_allowed u (refused refuses).quiet ((refused refuses).decided refl)

    pub double_back : {b : PassState} → Makes d Step.Give b → call_of b ≡ at_rest → IsPassOfObjects w k b
    double_back {b} gives rests =
        back_with_objects (refused refuses) b gives rests (double_answered false refuses gives rests).called
