-- A turn stays quiet where its New's object is granted, and where it only looks.
use Rattle.mk_alloc.proofs.Vocabulary.{Answer, Bool, Config, CountsAreLeft, Does, Event, Flight, Has, Holding}
use Rattle.mk_alloc.proofs.Vocabulary.{IsHistory, IsPlaced, IsQuiet, IsTurn, IsUnplaced, KeepsGates, LeavesTurn, List}
use Rattle.mk_alloc.proofs.Vocabulary.{Moment, None, OnlyLooks, PassState, PlacedAllocation, Placing, Seat, Some, Stage}
use Rattle.mk_alloc.proofs.Vocabulary.{Steady, Step, TurnGoesOn, World, ℕ, actor_of, answer_decided, ap, arith, call_of}
use Rattle.mk_alloc.proofs.Vocabulary.{event_of, false, fresh_words_of, full_answers, has_place, holds_turn}
use Rattle.mk_alloc.proofs.Vocabulary.{if◌then◌else◌, in_a_word, is_end, is_held, is_pending_free_at, is_placing}
use Rattle.mk_alloc.proofs.Vocabulary.{is_undecided_new, known_left, left, left_after, looks_left, now_of, refl}
use Rattle.mk_alloc.proofs.Vocabulary.{releases, same_config, steady_of, subst, sum_by_push, sym, true, unchanged}
use Rattle.mk_alloc.proofs.{Vocabulary.{undecided_new, world_of, [], ◌++◌, ◌∙◌, ◌∷◌, ◌≡◌}, Parts.{Part, seen_behind}}
use Rattle.mk_alloc.proofs.{Parts.seen_by, Stretches.{Here, Stretch, along, does_stretch, holds_none, widened}}
use Rattle.mk_alloc.proofs.{FreedTurns.given_is_decided, Going.{quiet_kept, same_phase}, JoinedLooks.looks_call}
use Rattle.mk_alloc.{proofs.Reaching.{counts_more}, specs.{Placing.object_at_place, Placing.IsAsLeft}}
use Rattle.mk_caller.proofs.Below.Laws.{Vocabulary.Progress, Basics.{none_on_its_way, tally_keeps}}
use Rattle.mk_caller.proofs.Below.Laws.{FreshWords.fresh_pushed, OthersCounts.{answers_full, counts_nothing}}
use Rattle.mk_core.specs.Effects.{holding_behind}
use Rattle.mk_cycle.{proofs.{BeginSteps.none_held_kept, KeptInParts.held_so}, specs.TurnKeeps.{IsGone}}

-- Stretches of a turn in which no gate is held or opened, no cycle ends, no New is full and no object is freed.

placing_frees_none : (c : Config) (m : Moment) (seat : Seat) (f : Flight) (n : ℕ) (x : Step) (h : Holding)
    → is_placing x ≡ true → (holding_behind c m seat f n x h).freed ≡ h.freed
placing_frees_none c m seat f n x5 h kind = grind arith

placing_ends_none : (x : Step) → is_placing x ≡ true → is_end x ≡ false
placing_ends_none x h = grind arith

either_answer : (b : Bool) (x y : Progress) → answers_full x.answer ≡ false → answers_full y.answer ≡ false
    → answers_full (if b then x else y).answer ≡ false
either_answer x0 x y one two = grind arith

placing_decides : (c : Config) (m : Moment) (seat : Seat) (x : Step) → is_placing x ≡ true
    → answers_full (answer_decided c m (record { seat = seat; step = x })) ≡ false
placing_decides c m x2 x h = grind (arith, either_answer)

-- Gates are held as before, the counts are as before, and so is the run that the call has freed.
pub record LeavesBeside (p : PassState) (es fs : List Event) : Type 0 where
  pub gates : (j : ℕ) → is_held (left p.table.config fs).now.words j ≡ is_held (left p.table.config es).now.words j
  pub counts : CountsAreLeft p.table.config es fs
  pub freed : (left p.table.config fs).now.seats.holding.freed ≡ (left p.table.config es).now.seats.holding.freed

beside_then : {p : PassState} {es fs : List Event} (gs : List Event) → LeavesBeside p es fs → LeavesBeside p fs gs
    → LeavesBeside p es gs
beside_then gs a b = grind arith

own_beside : {p : PassState} {es : List Event} (x : Step) → Here p es (event_of p x) → is_placing x ≡ true
    → LeavesBeside p es (es ++ event_of p x ∷ [])
own_beside x h kind = grind (arith, counts_more, placing_ends_none, placing_decides, placing_frees_none, tally_keeps)

pub leaves_beside : {p : PassState} {es more : List Event} → Has p.seats p.seat → Stretch p is_placing es more
    → LeavesBeside p es (es ++ more)
leaves_beside {p} {es} {more} own s =
    along p is_placing (λ x h. grind arith) own (λ (l : List Event). LeavesBeside p es l)
    (λ fs x h kind so_far. beside_then (fs ++ event_of p x ∷ []) so_far (own_beside x h kind))
    (λ fs e h ne so_far. beside_then (fs ++ e ∷ []) so_far (let c : Config = p.table.config in
    let m : Moment = (left c fs).now in
    let l = left_after c (left c fs) e.seat p.seat e.step h.known h.meets ne in
    let t = l.turn h.holds in
    let none = counts_nothing c m e.seat e.step (holds_none h ne)
    (actor_of c m e.seat e.step h.known.orderly h.meets) in
    record {
      gates = λ j. ap (λ (w : World). is_held w.now.words j) h.behind ∙ held_so _ _ (t.held_gates j) (t.other_gates j);
      counts = counts_more c fs e none.0 none.1;
      freed = cc (h.behind, (l.own.holding h.holds).1);
    })) es more s (record { gates = λ j. refl; counts = record { ends = refl; fulls = refl }; freed = refl })

-- the kinds of step that granted an object
pub served_by : {p q : PassState} → IsPlaced p q → Does is_placing p q
served_by placed = widened (λ x h. grind arith) placed.granted.does

pub place_part : {p q : PassState} → IsTurn p → Does is_placing p q → IsHistory q.table.config q.seen
    → Part is_placing p q
place_part t d history = record { turn = t; stays = λ x h. grind arith; does = d; history = history }

-- An undecided New has freed no run.
pub none_freed_yet : {p : PassState} → IsTurn p → is_undecided_new (call_of p) ≡ true → (now_of p).seats.holding.freed
    ≡ None
none_freed_yet t new = grind (arith, known_left, none_on_its_way, holds_turn, undecided_new)

module _ {p q : PassState} (t : IsTurn p) (d : Does is_placing p q) (history : IsHistory q.table.config q.seen) where
  beside : LeavesBeside p p.seen q.seen
  beside = grind (arith, seen_behind, leaves_beside, does_stretch)

  world_there : world_of q ≡ left p.table.config q.seen
  world_there = ap (λ (c : Config). left c q.seen) (same_config p q
      (d.is ∙ ap (λ (l : List Event). record p { seen = l }) (sym (seen_by d))))

  pub gates_beside : KeepsGates p q
  gates_beside j lt = ap (λ (w : World). is_held w.now.words j) world_there ∙ beside.gates j

  pub counts_beside : CountsAreLeft p.table.config p.seen q.seen
  counts_beside = beside.counts

  pub gone_beside : (now_of p).seats.holding.freed ≡ None → IsGone q
  gone_beside none = grind (arith, world_there, beside)

-- where it only looks
module _ (p q : PassState) (t : IsTurn p) (u : IsUnplaced p) (quiet : IsQuiet p) (looks : OnlyLooks p q)
    (history : IsHistory q.table.config q.seen) where
  d : Does is_placing p q
  d = widened (λ x h. grind arith) looks.does

  kept : LeavesTurn unchanged p q
  kept =
      let l : IsAsLeft p.seat (world_of p) (world_of q) = looks_left looks in
      record {
        call = record {
          pass = looks.same;
          call = looks_call looks;
          done = ap (λ (h : Holding). record h { hand = None }) l.holding;
          gone = λ gone. gone_beside t d history (none_freed_yet t u.new);
        };
        steady = l.steady;
        counts = counts_beside t d history;
      }

  pub looked_beside : TurnGoesOn None p q
  looked_beside = record {
    does = widened (λ x h. grind arith) looks.does;
    quiet = quiet_kept quiet kept (gates_beside t d history);
    entry = looks.calls;
    op = ap (λ (f : Flight). f.op) (looks_call looks);
    decided = λ some. cc;
    undecided = λ none. looks_call looks;
  }

-- where the object is granted
module _ {p q : PassState} (t : IsTurn p) (u : IsUnplaced p) (quiet : IsQuiet p) (placed : IsPlaced p q)
    (history : IsHistory q.table.config q.seen) where
  there : world_of q ≡ left p.table.config q.seen
  there = ap (λ (c : Config). left c q.seen) (same_config p q placed.granted.same)

  granted : PlacedAllocation
  granted = object_at_place p.table.config (call_of p) placed.place

  steady : steady_of (world_of q) ≡ record (steady_of (world_of p)) {
    pages = (now_of q).words.pages;
    held = (now_of q).words.held;
    allocations = (world_of p).allocations ++ granted ∷ [];
  }
  unfolding granted
  steady = subst (λ (w : World). steady_of w ≡ record (steady_of (world_of p)) {
    pages = w.now.words.pages;
    held = w.now.words.held;
    allocations = (world_of p).allocations ++ granted ∷ [];
  }) (sym there) placed.granted.world.steady

  allocations : (world_of q).allocations ≡ (world_of p).allocations ++ granted ∷ []
  allocations = ap (λ (s : Steady). s.allocations) steady

  fresh_same : fresh_words_of q.table.config (world_of q).allocations
      ≡ fresh_words_of p.table.config (world_of p).allocations
  unfolding granted
  fresh_same = grind (arith, allocations, same_config, fresh_pushed, granted)

  releases_same : releases (world_of q).allocations ≡ releases (world_of p).allocations
  unfolding granted
  releases_same = grind (arith, allocations, granted, sum_by_push)

  counts : CountsAreLeft p.table.config p.seen q.seen
  counts = counts_beside t (served_by placed) history

  decided : (call_of q).stage ≡ Stage.Give
  decided = grind arith

  quiet_behind : IsQuiet q
  quiet_behind = record {
    free = record {
      decided = ap (λ (s : Stage). is_pending_free_at (call_of q).op s) decided ∙ given_is_decided (call_of q).op;
      unplaced =
          ap (λ (w : World). has_place w.now.seats.holding.placing) there
          ∙ ap (λ (x : Placing). has_place x) placed.granted.world.placing;
      gone = gone_beside t (served_by placed) history (none_freed_yet t u.new);
    };
    phase = same_phase p q (ap (λ (s : Steady). s.phase) steady) quiet.phase;
    gates = none_held_kept p q placed.granted.same (gates_beside t (served_by placed) history) quiet.gates;
    exact = record {
      held = placed.held;
      fresh = ap (λ (s : Steady). s.fresh) steady ∙ quiet.exact.fresh ∙ ap in_a_word (sym fresh_same);
    };
    tidy = record {
      cycles = ap (λ (s : Steady). s.cycles) steady ∙ quiet.tidy.cycles ∙ ap in_a_word (sym counts.ends);
      released = ap (λ (s : Steady). s.released) steady ∙ quiet.tidy.released ∙ ap in_a_word (sym releases_same);
      full =
          ap (λ (s : Steady). s.full) steady ∙ quiet.tidy.full ∙ ap in_a_word (sym counts.fulls)
          ∙ ap (λ (c : Config). in_a_word (full_answers c q.seen)) (sym (same_config p q placed.granted.same));
    };
  }

  pub placed_on : TurnGoesOn (Some Answer.Done) p q
  placed_on = record {
    does = widened (λ x h. grind arith) placed.granted.does;
    quiet = quiet_behind;
    entry = placed.granted.calls;
    op = ap (λ (x : PassState). (call_of x).op) placed.granted.same ∙ ap (λ (f : Flight). f.op)
        placed.granted.world.call;
    decided = λ some. decided;
    undecided = λ none. cc;
  }
