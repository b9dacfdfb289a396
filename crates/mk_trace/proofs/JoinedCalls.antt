-- A call of the one caller, which the host makes again and then joins: all that came meanwhile is what the call made.
use Rattle.std.proofs.lemmas.List.{append_cancel_left}
use Rattle.mk_trace.proofs.Vocabulary.{Answer, AreOfOthers, Caller, Calls, Config, Decided, EndsTell, Event, Grows}
use Rattle.mk_trace.proofs.Vocabulary.{HasAll, HoldsMostAtEnd, HostState, IsHistory, LeavesAllocations, Op, PassState}
use Rattle.mk_trace.proofs.Vocabulary.{Seat, Step, World, call_decided, calls, calls_append, decides_freed, entry_of}
use Rattle.mk_trace.proofs.Vocabulary.{flagged, flight_of, has_step, is_begin, is_grant, is_of_cycle, is_under_turn}
use Rattle.mk_trace.proofs.Vocabulary.{lacks_append, lacks_one, left, none_at, object_made, pass_for, unflagged}
use Rattle.mk_trace.proofs.{Vocabulary.{without_seat, world_behind}, EndsInLists.{changes, first_at, lacks_by}}
use Rattle.mk_trace.proofs.EndsInLists.{leaves_tell, leaves_then, tells_behind_none, tells_ends, tells_none}
use Rattle.mk_trace.proofs.{FoundByEnds.{FreesNoneFrom, is_over}, FreeCalls.{freeing_is, frees_decide, is_free}}
use Rattle.mk_trace.proofs.{FreeCalls.is_free_call, FreedWords.{held_falls_at, held_rises_at}}
use Rattle.mk_trace.proofs.{HeldCalls.{is_new, others_grant_none}, OwnPieces.{AreMine, OneSeat, all_again, are_mine}}
use Rattle.mk_trace.proofs.OwnPieces.{before_turn, before_turn_lacks, giving, has_mine, is_mine, mine_parts}
use Rattle.mk_trace.proofs.{OwnPieces.{none_of_others, turn_seen, within_is}, FreedMost.one_of_three}
use Rattle.mk_trace.proofs.{OneCaller.{calls_are_own, none_called}, PeakParts.most_then}
use Rattle.mk_heap.proofs.Below.Laws.Vocabulary.{Bool, List, Option, Some, ℕ, and_parts, ap, append-nil, append_assoc}
use Rattle.mk_heap.proofs.Below.Laws.Vocabulary.{arith}
use Rattle.mk_heap.proofs.Below.Laws.Vocabulary.{cases_Bool, earlier_part_is_history, enabled_in_parts, false, inl, inr}
use Rattle.mk_heap.proofs.Below.Laws.Vocabulary.{left_append, left_in_parts, list_any, or_from, or_parts, refl, subst}
use Rattle.mk_heap.proofs.Below.Laws.Vocabulary.{sym, true}
use Rattle.mk_heap.proofs.Below.Laws.Vocabulary.{[], ◌&&◌, ◌++◌, ◌||◌, ◌∙◌, ◌∷◌, ◌≡◌}
use Rattle.mk_core.proofs.HistoryParts.{calls_in_parts}
use Rattle.mk_core.specs.History.{own_from, AreEnabledFrom, calls_from, left_from}
use Rattle.mk_heap.proofs.Below.Objects.GrantParts.{LastIn, last_before, last_then}
use Rattle.mk_heap.proofs.Below.{Objects.OneCycles.{one_before, one_behind}, Words.Seats.{only_one, same_self}}
use Rattle.mk_heap.specs.Below.Objects.TurnCycles.{CallIsExact, FreeIsExact, NewIsExact, RunsOneCycle, finishes}
use Rattle.mk_heap.specs.Below.Objects.{TurnCycles.within_turn, TurnCalls.CalledInTurn}
use Rattle.mk_heap.specs.Below.Words.Steps.{are_of}
use Rattle.mk_heap.specs.Dispatching.{Answers, is_beside_turns}

-- What events of the one caller lack, and what is decided among those of its call.

-- Where all events are of the one caller.

seat_is : (c : Config) (away : List Seat) (e : Event) (es : List Event) → OneSeat c away
    → AreMine c away (e ∷ es) → e.seat ≡ Caller 0
seat_is c away e es all own =
    only_one (Caller 0) e.seat
    (has_mine c away (Caller 0 ∷ []) e all (and_parts (is_mine c away e) true (mine_parts c away (e ∷ []) es own).0).0)

never_over : (c : Config) (w : World) (e : Event) (es : List Event) → AreEnabledFrom c w (e ∷ es)
    → e.seat ≡ Caller 0 → is_over e.step ≡ false
unfolding AreEnabledFrom
never_over c w e es on seat = grind arith

pub lacks_over : (c : Config) (w : World) (away : List Seat) (es : List Event) → OneSeat c away
    → AreEnabledFrom c w es → AreMine c away es → has_step is_over es ≡ false
unfolding AreEnabledFrom
lacks_over c w away [] all on own = refl
lacks_over c w away (e ∷ es) all on own =
    or_from (is_over e.step) (has_step is_over es) (never_over c w e es on (seat_is c away e es all own))
    (lacks_over c (world_behind c w e) away es all on.1 (mine_parts c away (e ∷ []) es own).1)

-- What the caller does beside its turns changes no allocation.

own_all : (c : Config) (w : World) (e : Event) (es : List Event) → e.seat ≡ Caller 0
    → are_of is_beside_turns (own_from c (Caller 0) w (e ∷ es))
    ≡ is_beside_turns e.step && are_of is_beside_turns (own_from c (Caller 0) (world_behind c w e) es)
unfolding own_from
own_all c w e es seat = cc (seat, same_self (Caller 0))

pub beside_lacks : (c : Config) (w : World) (away : List Seat) (es : List Event) → OneSeat c away
    → AreMine c away es → are_of is_beside_turns (own_from c (Caller 0) w es) ≡ true → has_step changes es ≡ false
beside_lacks c w away [] all own beside = refl
beside_lacks c w away (e ∷ es) all own beside =
    let parts = and_parts (is_beside_turns e.step) (are_of is_beside_turns
    (own_from c (Caller 0) (world_behind c w e) es)) (sym (own_all c w e es (seat_is c away e es all own)) ∙ beside) in
    or_from (changes e.step) (has_step changes es) (grind arith)
    (beside_lacks c (world_behind c w e) away es all (mine_parts c away (e ∷ []) es own).1 parts.1)

-- Of calls of which one is decided, none is decided after the event that decides it.

pub none_behind_free : (c : Config) (w : World) (xs : List Event) (e : Event) (ys : List Event) (x : Decided)
    → calls_from c w (xs ++ e ∷ ys) ≡ x ∷ [] → list_any is_free_call (call_decided c (left_from c w xs).now e) ≡ true
    → FreesNoneFrom c (left_from c w (xs ++ e ∷ [])) ys
unfolding calls_from left_from
none_behind_free c w xs e ys x is some =
    ap (list_any is_free_call) (ap (λ (v : World). calls_from c v ys) (left_append c w xs (e ∷ []))
    ∙ (one_of_three (calls_from c w xs) (call_decided c (left_from c w xs).now e)
    (calls_from c (world_behind c (left_from c w xs) e) ys) x (sym (calls_append c w xs (e ∷ ys)) ∙ is) some).2)

pub flagged_new : (d ty : ℕ) (full : Bool) (a : Answer) → is_free (flagged (Op.New d ty full) a) ≡ false
flagged_new d ty full x3 = grind arith

-- the lists of a turn that frees
pub freed_list : (xs ys zs gs : List Event) (e : Event)
    → xs ++ ((ys ++ e ∷ zs) ++ gs) ≡ ((xs ++ ys) ++ e ∷ []) ++ (zs ++ gs)
freed_list xs ys zs gs e = simp append_assoc

pub record Joined (on : Bool) (h : HostState) (o : Op) (told : Answer) (q : PassState) (fs : List Event) : Type 0 where
  pub answers : Answers on (pass_for h (Caller 0)) o told q
  pub own : Grows (without_seat (Caller 0) h.pass.seats) h.pass.seen fs
  pub came : Grows q.seats q.seen fs
  pub all : HasAll h.pass.table.config h.pass.seats
  pub history : IsHistory h.pass.table.config fs

module _ {on : Bool} {h : HostState} {o : Op} {told : Answer} {q : PassState} {fs : List Event}
    (j : Joined on h o told q fs) where
  abbrev c : Config
  c = h.pass.table.config

  abbrev es : List Event
  es = h.pass.seen

  abbrev pub elsewhere : List Seat
  elsewhere = without_seat (Caller 0) h.pass.seats

  pub the_rest : OneSeat c elsewhere
  the_rest = all_again c (Caller 0) h.pass.seats j.all

  pub whole : IsHistory c (es ++ j.own.more)
  whole = subst (IsHistory c) j.own.is j.history

  pub enabled : AreEnabledFrom c (left c es) j.own.more
  enabled = ((enabled_in_parts c es j.own.more).0 whole.enabled).1

  pub mine : AreMine c elsewhere j.own.more
  mine = are_mine c (left c es) elsewhere j.own.more enabled j.own.of_others

  -- All that came is what the call made.
  pub only : (xs : List Event) → q.seen ≡ es ++ xs → j.own.more ≡ xs
  only xs seen =
      let rest : j.own.more ≡ xs ++ j.came.more = append_cancel_left es j.own.more (xs ++ j.came.more)
      (sym j.own.is ∙ j.came.is ∙ ap (λ (l : List Event). l ++ j.came.more) seen ∙ append_assoc es xs j.came.more) in
      let none : j.came.more ≡ [] = none_of_others c elsewhere (Caller 0 ∷ []) j.came.more the_rest
      (mine_parts c elsewhere xs j.came.more (subst (AreMine c elsewhere) rest mine)).1
      (subst (λ (p : PassState). AreOfOthers p.seats j.came.more) j.answers.is j.came.of_others) in
      rest ∙ ap (λ (l : List Event). xs ++ l) none ∙ append-nil xs

  -- It is the caller's one call.

  pub called : c.callers ≡ 1 → Calls c es o told fs
  called one = record {
    answer = j.answers.answer;
    is_told = j.answers.is_told;
    entry =
        sym (calls_are_own one j.history) ∙ none_called c (rw j.answers.is at j.came) ∙ j.answers.entry ∙ ap
        (λ (l : List Decided). l ++ entry_of 0 o
        (Some j.answers.answer)) (calls_are_own one (earlier_part_is_history c es j.own.more whole));
  }

  pub decided : (made : Calls c es o told fs) → calls_from c (left c es) j.own.more ≡ entry_of 0 o (Some made.answer)
  decided made =
      append_cancel_left (calls c es) (calls_from c (left c es) j.own.more) (entry_of 0 o (Some made.answer))
      (sym (calls_in_parts c es j.own.more) ∙ sym (ap (calls c) j.own.is) ∙ made.entry)

  -- One under the turn: what came before its turn, what the turn did, and its `give`.

  abbrev pub InTurn : Op → Type 0
  InTurn x = CalledInTurn on (pass_for h (Caller 0)) x j.answers.answer q

  module _ (x : Op) (turn : InTurn x) where
    abbrev pub before : List Event
    before = before_turn turn

    abbrev pub acts : List Event
    acts = turn.ends.turn.behind

    abbrev pub last : List Event
    last = giving turn

    pub in_parts : j.own.more ≡ before ++ (acts ++ last)
    in_parts = only (before ++ (acts ++ last)) (turn_seen turn)

    pub before_lacks : (kind : Step → Bool) → ((y : Option Op) → kind (Step.Take y) ≡ false)
        → has_step kind before ≡ false
    before_lacks kind apart =
        before_turn_lacks turn kind apart elsewhere the_rest
        (mine_parts c elsewhere before (acts ++ last) (subst (AreMine c elsewhere) in_parts mine)).0

    pub exact : CallIsExact on turn.ends.turn (Some x)
    exact = subst (CallIsExact on turn.ends.turn) turn.turn_op turn.ends.exact

  -- What is held over it: no more than before, or than at its end.

  -- After the grant of a New's object nothing is let go.
  new_last : {d ty : ℕ} → InTurn (Op.New d ty false) → LastIn j.own.more
  new_last {d} {ty} turn =
      let o : Op = Op.New d ty false in
      let exactly : NewIsExact turn.ends.turn (object_made c o) = exact o turn in
      subst LastIn (sym (in_parts o turn)) (last_then (before o turn) (acts o turn ++ last o turn)
      (before_lacks o turn is_grant (λ y. refl)) (last_before (acts o turn) (last o turn) exactly.keeps refl refl))

  last_by : (x : Op) → (is_under_turn x ≡ true → InTurn (unflagged x))
      → (is_new x ≡ false → has_step is_grant j.own.more ≡ false) → LastIn j.own.more
  last_by x0 in_turn none = grind (arith, new_last, none_at)

  pub held_at_end : Calls c es o told fs → HoldsMostAtEnd c es fs
  held_at_end made =
      subst (HoldsMostAtEnd c es) (sym j.own.is) (most_then c _ (held_falls_at c) (held_rises_at c) es j.own.more
      (last_by o j.answers.in_turn (others_grant_none c _ j.own.more o made.answer enabled (decided made))))

  -- What ends find in it: of a New, a Free, and a call beside the turn.

  abbrev more : List Event
  more = j.own.more

  overs : has_step is_over more ≡ false
  overs = lacks_over c (left c es) elsewhere more the_rest enabled mine

  module _ {x : Op} (turn : InTurn x) where
    one_in_call : RunsOneCycle (acts x turn) → RunsOneCycle more
    one_in_call one =
        subst RunsOneCycle (sym (in_parts x turn)) (one_behind (before x turn) (acts x turn ++ last x turn)
        (before_lacks x turn is_begin (λ y. refl)) (one_before (acts x turn) (last x turn) one refl))

    module _ (off : on ≡ false) (a : Decided) (decides : calls_from c (left c es) more ≡ a ∷ [])
        (exactly : FreeIsExact on turn.ends.turn) where
      free_tells : EndsTell c es (es ++ more)
      free_tells = elim (cases_Bool (has_step is_begin (acts x turn))) [
        | inl has ↦ let d = (exactly.first (exactly.begins.0 (first_at is_begin (acts x turn) has).at)).due in
            let w : World = left c es in
            let xs : List Event = before x turn ++ d.before in
            let ys : List Event = d.behind ++ last x turn in
            let is : more ≡ (xs ++ d.event ∷ []) ++ ys =
            cc (in_parts x turn, d.is, freed_list (before x turn) d.before d.behind (last x turn) d.event) in
            let there : left c (within_turn turn.ends.turn d.before) ≡ left_from c w xs =
            ap (left c) (within_is turn d.before) ∙ left_in_parts c es xs in
            let freed : decides_freed c (left_from c w xs).now (flight_of (left_from c w xs).now d.event.seat)
            d.event.step ≡ true =
            rw there at d.due.decides in
            let none = none_behind_free c w xs d.event ys a (sym (ap (calls_from c w) (is ∙ append_assoc xs
            (d.event ∷ []) ys)) ∙ decides) (frees_decide c (left_from c w xs).now d.event.seat d.event.step freed) in
            rw is (tells_behind_none c es (xs ++ d.event ∷ []) ys
            (subst (AreEnabledFrom c w) is enabled) (sym (ap (has_step is_over) is) ∙ overs) (lacks_append is_begin xs
            (d.event ∷ []) (lacks_append is_begin (before x turn) d.before (before_lacks x turn is_begin (λ y. refl))
            (lacks_by is_of_cycle is_begin (λ y none'. (or_parts (is_begin y) (finishes y) none').0) d.before
            (exactly.first (exactly.begins.0 (first_at is_begin (acts x turn) has).at)).no_cycle)) (lacks_one is_begin
            d.event (freeing_is is_begin (λ p v. refl) c (left_from c w xs).now (flight_of (left_from c w xs).now
            d.event.seat) d.event.step freed))) (subst RunsOneCycle is (one_in_call (exactly.one off)))
            (rw (← (left_in_parts c es (xs ++ d.event ∷ []))) at none))
        | inr none ↦ tells_none c es more enabled overs (ap (has_step is_begin) (in_parts x turn)
            ∙ lacks_append is_begin (before x turn) (acts x turn ++ last x turn)
            (before_lacks x turn is_begin (λ y. refl)) (lacks_append is_begin (acts x turn) (last x turn) none refl))
      ]

  -- Beside the turn no allocation changes.
  pub beside_leaves : is_under_turn o ≡ false → LeavesAllocations c es fs
  beside_leaves out =
      let beside = j.answers.beside out in
      let steps : are_of is_beside_turns (own_from c (Caller 0) (left c es) j.own.more) ≡ true =
      rw (only beside.more beside.is) beside.steps in
      subst (LeavesAllocations c es) (sym j.own.is) (leaves_then c es j.own.more enabled
      (beside_lacks c (left c es) elsewhere j.own.more the_rest mine steps))

  told_by : (x : Op) (said : Answer) → on ≡ false → (is_under_turn x ≡ true → InTurn (unflagged x))
      → (is_under_turn x ≡ false → LeavesAllocations c es fs)
      → calls_from c (left c es) more ≡ entry_of 0 x (Some said) → EndsTell c es (es ++ more)
  told_by (Op.New d ty full) said off in_turn beside entry =
      let turn : InTurn (Op.New d ty false) = in_turn refl in
      let exactly : NewIsExact turn.ends.turn (object_made c (Op.New d ty false)) = exact (Op.New d ty false) turn in
      tells_ends c es more enabled overs (one_in_call turn exactly.one)
      (ap (list_any is_free_call) entry ∙ ap (λ (b : Bool). b || false) (flagged_new d ty full said))
  told_by (Op.Free r) said off in_turn beside entry =
      free_tells (in_turn refl) off _ entry (exact (Op.Free r) (in_turn refl))
  told_by _ said off in_turn beside entry = subst (EndsTell c es) j.own.is (leaves_tell (beside refl))

  pub ends_told : on ≡ false → Calls c es o told fs → EndsTell c es fs
  ends_told off made =
      subst (EndsTell c es) (sym j.own.is) (told_by o made.answer off j.answers.in_turn beside_leaves (decided made))
