-- Each step of the turn's holder while a cycle marks beside others.
use Rattle.std.specs.List.{list_all}
use Rattle.mk_words.proofs.Below.Laws.Vocabulary.{Bool, Cell, Config, Flight, Holding, IsMarking, List, Moment, None}
use Rattle.mk_words.proofs.Below.Laws.Vocabulary.{Object, Option, Place, Placing, Some, Steady, Step, Word, Words}
use Rattle.mk_words.proofs.Below.Laws.Vocabulary.{World, ℕ, and_from, and_parts, ap, arith, cases_lt, cells_under}
use Rattle.mk_words.proofs.Below.Laws.Vocabulary.{chosen, eqb-true, false, false_from_ne_true, flight_of, found}
use Rattle.mk_words.proofs.Below.Laws.Vocabulary.{get_or-set_other, get_or-set_same, get_or_past, has_gates, header_at}
use Rattle.mk_words.proofs.Below.Laws.Vocabulary.{header_of, histories_keep_lengths, if◌then◌else◌, inl, inr, is_held}
use Rattle.mk_words.proofs.Below.Laws.Vocabulary.{is_marked, is_number_of, length, lt-ltb, marks_place, not}
use Rattle.mk_words.proofs.Below.Laws.Vocabulary.{object_made, or_else, phase_of, place_now, pointed_cell, points_well}
use Rattle.mk_words.proofs.Below.Laws.Vocabulary.{refl, set_past, slice_index, slice_set, subst, sym, true}
use Rattle.mk_words.proofs.Below.Laws.Vocabulary.{world_behind, ◌++◌, ◌<◌, ◌==◌, ◌^◌, ◌||◌, ◌∙◌, ◌≡◌, ◌≢◌}
use Rattle.mk_words.proofs.Below.Laws.{Changes.{headers_kind, is_head, marks_kind}, LastEvents.stands}
use Rattle.mk_words.proofs.Below.Laws.{Wells.{is_well, well_is, wells_from}, PointedCells.pointed_is_cell}
use Rattle.mk_words.proofs.{Doing.does_step, PointedCells.{found_there, looked_for}}
use Rattle.mk_cycle.proofs.{MarksBeside.{gates_at_once, goes_nowhere, still_beside}, Since.{done_step, keeps_step}}
use Rattle.mk_cycle.proofs.{MaySteps.marks_by, MoreMarks.marked_now}
use Rattle.mk_cycle.specs.Beside.{FindsInRoot, GoesBeside, IsBeside, IsOpenToLook, KeepsOtherGates, StaysWell}
use Rattle.mk_cycle.specs.{Beside.{found_well, gives_no_hand, looks_at_root}, Grays.{HandPointsInto, IsInHand}}
use Rattle.mk_cycle.specs.{Grays.TracesReached, Stops.{hand_of, is_root}}
use Rattle.mk_words.specs.TurnSteps.{LooksForCell, MayLookAtHeaders}
use Rattle.mk_core.proofs.PointedPages.{pointed_within}
use Rattle.mk_core.specs.{Effects.hand_given, Frames.steady_of, History.Finding, Conditions.is_word}
use Rattle.mk_core.specs.{MarkingConditions.marks_by_hand, Words.named_word, declared.seats.Source.TheVariants.Root}
use Rattle.mk_cycle.proofs.{Allowed.{in_turn_before, look_allowed, protocol}, OwnSteps.{done_in, keeps_call}}
use Rattle.mk_cycle.proofs.{OwnSteps.keeps_counts, CleaningSteps.calm_keeps, KeptInParts.{gates_behind, held_so}}
use Rattle.mk_cycle.proofs.MayAct.{may_act}
use Rattle.mk_cycle.specs.{TurnKeeps.{KeepsGates, LeavesTurn, unchanged}, EngineLaw.is_register}
use Rattle.mk_cycle.specs.TurnKeeps.{begins_marking}
use Rattle.mk_words.{proofs.Made.{own_before, stands_behind_others}, specs.{Steps.found_by, TurnSteps.{Acts, world_at}}}
use Rattle.mk_words.specs.{States.{IsTurn, PassState, TurnState, call_of, event_of, now_of}, Steps.{Finds, IsEnabledTo}}

-- words that give no hand

pub no_register : (x : Word) → gives_no_hand x ≡ true → is_register x ≡ false
no_register (Word.Reg j r) h = cc
no_register _ h = refl

no_root : (x : Word) → gives_no_hand x ≡ true → is_root x ≡ false
no_root (Word.Reg j r) h = cc
no_root (Word.Global g) h = cc
no_root _ h = refl

no_heap_word : (c : Config) (m : Moment) (x : Word) → gives_no_hand x ≡ true → TracesReached c m (Step.Look x)
no_heap_word c m (Word.Heap n) h = cc
no_heap_word c m _ h = tt

root_is_no_heap_word : (c : Config) (m : Moment) (x : Word) → is_root x ≡ true → TracesReached c m (Step.Look x)
root_is_no_heap_word c m (Word.Heap n) h = cc
root_is_no_heap_word c m _ h = tt

-- Which steps may come.

module _ {p : PassState} (t : IsTurn p) (b : IsBeside p) where
  pub may_look_at_root : (x : Word) → is_word p.table.config x ≡ true → is_root x ≡ true → IsOpenToLook p x
      → IsEnabledTo p (Step.Look x)
  may_look_at_root x range root seen =
      may_act p (Step.Look x) (protocol p t b.free) t.holds b.free.decided refl range (gates x root seen) refl refl
    where
      gates : (y : Word) → is_root y ≡ true → IsOpenToLook p y
          → has_gates p.table.config (now_of p).words p.seat (call_of p) (Step.Look y) ≡ true
      gates (Word.Reg j r) h o = o j r refl
      gates (Word.Global g) h o = refl
      gates _ h o = cc

  pub may_open : (j : ℕ) → j < p.table.config.callers → is_number_of p.seat j ≡ false
      → is_held (now_of p).words j ≡ true → IsEnabledTo p (Step.Open j)
  may_open j lt other held =
      may_act p (Step.Open j) (protocol p t b.free) t.holds b.free.decided refl
      (and_from _ (not _) (lt-ltb j _ lt) (ap not other)) held (ap (λ (n : ℕ). not (n == 3)) b.marking) b.free.gone

  hand_marks : {cell : Cell} (r : HandPointsInto p cell)
      → marks_by_hand p.table.config.pages (now_of p).words (hand_of p) cell.page (2 ^ cell.index) ≡ true
  hand_marks r = grind (arith, marks_by)

  pub may_mark_beside : {cell : Cell} → HandPointsInto p cell → IsEnabledTo p (Step.Mark cell.page (2 ^ cell.index))
  may_mark_beside {cell} r =
      let within = pointed_within p.table.config.pages (now_of p).words r.value cell r.points in
      may_act p (Step.Mark cell.page (2 ^ cell.index)) (protocol p t b.free) t.holds b.free.decided refl
      (lt-ltb cell.page _ within.0) refl (ap (λ (n : ℕ). (n == 1) || (n == 2)) b.marking)
      (ap (λ (x : Bool). x || marks_place (now_of p).words (object_made p.table.config (call_of p).op)
      (place_now p.table.config (now_of p) (call_of p)) cell.page (2 ^ cell.index)) (hand_marks r))

-- One step.
module _ (t u : TurnState) (s : Step) (a : Acts t.pass s u.pass) (b : IsBeside t.pass) where
  abbrev c : Config
  c = t.pass.table.config

  phase_there : phase_of (world_at a.makes).now.words ≡ 1
  phase_there = ap (λ (x : Steady). x.phase) a.turn.steady ∙ b.marking

  pub stays_well : is_head s ≡ false → StaysWell t.pass u.pass
  stays_well none v h =
      let d = stands_behind_others t.pass u.pass s a.makes in
      let early : IsMarking (world_at a.makes).now.words = inl phase_there in
      let others = (d.admitted.turn a.holds).well (inl b.marking) v h in
      ap (λ (w : World). points_well c.pages w.now.words v) a.world ∙ well_is c
      (world_behind c (world_at a.makes) (event_of t.pass s)).now.words v (wells_from c (world_at a.makes).now.words
      (world_behind c (world_at a.makes) (event_of t.pass s)).now.words (headers_kind c (world_at a.makes).now _ s none)
      (marks_kind c (world_at a.makes).now _ s early d.meets) v (is_well c (world_at a.makes).now.words v others))

  pub goes_step : begins_marking s ≡ true → is_head s ≡ false → looks_at_root s ≡ false
      → LeavesTurn unchanged t.pass u.pass → TracesReached c (world_at a.makes).now s → GoesBeside t u
  goes_step kind none plain keeps rule = record {
    table = ap (λ (x : PassState). x.table) a.makes.is;
    beside = still_beside b keeps;
    marks = record {
      does = does_step begins_marking t.pass u.pass s a.makes kind;
      keeps = keeps;
      reached = keeps_step t.pass s u.pass a.makes TracesReached (own_before a.makes) rule;
      found =
          ap (λ (xs : List Finding). list_all (found_well c.pages (now_of u.pass).words) xs)
          (done_step t.pass s u.pass a.makes (own_before a.makes))
          ∙ and_from (not (looks_at_root s) || points_well c.pages (now_of u.pass).words (found_by a.makes)) true
          (ap (λ (x : Bool). not x || points_well c.pages (now_of u.pass).words (found_by a.makes)) plain) refl;
      well = stays_well none;
    };
  }

module _ (t u : TurnState) (b : IsBeside t.pass) where
  pub goes_look : {x : Word} → Acts t.pass (Step.Look x) u.pass → gives_no_hand x ≡ true → GoesBeside t u
  goes_look {x} a plain =
      goes_step t u (Step.Look x) a b refl refl (no_root x plain)
      (calm_keeps t.pass (Step.Look x) u.pass a (in_turn_before a) a.makes.pass.history refl b.free unchanged refl)
      (no_heap_word t.pass.table.config (world_at a.makes).now x plain)

  pub goes_hold : {j : ℕ} → Acts t.pass (Step.Hold j) u.pass → GoesBeside t u
  goes_hold {j} a =
      goes_step t u (Step.Hold j) a b refl refl refl
      (calm_keeps t.pass (Step.Hold j) u.pass a (in_turn_before a) a.makes.pass.history refl b.free unchanged refl) tt

  pub goes_open : {j : ℕ} → Acts t.pass (Step.Open j) u.pass → GoesBeside t u
  goes_open {j} a =
      goes_step t u (Step.Open j) a b refl refl refl
      (calm_keeps t.pass (Step.Open j) u.pass a (in_turn_before a) a.makes.pass.history refl b.free unchanged refl) tt

  pub finds_in_root : {x : Word} (n : ℕ) → Acts t.pass (Step.Look x) u.pass → Finds t.pass (Step.Look x) n u.pass
      → is_root x ≡ true → FindsInRoot x n t u
  finds_in_root {x} n a f root =
      let keeps = calm_keeps t.pass (Step.Look x) u.pass a (in_turn_before a) a.makes.pass.history refl b.free
      unchanged refl in
      record {
        table = ap (λ (y : PassState). y.table) a.makes.is;
        beside = still_beside b keeps;
        does = does_step begins_marking t.pass u.pass (Step.Look x) a.makes refl;
        keeps = keeps;
        reached = keeps_step t.pass (Step.Look x) u.pass a.makes TracesReached (own_before a.makes)
            (root_is_no_heap_word t.pass.table.config (world_at a.makes).now x root);
        done = cc (done_step t.pass (Step.Look x) u.pass f.makes (own_before a.makes), f.finds);
        well = stays_well t u (Step.Look x) a b refl;
      }

-- the hand after a look

module _ {p q : PassState} {x : Word} (a : Acts p (Step.Look x) q) where
  pub root_hand : (n : ℕ) → Finds p (Step.Look x) n q → is_root x ≡ true → IsInHand q n
  root_hand n f root = record {
    hand = record { value = found p.table.config (world_at a.makes).now (event_of p (Step.Look x)); source = Root };
    is = (grind arith) ∙ by x (found p.table.config (world_at a.makes).now (event_of p (Step.Look x))) root;
    value = ap (λ (w : World). named_word w.now.words x) (sym a.world) ∙ found_there p q x n f;
    reached = refl;
  }
    where
      by : (y : Word) (value : ℕ) → is_root y ≡ true → or_else (hand_given p.table.config
          (world_at a.makes).now p.seat y value) (hand_of p) ≡ Some (record { value = value; source = Root })
      by (Word.Reg j r) value h = refl
      by (Word.Global g) value h = refl
      by _ value h = cc

-- The cell into which a value points is looked for.

pub may_look_at_headers : {p : PassState} → IsTurn p → IsBeside p → MayLookAtHeaders p
may_look_at_headers {p} t b page lt = look_allowed p t b.free (Word.Head page) (lt-ltb page _ lt) refl

module _ {value : ℕ} {t u : TurnState} (l : LooksForCell value t u) where
  pub goes_for_cell : IsBeside t.pass → GoesBeside t u
  goes_for_cell b = looked_for (λ (v : TurnState). GoesBeside t v) l (goes_nowhere t b) (λ a. goes_look t u b a refl)

  pub gates_for_cell : KeepsGates t.pass u.pass
  gates_for_cell = grind (arith, looked_for, gates_at_once, gates_behind)

-- A mark by the hand: the cell's page has a header, so it isn't the place of a New.

no_header : (n : ℕ) → n ≡ 0 → cells_under (header_of n) ≡ 0
no_header n z = ap (λ (i : ℕ). cells_under (header_of i)) z

no_place : (w : Words) (o : Object) (place : Option Place) (page value : ℕ) → header_at w page ≢ 0
    → marks_place w o place page value ≡ false
no_place w o None page value ne = refl
no_place w o (Some x) page value ne = grind (arith, false_from_ne_true, and_parts, eqb-true)

module _ (t u : TurnState) (b : IsBeside t.pass)
    {cell : Cell} (a : Acts t.pass (Step.Mark cell.page (2 ^ cell.index)) u.pass) (r : HandPointsInto t.pass cell) where
  points_there : pointed_cell t.pass.table.config.pages (world_at a.makes).now.words.pages r.value ≡ Some cell
  points_there = ap (λ (x : Steady). pointed_cell t.pass.table.config.pages x.pages r.value) a.turn.steady ∙ r.points

  has_header : header_at (world_at a.makes).now.words cell.page ≢ 0
  has_header z =
      let d = stands_behind_others t.pass u.pass (Step.Mark cell.page (2 ^ cell.index)) a.makes in
      let known = stands t.pass.table.config (t.pass.seen ++ a.makes.others) d.history in
      let lt = pointed_is_cell t.pass.table.config (world_at a.makes) known.all.order.laid
      (ap (λ (n : ℕ). n == 4) (ap (λ (x : Steady). x.phase) a.turn.steady ∙ b.marking)) r.value cell points_there in
      let none = no_header (header_at (world_at a.makes).now.words cell.page) z in
      absurd (omega arith)

  mark_keeps : LeavesTurn unchanged t.pass u.pass
  mark_keeps =
      let c : Config = t.pass.table.config in
      let m : Moment = (world_at a.makes).now in
      let f : Flight = flight_of m t.pass.seat in
      let placed : Placing = m.seats.holding.placing in
      let then_placed : Placing = chosen placed (place_now c m f) in
      record {
        call =
            keeps_call t.pass (Step.Mark cell.page (2 ^ cell.index)) u.pass a (own_before a.makes) a.holds
            a.makes.pass.history (λ n. refl)
            (λ n. ap (λ (x : Bool). done_in (record m.seats.holding { placing = if x then then_placed else placed }))
            (no_place m.words (object_made c f.op) (place_now c m f) cell.page (2 ^ cell.index) has_header)) refl;
        steady = ap (λ (x : World). steady_of x) a.world ∙ a.turn.steady;
        counts =
            keeps_counts _ (Step.Mark cell.page (2 ^ cell.index)) _ a (own_before a.makes) a.holds a.makes.pass.history
            (λ n. refl) refl;
      }

  hand_there : (world_at a.makes).now.seats.holding.hand ≡ Some r.in_hand.hand
  hand_there = ap (λ (h : Holding). h.hand) a.holding ∙ r.in_hand.is

  pub goes_mark : GoesBeside t u
  goes_mark = goes_step t u (Step.Mark cell.page (2 ^ cell.index)) a b refl refl refl mark_keeps (record {
    by_hand =
        marks_by t.pass.table.config.pages (world_at a.makes).now.words (world_at a.makes).now.seats.holding.hand
        r.value cell r.in_hand.hand hand_there r.in_hand.value points_there;
    reached = cc (hand_there, r.in_hand.reached);
  })

  pub marked_there : is_marked (now_of u.pass).words cell ≡ true
  marked_there =
      let c : Config = t.pass.table.config in
      let x : Words = (world_at a.makes).now.words in
      let within = pointed_within c.pages x r.value cell points_there in
      ap (λ (v : World). is_marked v.now.words cell) a.world ∙ marked_now x (world_behind c (world_at a.makes)
      (event_of t.pass (Step.Mark cell.page (2 ^ cell.index)))).now.words cell (subst (λ (n : ℕ). cell.page < n)
      (sym (histories_keep_lengths c (t.pass.seen ++ a.makes.others)).marks) within.0) within.1 refl

-- gates

open_at : (gs : List ℕ) (j : ℕ) → (slice_index (slice_set gs j 0) j == 2) ≡ false
open_at gs j = elim (cases_lt j (length gs)) [
  | inl near ↦ ap (λ (n : ℕ). n == 2) (get_or-set_same gs j 0 0 near)
  | inr past ↦ cc (set_past gs j 0 past, get_or_past gs j 0 past)
]

module _ {p : PassState} {s : Step} {q : PassState} (a : Acts p s q) where
  others_behind : (caller : ℕ) → ((j : ℕ) → j ≢ caller → slice_index (world_behind p.table.config (world_at a.makes)
      (event_of p s)).now.words.gates j ≡ slice_index (world_at a.makes).now.words.gates j) → KeepsOtherGates caller p q
  others_behind caller same j lt ne = grind (arith, held_so)

pub hold_others : {p : PassState} {caller : ℕ} {q : PassState} → Acts p (Step.Hold caller) q
    → KeepsOtherGates caller p q
hold_others {p} {caller} {q} a =
    others_behind a caller (λ j ne. get_or-set_other (world_at a.makes).now.words.gates caller j _ 0 ne)

pub open_others : {p : PassState} {caller : ℕ} {q : PassState} → Acts p (Step.Open caller) q
    → KeepsOtherGates caller p q
open_others {p} {caller} {q} a =
    others_behind a caller (λ j ne. get_or-set_other (world_at a.makes).now.words.gates caller j 0 0 ne)

pub opened : {p : PassState} {caller : ℕ} {q : PassState} → Acts p (Step.Open caller) q
    → is_held (now_of q).words caller ≡ false
opened a = grind (arith, open_at)
