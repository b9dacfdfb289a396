-- Each own event of a call that is answered Full leaves all but what is released.
use Rattle.mk_caller.proofs.Below.Laws.Vocabulary.{changed_at, get_or-set_other, holder_may, is_mapped, kinds_of}
use Rattle.mk_caller.proofs.Below.Laws.Vocabulary.{length-map, no_longer_fresh, placed_at, with_released}
use Rattle.mk_caller.proofs.Below.Laws.Basics.{WorldBehind, exists_placed, stands_of, unmapped_is}
use Rattle.mk_caller.proofs.Below.Laws.{GrantMoves.wiped_outside, ImagesBefore.words_are}
use Rattle.mk_caller.proofs.Below.Words.Doing.{not_own}
use Rattle.mk_alloc.proofs.Vocabulary.{Bool, Cell, Config, Event, Flight, Has, IsHistory, List, Makes, Moment, Op}
use Rattle.mk_alloc.proofs.Vocabulary.{Option, OwnLeaveAllButReleased, PassState, PlacedAllocation, Seat, Some, Step}
use Rattle.mk_alloc.proofs.Vocabulary.{TakesTurn, World, ℕ, allocations_by, and_parts, ap, append_assoc, arith, call_of}
use Rattle.mk_alloc.proofs.Vocabulary.{comes_last, event_of, false, flight_of, freed_where_it_stands, frees_none, inl}
use Rattle.mk_alloc.proofs.Vocabulary.{inr, is_pending_free, is_same_seat, left, left_in_parts, length, list_all, made}
use Rattle.mk_alloc.proofs.Vocabulary.{map, never_behind, none_freed, not, not-true, only_seen, or_left, own_before}
use Rattle.mk_alloc.proofs.Vocabulary.{refl, same_seat, slice_index, stands, subst, sym, told_to_images, true}
use Rattle.mk_alloc.proofs.Vocabulary.{true≢false, waits_for, world_behind, world_of, [], ◌++◌, ◌+◌, ◌<◌, ◌∙◌, ◌∷◌, ◌≡◌}
use Rattle.mk_alloc.proofs.{Vocabulary.{◌≢◌, ◌⊎◌}, CalmStretches.{cycles_in_turn, goes_undecided, is_of_cycles}}
use Rattle.mk_alloc.proofs.Stretches.{First, IsOwn, Stretch, Within, call_in, does_stretch, first_of, first_part}
use Rattle.mk_alloc.proofs.{FreedTurns.is_quar, Going.IsCallers, Parts.{Part, seen_after, seen_by}}
use Rattle.mk_core.proofs.RegisterAccesses.{tally_leaves_registers}
use Rattle.mk_core.specs.{History.{AreOfOthers, left_from}, TurnConditions.may_wipe}
use Rattle.mk_alloc.specs.Rooms.{LeavesAllButReleased, OwnLeaveFrom, StaysOrIsReleased}

-- the kinds of the call's own steps

abbrev pub is_of_full : Step → Bool
is_of_full (Step.Take o) = true
is_of_full Step.Give = true
is_of_full Step.Full = true
is_of_full x = is_of_cycles x

-- One step

registers_stay : (c : Config) (w : World) (s : Seat) (x : Step) → is_of_full x ≡ true
    → (WorldBehind c w s x).now.words.registers ≡ w.now.words.registers
registers_stay c w s x3 h = grind (arith, tally_leaves_registers)

globals_stay : (c : Config) (w : World) (s : Seat) (x : Step) → is_of_full x ≡ true
    → (WorldBehind c w s x).now.words.globals ≡ w.now.words.globals
globals_stay c w s x3 h = grind arith

-- allocations

same_each : (xs ys : List PlacedAllocation) → ys ≡ xs → (a : ℕ) → StaysOrIsReleased (placed_at xs a) (placed_at ys a)
same_each xs ys is a = rw is (record { same = refl; released = λ h. h })

each_stays : (c : Config) (m : Moment) (f : Flight) (x : Step) (xs : List PlacedAllocation) → is_of_full x ≡ true
    → (is_quar x ≡ true → is_pending_free f ≡ false) → (a : ℕ)
    → StaysOrIsReleased (placed_at xs a) (placed_at (allocations_by c m f x xs) a)
each_stays c m f (Step.Quar p v) xs h free a =
    same_each xs (allocations_by c m f (Step.Quar p v) xs) (ap (λ (cell : Option Cell). map
    (freed_where_it_stands m.words cell) xs) (frees_none c.pages m.words f p v (free refl)) ∙ none_freed m.words xs) a
each_stays c m f x4 xs h free a = grind (arith, changed_at, or_left, same_each)

count_stays : (c : Config) (m : Moment) (f : Flight) (x : Step) (xs : List PlacedAllocation) → is_of_full x ≡ true
    → length (allocations_by c m f x xs) ≡ length xs
count_stays c m f Step.Grant xs h = cc
count_stays c m f (Step.Quar p v) xs h = length-map xs _
count_stays c m f Step.Begin xs h = length-map xs no_longer_fresh
count_stays c m f Step.Release xs h = length-map xs (with_released c m.words)
count_stays c m f _ xs h = refl

-- and their words

-- A word that is wiped is in no mapped allocation.
module _ (c : Config) (es : List Event) (s : Seat) (x : Step) (history : IsHistory c (es ++ record
    { seat = s; step = x } ∷ [])) where
  abbrev w : World
  w = left c es

  wiped_apart : (n : ℕ) → may_wipe c w.now n ≡ true → (a i : ℕ) → is_mapped c (placed_at w.allocations a) ≡ true
      → i < length (kinds_of c.types (placed_at w.allocations a).ty) → (placed_at w.allocations a).base + i ≢ n
  wiped_apart n may a i mapped lt =
      let last = comes_last c es (record { seat = s; step = x }) history in
      let st = stands c es last.before in
      let n0 = never_behind c es in
      let others = told_to_images c w n0 st.known st.all in
      let parts = and_parts (not (placed_at w.allocations a).released) _ mapped in
      let unreleased = not-true (placed_at w.allocations a).released parts.0 in
      let there = exists_placed w.allocations a unreleased in
      wiped_outside c w n0 st.known st.all.mirrors others (stands_of c w last.before.within_limits others) n may a i
      unreleased (unmapped_is c w n0 st.known st.all.mirrors a there ∙ not-true _ parts.1)
      (subst (λ (k : ℕ). i < k) (sym (words_are c w n0 st.known st.all.mirrors a there)) lt)

  words_stay : is_of_full x ≡ true → (a : ℕ) → is_mapped c (placed_at w.allocations a) ≡ true
      → (i : ℕ) → i < length (kinds_of c.types (placed_at w.allocations a).ty)
      → slice_index (WorldBehind c w s x).now.words.heap ((placed_at w.allocations a).base + i)
      ≡ slice_index w.now.words.heap ((placed_at w.allocations a).base + i)
  words_stay kind a mapped i lt = by x kind (comes_last c es (record { seat = s; step = x }) history).meets.holder
    where
      by : (y : Step) → is_of_full y ≡ true → holder_may c w.now (flight_of w.now s) y ≡ true
          → slice_index (WorldBehind c w s y).now.words.heap ((placed_at w.allocations a).base + i)
          ≡ slice_index w.now.words.heap ((placed_at w.allocations a).base + i)
      by (Step.Wipe n) k may =
          get_or-set_other w.now.words.heap n ((placed_at w.allocations a).base + i) 0 0
          (wiped_apart n may a i mapped lt)
      by x1 k may = grind arith

  pub step_leaves : is_of_full x ≡ true → (is_quar x ≡ true → is_pending_free (flight_of w.now s) ≡ false)
      → LeavesAllButReleased c w (WorldBehind c w s x)
  step_leaves kind free = record {
    registers = registers_stay c w s x kind;
    globals = globals_stay c w s x kind;
    count = count_stays c w.now (flight_of w.now s) x w.allocations kind;
    each = each_stays c w.now (flight_of w.now s) x w.allocations kind free;
    words = words_stay kind;
  }

-- lists

own_append : (c : Config) (s : Seat) (w : World) (xs ys : List Event) → OwnLeaveFrom c s w xs
    → OwnLeaveFrom c s (left_from c w xs) ys → OwnLeaveFrom c s w (xs ++ ys)
unfolding OwnLeaveFrom left_from
own_append c s w [] ys one two = two
own_append c s w (e ∷ es) ys one two = (one.0, own_append c s (world_behind c w e) es ys one.1 two)

others_own : (c : Config) (s : Seat) (seats : List Seat) (w : World) (es : List Event) → Has seats s
    → AreOfOthers seats es → OwnLeaveFrom c s w es
unfolding OwnLeaveFrom AreOfOthers
others_own c s seats w [] has others = tt
others_own c s seats w (e ∷ es) has others = (
  λ same. absurd (true≢false (sym same ∙ not_own seats s e.seat has others.0)),
  others_own c s seats (world_behind c w e) es has others.1,
)

one_own : (c : Config) (s : Seat) (w : World) (e : Event)
    → (is_same_seat s e.seat ≡ true → LeavesAllButReleased c w (world_behind c w e)) → OwnLeaveFrom c s w (e ∷ [])
unfolding OwnLeaveFrom
one_own c s w e h = (h, tt)

waits_own : (p : PassState) (w : World) (es : List Event) → Has p.seats p.seat → list_all (waits_for p) es ≡ true
    → OwnLeaveFrom p.table.config p.seat w es
unfolding OwnLeaveFrom
waits_own p w [] has all = tt
waits_own p w (e ∷ es) has all =
    let parts = and_parts (waits_for p e) (list_all (waits_for p) es) all in (
      λ same. grind (arith, same_each),
      waits_own p (world_behind p.table.config w e) es has parts.1,
    )

-- one after what was seen
last_own : {c : Config} (s : Seat) (es xs : List Event) (e : Event) → OwnLeaveFrom c s (left c es) xs
    → LeavesAllButReleased c (left c (es ++ xs)) (world_behind c (left c (es ++ xs)) e)
    → OwnLeaveFrom c s (left c es) (xs ++ e ∷ [])
last_own {c} s es xs e first last =
    own_append c s (left c es) xs (e ∷ []) first (rw (left_in_parts c es xs) at (one_own c s (left c (es ++ xs)) e
    (λ same. last)))

-- parts of a turn

pub leaves_then : {p q r : PassState} → q ≡ record p { seen = q.seen } → OwnLeaveAllButReleased p q
    → OwnLeaveAllButReleased q r → OwnLeaveAllButReleased p r
leaves_then same one two = grind (arith, left_in_parts, append_assoc, own_append)

pub made_leaves : {p q : PassState} {x : Step} → Makes p x q → is_of_full x ≡ true → is_quar x ≡ false
    → OwnLeaveAllButReleased p q
made_leaves {p} {q} {x} m kind other =
    let c : Config = p.table.config in
    record {
      more = m.others ++ event_of p x ∷ [];
      is = seen_after m;
      each = last_own p.seat p.seen m.others (event_of p x)
          (others_own c p.seat p.seats (world_of p) m.others (own_before m) m.of_others) (step_leaves c
          (p.seen ++ m.others) p.seat x (made p x q m).whole kind (λ quar. absurd (true≢false (sym quar ∙ other))));
    }

pub taking_leaves : {p q : PassState} {o : Op} → Has p.seats p.seat → TakesTurn p (Some o) q
    → OwnLeaveAllButReleased p q
taking_leaves {p} {q} has t =
    let w = t.waits in
    leaves_then (only_seen p t.waited w.more w.is) (record {
      more = w.more;
      is = ap (λ (x : PassState). x.seen) w.is;
      each = waits_own p (world_of p) w.more has w.only;
    }) (made_leaves t.takes.makes refl refl)

-- a part of such steps as cycles are made of
of_full : Within is_of_cycles is_of_full
of_full x h = grind arith

cycles_left : {p : PassState} → IsCallers p → Has p.seats p.seat → (es more : List Event)
    → is_pending_free (call_in p es) ≡ false → Stretch p is_of_cycles es more
    → OwnLeaveFrom p.table.config p.seat (left p.table.config es) more
unfolding OwnLeaveFrom
cycles_left seat own es [] free s = tt
cycles_left {p} seat own es (e ∷ rest) free s = (
  λ same. leaves same f.who,
  rw f.at.behind at (cycles_left seat own (es ++ e ∷ []) rest (ap (λ (x : Flight). is_pending_free x)
      (goes_undecided p seat own free (first_part p is_of_cycles es (e ∷ []) rest s)).call ∙ free) f.on),
)
  where
    c : Config
    c = p.table.config

    f : First p is_of_cycles es e rest
    f = first_of e rest cycles_in_turn own s

    leaves : is_same_seat p.seat e.seat ≡ true → IsOwn p is_of_cycles e ⊎ (e.seat ≢ p.seat)
        → LeavesAllButReleased c (left c es) (world_behind c (left c es) e)
    leaves same (inl mine) =
        step_leaves c es e.seat e.step f.at.whole (of_full e.step mine.1)
        (λ quar. subst (λ (t : Seat). is_pending_free (flight_of (left c es).now t) ≡ false) (sym mine.0) free)
    leaves same (inr ne) = absurd (ne (sym (same_seat p.seat e.seat same)))

pub cycles_leave : {p q : PassState} → IsCallers p → is_pending_free (call_of p) ≡ false → Part is_of_cycles p q
    → OwnLeaveAllButReleased p q
cycles_leave seat free x = grind (arith, seen_by, cycles_left, does_stretch, is_of_cycles)
