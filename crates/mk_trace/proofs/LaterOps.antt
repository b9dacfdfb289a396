-- The operations of events: of one more, and those after the first one.
use Rattle.std.proofs.{Common.get_or-drop, Common.length-take, lemmas.List.drop-append-le, lemmas.List.take-append-le}
use Rattle.std.specs.List.{list_all}
use Rattle.mk_trace.proofs.Vocabulary.{Answer, AreAdmitted, Calls, Config, Event, Op, TraceEvent, begins_full}
use Rattle.mk_trace.proofs.Vocabulary.{calls_of_caller, drop_more, flagged, is_refusal, length-append, length-drop}
use Rattle.mk_trace.proofs.Vocabulary.{never_behind, one_if, ops_of, refused_events, take-append-drop, take_all}
use Rattle.mk_trace.proofs.Vocabulary.{take_more}
use Rattle.mk_heap.proofs.Below.Laws.Vocabulary.{Bool, List, ℕ, and_parts, ap, append-nil, append_assoc, arith, drop}
use Rattle.mk_heap.proofs.Below.Laws.Vocabulary.{false}
use Rattle.mk_heap.proofs.Below.Laws.Vocabulary.{get_or, if◌then◌else◌, length, list_any, subst, suc, sym, take, true}
use Rattle.mk_heap.proofs.Below.Laws.Vocabulary.{zero, []}
use Rattle.mk_heap.proofs.Below.Laws.Vocabulary.{◌++◌, ◌+◌, ◌<◌, ◌||◌, ◌∙◌, ◌∷◌, ◌≡◌, ◌≤◌}
use Rattle.mk_core.specs.Counts.{is_full_answer}
use Rattle.mk_trace.proofs.OneCaller.{CallsAll, begins_alike, calls_first, calls_more, full_as_told, next_may_come}
use Rattle.mk_trace.specs.{Calls.{MayCome, PlaysEvent}, Playing.ops_played}

-- The operations of events, and how many are refused, with one event more.

-- Full or not
pub either_way : (P : Bool → Type 0) → P true → P false → (full : Bool) → P full
either_way x0 one two x3 = grind arith

counted_more : (refused : Bool) (later behind n : ℕ) → behind ≡ later + n
    → (if refused then behind + 1 else behind) ≡ (if refused then later + 1 else later) + n
counted_more refused later behind n is = grind arith

first_refused : (refused : Bool) → (if refused then 0 + 1 else 0) ≡ 0 + one_if refused
first_refused refused = grind arith

-- The answers so far are as many as the operations, so the next event takes those after them.

module _ (x : TraceEvent) (events : List TraceEvent) (answers : List Answer)
    (count : length (ops_played (x ∷ events) answers) ≡ length answers) where
  abbrev own_ops : List Op
  own_ops = ops_of (begins_full answers) x

  abbrev rest : List Answer
  rest = drop (length own_ops) answers

  total : length own_ops + length (ops_played events rest) ≡ length answers
  total = sym (length-append own_ops (ops_played events rest)) ∙ count

  rest_count : length (ops_played events rest) ≡ length rest
  rest_count = omega (arith, total, length-drop (length own_ops) answers)

  within : length own_ops ≤ length answers
  within = omega (arith, total)

  alike : (more : List Answer) → begins_full (answers ++ more) ≡ begins_full answers
  alike more = grind (arith, begins_alike, total)

module _ (event : TraceEvent) (more : List Answer) where
  abbrev next : List Op
  next = ops_of (begins_full more) event

  pub ops-played_more : (events : List TraceEvent) (answers : List Answer) → length (ops_played events answers)
      ≡ length answers → ops_played (events ++ event ∷ []) (answers ++ more) ≡ ops_played events answers ++ next
  ops-played_more [] [] count = append-nil next
  ops-played_more [] (a ∷ answers) count = absurd cc
  ops-played_more (x ∷ events) answers count =
      let own : List Op = own_ops x events answers count in
      let left : List Answer = rest x events answers count in
      ap (λ (full : Bool). ops_of full x ++ ops_played (events ++ event ∷ []) (drop (length (ops_of full x))
      (answers ++ more))) (alike x events answers count more) ∙ ap (λ (l : List Answer). own ++ ops_played
      (events ++ event ∷ []) l) (drop-append-le (length own) answers more (within x events answers count))
      ∙ ap (λ (l : List Op). own ++ l) (ops-played_more events left (rest_count x events answers count))
      ∙ sym (append_assoc own (ops_played events left) next)

  pub refused_more : (events : List TraceEvent) (answers : List Answer)
      → length (ops_played events answers) ≡ length answers → length more ≡ length next → refused_events
      (events ++ event ∷ []) (answers ++ more) ≡ refused_events events answers + one_if (list_any is_refusal more)
  refused_more [] [] count size =
      cc (size, take_all (length more) more (omega arith), first_refused (list_any is_refusal more))
  refused_more [] (a ∷ answers) count size = absurd cc
  refused_more (x ∷ events) answers count size =
      let own : List Op = own_ops x events answers count in
      let left : List Answer = rest x events answers count in
      let fits = within x events answers count in
      let later = refused_events (events ++ event ∷ []) in
      ap (λ (full : Bool). if list_any is_refusal (take (length (ops_of full x)) (answers ++ more)) then later (drop
      (length (ops_of full x)) (answers ++ more)) + 1 else later (drop (length (ops_of full x)) (answers ++ more)))
      (alike x events answers count more) ∙ ap (λ (l : List Answer). if list_any is_refusal l then later (drop (length
      own) (answers ++ more)) + 1 else later (drop (length own) (answers ++ more))) (take-append-le (length own) answers
      more fits) ∙ counted_more (list_any is_refusal (take (length own) answers)) (refused_events events left) (later
      (drop (length own) (answers ++ more))) _ (ap later (drop-append-le (length own) answers more fits) ∙ refused_more
      events left (rest_count x events answers count) size)

-- The operations of an event after its first one, called one by one.

-- An event's operations are its first one and those after it.

abbrev BeginsWith : Op → TraceEvent → Bool → Type 0
BeginsWith o event full = ops_of full event ≡ o ∷ drop 1 (ops_of full event)

first_of : (o : Op) (a : Answer) (event : TraceEvent) → ops_of false event ≡ o ∷ drop 1 (ops_of false event)
    → ops_of (is_full_answer a) event ≡ flagged o a ∷ drop 1 (ops_of (is_full_answer a) event)
first_of o a x2 is = grind (arith, either_way)

-- The operation is noted as it is, whatever its answer.
abbrev IsPlain : Op → Type 0
IsPlain o = (a : Answer) → flagged o a ≡ o

abbrev is_plain : Op → Bool
is_plain (Op.New d ty full) = false
is_plain _ = true

are_plain : (ops : List Op) (i : ℕ) (o : Op) → list_all is_plain ops ≡ true → i < length ops → o ≡ get_or ops i o
    → IsPlain o
are_plain [] i o plain lt at = absurd (omega (arith, lt))
are_plain (x ∷ ops) zero o plain lt at = grind (arith, and_parts, is_plain)
are_plain (x ∷ ops) (suc i) o plain lt at =
    are_plain ops i o (and_parts (is_plain x) (list_all is_plain ops) plain).1 (omega (arith, lt)) at

module _ (c : Config) (es : List Event) (full : Bool) (event : TraceEvent) (i : ℕ) (o : Op)
    (within : i < length (drop 1 (ops_of full event))) (at : o ≡ get_or (drop 1 (ops_of full event)) i o) where
  abbrev ops : List Op
  ops = ops_of full event

  inside : i + 1 < length ops
  inside = omega (arith, within, length-drop 1 ops)

  here : get_or ops (i + 1) o ≡ o
  here = ap (λ (n : ℕ). get_or ops n o) (omega arith) ∙ sym (get_or-drop 1 ops i o) ∙ sym at

  plain : IsPlain o
  plain = are_plain (drop 1 ops) i o (grind arith) within at

  pub later_call : {refused : Bool} {fs : List Event} {told : Answer} {gs : List Event}
      → CallsAll c es full (take (i + 1) ops) refused fs → Calls c fs o told gs
      → CallsAll c es full (take (i + 1 + 1) ops) (refused || is_refusal told) gs
  later_call {refused} {fs} {told} {gs} h g =
      rw (ap (λ (x : Op). take (i + 1) ops ++ x ∷ []) (plain g.answer) ∙ sym (take_more ops (i + 1) o inside ∙ ap
      (λ (x : Op). take (i + 1) ops ++ x ∷ []) here)) at (calls_more h g (omega
      (arith, length-take (i + 1) ops, inside)))

  pub later_may_come : {refused : Bool} {fs : List Event} → CallsAll c es full (take (i + 1) ops) refused fs
      → AreAdmitted c.globals (never_behind c es) (calls_of_caller ops) → MayCome c fs o
  later_may_come h admitted =
      next_may_come o (drop (i + 1 + 1) ops) h (subst (λ (l : List Op). AreAdmitted c.globals (never_behind c es)
      (calls_of_caller l)) (sym (take-append-drop (i + 1) ops) ∙ ap (λ (l : List Op). take (i + 1) ops ++ l) (
      (drop_more ops (i + 1) o inside) ∙ ap (λ (x : Op). x ∷ drop (i + 1 + 1) ops) here)) admitted)

-- all of them
pub later_all : {c : Config} {es : List Event} {full : Bool} (event : TraceEvent)
    (i : ℕ) {refused : Bool} {fs : List Event} → length (drop 1 (ops_of full event)) ≤ i → CallsAll c es full
    (take (i + 1) (ops_of full event)) refused fs → CallsAll c es full (ops_of full event) refused fs
later_all {c} {es} {full} event i {refused} {fs} past h =
    rw (take_all (i + 1) (ops_of full event) (omega (arith, past, length-drop 1 (ops_of full event)))) at h

pub begun : {c : Config} {es : List Event} (event : TraceEvent) {o : Op} {told : Answer} {fs : List Event}
    → ops_of false event ≡ o ∷ drop 1 (ops_of false event) → Calls c es o told fs
    → CallsAll c es (is_full_answer told) (take (0 + 1) (ops_of (is_full_answer told) event)) (is_refusal told) fs
begun event {o} {told} is g = grind (arith, full_as_told, first_of, calls_first)

-- What the calls of an event come to.
pub plays_event : {c : Config} {es : List Event} (event : TraceEvent) {refused : Bool} {fs : List Event} {full : Bool}
    → CallsAll c es full (ops_of full event) refused fs → PlaysEvent c es event refused fs
plays_event event h = grind arith

-- What the loop knows: the first operation was called, and this many of those after it.
pub record AreCalled (c : Config) (es : List Event) (event : TraceEvent) (items : List Op) (i : ℕ) (refused : Bool)
    (fs : List Event) : Type 0 where
  pub full : Bool
  pub items_are : items ≡ drop 1 (ops_of full event)
  pub calls : CallsAll c es full (take (i + 1) (ops_of full event)) refused fs

module _ (c : Config) (es : List Event) (event : TraceEvent) (items : List Op) (i : ℕ) (refused : Bool)
    (fs : List Event) (h : AreCalled c es event items i refused fs) (o : Op) (within : i < length items)
    (here : o ≡ get_or items i o) where
  inside_later : i < length (drop 1 (ops_of h.full event))
  inside_later = subst (λ (l : List Op). i < length l) h.items_are within

  here_later : o ≡ get_or (drop 1 (ops_of h.full event)) i o
  here_later = here ∙ ap (λ (l : List Op). get_or l i o) h.items_are

  pub may_come_now : ((full : Bool) → AreAdmitted c.globals (never_behind c es) (calls_of_caller (ops_of full event)))
      → MayCome c fs o
  may_come_now admitted =
      later_may_come c es h.full event i o inside_later here_later h.calls (admitted h.full)

  pub called_one_more : (told : Answer) (gs : List Event) (now : Bool) → Calls c fs o told gs
      → now ≡ refused || is_refusal told → AreCalled c es event items (i + 1) now gs
  called_one_more told gs now g is = grind (arith, later_call, inside_later, here_later)

pub called_all : {c : Config} {es : List Event} {event : TraceEvent} {items : List Op} {i : ℕ} {refused : Bool}
    {fs : List Event} → AreCalled c es event items i refused fs → length items ≤ i → PlaysEvent c es event refused fs
called_all {event} {i} h past =
    plays_event event (later_all event i (subst (λ (l : List Op). length l ≤ i) h.items_are past) h.calls)

pub called_first : {c : Config} {es : List Event} (event : TraceEvent) {o : Op} {told : Answer} {fs : List Event}
    (full refused : Bool) (items : List Op)
    → ops_of false event ≡ o ∷ drop 1 (ops_of false event) → Calls c es o told fs → full ≡ is_full_answer told
    → refused ≡ is_refusal told → items ≡ drop 1 (ops_of full event) → AreCalled c es event items 0 refused fs
called_first {c} {es} event {told} {fs} full refused items first g is_full is_refused are = grind (arith, begun)
