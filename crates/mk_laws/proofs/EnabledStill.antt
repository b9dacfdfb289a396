-- An event that is enabled after a list is enabled after what others did since.
use Rattle.std.proofs.Common.{bit_and}
use Rattle.mk_laws.proofs.Vocabulary.{AreOfOthers, Bool, Caller, Cell, Config, Event, Flight, Holding, Host, Invariant}
use Rattle.mk_laws.proofs.Vocabulary.{IsEnabled, IsHistory, IsLeft, IsWordOfMapped, List, Marker, MeetsAll, Moment}
use Rattle.mk_laws.proofs.Vocabulary.{NeverState, Object, Place, PlacedAllocation, Seat, Steady, Step, TurnIsLeft, Word}
use Rattle.mk_laws.proofs.Vocabulary.{Words, World, Written, ℕ, all_below, and_from, and_parts, ap, arith, carves}
use Rattle.mk_laws.proofs.Vocabulary.{cases_Bool, cell_words, comes_next, earlier_part_is_history, empties}
use Rattle.mk_laws.proofs.Vocabulary.{enabled_meets, eq-eqb, eqb-false, eqb-true, first_word, flight_of, frees}
use Rattle.mk_laws.proofs.Vocabulary.{gives_back, has_bit, has_bit_without, has_closed_page, has_gates, has_phase}
use Rattle.mk_laws.proofs.Vocabulary.{header_made, held_by_pages, holder_may, host_has_turn, if◌then◌else◌, inl, inr}
use Rattle.mk_laws.proofs.Vocabulary.{is_decided, is_held, is_marked_first, is_next_header, is_number_of, is_phase}
use Rattle.mk_laws.proofs.Vocabulary.{is_released_cell, is_run_gone, is_used_once, left, ltb-true, may_turn_black}
use Rattle.mk_laws.proofs.Vocabulary.{ne_eqb, none_attends, not, not-true, object_made, or_left, or_right}
use Rattle.mk_laws.proofs.Vocabulary.{others_are_held, pages_made, phase_of, place_now, placed_at, refl, slice_index}
use Rattle.mk_laws.proofs.Vocabulary.{sym, takes_cell, target, true, true≢false, unmaps, used_at, words_are_zero, []}
use Rattle.mk_laws.proofs.Vocabulary.{◌&&◌, ◌++◌, ◌+◌, ◌-◌, ◌<◌, ◌==◌, ◌||◌, ◌∙◌, ◌∷◌, ◌≡◌, ◌≢◌}
use Rattle.mk_laws.proofs.Basics.{Behind, KnownWorld, Meets, actor_of, along_others, mapped_stays, reg_keeps}
use Rattle.mk_laws.proofs.{Basics.tally_keeps, FramesHolders.{Asks, OfHolder, OfNone, asks, holds_is}}
use Rattle.mk_laws.proofs.{LastEvents.{comes_last, stands}, Tests.{all_below_on, and_on, if_on, none_from, or_on}}
use Rattle.mk_laws.proofs.{Tests.{some_on, without_on}, Actors.none_at, CoveredWords.has_cell, ForImages.laid_out}
use Rattle.mk_laws.proofs.{InvariantHistories.told_to_images, ProtocolFrames.{other_seat, others_leave}}
use Rattle.mk_laws.proofs.RunsStill.{holder_finds}
use Rattle.mk_core.proofs.{Conditions.meets_enabled, PageSteps.{gives_back_is, left_bits}}
use Rattle.mk_core.specs.MarkingConditions.{blackens, may_black, may_close}
use Rattle.mk_core.specs.TurnConditions.{are_wiped, is_in_gone_run}
use Rattle.mk_core.specs.{TurnConditions.{may_use, takes_snapshot}, Cells.are_left_unmarked, Frames.written_of}
use Rattle.mk_core.specs.{NewPlaces.bits_made, Conditions.is_in_order}

-- The gates that a step of the turn's holder asks for are as it asks, whatever others did since.

module _ (c : Config) {w v : World} (kept : TurnIsLeft w v) where
  pub phase_same : phase_of v.now.words ≡ phase_of w.now.words
  phase_same = ap (λ (s : Steady). s.phase) kept.steady

  pub pages_same : v.now.words.pages ≡ w.now.words.pages
  pages_same = ap (λ (s : Steady). s.pages) kept.steady

  held_on : (j : ℕ) → is_held w.now.words j ≡ true → is_held v.now.words j ≡ true
  held_on j h = eq-eqb _ 2 (kept.held_gates j (eqb-true _ 2 h))

  free_on : (j : ℕ) → not (is_held w.now.words j) ≡ true → not (is_held v.now.words j) ≡ true
  free_on j h = ap not (ne_eqb _ 2 (kept.other_gates j (eqb-false _ 2 (not-true _ h))))

  pub others_on : (s : Seat) → others_are_held c.callers w.now.words s ≡ true
      → others_are_held c.callers v.now.words s ≡ true
  others_on s h = all_below_on c.callers (λ j. is_number_of s j || is_held w.now.words j)
      (λ j. is_number_of s j || is_held v.now.words j) (λ j lt. or_on _ _ (is_number_of s j) _ (λ e. e) (held_on j)) h

  two_or : (s : Seat) → (not (is_phase w.now.words 2) || others_are_held c.callers w.now.words s) ≡ true
      → (not (is_phase v.now.words 2) || others_are_held c.callers v.now.words s) ≡ true
  two_or s h = or_on _ _ _ _ (λ e. rw phase_same e) (others_on s) h

  pub gates_on : (s : Seat) (f : Flight) (x : Step) → has_gates c w.now.words s f x ≡ true
      → has_gates c v.now.words s f x ≡ true
  gates_on s f Step.Give h = grind (arith, all_below_on, free_on)
  gates_on s f (Step.Look (Word.Reg j r)) h = or_on _ _ (is_number_of s j) _ (λ e. e) (held_on j) h
  gates_on s f (Step.Head p n) h = or_on _ _ _ _ (λ e. e) (others_on s) h
  gates_on s f (Step.Quar p n) h = or_on _ _ _ _ (λ e. rw pages_same e) (others_on s) h
  gates_on s f x h = grind (arith, free_on, held_on, others_on, two_or)

module _ (c : Config) (w v : World) (kept : TurnIsLeft w v) (own : v.now.seats.holding ≡ w.now.seats.holding) where
  abbrev a : Words
  a = w.now.words

  abbrev b : Words
  b = v.now.words

  phase : phase_of b ≡ phase_of a
  phase = phase_same c kept

  pages : b.pages ≡ a.pages
  pages = pages_same c kept

  phase_is : (n : ℕ) → is_phase b n ≡ is_phase a n
  phase_is n = rw phase

  -- Outside the phases of marking and closing no mark changes.
  quiet : (n : ℕ) → phase_of a ≡ n → n ≢ 1 → n ≢ 2 → (b.marks ≡ a.marks) × (b.blacks ≡ a.blacks)
  quiet n is n1 n2 = kept.unmarked (λ e. n1 (sym is ∙ e)) (λ e. n2 (sym is ∙ e))

  quiet_at_4 : is_phase a 4 ≡ true → b.marks ≡ a.marks
  quiet_at_4 four = (quiet 4 (eqb-true (phase_of a) 4 four) (λ e. absurd (omega arith)) (λ e. absurd (omega arith))).0

  place_same : (f : Flight) → place_now c v.now f ≡ place_now c w.now f
  place_same f = rw own (rw pages)

  -- `head`

  marked_on : (o : Object) (place : Place) → is_marked_first a o place ≡ true → is_marked_first b o place ≡ true
  marked_on o place h = or_on _ _ (not (is_phase b 1)) _ (λ e. ap not (phase_is 1) ∙ e) (without_on (bits_made o) _
      _ (kept.marks_grow place.page)) h

  carves_on : (f : Flight) (p n : ℕ) → carves a (object_made c f.op) (place_now c w.now f) p n ≡ true
      → carves b (object_made c f.op) (place_now c v.now f) p n ≡ true
  carves_on f p n h =
      let o : Object = object_made c f.op in
      rw (place_same f) (some_on (λ (x : Place). is_next_header a x.page (pages_made o)
      (header_made o) p n && is_marked_first a o x) (λ (x : Place). is_next_header b x.page (pages_made o)
      (header_made o) p n && is_marked_first b o x) _ (λ x q. and_on _ _ _ _ (λ e. rw pages e) (marked_on o x) q) h)

  empties_same : (p n : ℕ) → empties b p n ≡ empties a p n
  empties_same p n = grind (arith, pages)

  -- `used`

  abbrev gives_unmarked : Words → ℕ → ℕ → Bool
  gives_unmarked x p n = (bit_and n (used_at x p) == n) && are_left_unmarked x p (used_at x p - n)

  unmarked_same : (p n : ℕ) → b.marks ≡ a.marks → gives_unmarked b p n ≡ gives_unmarked a p n
  unmarked_same p n marks = rw (marks, pages, ap (λ (s : Steady). s.snapshot) kept.steady)

  used_on : (f : Flight) (p n : ℕ) → (is_phase a 4 ≡ true → gives_back a p n ≡ true
      → are_wiped b p (used_at b p - n) ≡ true) → may_use c w.now f p n ≡ true → may_use c v.now f p n ≡ true
  used_on f p n wiped h =
      let o : Object = object_made c f.op in
      let first : Bool = not (is_used_once w.now.seats.holding.placing) in
      rw phase (if_on (is_phase a 4) _ _ (gives_back b p n) _ (λ four e. and_on (gives_unmarked a p n) _
      (gives_unmarked b p n) _ (λ u. unmarked_same p n (quiet_at_4 four) ∙ u) (λ u. wiped four e) e) (λ off e. and_on
      first _ _ (takes_cell b o (place_now c v.now f) p n) (λ u. rw own u) (λ u. rw (place_same f) (rw pages u)) e) h)

  -- `quar`

  frees_same : (f : Flight) (p n : ℕ) → frees b (target c.pages b f) p n ≡ frees a (target c.pages a f) p n
  frees_same f p n = rw (pages, ap (λ (s : Steady). s.freed) kept.steady, ap (λ (s : Steady). s.snapshot) kept.steady)

  snapshot_same : (p n : ℕ) → takes_snapshot b p n ≡ takes_snapshot a p n
  snapshot_same p n = grind arith

  -- `mark`, `wipe`, `full`, `give`

  released_on : (cell : Cell) → is_released_cell a cell ≡ true → is_released_cell b cell ≡ true
  released_on cell h = grind (arith, and_parts, quiet_at_4)

  -- the phase's steps

  -- In the stop no marker begins to attend.
  none_on : phase_of a ≡ 2 → none_attends w.now.seats.markers ≡ true → none_attends v.now.seats.markers ≡ true
  none_on two none = none_from v.now.seats.markers (kept.stopped two (λ k. none_at w.now.seats.markers k none)).0

  stopped : phase_of a ≡ 2 → none_attends w.now.seats.markers ≡ true → (b.marks ≡ a.marks) × (b.blacks ≡ a.blacks)
  stopped two none = let x = kept.stopped two (λ k. none_at w.now.seats.markers k none) in (x.1, x.2)

  close_on : phase_of a ≡ 2 → written_of v ≡ written_of w → may_close c w.now ≡ true → may_close c v.now ≡ true
  close_on two written h =
      let parts = and_parts (none_attends w.now.seats.markers && all_below c.pages (has_closed_page a)) _ h in
      let none = (and_parts _ _ parts.0).0 in
      let q = stopped two none in
      let dirty = ap (λ (x : Written). x.dirty) written in
      let registers = ap (λ (x : Written). x.registers) written in
      let globals = ap (λ (x : Written). x.globals) written in
      rw (none_on two none ∙ sym none, q.0, q.1, dirty, registers, globals, pages) h

  black_on : (p n : ℕ) → phase_of a ≡ 2 → written_of v ≡ written_of w → may_black c w.now p n ≡ true
      → may_black c v.now p n ≡ true
  unfolding may_turn_black
  black_on p n two written h =
      let none = (and_parts _ (not (all_below 32 (λ k. not (blackens c.pages a p n k)))) h).0 in
      rw (none_on two none ∙ sym none, (stopped two none).0, ap (λ (x : Written). x.heap) written, pages) h

  -- all of them
  pub holder_on : (s : Seat) (f : Flight) (x : Step) → has_gates c a s f x ≡ true → has_phase (phase_of a) x ≡ true
      → (others_are_held c.callers a s ≡ true → written_of v ≡ written_of w)
      → (is_run_gone a w.now.seats.holding.freed ≡ true → is_run_gone b w.now.seats.holding.freed ≡ true)
      → ((p n : ℕ) → is_phase a 4 ≡ true → gives_back a p n ≡ true → are_wiped b p (used_at b p - n) ≡ true)
      → holder_may c w.now f x ≡ true → holder_may c v.now f x ≡ true
  holder_on s f Step.Give gates at written gone wiped h =
      let run : Bool = is_run_gone a w.now.seats.holding.freed in
      let run' : Bool = is_run_gone b v.now.seats.holding.freed in
      and_on _ _ _ _ (λ e. and_on _ _ _ _ (λ d. and_on _ run (is_decided f.stage) run' (λ u. u)
      (λ u. ap (λ (x : Holding). is_run_gone b x.freed) own ∙ gone u) d)
      (λ u. ap (λ (s : Steady). s.held == held_by_pages (record a { pages = s.pages })) kept.steady ∙ u) e)
      (λ e. ap (λ (s : Steady). s.fresh == s.fresh_words) kept.steady ∙ e) h
  holder_on s f (Step.Head p n) gates at written gone wiped h =
      let o : Object = object_made c f.op in
      ap (λ i. if i == 4 then empties b p n else carves b o (place_now c v.now f) p n
      || unmaps b v.now.seats.holding.freed p n) phase ∙ if_on (is_phase a 4) (empties a p n) _ (empties b p n) _
      (λ four e. empties_same p n ∙ e) (λ off e. or_on _ _ _ _ (carves_on f p n) (λ u. rw own (rw pages u)) e) h
  holder_on s f (Step.Used p n) gates at written gone wiped h = used_on f p n (wiped p n) h
  holder_on s f (Step.Quar p n) gates at written gone wiped h =
      grind (arith, phase, if_on, quiet_at_4, or_on, frees_same, snapshot_same, pages)
  holder_on s f Step.Grant gates at written gone wiped h = ap (λ (x : Holding). is_used_once x.placing) own ∙ h
  holder_on s f (Step.Open j) gates at written gone wiped h = ap (λ (x : Holding). is_run_gone b x.freed) own ∙ gone h
  holder_on s f (Step.Mark p n) gates at written gone wiped h = rw (own, pages, phase) h
  holder_on s f (Step.Wipe n) gates at written gone wiped h = or_on _ _ _ (is_in_gone_run b v.now.seats.holding.freed n)
      (λ e. rw pages (some_on _ _ _ released_on e)) (λ e. rw own (rw pages e)) h
  holder_on s f Step.Full gates at written gone wiped h = rw pages (rw own h)
  holder_on s f Step.Close gates at written gone wiped h = close_on (eqb-true (phase_of a) 2 at) (written gates) h
  holder_on s f (Step.Black p n) gates at written gone wiped h =
      black_on p n (eqb-true (phase_of a) 2 at) (written gates) h
  holder_on s f Step.Over gates at written gone wiped h =
      ap (λ (s : Steady). (s.turn == 1 + c.callers) && (s.phase == 0)) kept.steady ∙ h
  holder_on s f x gates at written gone wiped h =
      grind (arith, quiet, or_left, phase_is, eqb-true, and_parts, or_right, none_on, stopped, pages)

-- The words of released cells are in no mapped allocation: what is wiped stays so.

module _ {c : Config} {w : World} (v : World) {n : NeverState} (known : KnownWorld c w) (all : Invariant c w n)
    (pages : v.now.words.pages ≡ w.now.words.pages) (outside : (i : ℕ) → (IsWordOfMapped c w.allocations i → ⊥)
    → slice_index v.now.words.heap i ≡ slice_index w.now.words.heap i) where
  -- no word of a cell that is given back is one of a mapped allocation
  released_word : (p value k i : ℕ) → is_phase w.now.words 4 ≡ true → gives_back w.now.words p value ≡ true
      → has_bit (used_at w.now.words p - value) k ≡ true → i < cell_words w.now.words (record { page = p; index = k })
      → IsWordOfMapped c w.allocations (first_word w.now.words (record { page = p; index = k }) + i) → ⊥
  released_word p value k i four back bit li m =
      let a : PlacedAllocation = placed_at w.allocations m.number in
      let u = mapped_stays c a m.mapped in
      let l = laid_out c w known all.order.laid m.number u in
      let at = left_bits w.now.words p _ k (gives_back_is w.now.words p value back).left bit in
      let lk = all.order.known p k (all.order.quarantined.within p k at.0) in
      let cell = has_cell c w all.order.runs p k (first_word w.now.words (record { page = p; index = k }) + i) lk
      (omega arith) (omega arith) known.limits l.stands l.headers m.word in
      let left : is_released_cell w.now.words (record { page = p; index = k }) ≡ true =
      and_from _ _ four (has_bit_without _ _ k ∙ and_from _ _ at.0 (ap not at.1)) in
      true≢false (sym left ∙ ap (is_released_cell w.now.words) (sym cell)
      ∙ (told_to_images c w n known all).kept m.number u)

  -- The cell's words are 0, if its bit is one of these.
  abbrev wiped_in : Words → ℕ → ℕ → ℕ → Bool
  wiped_in x p bits k = not (has_bit bits k) || words_are_zero x (first_word w.now.words
      (record { page = p; index = k })) (cell_words w.now.words (record { page = p; index = k }))

  pub wiped_still : (p value : ℕ) → is_phase w.now.words 4 ≡ true → gives_back w.now.words p value ≡ true
      → are_wiped v.now.words p (used_at v.now.words p - value) ≡ true
  wiped_still p value four back =
      let bits : ℕ = used_at w.now.words p - value in
      rw pages (all_below_on 32 (wiped_in w.now.words p bits) (wiped_in v.now.words p bits) (λ k lt. by k)
      (gives_back_is w.now.words p value back).wiped)
    where
      by : (k : ℕ) → wiped_in w.now.words p (used_at w.now.words p - value) k ≡ true
          → wiped_in v.now.words p (used_at w.now.words p - value) k ≡ true
      by k e = elim (cases_Bool (has_bit (used_at w.now.words p - value) k)) [
        | inr out ↦ or_left _ _ (ap not out)
        | inl bit ↦
            let first : ℕ = first_word w.now.words (record { page = p; index = k }) in
            let count : ℕ = cell_words w.now.words (record { page = p; index = k }) in
            or_right _ _ (all_below_on count (λ i. slice_index w.now.words.heap (first + i) == 0)
            (λ i. slice_index v.now.words.heap (first + i) == 0)
            (λ i li z. ap (λ j. j == 0) (outside (first + i) (released_word p value k i four back bit li)) ∙ z)
            (ap (λ b. not b || words_are_zero w.now.words first count) (sym bit) ∙ e))
      ]

-- Nobody but the host takes the turn for the host.

turn_after : (c : Config) (m : Moment) (seat : Seat) (x : Step) → Meets c m seat x → seat ≢ Host
    → m.words.turn ≢ 1 + c.callers → (Behind c m seat x).words.turn ≢ 1 + c.callers
turn_after c m seat x3 h ne out = grind (arith, ltb-true, reg_keeps, tally_keeps)

host_stays_out : {c : Config} (es more : List Event) → IsHistory c (es ++ more) → AreOfOthers (Host ∷ []) more
    → (left c es).now.words.turn ≢ 1 + c.callers → (left c (es ++ more)).now.words.turn ≢ 1 + c.callers
host_stays_out {c} es more h others = along_others c (Host ∷ []) (λ xs ys. (left c xs).now.words.turn ≢ 1 + c.callers
    → (left c ys).now.words.turn ≢ 1 + c.callers) (λ xs out. out) (λ xs ys zs f g out. g (f out))
    (λ xs e whole other out. rw (comes_last c xs e whole).leaves (turn_after c (left c xs).now e.seat
    e.step (comes_last c xs e whole).meets (other_seat Host e.seat other) out)) es more h others

-- the order of steps
order_on : (c : Config) (m n : Moment) (s : Seat) (x : Step) → flight_of n s ≡ flight_of m s
    → (s ≡ Host → host_has_turn c n ≡ host_has_turn c m) → is_in_order c m s x ≡ true → is_in_order c n s x ≡ true
order_on c m n (Caller k) x flight host h = ap (λ (f : Flight). comes_next f.stage f.op x) flight ∙ h
order_on c m n (Marker k) x flight host h = refl
order_on c m n Host x flight host h = rw (host refl) h

module _ (c : Config) (es more : List Event) (e : Event) (h : IsHistory c (es ++ more))
    (others : AreOfOthers (e.seat ∷ []) more) where
  abbrev w : World
  w = left c es

  abbrev v : World
  v = left c (es ++ more)

  pub before : IsHistory c es
  before = earlier_part_is_history c es more h

  pub left_to : IsLeft c e.seat es (es ++ more)
  left_to = others_leave c es more e.seat h.within_limits h.enabled others

  host_same : e.seat ≡ Host → host_has_turn c v.now ≡ host_has_turn c w.now
  host_same is = grind (arith, left_to, eq-eqb, eqb-true, ne_eqb, host_stays_out, eqb-false)

  -- what is asked only of the turn's holder
  record AsksStill : Type 0 where
    gates : has_gates c v.now.words e.seat (flight_of v.now e.seat) e.step ≡ true
    phase : has_phase (phase_of v.now.words) e.step ≡ true
    holder : holder_may c v.now (flight_of v.now e.seat) e.step ≡ true

  asks_still : MeetsAll c w.now e → Asks c w.now e.seat e.step → AsksStill
  asks_still meets (OfNone none) =
      let a = none v.now (flight_of v.now e.seat) (phase_of v.now.words) in
      record { gates = a.gates; phase = a.phase; holder = a.holder }
  asks_still meets (OfHolder t) =
      let st = stands c es before in
      let holds = holds_is c w.now e.seat st.known.now.orderly t in
      let turn = (left_to.turn holds).0 in
      let finds = holder_finds c e.seat es more h others holds in
      let pages = pages_same c turn in
      record {
        gates = rw left_to.own.flight (gates_on c turn e.seat (flight_of w.now e.seat) e.step meets.gates);
        phase = rw (phase_same c turn) meets.phase;
        holder = rw left_to.own.flight (holder_on c w v turn finds.holding e.seat
            (flight_of w.now e.seat) e.step meets.gates meets.phase (λ all. left_to.stop (holds, all)) finds.gone
            (λ p n four back. wiped_still v st.known st.all pages finds.outside p n four back) meets.holder);
      }

  pub enabled_still : IsEnabled c w.now e → IsEnabled c v.now e
  enabled_still on =
      let meets = enabled_meets c w.now e on in
      let still = asks_still meets (asks (actor_of c w.now e.seat e.step
      (stands c es before).known.now.orderly meets)) in
      meets_enabled c v.now e (record {
        seat = meets.seat;
        kind = meets.kind;
        order = order_on c w.now v.now e.seat e.step left_to.own.flight host_same meets.order;
        range = rw left_to.own.flight meets.range;
        gates = still.gates;
        phase = still.phase;
        marker = rw left_to.own.marker meets.marker;
        holder = still.holder;
      })
