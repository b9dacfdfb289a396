-- The words of a run are wiped group by group.
use Rattle.mk_caller.proofs.Below.Laws.Vocabulary.{Bool, Cell, Config, Flight, Hand, Header, Holding, Holds, List}
use Rattle.mk_caller.proofs.Below.Laws.Vocabulary.{Moment, None, use_under, word_of, Option, Placing, RunPages, Seat}
use Rattle.mk_caller.proofs.Below.Laws.Vocabulary.{Some, Stage, Steady, Step, Word, Words, World, Written, ℕ}
use Rattle.mk_caller.proofs.Below.Laws.Vocabulary.{address_of, all_below-at, and_from, ap, arith, cases_eq, eq-eqb}
use Rattle.mk_caller.proofs.Below.Laws.Vocabulary.{eqb-true, false, flight_of, get_or-set_other, get_or-set_same}
use Rattle.mk_caller.proofs.Below.Laws.Vocabulary.{has_no_pointers, header_at, header_in, header_of, if◌then◌else◌, inl}
use Rattle.mk_caller.proofs.Below.Laws.Vocabulary.{inr, is_heap_address, is_held, is_run_unmapped, is_undecided_new}
use Rattle.mk_caller.proofs.Below.Laws.Vocabulary.{le-leb, left, length, lt-ltb, or_else, others_are_held}
use Rattle.mk_caller.proofs.Below.Laws.Vocabulary.{page_at_address, phase_of, place_now, refl, run_header, same_Some}
use Rattle.mk_caller.proofs.Below.Laws.Vocabulary.{slice_index, stands, subst, sym, true, unmapped_header, unmaps}
use Rattle.mk_caller.proofs.Below.Laws.Vocabulary.{world_behind, [], ◌*◌, ◌+◌, ◌/◌, ◌<◌, ◌∙◌, ◌≡◌, ◌≤◌}
use Rattle.mk_caller.proofs.Below.{Laws.Sorts.chosen_none, Words.PointedCells.found_there}
use Rattle.mk_caller.proofs.Below.Words.StoredHeads.{heads_leave}
use Rattle.mk_alloc.proofs.ObjectVocabulary.{Acts, ComesTo, IsAsLeft, IsEnabledTo, IsOutOfStop, IsTurn, PassState}
use Rattle.mk_alloc.proofs.ObjectVocabulary.{Unmaps, Wipes, WipesTo, WordsState, all_below_from, call_of, is_acting}
use Rattle.mk_alloc.proofs.ObjectVocabulary.{Changes, is_following, now_of, option_and_then, world_of}
use Rattle.mk_alloc.proofs.JoinedLooks.{reached_table, reached_there, reached_world, reaches_after, reaches_so}
use Rattle.mk_alloc.proofs.{Looks.{acting_caller, acting_now, acts_there}, MayAct.{IsActing, may_look_heap, may_unmap}}
use Rattle.mk_alloc.proofs.{MayAct.{may_wipe, off_four}, Reaching.{reaches_nothing, reaches_still}}
use Rattle.mk_alloc.proofs.{Reaching.reaches_still_in_stop, Unchanged.{HasCall, OfCaller, acting_has_call, call_behind}}
use Rattle.mk_alloc.proofs.{Serves.out_of_stop, Serving.{header_here, header_set, next_is}}
use Rattle.mk_alloc.proofs.RunHeaders.{IsStillMapped, still_mapped, unmapped_use, unmapped_word}
use Rattle.mk_alloc.specs.FreeParts.{MayUnmap, MayWipe, MayWipeFrom, WipedTo, with_pages}
use Rattle.mk_caller.specs.Below.Words.{Steps.Finds, TurnSteps.{MayStoreHeads, StoresHeads}}
use Rattle.mk_geom.proofs.{Bridge.run_in_range, HeaderLemmas.header_of-word_of}
use Rattle.mk_core.specs.Below.Books.KnownPages.{HeadersSay, run_word}
use Rattle.mk_geom.specs.{Addresses.{cell_under, word_at_address}, PageUses.PartOfRun}
use Rattle.mk_core.specs.{Effects.{hand_given, hand_of_cell, is_in_stop}, Cells.pointed_cell}
use Rattle.mk_core.specs.Frames.{HoldsAll, written_of}

-- The pages of a run are unmapped one after the other.

-- This many of the run's pages are unmapped, the others not.
pub record UnmappedTo (s : Seat) (run : RunPages) (w v : World) (n : ℕ) : Type 0 where
  pub changes : Changes s (with_pages v.now.words.pages) w v
  pub done : (d : ℕ) → d < n → header_at v.now.words (run.page + d) ≡ unmapped_header run.count d
  pub rest : (d : ℕ) → n ≤ d → d < run.count → IsStillMapped v.now.words run d

-- A call that is decided is no New on its way, so its holder's place stays.

no_new : (f : Flight) → f.stage ≡ Stage.Give → is_undecided_new f ≡ false
no_new f is = grind arith

no_place : (c : Config) (m : Moment) (f : Flight) → f.stage ≡ Stage.Give → place_now c m f ≡ None
no_place c m f is = rw (no_new f is) refl

pub give_acts : (f : Flight) → f.stage ≡ Stage.Give → is_acting f.stage ≡ true
give_acts f is = ap is_acting is

pub still_stopped : (p : PassState) (v : World) → ((j : ℕ) → is_held v.now.words j ≡ is_held (now_of p).words j)
    → others_are_held p.table.config.callers (now_of p).words p.seat ≡ true
    → others_are_held p.table.config.callers v.now.words p.seat ≡ true
still_stopped p v gates stopped = grind (arith, all_below_from, all_below-at)

unmapped_left : {s : Seat} {run : RunPages} {w u v : World} {n : ℕ} → UnmappedTo s run w u n → IsAsLeft s u v
    → UnmappedTo s run w v n
unmapped_left at kept = grind arith

unmapped_more : {c : Config} {s : Seat} {run : RunPages} {w v : World} {n : ℕ} → UnmappedTo s run w v n
    → HasCall c v.now s → (flight_of v.now s).stage ≡ Stage.Give → IsOutOfStop v.now → n < run.count
    → run.page + n < length v.now.words.pages → UnmappedTo s run w
    (world_behind c v (record { seat = s; step = Step.Head (run.page + n) (unmapped_header run.count n) })) (n + 1)
unmapped_more {c} {s} {run} {v} {n} at (OfCaller k lt) give low near room =
    let p = run.page + n in
    let x = Step.Head p (unmapped_header run.count n) in
    let u : World = world_behind c v (record { seat = s; step = x }) in
    record {
      changes = record {
        call = call_behind c v.now k x lt ∙ at.changes.call;
        holding = ap (λ (y : Placing). record v.now.seats.holding { placing = y }) (rw (
          off_four v.now low,
          no_place c v.now (flight_of v.now s) give,
        ) (chosen_none v.now.seats.holding.placing)) ∙ at.changes.holding;
        steady = ap (λ (y : Steady). record y { pages = u.now.words.pages }) at.changes.steady;
        gates = at.changes.gates;
      };
      done = λ d le. elim (cases_eq d n) [
        | inl e ↦ ap (λ i. header_at u.now.words (run.page + i)) e ∙ header_here v.now.words.pages p _ room
            ∙ ap (λ i. unmapped_header run.count i) (sym e)
        | inr ne ↦ header_set v.now.words.pages p (run.page + d) _ (λ e. ne (omega arith)) ∙ at.done d (omega arith)
      ];
      rest = λ d le lt e. at.rest d (omega arith) lt (sym
          (header_set v.now.words.pages p (run.page + d) _ (λ i. absurd (omega arith))) ∙ e);
    }

module _ {p : PassState} {run : RunPages} (turn : IsTurn p) (may : MayUnmap p run) where
  abbrev pub HasUnmapped : PassState → ℕ → Type 0
  HasUnmapped q n = ComesTo is_following p (λ v. UnmappedTo p.seat run (world_of p) v n) [] q

  pub unmapped_none : HasUnmapped p 0
  unmapped_none = reaches_nothing is_following p (λ v. UnmappedTo p.seat run (world_of p) v 0) (record {
    changes = record { call = refl; holding = refl; steady = refl; gates = λ j. refl };
    done = λ d lt. absurd (omega arith);
    rest = λ d le lt. still_mapped (now_of p).words run d may.mapped may.few lt;
  })

  there_acting : (v : World) → flight_of v.now p.seat ≡ flight_of (now_of p) p.seat
      → IsActing p.table.config v.now p.seat
  there_acting v same = grind (arith, acts_there, acting_now, give_acts)

  there_low : (v : World) → phase_of v.now.words ≡ phase_of (now_of p).words → IsOutOfStop v.now
  there_low v same = out_of_stop (now_of p) v.now same may.phase

  pub unmap_may : {q : PassState} {n : ℕ} → HasUnmapped q n
      → others_are_held p.table.config.callers (now_of p).words p.seat ≡ true → n < run.count
      → IsEnabledTo q (Step.Head (run.page + n) (unmapped_header run.count n))
  unmap_may {q} {n} reached stopped near =
      let within = may.within in
      let v : World = left p.table.config q.seen in
      let at = reached.world in
      let here : v.now.seats.holding.freed ≡ Some run = ap (λ (h : Holding). h.freed) at.changes.holding
      ∙ may.freed in
      reached_there reached (λ (x : PassState). IsEnabledTo x (Step.Head (run.page + n) (unmapped_header run.count n)))
      (may_unmap (there_acting v at.changes.call) (run.page + n) (unmapped_header run.count n) (omega arith)
      (there_low v (ap (λ (x : Steady). x.phase) at.changes.steady)) (still_stopped p v at.changes.gates stopped)
      (ap (λ (x : Option RunPages). unmaps v.now.words x (run.page + n) (unmapped_header run.count n)) here ∙ next_is
      v.now.words run.page run.count (unmapped_header run.count) n near (at.rest n (omega arith) near) at.done))

  pub unmaps_on : {q r : PassState} {n : ℕ} → HasUnmapped q n → n < run.count
      → Acts q (Step.Head (run.page + n) (unmapped_header run.count n)) r → HasUnmapped r (n + 1)
  unmaps_on {n} reached near a =
      let within = may.within in
      reaches_still (λ v. UnmappedTo p.seat run (world_of p) v n) (λ v. UnmappedTo p.seat run (world_of p) v (n + 1))
      reached a refl refl (acting_caller p (give_acts (call_of p) may.decided)) refl (λ w v here kept known pages.
      let on = unmapped_left here kept in
      let call = acting_has_call known.orderly.flights (there_acting v on.changes.call) in
      let room = pages.pages in
      unmapped_more on call (ap (λ (f : Flight). f.stage) on.changes.call ∙ may.decided)
      (there_low v (ap (λ (x : Steady). x.phase) on.changes.steady)) near (omega arith))

  -- the header words of an unmapped run, as they are stored together
  abbrev pub headers : ℕ → ℕ
  headers = run_word (word_of (Header.Run run.count false)) (word_of (Header.Later 1 false))

  pub say_unmapped : HeadersSay (PartOfRun false) run.count headers
  say_unmapped d used near =
      ap (λ (n : ℕ). use_under (header_of n) used) (unmapped_word run.count d)
      ∙ unmapped_use run.count d used may.few near

  pub unmaps_to : (n : ℕ) (q : PassState) → n ≤ run.count → StoresHeads p run.page n headers q → HasUnmapped q n
  unmaps_to =
      heads_leave run.page run.count headers (λ n q. HasUnmapped q n) unmapped_none (λ n q r near stores at acts.
      subst (λ i. HasUnmapped r i) (omega arith) (unmaps_on at near
      (subst (λ i. Acts q (Step.Head (run.page + n) i) r) (unmapped_word run.count n) acts)))

  pub may_unmap_all : others_are_held p.table.config.callers (now_of p).words p.seat ≡ true
      → MayStoreHeads p run.page run.count headers
  may_unmap_all stopped n q near stores =
      subst (λ i. IsEnabledTo q (Step.Head (run.page + n) i)) (sym (unmapped_word run.count n))
      (unmap_may (unmaps_to n q (omega (arith, near)) stores) stopped near)

  pub unmapped_all : {q : PassState} → HasUnmapped q run.count → Unmaps p run q
  unmapped_all reached = grind (arith, reaches_so, all_below_from, eq-eqb)

-- The words of a run that is unmapped are wiped one after the other.

-- What the address of a word of an unmapped run points into has no pointers.

unmapped_at : (w : Words) (run : RunPages) (d : ℕ) → is_run_unmapped w run ≡ true → run.count ≤ 64 → d < run.count
    → header_of (header_at w (run.page + d)) ≡ Some (run_header run.count false false d)
unmapped_at w run d unmapped few lt =
    ap header_of (eqb-true _ _ (all_below-at run.count d (stands w run.page (unmapped_header run.count)) unmapped lt))
    ∙ header_of-word_of (run_header run.count false false d)
    (run_in_range run.count false false d (omega (arith, lt)) few (omega (arith, lt, few)))

cell_tested : (b : Bool) (x cell : Cell) → (if b then Some x else None) ≡ Some cell → x.page ≡ cell.page
cell_tested x0 x cell e = grind (arith, same_Some)

-- It is the run's head.
cell_is_head : (head : ℕ) (count pages : ℕ) {page : ℕ} (word d : ℕ) (b : Bool) (cell : Cell) → page ≡ head + d
    → (if b then cell_under (run_header count false false d) page word else None) ≡ Some cell → cell.page ≡ head
cell_is_head head count pages word x4 b cell at e = grind (arith, cell_tested)

gone_cell : (w : Words) (run : RunPages) (pages address d : ℕ) (cell : Cell) → is_run_unmapped w run ≡ true
    → run.count ≤ 64 → d < run.count → page_at_address address ≡ run.page + d
    → pointed_cell pages w.pages address ≡ Some cell → has_no_pointers (header_in w cell.page) ≡ true
unfolding pointed_cell
gone_cell w run pages address d cell unmapped few near at is =
    let header : Some (run_header run.count false false d) ≡ header_of (header_at w (page_at_address address)) =
    sym (unmapped_at w run d unmapped few near) ∙ ap (λ (i : ℕ). header_of (header_at w i)) (sym at) in
    let head = cell_is_head run.page run.count pages (word_at_address address) d
    (is_heap_address pages address) cell at (grind arith) in
    let first : cell.page ≡ run.page + 0 = omega (arith, head) in
    cc (first, unmapped_at w run 0 unmapped few (omega (arith, near)))

-- A look at such a word gives no hand.
no_hand : (c : Config) (m : Moment) (s : Seat) (run : RunPages) (n value : ℕ) → is_run_unmapped m.words run ≡ true
    → run.count ≤ 64 → n < 64 * run.count → hand_given c m s (Word.Heap (64 * run.page + n)) value ≡ None
no_hand c m s run n value unmapped few near =
    by (pointed_cell c.pages m.words.pages (address_of (64 * run.page + n))) (λ cell is. gone_cell m.words run c.pages
    (address_of (64 * run.page + n)) (n / 64) cell unmapped few (omega (arith, near)) (omega arith) is)
  where
    by : (x : Option Cell) → ((cell : Cell) → x ≡ Some cell → has_no_pointers (header_in m.words cell.page) ≡ true)
        → option_and_then (λ (cell : Cell). hand_of_cell m.words (is_in_stop c.callers m.words s)
        m.seats.holding.placing cell value) x ≡ None
    by x0 none = grind arith

wiped_left : {s : Seat} {run : RunPages} {w u v : World} {n : ℕ} → WipedTo s run w u n → IsAsLeft s u v
    → written_of v ≡ written_of u → WipedTo s run w v n
wiped_left at kept stop = grind arith

wiped_seen : {c : Config} {s : Seat} {run : RunPages} {w v : World} {n : ℕ} (k : ℕ) → WipedTo s run w v n
    → HasCall c v.now s → ((value : ℕ) → hand_given c v.now s (Word.Heap k) value ≡ None)
    → WipedTo s run w (world_behind c v (record { seat = s; step = Step.Look (Word.Heap k) })) n
wiped_seen {c} {v} k at (OfCaller j lt) none = record {
  changes = record {
    call = call_behind c v.now j (Step.Look (Word.Heap k)) lt ∙ at.changes.call;
    holding = ap (λ (x : Option Hand). record v.now.seats.holding { hand = or_else x v.now.seats.holding.hand })
        (none _) ∙ at.changes.holding;
    steady = at.changes.steady;
    gates = at.changes.gates;
  };
  zeros = at.zeros;
}

-- A word that is 0 already is wiped.
wiped_already : {s : Seat} {run : RunPages} {w v : World} {n : ℕ} → WipedTo s run w v n
    → slice_index v.now.words.heap (64 * run.page + n) ≡ 0 → WipedTo s run w v (n + 1)
wiped_already at zero_there = grind arith

wiped_more : {c : Config} {s : Seat} {run : RunPages} {w u v : World} {n : ℕ} → WipedTo s run w u n → IsAsLeft s u v
    → HasCall c v.now s → written_of v ≡ written_of u → 64 * run.page + n < length v.now.words.heap
    → WipedTo s run w (world_behind c v (record { seat = s; step = Step.Wipe (64 * run.page + n) })) (n + 1)
wiped_more {c} {run} {u} {v} {n} at kept (OfCaller k lt) stop room =
    let heap : v.now.words.heap ≡ u.now.words.heap = ap (λ (x : Written). x.heap) stop in
    let p = 64 * run.page + n in
    record {
      changes = record {
        call = call_behind c v.now k (Step.Wipe p) lt ∙ kept.call ∙ at.changes.call;
        holding = kept.holding ∙ at.changes.holding;
        steady = kept.steady ∙ at.changes.steady;
        gates = λ j. kept.gates j ∙ at.changes.gates j;
      };
      zeros = λ i le. elim (cases_eq i n) [
        | inl e ↦ cc (e, get_or-set_same v.now.words.heap p 0 0 room)
        | inr ne ↦ get_or-set_other v.now.words.heap p (64 * run.page + i) 0 0 (λ e. ne (omega arith))
            ∙ ap (λ (xs : List ℕ). slice_index xs (64 * run.page + i)) heap ∙ at.zeros i (omega arith)
      ];
    }

pub still_unmapped : (p : PassState) {run : RunPages} {v : World} {n : ℕ} → WipedTo p.seat run (world_of p) v n
    → is_run_unmapped (now_of p).words run ≡ true → is_run_unmapped v.now.words run ≡ true
still_unmapped p at unmapped = grind arith

module _ {p : PassState} {run : RunPages} (turn : IsTurn p) (may : MayWipe p run) where
  there_wiping : (v : World) → flight_of v.now p.seat ≡ flight_of (now_of p) p.seat
      → IsActing p.table.config v.now p.seat
  there_wiping v same = grind (arith, acts_there, acting_now, give_acts)

  pub look_may : {q : PassState} {n : ℕ} (k : ℕ) → WipesTo p run n q → k < 64 * run.count
      → IsEnabledTo q (Step.Look (Word.Heap (64 * run.page + k)))
  look_may k reached near = grind (arith, reached_there, may_look_heap, there_wiping)

  -- with the turn held, and all other gates
  with_turn : {q : PassState} {n : ℕ} → WipesTo p run n q → Holds q.table.config (now_of q) q.seat
      → ComesTo is_following p (λ v. WipedTo p.seat run (world_of p) v n × HoldsAll p.table.config v.now p.seat) [] q
  with_turn reached holds = grind (arith, reaches_so, still_stopped)

  pub looks_then : {q r : PassState} {n : ℕ} (k : ℕ) → WipesTo p run n q → k < 64 * run.count
      → Acts q (Step.Look (Word.Heap (64 * run.page + k))) r → WipesTo p run n r
  looks_then {n} k reached near a =
      reaches_still_in_stop (λ v. WipedTo p.seat run (world_of p) v n × HoldsAll p.table.config v.now p.seat)
      (λ v. WipedTo p.seat run (world_of p) v n) (with_turn reached a.holds) a refl refl
      (acting_caller p (give_acts (call_of p) may.decided)) refl (λ w v here kept stop known pages.
      let on = wiped_left here.0 kept (stop here.1) in
      let call = acting_has_call known.orderly.flights (there_wiping v on.changes.call) in
      wiped_seen (64 * run.page + k) on call
      (λ value. no_hand p.table.config v.now p.seat run k value (still_unmapped p on may.unmapped) may.few near))

  -- The word was found to be 0.
  pub found_wiped : {q r : PassState} {n value : ℕ} → WipesTo p run n r
      → Finds q (Step.Look (Word.Heap (64 * run.page + n))) value r → value ≡ 0 → WipesTo p run (n + 1) r
  found_wiped {q} {r} {n} {value} reached f none =
      reaches_so reached (λ at. wiped_already at (rw reached.same at (found_there q r (Word.Heap (64 * run.page + n))
      value f ∙ none)))

  pub wipe_may : {q : PassState} {n : ℕ} → WipesTo p run n q → n < 64 * run.count
      → IsEnabledTo q (Step.Wipe (64 * run.page + n))
  wipe_may reached near = grind (arith, still_unmapped, and_from, le-leb, lt-ltb, reached_there, may_wipe, there_wiping)

  pub wipes_on : {q r : PassState} {n : ℕ} → WipesTo p run n q → n < 64 * run.count
      → Acts q (Step.Wipe (64 * run.page + n)) r → WipesTo p run (n + 1) r
  wipes_on {n} reached near a =
      let within = may.within in
      reaches_still_in_stop (λ v. WipedTo p.seat run (world_of p) v n × HoldsAll p.table.config v.now p.seat)
      (λ v. WipedTo p.seat run (world_of p) v (n + 1)) (with_turn reached a.holds) a refl refl
      (acting_caller p (give_acts (call_of p) may.decided)) refl (λ w v here kept stop known pages.
      let call = acting_has_call known.orderly.flights (there_wiping v (kept.call ∙ here.0.changes.call)) in
      let room = pages.heap in
      wiped_more here.0 kept call (stop here.1) (omega arith))

pub wiped_from : (p : PassState) {run : RunPages} {n : ℕ}
    → ((i : ℕ) → i < n → slice_index (now_of p).words.heap (64 * run.page + i) ≡ 0) → WipesTo p run n p
wiped_from p {run} {n} wiped =
    reaches_nothing is_following p (λ v. WipedTo p.seat run (world_of p) v n)
    (record { changes = record { call = refl; holding = refl; steady = refl; gates = λ j. refl }; zeros = wiped })

wiped_now : {p q : PassState} {run : RunPages} {n : ℕ} → WipesTo p run n q → (i : ℕ) → i < n
    → slice_index (now_of q).words.heap (64 * run.page + i) ≡ 0
wiped_now a i lt = (reached_world a).zeros i lt

pub wipes_then : {p q r : PassState} {run : RunPages} {n k : ℕ} → WipesTo p run n q → WipesTo q run k r
    → WipesTo p run k r
wipes_then {run} {k} a b =
    reaches_after (λ x h. h) (λ x h. h) (λ x v. WipedTo x.seat run (world_of x) v k) a b (λ v one two. record {
      changes = record {
        call = two.changes.call ∙ one.changes.call;
        holding = two.changes.holding ∙ one.changes.holding;
        steady = two.changes.steady ∙ one.changes.steady;
        gates = λ j. two.changes.gates j ∙ one.changes.gates j;
      };
      zeros = two.zeros;
    })

pub wipes_named : {p q : PassState} {run : RunPages} {n k : ℕ} → WipesTo p run n q → n ≡ k → WipesTo p run k q
wipes_named {p} {q} {run} wipes same = subst (λ i. WipesTo p run i q) same wipes

pub wiped_all : {p q : PassState} {run : RunPages} → WipesTo p run (64 * run.count) q → Wipes p run q
wiped_all reached = grind (arith, reaches_so, all_below_from, eq-eqb)

still_may : {p q : PassState} {run : RunPages} {n : ℕ} → WipesTo p run n q → MayWipe p run → MayWipe q run
still_may a may = grind (arith, reached_there, still_stopped, still_unmapped)

-- What was asked of a word is so of the next after it.
pub wipes_from : {w : WordsState} {p q : PassState} {pages : ℕ} {run : RunPages} {n k : ℕ} → WipesTo p run n q
    → MayWipeFrom w p pages run k → MayWipeFrom w q pages run n
wipes_from a from = record {
  one_table = reached_table a ∙ from.one_table;
  all_pages = from.all_pages;
  may = still_may a from.may;
  wiped = wiped_now a;
}
