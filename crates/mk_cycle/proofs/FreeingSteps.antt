-- Cells are given back step by step.
use Rattle.mk_words.proofs.Below.Laws.Vocabulary.{AreOfOthers, Bool, Config, Event, Flight, Holding, IsHistory, List}
use Rattle.mk_words.proofs.Below.Laws.Vocabulary.{Moment, PlacedAllocation, Seat, Steady, Step, World, ℕ, ap, arith}
use Rattle.mk_words.proofs.Below.Laws.Vocabulary.{cases_eq, cases_lt, earlier_part_is_history, eq-eqb, eqb-false, false}
use Rattle.mk_words.proofs.Below.Laws.Vocabulary.{flight_of, get_or-set_other, get_or-set_same, inl, inr, is_held}
use Rattle.mk_words.proofs.Below.Laws.Vocabulary.{is_phase, is_run_gone, length, ne_eqb, progress, refl, set_past}
use Rattle.mk_words.proofs.Below.Laws.Vocabulary.{slice_index, slice_set, still, subst, sym, true, world_behind, ◌++◌}
use Rattle.mk_words.proofs.Below.Laws.{Vocabulary.{◌∙◌, ◌≡◌, ◌≢◌}, ProtocolFrames.others_leave}
use Rattle.mk_words.proofs.{Below.Laws.RunsStill.HolderFinds, Doing.{none_own, others_are_so}}
use Rattle.mk_words.specs.Steps.{Does, are_of}
use Rattle.mk_cycle.proofs.Vocabulary.{Acts, Frees, IsAtPhase, IsFreeForCycle, IsTurn, IsTurnAt, LeavesTurn, PassState}
use Rattle.mk_cycle.proofs.Vocabulary.{WordsState, does_nothing, does_step, does_then, event_of, holder_finds}
use Rattle.mk_cycle.proofs.Vocabulary.{holding_behind, is_giving_back, is_pending_free, made, now_of, steady_of}
use Rattle.mk_cycle.proofs.{Vocabulary.{world_at, world_of}, Calm.{calm_done, calm_still, ends_none, is_calm}}
use Rattle.mk_cycle.proofs.{Calm.stores_none, KeptInParts.{free_then, keeps_at_once, keeps_then, same_config}}
use Rattle.mk_cycle.proofs.{OwnSteps.{done_in, keeps_call, keeps_counts}, CleaningSteps.{quar_frees_none, zero_stays}}
use Rattle.mk_core.specs.History.{Finding}
use Rattle.mk_cycle.specs.Freeing.{IsUnmapped, but_pages}
use Rattle.mk_words.proofs.Seats.{others_own}

pub frees_nothing : (p : PassState) → Frees p p
frees_nothing p = grind (arith, does_nothing, keeps_at_once)

same_allocations : {p q : PassState} → LeavesTurn but_pages p q → (world_of q).allocations ≡ (world_of p).allocations
same_allocations k = ap (λ (s : Steady). s.allocations) k.steady

pub still_unmapped : {p q : PassState} (n : ℕ) → LeavesTurn but_pages p q → IsUnmapped p n → IsUnmapped q n
still_unmapped n k h m = grind (arith, same_config, same_allocations)

pub frees_then : {p q r : PassState} → Frees p q → Frees q r → Frees p r
frees_then {p} {q} {r} a b = record {
  does = does_then is_giving_back p q r a.does b.does;
  keeps = keeps_then but_pages p q r a.keeps b.keeps;
  marks = b.marks ∙ a.marks;
  gates = λ j h. b.gates j (a.gates j h);
  zeros = λ n u h. b.zeros n (still_unmapped n a.keeps u) (a.zeros n u h);
}

pub freed_free : {p q : PassState} → Frees p q → IsFreeForCycle p → IsFreeForCycle q
freed_free {p} {q} k free = free_then p q k.keeps.call free

pub freed_phase : {p q : PassState} → Frees p q → IsAtPhase p 4 → IsAtPhase q 4
freed_phase k at = ap (λ (s : Steady). s.phase) k.keeps.steady ∙ at

pub freed_turn : {p q : PassState} {w : WordsState} → Frees p q → IsTurnAt 4 w p → IsTurnAt 4 w q
freed_turn k turn = record {
  one_table = ap (λ (x : PassState). x.table) k.keeps.call.pass ∙ turn.one_table;
  free = freed_free k turn.free;
  phase = freed_phase k turn.phase;
}

-- A step that is calm, or that stores a header or a used word at phase 4, goes on with the call and what was done.

abbrev pub frees_calmly : Step → Bool
frees_calmly (Step.Head p v) = true
frees_calmly (Step.Used p v) = true
frees_calmly s = is_calm s

frees_still : (c : Config) (m : Moment) (f : Flight) (n : ℕ) (s : Step) → frees_calmly s ≡ true
    → is_pending_free f ≡ false → progress c m f n s ≡ still f
frees_still c m f n s h free = grind (arith, calm_still)

frees_done : (c : Config) (m : Moment) (seat : Seat) (f : Flight) (n : ℕ) (s : Step) (h : Holding)
    → frees_calmly s ≡ true
    → is_pending_free f ≡ false → is_phase m.words 4 ≡ true → done_in (holding_behind c m seat f n s h) ≡ done_in h
frees_done c m seat f n s h kind free at = grind (arith, done_in, calm_done)

-- what a step that gives back makes of the words
pub record FreesAt (w v : World) : Type 0 where
  pub steady : but_pages (steady_of v) ≡ but_pages (steady_of w)
  pub marks : v.now.words.marks ≡ w.now.words.marks
  pub gates : (j : ℕ) → slice_index w.now.words.gates j ≢ 2 → slice_index v.now.words.gates j ≢ 2
  pub zeros : (n : ℕ) → slice_index w.now.words.heap n ≡ 0 → slice_index v.now.words.heap n ≡ 0

open_stays : (p q : PassState)
    → ((j : ℕ) → slice_index (now_of p).words.gates j ≢ 2 → slice_index (now_of q).words.gates j ≢ 2)
    → (j : ℕ) → is_held (now_of p).words j ≡ false → is_held (now_of q).words j ≡ false
open_stays p q h j e = ne_eqb _ 2 (h j (eqb-false _ 2 e))

module _ {p : PassState} {s : Step} {q : PassState} (a : Acts p s q) (t : IsTurn p) (u : IsTurn q) (kind : frees_calmly
    s ≡ true) (gives : is_giving_back s ≡ true) (free : IsFreeForCycle p) (at : IsAtPhase p 4) where
  pub frees_step : FreesAt (world_at a.makes) (world_behind p.table.config (world_at a.makes) (event_of p s))
      → Frees p q
  frees_step x =
      let c : Config = p.table.config in
      let w : World = world_at a.makes in
      let m : Moment = w.now in
      let f : Flight = flight_of m p.seat in
      let d = made p s q a.makes in
      let pending : is_pending_free f ≡ false = ap is_pending_free a.own.flight ∙ free.decided in
      let st : (n : ℕ) → progress c m f n s ≡ still f = λ n. frees_still c m f n s kind pending in
      let four : is_phase m.words 4 ≡ true = grind (arith, eq-eqb) in
      let finds : HolderFinds c p.seat (world_of p) w = grind (arith, holder_finds) in
      record {
        does = does_step is_giving_back p q s a.makes gives;
        keeps = record {
          call = keeps_call p s q a t.own t.holds u.history st (λ n. frees_done c m p.seat f n s m.seats.holding kind
              pending four) (stores_none frees_calmly refl refl s kind);
          steady = ap (λ (y : World). but_pages (steady_of y)) a.world ∙ x.steady ∙ ap but_pages a.turn.steady;
          counts = keeps_counts p s q a t.own t.holds u.history st (ends_none frees_calmly refl s kind);
        };
        marks = cc (a.world, x.marks, (a.turn.unmarked (λ e. absurd (omega arith)) (λ e. absurd (omega arith))).0);
        gates = open_stays p q (λ j ne. subst (λ (y : World). slice_index y.now.words.gates j ≢ 2) (sym a.world)
            (x.gates j (a.turn.other_gates j ne)));
        zeros = λ n un zero.
            ap (λ (y : World). slice_index y.now.words.heap n) a.world ∙ x.zeros n (finds.outside n un ∙ zero);
      }

-- by kind

pub wipe_gives : (c : Config) (w : World) (seat : Seat) (n : ℕ)
    → FreesAt w (world_behind c w (record { seat = seat; step = Step.Wipe n }))
wipe_gives c w seat n = record { steady = refl; marks = refl; gates = λ j h. h; zeros = zero_stays w.now.words.heap n }

-- one that leaves these words
pub leaves_words : {w v : World} → but_pages (steady_of v) ≡ but_pages (steady_of w) → v.now.words.marks
    ≡ w.now.words.marks → v.now.words.gates ≡ w.now.words.gates → v.now.words.heap ≡ w.now.words.heap → FreesAt w v
leaves_words steady marks gates heap = record {
  steady = steady;
  marks = marks;
  gates = λ j h e. h (ap (λ (gs : List ℕ). slice_index gs j) (sym gates) ∙ e);
  zeros = λ n h. ap (λ (xs : List ℕ). slice_index xs n) heap ∙ h;
}

pub quar_gives : (c : Config) (w : World) (seat : Seat) (p v : ℕ) → is_pending_free (flight_of w.now seat) ≡ false
    → FreesAt w (world_behind c w (record { seat = seat; step = Step.Quar p v }))
quar_gives c w seat p v free = record {
  steady = ap (λ (xs : List PlacedAllocation). record (but_pages (steady_of w)) { allocations = xs })
      (quar_frees_none c w seat p v free);
  marks = refl;
  gates = λ j h. h;
  zeros = λ n h. h;
}

still_open : (gs : List ℕ) (i j : ℕ) → slice_index gs j ≢ 2 → slice_index (slice_set gs i 0) j ≢ 2
still_open gs i j h two = elim (cases_eq j i) [
  | inr ne ↦ h (sym (get_or-set_other gs i j 0 0 ne) ∙ two)
  | inl e ↦ elim (cases_lt i (length gs)) [
    | inl near ↦
        let zero : slice_index (slice_set gs i 0) j ≡ 0 = cc (e, get_or-set_same gs i 0 0 near) in
        absurd (omega arith)
    | inr past ↦ h (sym (ap (λ (ys : List ℕ). slice_index ys j) (set_past gs i 0 past)) ∙ two)
  ]
]

pub open_gives : (c : Config) (w : World) (seat : Seat) (j : ℕ)
    → FreesAt w (world_behind c w (record { seat = seat; step = Step.Open j }))
open_gives c w seat j = record { steady = refl; marks = refl; gates = still_open w.now.words.gates j; zeros = λ n h. h }

-- what others do is nothing of the pass's own
pub others_do : {p : PassState} (kinds : Step → Bool) (more : List Event) → IsTurn p → AreOfOthers p.seats more
    → Does kinds p (record p { seen = p.seen ++ more })
others_do {p} kinds more t others = record {
  more = more;
  is = refl;
  own_or_others = others_are_so p.seats p.seat more t.own others;
  of_kinds = ap (λ (xs : List Finding). are_of kinds xs)
      (none_own p.table.config p.seats p.seat (world_of p) more t.own others);
}

-- what others leave is left
pub others_free : {p : PassState} (more : List Event) → IsTurn p → AreOfOthers p.seats more
    → IsHistory p.table.config (p.seen ++ more) → IsAtPhase p 4 → Frees p (record p { seen = p.seen ++ more })
others_free {p} more t others history at =
    let c : Config = p.table.config in
    let q : PassState = record p { seen = p.seen ++ more } in
    let away = others_own p.seats p.seat more t.own others in
    let before = earlier_part_is_history c p.seen more history in
    let frame = others_leave c p.seen more p.seat before.within_limits history.enabled away in
    let turn = frame.turn t.holds in
    let finds = holder_finds c p.seat p.seen more history away t.holds in
    record {
      does = others_do is_giving_back more t others;
      keeps = record {
        call = record {
          pass = refl;
          call = frame.own.flight;
          done = ap (λ (h : Holding). done_in h) finds.holding;
          gone = λ g. ap (λ (h : Holding). is_run_gone (now_of q).words h.freed) finds.holding ∙ finds.gone g;
        };
        steady = ap but_pages turn.0.steady;
        counts = turn.1;
      };
      marks = (turn.0.unmarked (λ e. absurd (omega arith)) (λ e. absurd (omega arith))).0;
      gates = open_stays p q turn.0.other_gates;
      zeros = λ n un zero. finds.outside n un ∙ zero;
    }

pub freed_table : {p q : PassState} (w : WordsState) → Frees p q → p.table ≡ w → q.table ≡ w
freed_table w k is = ap (λ (x : PassState). x.table) k.keeps.call.pass ∙ is
