-- Pages are cleaned step by step.
use Rattle.mk_cycle.proofs.Vocabulary.{Acts, Cleans, IsClean, IsFreeForCycle, IsTurn, IsTurnAt, LeavesTurn, PassState}
use Rattle.mk_cycle.proofs.Vocabulary.{WordsState, clears, does_nothing, does_step, does_then, event_of}
use Rattle.mk_cycle.proofs.Vocabulary.{is_pending_free, made, now_of, stands, steady_of, world_at}
use Rattle.mk_cycle.proofs.Calm.{calm_done, calm_still, ends_none, frees_none, is_calm, stores_none}
use Rattle.mk_cycle.proofs.KeptInParts.{free_then, gates_behind, gates_then, keeps_at_once, keeps_then}
use Rattle.mk_cycle.proofs.{Allowed.{in_turn_before, on_table}, OwnSteps.{keeps_call, keeps_counts}}
use Rattle.mk_words.proofs.Below.Laws.Vocabulary.{Config, Flight, IsHistory, List, Moment, None, PlacedAllocation, Seat}
use Rattle.mk_words.proofs.Below.Laws.Vocabulary.{Steady, Step, Tally, Word, Words, World, ℕ, ap, arith, cases_eq}
use Rattle.mk_words.proofs.Below.Laws.Vocabulary.{cases_lt, false, flight_of, freed_where_it_stands, get_or-set_other}
use Rattle.mk_words.proofs.Below.Laws.Vocabulary.{get_or-set_same, inl, inr, length, map, progress, quarantine_word}
use Rattle.mk_words.proofs.Below.Laws.Vocabulary.{refl, set-get_or, set_past, slice_index, slice_set, still, subst, sym}
use Rattle.mk_words.proofs.Below.Laws.Vocabulary.{true, world_behind, [], ◌%◌, ◌++◌, ◌/◌, ◌<◌, ◌^◌, ◌∙◌, ◌∷◌, ◌≡◌}
use Rattle.mk_words.proofs.Below.Laws.LastEvents.{Stands}
use Rattle.mk_cycle.specs.{BeginCycle.HasTakenSnapshot, TurnKeeps.but_cleaned}

pub cleans_nothing : (p : PassState) → Cleans p p
cleans_nothing p = grind (arith, does_nothing, keeps_at_once)

pub cleans_then : {p q r : PassState} → Cleans p q → Cleans q r → Cleans p r
cleans_then {p} {q} {r} a b = record {
  does = does_then clears p q r a.does b.does;
  keeps = keeps_then but_cleaned p q r a.keeps b.keeps;
  gates = gates_then p q r a.keeps.call.pass a.gates b.gates;
  unmarked = λ page h. b.unmarked page (a.unmarked page h);
  unscanned = λ page h. b.unscanned page (a.unscanned page h);
  snapshot = λ page h. b.snapshot page (a.snapshot page h);
}

-- A word that is 0 stays so where 0 is stored to one of the list.
pub zero_stays : (xs : List ℕ) (i r : ℕ) → slice_index xs r ≡ 0 → slice_index (slice_set xs i 0) r ≡ 0
zero_stays xs i r h = elim (cases_eq r i) [
  | inr ne ↦ get_or-set_other xs i r 0 0 ne ∙ h
  | inl e ↦ elim (cases_lt i (length xs)) [
    | inl near ↦ ap (λ (k : ℕ). slice_index (slice_set xs i 0) k) e ∙ get_or-set_same xs i 0 0 near
    | inr past ↦ ap (λ (ys : List ℕ). slice_index ys r) (set_past xs i 0 past) ∙ h
  ]
]

-- A calm step of a turn that is free for a cycle.
module _ (p : PassState) (s : Step) (q : PassState) (a : Acts p s q) (t : IsTurn p)
    (history : IsHistory q.table.config q.seen) (kind : is_calm s ≡ true) (free : IsFreeForCycle p) where
  still_pending : is_pending_free (flight_of (world_at a.makes).now p.seat) ≡ false
  still_pending = ap is_pending_free a.own.flight ∙ free.decided

  pub calm_keeps : (view : Steady → Steady)
      → view (steady_of (world_behind p.table.config (world_at a.makes) (event_of p s)))
      ≡ view (steady_of (world_at a.makes)) → LeavesTurn view p q
  calm_keeps view same =
      let c : Config = p.table.config in
      let m : Moment = (world_at a.makes).now in
      let f : Flight = flight_of m p.seat in
      let st : (n : ℕ) → progress c m f n s ≡ still f = λ n. calm_still c m f n s kind still_pending in
      record {
        call =
            keeps_call p s q a t.own t.holds history st
            (λ n. calm_done c m p.seat f n s m.seats.holding kind still_pending) (stores_none is_calm refl refl s kind);
        steady = ap (λ (w : World). view (steady_of w)) a.world ∙ same ∙ ap view a.turn.steady;
        counts = keeps_counts p s q a t.own t.holds history st (ends_none is_calm refl s kind);
      }

-- what a step that cleans makes of the pages' words
pub record CleansAt (w v : World) : Type 0 where
  pub steady : but_cleaned (steady_of v) ≡ but_cleaned (steady_of w)
  pub gates : v.now.words.gates ≡ w.now.words.gates
  pub unmarked : (r : ℕ) → slice_index w.now.words.marks r ≡ 0 → slice_index v.now.words.marks r ≡ 0
  pub unscanned : (r : ℕ) → slice_index w.now.words.blacks r ≡ 0 → slice_index v.now.words.blacks r ≡ 0
  pub snapshot : (r : ℕ) → slice_index w.now.words.snapshot r ≡ slice_index w.now.words.freed r
      → slice_index v.now.words.snapshot r ≡ slice_index v.now.words.freed r

-- At phase 0 nobody else marks or scans.
module _ {p : PassState} {s : Step} {q : PassState} {y : WordsState} (a : Acts p s q) (kind : is_calm s ≡ true)
    (cleans : clears s ≡ true) (turn : IsTurnAt 0 y p) where
  same_colours : ((world_at a.makes).now.words.marks ≡ (now_of p).words.marks)
      × ((world_at a.makes).now.words.blacks ≡ (now_of p).words.blacks)
  same_colours = let none = turn.phase in a.turn.unmarked (λ e. absurd (omega arith)) (λ e. absurd (omega arith))

  pub cleans_step : CleansAt (world_at a.makes) (world_behind p.table.config (world_at a.makes) (event_of p s))
      → Cleans p q
  cleans_step x = record {
    does = does_step clears p q s a.makes cleans;
    keeps = calm_keeps p s q a (in_turn_before a) a.makes.pass.history kind turn.free but_cleaned x.steady;
    gates = gates_behind p s q a x.gates;
    unmarked = λ r h. ap (λ (w : World). slice_index w.now.words.marks r) a.world
        ∙ x.unmarked r (ap (λ (ms : List ℕ). slice_index ms r) same_colours.0 ∙ h);
    unscanned = λ r h. ap (λ (w : World). slice_index w.now.words.blacks r) a.world
        ∙ x.unscanned r (ap (λ (ms : List ℕ). slice_index ms r) same_colours.1 ∙ h);
    snapshot = λ r h. ap (λ (w : World). slice_index w.now.words.snapshot r) a.world
        ∙ x.snapshot r (ap (λ (y : Steady). slice_index y.snapshot r) a.turn.steady ∙ h
        ∙ sym (ap (λ (y : Steady). slice_index y.freed r) a.turn.steady))
        ∙ sym (ap (λ (w : World). slice_index w.now.words.freed r) a.world);
  }

-- by kind

-- `quar` (b): the low half is stored over itself

low_half : (f : ℕ) → f < 2 ^ 32 → quarantine_word f f % 2 ^ 32 ≡ f
low_half f lt = omega arith

high_half : (f : ℕ) → f < 2 ^ 32 → quarantine_word f f / 2 ^ 32 ≡ f
high_half f lt = omega arith

copied : (fs ss : List ℕ) (p r : ℕ) → p < length ss → slice_index ss r ≡ slice_index fs r
    → slice_index (slice_set ss p (slice_index fs p)) r ≡ slice_index fs r
copied fs ss p r lt h = elim (cases_eq r p) [
  | inr ne ↦ get_or-set_other ss p r (slice_index fs p) 0 ne ∙ h
  | inl e ↦ cc (e, get_or-set_same ss p (slice_index fs p) 0 lt)
]

none_freed : (w : Words) (xs : List PlacedAllocation) → map (freed_where_it_stands w None) xs ≡ xs
none_freed w [] = refl
none_freed w (a ∷ xs) = ap (λ (ys : List PlacedAllocation). a ∷ ys) (none_freed w xs)

-- A `quar` of a call that isn't an undecided Free frees nothing.
pub quar_frees_none : (c : Config) (w : World) (seat : Seat) (p v : ℕ) → is_pending_free (flight_of w.now seat) ≡ false
    → (world_behind c w (record { seat = seat; step = Step.Quar p v })).allocations ≡ w.allocations
quar_frees_none c w seat p v free = grind (arith, frees_none, none_freed)

pub quar_cleans : (c : Config) (w : World) (seat : Seat) (p v : ℕ) → is_pending_free (flight_of w.now seat) ≡ false
    → p < length w.now.words.snapshot → slice_index w.now.words.freed p < 2 ^ 32
    → v ≡ quarantine_word (slice_index w.now.words.freed p) (slice_index w.now.words.freed p)
    → CleansAt w (world_behind c w (record { seat = seat; step = Step.Quar p v }))
quar_cleans c w seat p v free lt small is =
    let f : ℕ = slice_index w.now.words.freed p in
    let low : v % 2 ^ 32 ≡ f = ap (λ (n : ℕ). n % 2 ^ 32) is ∙ low_half f small in
    let high : v / 2 ^ 32 ≡ f = ap (λ (n : ℕ). n / 2 ^ 32) is ∙ high_half f small in
    let same : slice_set w.now.words.freed p (v % 2 ^ 32) ≡ w.now.words.freed =
    ap (λ (n : ℕ). slice_set w.now.words.freed p n) low ∙ set-get_or w.now.words.freed p 0 in
    record {
      steady =
          ap (λ (fs : List ℕ). record (but_cleaned (steady_of w)) {
            freed = fs;
            allocations = (world_behind c w (record { seat = seat; step = Step.Quar p v })).allocations;
          }) same ∙ ap (λ (xs : List PlacedAllocation). record (but_cleaned (steady_of w)) { allocations = xs })
          (quar_frees_none c w seat p v free);
      gates = refl;
      unmarked = λ r h. h;
      unscanned = λ r h. h;
      snapshot = λ r h. ap (λ (n : ℕ). slice_index (slice_set w.now.words.snapshot p n) r) high
          ∙ copied w.now.words.freed w.now.words.snapshot p r lt h ∙ sym (ap (λ (fs : List ℕ). slice_index fs r) same);
    }

-- A turn stays free for a cycle, on its words and at phase 0, while pages are cleaned.
pub cleaned_turn : {p q : PassState} {w : WordsState} → Cleans p q → IsTurnAt 0 w p → IsTurnAt 0 w q
cleaned_turn k turn = grind (arith, free_then)

pub cleaned_table : {p q : PassState} (w : WordsState) → Cleans p q → p.table ≡ w → q.table ≡ w
cleaned_table w k is = ap (λ (x : PassState). x.table) k.keeps.call.pass ∙ is

-- Each step by which they are.
module _ {p q : PassState} {y : WordsState} (turn : IsTurnAt 0 y p) where
  pub looked : {x : Word} → Acts p (Step.Look x) q → Cleans p q
  looked {x} a = cleans_step a refl refl turn (grind arith)

  pub cleared : {page : ℕ} → Acts p (Step.Clear page) q → Cleans p q
  cleared {page} a = cleans_step a refl refl turn (grind (arith, zero_stays))

  pub unblacked : {page : ℕ} → Acts p (Step.Unblack page) q → Cleans p q
  unblacked {page} a = cleans_step a refl refl turn (grind (arith, zero_stays))

  pub undirtied : {page : ℕ} → Acts p (Step.Undirty page) q → Cleans p q
  undirtied {page} a = cleans_step a refl refl turn (grind arith)

  pub tallied : {v : ℕ} → Acts p (Step.Tally Tally.Fresh v) q → Cleans p q
  tallied a = cleans_step a refl refl turn
      (record { steady = refl; gates = refl; unmarked = λ r h. h; unscanned = λ r h. h; snapshot = λ r h. h })

  module _ {page v : ℕ} (a : Acts p (Step.Quar page v) q) (within : page < y.config.pages) (is : v ≡ quarantine_word
      (slice_index (now_of p).words.freed page) (slice_index (now_of p).words.freed page)) where
    w : World
    w = world_at a.makes

    same_freed : slice_index w.now.words.freed page ≡ slice_index (now_of p).words.freed page
    unfolding w
    same_freed = ap (λ (s : Steady). slice_index s.freed page) a.turn.steady

    known : Stands p.table.config (p.seen ++ a.makes.others)
    known = stands p.table.config (p.seen ++ a.makes.others) (made p (Step.Quar page v) q a.makes).history

    small : slice_index w.now.words.freed page < 2 ^ 32
    unfolding w
    small = (known.all.order.quarantined.small page).0

    lt : page < p.table.config.pages
    lt = on_table p turn.one_table within

    pub snapshot_taken : Cleans p q
    unfolding w
    snapshot_taken =
        cleans_step a refl refl turn
        (quar_cleans p.table.config w p.seat page v (ap is_pending_free a.own.flight ∙ turn.free.decided)
        (subst (λ (n : ℕ). page < n) (sym known.known.lengths.snapshot) lt) small
        (is ∙ ap (λ (n : ℕ). quarantine_word n n) (sym same_freed)))

    pub has_snapshot : HasTakenSnapshot q page
    unfolding w
    has_snapshot =
        let long' = subst (λ (n : ℕ). page < n) (sym known.known.lengths.freed) lt in
        let little = subst (λ (n : ℕ). n < 2 ^ 32) same_freed small in
        ap (λ (x : World). slice_index x.now.words.snapshot page) a.world ∙ get_or-set_same w.now.words.snapshot page (v
        / 2 ^ 32) 0 (subst (λ (n : ℕ). page < n) (sym known.known.lengths.snapshot) lt) ∙ ap (λ (n : ℕ). n / 2 ^ 32) is
        ∙ high_half _ little ∙ sym (ap (λ (x : World). slice_index x.now.words.freed page) a.world ∙ get_or-set_same
        w.now.words.freed page (v % 2 ^ 32) 0 long' ∙ ap (λ (n : ℕ). n % 2 ^ 32) is ∙ low_half _ little)

pub clean_stays : {p q : PassState} {page : ℕ} → Cleans p q → IsClean p page → IsClean q page
clean_stays k h = grind arith

-- what a look at a quarantine word says: its halves
pub record Halves (p : PassState) (page n : ℕ) : Type 0 where
  pub freed : n % 2 ^ 32 ≡ slice_index (now_of p).words.freed page
  pub snapshot : n / 2 ^ 32 ≡ slice_index (now_of p).words.snapshot page

pub halves : {p : PassState} (page n : ℕ) → IsTurn p → n ≡ quarantine_word (slice_index (now_of p).words.freed page)
    (slice_index (now_of p).words.snapshot page) → Halves p page n
halves {p} page n t is =
    let known = stands p.table.config p.seen t.history in
    let small = (known.all.order.quarantined.small page).0 in
    record { freed = omega arith; snapshot = omega arith }
