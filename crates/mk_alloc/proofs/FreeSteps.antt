-- The target of a Free is quarantined.
use Rattle.std.proofs.{Math.Pow.pow-lt, lemmas.Nat.or_lt}
use Rattle.mk_caller.proofs.Below.Laws.Vocabulary.{Answer, Bool, Caller, Cell, Config, Flight, Holding, List, None, Op}
use Rattle.mk_caller.proofs.Below.Laws.Vocabulary.{Option, Page, PlacedAllocation, Progress, Seat, Some, Stage, Steady}
use Rattle.mk_caller.proofs.Below.Laws.Vocabulary.{Step, Word, Words, World, ℕ, and_from, answer_decided, ap, arith}
use Rattle.mk_caller.proofs.Below.Laws.Vocabulary.{bit_or, caller_number, cell_freed, entry_of, eq-eqb, false}
use Rattle.mk_caller.proofs.Below.Laws.Vocabulary.{flight_of, freed_where_it_stands, frees, has_bit, header_in}
use Rattle.mk_caller.proofs.Below.Laws.Vocabulary.{heads_run, if◌then◌else◌, is_freed, is_run_cell, is_some}
use Rattle.mk_caller.proofs.Below.Laws.Vocabulary.{is_undecided_free, map, not, or_else, others_are_held, pointed_cell}
use Rattle.mk_caller.proofs.Below.Laws.Vocabulary.{progress_freed, quarantine_word, refl, run_of_cell, sees_double}
use Rattle.mk_caller.proofs.Below.Laws.Vocabulary.{set-get_or, slice_index, slice_set, subst, sym, target, true}
use Rattle.mk_caller.proofs.Below.Laws.Vocabulary.{world_behind, []}
use Rattle.mk_caller.proofs.Below.Laws.Vocabulary.{◌%◌, ◌&&◌, ◌*◌, ◌+◌, ◌-◌, ◌/◌, ◌<◌, ◌^◌, ◌||◌, ◌∙◌, ◌≡◌}
use Rattle.mk_alloc.proofs.ObjectVocabulary.{Acts, CallIsAt, FreesOnce, HasFreed, IsAsLeft, IsEnabledTo, IsFreedAt}
use Rattle.mk_alloc.proofs.ObjectVocabulary.{IsOutOfStop, IsTurn, MayFree, PassState, WordsState, answers_full, call_of}
use Rattle.mk_alloc.proofs.ObjectVocabulary.{histories_keep_the_invariant, min, now_of, steady_of, value_of}
use Rattle.mk_alloc.proofs.{ObjectVocabulary.{words_freed, world_of}, Looks.{acting_caller, acting_now}}
use Rattle.mk_alloc.proofs.{Looks.caller_has_call, MayAct.{free_is_acting, may_free, off_four}}
use Rattle.mk_alloc.proofs.{Unchanged.{HasCall, OfCaller, call_behind}, FreedOnce.frees_now}
use Rattle.mk_alloc.proofs.{LoadedFrees.{loaded_undecided, value_kept}, Reaching.{made_in, reaches_at_once}}
use Rattle.mk_alloc.proofs.{Serves.out_of_stop, Takes.one_bit_more}
use Rattle.mk_alloc.specs.{FreeParts.MayFreeOn, Retiring.{HasSeen, seen_free}}

-- The look at the quarantine word of a Free's target: where its freed bit is set, the Free is a double one.

pub target_same : (pages : ℕ) (w v : Words) (f : Flight) → v.pages ≡ w.pages → target pages v f ≡ target pages w f
target_same pages w v f same = ap (λ (ps : List Page). if is_undecided_free f then pointed_cell pages ps f.p
    else None) same

seen_at : (w : Words) (cell : Cell) → sees_double w (Some cell) (Word.Quar cell.page) ≡ is_freed w cell
seen_at w cell = ap (λ b. b && is_freed w cell) (eq-eqb cell.page cell.page refl)

pub freed_same : (w v : Words) (cell : Cell) → v.freed ≡ w.freed → is_freed v cell ≡ is_freed w cell
freed_same w v cell same = ap (λ (xs : List ℕ). has_bit (slice_index xs cell.page) cell.index) same

-- what is seen of the target in a world that is as it was left
seen_now : (c : Config) {s : Seat} (cell : Cell) {w v : World} → IsAsLeft s w v
    → target c.pages w.now.words (flight_of w.now s) ≡ Some cell → sees_double v.now.words
    (target c.pages v.now.words (flight_of v.now s)) (Word.Quar cell.page) ≡ is_freed w.now.words cell
seen_now c {s} cell {w} {v} kept at =
    let there : target c.pages v.now.words (flight_of v.now s) ≡ Some cell =
    ap (λ (f : Flight). target c.pages v.now.words f) kept.call ∙ target_same c.pages w.now.words v.now.words
    (flight_of w.now s) (ap (λ (x : Steady). x.pages) kept.steady) ∙ at in
    ap (λ (x : Option Cell). sees_double v.now.words x (Word.Quar cell.page)) there ∙ seen_at v.now.words cell
    ∙ freed_same w.now.words v.now.words cell (ap (λ (x : Steady). x.freed) kept.steady)

abbrev progress_seen : Flight → Bool → Progress
progress_seen f b = if b then record { flight = record f { stage = Stage.Give }; answer = Some Answer.Double }
    else record { flight = f; answer = None }

-- the answer of a Free, if its object was freed already
abbrev answer_seen : Bool → Option Answer
answer_seen double = if double then Some Answer.Double else None

seen_flight : (f : Flight) (b : Bool) → (progress_seen f b).flight ≡ seen_free f b
seen_flight f true = refl
seen_flight f false = refl

seen_answer : (f : Flight) (b : Bool) → (progress_seen f b).answer ≡ answer_seen b
seen_answer f true = refl
seen_answer f false = refl

record SeesBy (c : Config) (s : Seat) (cell : Cell) (w v : World) : Type 0 where
  at : CallIsAt s (seen_free (flight_of w.now s) (is_freed w.now.words cell)) w
      (world_behind c v (record { seat = s; step = Step.Look (Word.Quar cell.page) }))
  answer : answer_decided c v.now (record { seat = s; step = Step.Look (Word.Quar cell.page) })
      ≡ answer_seen (is_freed w.now.words cell)

sees_by : (c : Config) {s : Seat} (cell : Cell) {w v : World} → HasCall c v.now s → IsAsLeft s w v
    → target c.pages w.now.words (flight_of w.now s) ≡ Some cell → SeesBy c s cell w v
sees_by c cell {w} {v} (OfCaller k lt) kept at =
    let seen = seen_now c cell kept at in
    record {
      at = record {
        call = call_behind c v.now k (Step.Look (Word.Quar cell.page)) lt
            ∙ ap (λ b. (progress_seen (flight_of v.now (Caller k)) b).flight) seen
            ∙ ap (λ (f : Flight). (progress_seen f (is_freed w.now.words cell)).flight) kept.call
            ∙ seen_flight (flight_of w.now (Caller k)) (is_freed w.now.words cell);
        holding = kept.holding;
        steady = kept.steady;
        registers = kept.registers;
        gates = kept.gates;
      };
      answer = ap (λ b. (progress_seen (flight_of v.now (Caller k)) b).answer) seen
          ∙ seen_answer (flight_of v.now (Caller k)) (is_freed w.now.words cell);
    }

seen_no_full : (b : Bool) → answers_full (answer_seen b) ≡ false
seen_no_full true = refl
seen_no_full false = refl

seen_entry : (k : ℕ) (o : Op) (b : Bool)
    → entry_of k o (answer_seen b) ≡ (if b then entry_of k o (Some Answer.Double) else [])
seen_entry k o true = refl
seen_entry k o false = refl

pub see_reaches : {p q : PassState} (cell : Cell) → IsTurn p → is_undecided_free (call_of p) ≡ true
    → target p.table.config.pages (now_of p).words (call_of p) ≡ Some cell → Acts p (Step.Look (Word.Quar cell.page)) q
    → HasSeen p cell q
see_reaches {p} cell turn free at a =
    let caller = acting_caller p (free_is_acting (call_of p) free) in
    let double : Bool = is_freed (now_of p).words cell in
    reaches_at_once (CallIsAt p.seat (seen_free (call_of p) double) (world_of p)) a refl refl caller
    (λ v kept known pages.
    let to = sees_by p.table.config cell (caller_has_call v caller turn known) kept at in
    record {
      world = to.at;
      answer = answer_seen double;
      decides = to.answer;
      no_full = seen_no_full double;
      entry = ap (λ (f : Flight). entry_of (caller_number p.seat) f.op (answer_seen double)) kept.call
          ∙ seen_entry (caller_number p.seat) (call_of p).op double;
    })

-- A look that finds its target unfreed decides nothing.
pub see_keeps : {p q : PassState} (r : ℕ) (cell : Cell) → r < 8 → IsTurn p
    → is_undecided_free (call_of p) ≡ true → target p.table.config.pages (now_of p).words (call_of p) ≡ Some cell
    → is_freed (now_of p).words cell ≡ false → Acts p (Step.Look (Word.Quar cell.page)) q → value_of q r ≡ value_of p r
see_keeps {p} r cell small turn free at live a =
    let caller = acting_caller p (free_is_acting (call_of p) free) in
    value_kept r caller small a (λ v kept known.
    (sees_by p.table.config cell (caller_has_call v caller turn known) kept at).answer ∙ ap answer_seen live)

-- the word that the step stores
abbrev pub freed_word : Words → Cell → ℕ
freed_word w cell = quarantine_word (slice_index w.freed cell.page + 2 ^ cell.index) (slice_index w.snapshot cell.page)

pub frees_it : (w : Words) (cell : Cell) → is_freed w cell ≡ false
    → frees w (Some cell) cell.page (freed_word w cell) ≡ true
frees_it w cell clear = grind (arith, and_from, eq-eqb, freed_word)

freed_left : (c : Config) {s : Seat} (cell : Cell) {value : ℕ} {w v : World} → IsAsLeft s w v → IsOutOfStop v.now
    → target c.pages w.now.words (flight_of w.now s) ≡ Some cell → is_freed w.now.words cell ≡ false → value
    ≡ freed_word w.now.words cell → cell_freed c.pages v.now.words (flight_of v.now s) cell.page value ≡ Some cell
freed_left c cell kept low at clear is = grind (arith, target_same, freed_word, freed_same, off_four, frees_it)

-- Both halves of the word are apart.
pub low_half : (f s : ℕ) → f < 2 ^ 32 → quarantine_word f s % 2 ^ 32 ≡ f
low_half f s lt = omega arith

high_half : (f s : ℕ) → f < 2 ^ 32 → quarantine_word f s / 2 ^ 32 ≡ s
high_half f s lt = omega arith

quar_behind : (c : Config) {s : Seat} (cell : Cell) {value : ℕ} {w v : World} → HasCall c v.now s → IsAsLeft s w v
    → IsOutOfStop v.now → target c.pages w.now.words (flight_of w.now s) ≡ Some cell → is_freed w.now.words cell ≡ false
    → value ≡ freed_word w.now.words cell → slice_index w.now.words.freed cell.page + 2 ^ cell.index < 2 ^ 32
    → IsFreedAt c s cell w (world_behind c v (record { seat = s; step = Step.Quar cell.page value })) ×
    (answer_decided c v.now (record { seat = s; step = Step.Quar cell.page value }) ≡ Some Answer.Done)
quar_behind c cell {value} {w} {v} (OfCaller k lt) kept low at clear is small =
    let pages : v.now.words.pages ≡ w.now.words.pages = ap (λ (x : Steady). x.pages) kept.steady in
    let freeds : v.now.words.freed ≡ w.now.words.freed = ap (λ (x : Steady). x.freed) kept.steady in
    let snapshots : v.now.words.snapshot ≡ w.now.words.snapshot = ap (λ (x : Steady). x.snapshot) kept.steady in
    let f : Flight = flight_of v.now (Caller k) in
    let frees : cell_freed c.pages v.now.words f cell.page value ≡ Some cell = freed_left c cell kept low at clear is in
    let u : World = world_behind c v (record { seat = Caller k; step = Step.Quar cell.page value }) in
    let n : ℕ = slice_index w.now.words.freed cell.page + 2 ^ cell.index in
    let freed : u.now.words.freed ≡ slice_set w.now.words.freed cell.page n = grind (arith, low_half) in
    let snapshot : u.now.words.snapshot ≡ w.now.words.snapshot = ap (λ i. slice_set v.now.words.snapshot cell.page
    (i / 2 ^ 32)) is ∙ ap (λ i. slice_set v.now.words.snapshot cell.page i)
    (high_half n (slice_index w.now.words.snapshot cell.page) small) ∙ ap (λ (xs : List ℕ). slice_set xs cell.page
    (slice_index w.now.words.snapshot cell.page)) snapshots ∙ set-get_or w.now.words.snapshot cell.page 0 in
    let allocations : u.allocations ≡ map (freed_where_it_stands w.now.words (Some cell)) w.allocations =
    ap (λ (x : Option Cell). map (freed_where_it_stands v.now.words x) v.allocations) frees
    ∙ ap (λ (ps : List Page). map (freed_where_it_stands (record v.now.words { pages = ps }) (Some cell)) v.allocations)
    pages ∙ ap (λ (xs : List PlacedAllocation). map (freed_where_it_stands w.now.words (Some cell)) xs)
    (ap (λ (x : Steady). x.allocations) kept.steady) in (
      record {
        call = call_behind c v.now k (Step.Quar cell.page value) lt
            ∙ ap (λ (x : Option Cell). (progress_freed f x).flight) frees
            ∙ ap (λ (g : Flight). record g { stage = Stage.Give }) kept.call;
        holding = ap (λ (x : Option Cell). record v.now.seats.holding {
          freed = or_else (run_of_cell v.now.words x) v.now.seats.holding.freed;
        }) frees ∙ ap (λ (ps : List Page). record v.now.seats.holding {
          freed = or_else (run_of_cell (record v.now.words { pages = ps }) (Some cell)) v.now.seats.holding.freed;
        }) pages ∙ ap (λ (h : Holding).
            record h { freed = or_else (run_of_cell w.now.words (Some cell)) h.freed }) kept.holding;
        freed = freed;
        snapshot = snapshot;
        fresh = ap (λ (x : Option Cell). min (v.now.fresh_words + words_freed v.now.words x) (2 ^ 64 - 1)) frees
            ∙ ap (λ (ps : List Page). min (v.now.fresh_words + words_freed (record v.now.words { pages = ps })
            (Some cell)) (2 ^ 64 - 1)) pages ∙ ap (λ i. min (i + words_freed w.now.words (Some cell)) (2 ^ 64 - 1))
            (ap (λ (x : Steady). x.fresh_words) kept.steady);
        steady = ap (λ (xs : List PlacedAllocation). record (steady_of v) {
          freed = u.now.words.freed;
          snapshot = u.now.words.snapshot;
          fresh_words = u.now.fresh_words;
          allocations = xs;
        }) allocations ∙ ap (λ (x : Steady). record x {
          freed = u.now.words.freed;
          snapshot = u.now.words.snapshot;
          fresh_words = u.now.fresh_words;
          allocations = map (freed_where_it_stands w.now.words (Some cell)) w.allocations;
        }) kept.steady;
        registers = kept.registers;
        gates = kept.gates;
      },
      ap (λ (x : Option Cell). (progress_freed f x).answer) frees,
    )

-- the word that is made of both halves of the one that was found
pub freed_word_made : (f s i : ℕ) → f < 2 ^ 32 → i < 32 → has_bit f i ≡ false → {quar : ℕ} → quar ≡ quarantine_word f s
    → bit_or (quar % 4294967296) (1 * 2 ^ i % 2 ^ 64) + 4294967296 * (quar / 4294967296) ≡ quarantine_word (f + 2 ^ i) s
freed_word_made f s i lt near clear is = grind (arith, one_bit_more)

pub freed_half : (f i : ℕ) → f < 2 ^ 32 → i < 32 → has_bit f i ≡ false → f + 2 ^ i < 2 ^ 32
freed_half f i lt near clear =
    let bit : bit_or f (1 * 2 ^ i % 2 ^ 64) ≡ f + 2 ^ i = one_bit_more f i (omega arith) clear in
    let power : 2 ^ i < 2 ^ 32 = pow-lt {i = i} {j = 32} near in
    let same : 1 * 2 ^ i % 2 ^ 64 ≡ 2 ^ i = omega arith in
    let fits : bit_or f (1 * 2 ^ i % 2 ^ 64) < 2 ^ 32 = or_lt 32 f (1 * 2 ^ i % 2 ^ 64) lt (omega arith) in
    omega arith

-- The holder may free what its Free has found, and stores the word that is made of both halves of the one found.
module _ {w : WordsState} {p : PassState} {cell : Cell} {quar : ℕ} (free : MayFreeOn w p cell quar)
    (turn : IsTurn p) where
  may : MayFree p free.register free.value cell
  may = free.may

  abbrev stored : ℕ
  stored = bit_or (quar % 4294967296) (1 * 2 ^ cell.index % 2 ^ 64) + 4294967296 * (quar / 4294967296)

  abbrev f : ℕ
  f = slice_index (now_of p).words.freed cell.page

  abbrev s : ℕ
  s = slice_index (now_of p).words.snapshot cell.page

  undecided : is_undecided_free (call_of p) ≡ true
  undecided = loaded_undecided free.value may.free may.some

  small : (f < 2 ^ 32) × (s < 2 ^ 32)
  small = (histories_keep_the_invariant p.table.config p.seen turn.history).order.quarantined.small cell.page

  made : stored ≡ freed_word (now_of p).words cell
  made = freed_word_made f s cell.index small.0 may.index may.live free.found

  half : f + 2 ^ cell.index < 2 ^ 32
  half = freed_half f cell.index small.0 may.index may.live

  low_there : {v : World} → IsAsLeft p.seat (world_of p) v → IsOutOfStop v.now
  low_there {v} kept = out_of_stop (now_of p) v.now (ap (λ (x : Steady). x.phase) kept.steady) may.phase

  pub quarantine_half : bit_or (quar % 4294967296) (1 * 2 ^ cell.index % 2 ^ 64) < 4294967296
  quarantine_half =
      let low : f < 2 ^ 32 = small.0 in
      let found = free.found in
      let same : quar % 4294967296 ≡ f = omega (arith, found, low) in
      let more : bit_or f (1 * 2 ^ cell.index % 2 ^ 64) ≡ f + 2 ^ cell.index =
      one_bit_more f cell.index (omega arith) may.live in
      subst (λ (n : ℕ). n < 4294967296)
      (sym (ap (λ (n : ℕ). bit_or n (1 * 2 ^ cell.index % 2 ^ 64)) same ∙ more)) half

  pub quarantine_may : (not (heads_run (header_in (now_of p).words cell.page)) || others_are_held p.table.config.callers
      (now_of p).words p.seat) ≡ true → IsEnabledTo p (Step.Quar cell.page stored)
  quarantine_may gates =
      may_free (acting_now turn (free_is_acting (call_of p) undecided)) cell.page stored may.within may.phase
      (ap (λ (x : Option Cell). not (is_run_cell (now_of p).words x) || others_are_held p.table.config.callers
      (now_of p).words p.seat) may.target ∙ gates)
      (ap (λ (x : Option Cell). frees (now_of p).words x cell.page stored) may.target
      ∙ ap (λ n. frees (now_of p).words (Some cell) cell.page n) made ∙ frees_it (now_of p).words cell may.live)

  module _ {q : PassState} (a : Acts p (Step.Quar cell.page stored) q) where
    pub quarantine_reaches : HasFreed p cell q
    quarantine_reaches =
        let caller = acting_caller p (free_is_acting (call_of p) undecided) in
        reaches_at_once (IsFreedAt p.table.config p.seat cell (world_of p)) a refl refl caller (λ v kept known pages.
        let to = quar_behind p.table.config cell (caller_has_call v caller turn known) kept (low_there kept) may.target
        may.live made half in
        record {
          world = to.0;
          answer = Some Answer.Done;
          decides = to.1;
          no_full = refl;
          entry = ap (λ (f : Flight). entry_of (caller_number p.seat) f.op (Some Answer.Done)) kept.call;
        })

    -- and frees once
    pub quarantine_once : FreesOnce p q
    quarantine_once =
        frees_now (made_in p _ a) a.makes.pass.history turn (λ v kept. ap (λ (x : Option Cell). is_some x)
        (freed_left p.table.config cell kept (low_there kept) may.target may.live made))
