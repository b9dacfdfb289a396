-- Roots that point well, one after the other.
use Rattle.std.proofs.lemmas.Nat.{le_or_l, le_or_r}
use Rattle.mk_words.proofs.Below.Laws.Vocabulary.{Config, Event, IsHistory, List, Null, Word, Words, ℕ, ap, arith}
use Rattle.mk_words.proofs.Below.Laws.Vocabulary.{at_rest, bit_or, cases_lt, flight_among, get_or_past}
use Rattle.mk_words.proofs.Below.Laws.Vocabulary.{histories_keep_lengths, inl, inr, leb-true, left, never_behind}
use Rattle.mk_words.proofs.Below.Laws.Vocabulary.{points_well, register_word, slice_index, slice_index_or, subst, true}
use Rattle.mk_words.proofs.Below.Laws.Vocabulary.{◌%◌, ◌*◌, ◌+◌, ◌/◌, ◌<◌, ◌∙◌, ◌≡◌, ◌≤◌}
use Rattle.mk_words.proofs.Below.Laws.InvariantHistories.{histories_keep_the_invariant}
use Rattle.mk_words.proofs.{Below.Laws.Protocols.lists_keep_the_protocol, PointedCells.outside_none}
use Rattle.mk_cycle.proofs.{MoreMarks.{marked_as, more_then, well_more, well_none, zero_none}, Notes.notes_then}
use Rattle.mk_cycle.proofs.StopSteps.{looks_from, looks_then}
use Rattle.mk_cycle.specs.Grays.{GlobalIsWell, LooksOn, MarksMore, RegistersAreWell, RootsPointWell, Notes}
use Rattle.mk_cycle.specs.{Grays.MarksAndNotes, Stops.{IsWanted, is_root, still_words}}
use Rattle.mk_core.specs.Words.{named_word}
use Rattle.mk_words.specs.States.{PassState, TurnState, WordsState, now_of}

-- Each value below one points well, and so does the next.
values_then : (pages : ℕ) {v x : Words} (value : ℕ → ℕ) (i : ℕ) → MarksMore v x
    → ((k : ℕ) → k < i → points_well pages v (value k) ≡ true)
    → points_well pages x (value i) ≡ true → (k : ℕ) → k < i + 1 → points_well pages x (value k) ≡ true
values_then pages value i more before here k lt = grind (arith, cases_lt, well_more)

-- A root is the same after marks.
root_kept : {w v : Words} (x : Word) → is_root x ≡ true → MarksMore w v → named_word v x ≡ named_word w x
root_kept x root more = grind (arith, marked_as)

-- Marks were added, and what each root below one pointed into is marked.
pub record RootsMarked (pages : ℕ) (w v : Words) (root : ℕ → Word) (n : ℕ) : Type 0 where
  pub more : MarksMore w v
  pub well : (k : ℕ) → k < n → points_well pages v (named_word w (root k)) ≡ true

pub no_root_yet : {pages : ℕ} {w v : Words} {root : ℕ → Word} → MarksMore w v → RootsMarked pages w v root 0
no_root_yet more = record { more = more; well = λ k lt. absurd (omega arith) }

-- And the next, which was looked at after them.
pub next_root : {pages : ℕ} {w v x : Words} {root : ℕ → Word} {i : ℕ} → ((k : ℕ) → is_root (root k) ≡ true)
    → RootsMarked pages w v root i → MarksMore v x → points_well pages x (named_word v (root i)) ≡ true
    → RootsMarked pages w x root (i + 1)
next_root {pages} {w} {v} {x} {root} {i} are before more here = record {
  more = more_then w v x before.more more;
  well = values_then pages (λ k. named_word w (root k)) i more before.well
      (subst (λ n. points_well pages x n ≡ true) (root_kept (root i) (are i) before.more) here);
}

-- The same in a stop with a list of what is noted.
pub record RootsNoted (pages : ℕ) (t : TurnState) (had : Notes) (u : TurnState) (has : Notes) (root : ℕ → Word)
    (n : ℕ) : Type 0 where
  pub marks : MarksAndNotes pages t had u has
  pub well : (k : ℕ) → k < n → points_well pages (still_words u.pass) (named_word (still_words t.pass) (root k)) ≡ true

pub no_root_noted : {pages : ℕ} {t u : TurnState} {a b : Notes} {root : ℕ → Word} → MarksAndNotes pages t a u b
    → RootsNoted pages t a u b root 0
no_root_noted marks = record { marks = marks; well = λ k lt. absurd (omega arith) }

pub next_root_noted : {pages : ℕ} {t u v : TurnState} {a b c : Notes} {root : ℕ → Word} {i : ℕ}
    → ((k : ℕ) → is_root (root k) ≡ true) → RootsNoted pages t a u b root i → MarksAndNotes pages u b v c
    → points_well pages (still_words v.pass) (named_word (still_words u.pass) (root i)) ≡ true
    → RootsNoted pages t a v c root (i + 1)
next_root_noted are before marks here =
    let roots = next_root are (record { more = before.marks.more; well = before.well }) marks.more here in
    record { marks = notes_then before.marks marks; well = roots.well }

-- Each register of the callers below one points well, and so do those of the next.
pub registers_then : (c : Config) (p q r : PassState) {k : ℕ} → MarksMore (still_words p) (still_words q)
    → MarksMore (still_words q) (still_words r) → ((j : ℕ) → j < k → RegistersAreWell c p q j)
    → RegistersAreWell c q r k → (j : ℕ) → j < k + 1 → RegistersAreWell c p r j
registers_then c p q r {k} one two before here j lt n few = grind (arith, next_root)

-- A value before the heap points well.
pub before_well : (pages : ℕ) (w : Words) (u : ℕ) → u < 65536 → points_well pages w u ≡ true
before_well pages w u before = grind (arith, well_none, outside_none, leb-true)

-- Each value below one is at most what all of them come to, bit by bit.
most_then : (value : ℕ → ℕ) (all next i : ℕ) → ((j : ℕ) → j < i → value j ≤ all) → next ≡ value i
    → (j : ℕ) → j < i + 1 → value j ≤ bit_or all next
most_then value all next i before is j lt = grind (arith, cases_lt, le_or_l, le_or_r)

-- Words that are looked at, one after the other: each is at most what all come to.
pub record LooksAtMost (t u : TurnState) (value : Words → ℕ → ℕ) (all n : ℕ) : Type 0 where
  pub looks : LooksOn t u
  pub most : (j : ℕ) → j < n → value (still_words t.pass) j ≤ all

pub no_look_yet : {t : TurnState} {value : Words → ℕ → ℕ} → IsWanted t.pass → LooksAtMost t t value 0 0
no_look_yet wanted = record { looks = looks_from wanted; most = λ j lt. absurd (omega arith) }

pub next_look : {t u v : TurnState} {value : Words → ℕ → ℕ} {all next i : ℕ} → LooksAtMost t u value all i
    → LooksOn u v → next ≡ value (still_words u.pass) i → LooksAtMost t v value (bit_or all next) (i + 1)
next_look {value = value} {all} {next} {i} before look found = record {
  looks = looks_then before.looks look;
  most = most_then (value _) all next i before.most (found ∙ ap (λ (w : Words). value w i) before.looks.words);
}

-- Each global of the groups below one points well, and so do those of the next.
pub groups_then : (pages : ℕ) {w v x : Words} (group : ℕ) → MarksMore w v → MarksMore v x
    → ((g : ℕ) → g < 8 * group → points_well pages v (slice_index w.globals g) ≡ true)
    → ((i : ℕ) → i < 8 → points_well pages x (slice_index v.globals (8 * group + i)) ≡ true)
    → (g : ℕ) → g < 8 * (group + 1) → points_well pages x (slice_index w.globals g) ≡ true
groups_then pages group old more before here g lt = grind (arith, cases_lt, well_more, root_kept)

-- A register after those of the callers is 0.
pub register_past : {c : Config} {es : List Event} (i : ℕ) → IsHistory c es → 8 * c.callers ≤ i
    → slice_index (left c es).now.words.registers i ≡ 0
register_past {c} {es} i h past =
    let all = histories_keep_the_invariant c es h in
    let count = (lists_keep_the_protocol c es h.within_limits h.enabled).callers in
    let some = all.mirrors.register_count in
    let idle : flight_among (left c es).now.seats.flights (i / 8) ≡ at_rest = grind (arith, get_or_past) in
    let null : slice_index_or (never_behind c es).registers i Null ≡ Null = grind (arith, get_or_past) in
    cc (idle, all.mirrors.images.registers i, null)

roots_well : (p : PassState) (pages : ℕ) (w : Words) → IsHistory p.table.config p.seen → pages ≡ p.table.config.pages
    → w.registers ≡ (now_of p).words.registers → w.globals ≡ (now_of p).words.globals
    → ((k r : ℕ) → k < p.table.config.callers → r < 8 → points_well pages w (register_word (now_of p).words k r) ≡ true)
    → ((g : ℕ) → g < 64 → points_well pages w (slice_index (now_of p).words.globals g) ≡ true) → RootsPointWell pages w
roots_well p pages w h same registers globals rs gs = record {
  registers = λ i. ap (λ (xs : List ℕ). points_well pages w (slice_index xs i)) registers ∙ register i;
  globals = λ g. ap (λ (xs : List ℕ). points_well pages w (slice_index xs g)) globals ∙ (elim (cases_lt g 64) [
    | inl lt ↦ gs g lt
    | inr past ↦
        null (slice_index (now_of p).words.globals g) (get_or_past (now_of p).words.globals g 0 (let long =
        (histories_keep_lengths p.table.config p.seen).globals in omega arith))
  ]);
}
  where
    null : (n : ℕ) → n ≡ 0 → points_well pages w n ≡ true
    null n z = ap (λ u. points_well pages w u) z ∙ well_none pages w 0 (zero_none pages w.pages)

    register : (i : ℕ) → points_well pages w (slice_index (now_of p).words.registers i) ≡ true
    register i = elim (cases_lt i (8 * p.table.config.callers)) [
      | inl lt ↦
          let at : 8 * (i / 8) + i % 8 ≡ i = omega arith in
          cc (at, rs (i / 8) (i % 8) (omega arith) (omega arith))
      | inr past ↦ null (slice_index (now_of p).words.registers i) (register_past i h past)
    ]

-- The registers point well after the first marks, and the globals after more.
pub all_roots_well : (t : TurnState) (q r : PassState) {k : WordsState} → t.pass.table ≡ k
    → MarksMore (still_words t.pass) (still_words q) → MarksMore (still_words q) (still_words r)
    → ((j : ℕ) → j < k.config.callers → RegistersAreWell k.config t.pass q j)
    → ((g : ℕ) → g < 64 → GlobalIsWell k.config q r g) → RootsPointWell k.config.pages (still_words r)
all_roots_well t q r {k} table one two registers globals =
    grind (arith, more_then, roots_well, well_more, t.in_order)
