-- Each step of a sweep goes on with it.
use Rattle.mk_sweep.proofs.Vocabulary.{Acts, Cell, Config, InGlobal, InRegister, InWord, IsEnabledTo, IsScannedWord}
use Rattle.mk_sweep.proofs.Vocabulary.{IsSettled, IsSweptValue, Moment, PassState, PlacedAllocation, Step, SweepsBy}
use Rattle.mk_sweep.proofs.Vocabulary.{SweepsOn, TurnState, Untouched, Words, WordsState, World, cell_of_allocation}
use Rattle.mk_sweep.proofs.Vocabulary.{event_of, has_no_pointers, header_in, is_marked, now_of, others_are_held}
use Rattle.mk_sweep.proofs.Vocabulary.{phase_of, placed_at, pointed_cell, still_words, untouched_of, world_of}
use Rattle.mk_sweep.proofs.{Done.{looks_in_parts, looks_of_nothing, looks_of_step}, Kept.unmapped_kept}
use Rattle.mk_sweep.proofs.ScannedCells.{mapped_cell, scanned_stands}
use Rattle.mk_cycle.proofs.Below.Laws.Vocabulary.{Bool, Hand, Holding, List, None, Option, Some, Word, ℕ, address_of}
use Rattle.mk_cycle.proofs.Below.Laws.Vocabulary.{and_from, and_parts, ap, append-nil, arith, eq-eqb, false, found}
use Rattle.mk_cycle.proofs.Below.Laws.Vocabulary.{if◌then◌else◌, lt-ltb, ne_eqb, or_else, page_at_address, refl}
use Rattle.mk_cycle.proofs.Below.Laws.Vocabulary.{slice_index, subst, sym, true, word_points, [], ◌&&◌, ◌*◌, ◌++◌, ◌+◌}
use Rattle.mk_cycle.proofs.Below.Laws.Vocabulary.{◌<◌, ◌^◌, ◌∙◌, ◌∷◌, ◌≡◌}
use Rattle.mk_cycle.proofs.Below.Laws.{InvariantHistories.allocations_stand, MappedWords.mapped_stays}
use Rattle.mk_cycle.proofs.{MaySteps.{marks_by, may_look, may_mark_by_hand}, Stilled.{but_phase, found_now, hand_now}}
use Rattle.mk_cycle.proofs.Stilled.{is_stopped_step, look_words, phase_there, root_hand, still_wanted, stopped_traces}
use Rattle.mk_cycle.proofs.{Stilled.words_there, Parts.{traces_alike, traces_nothing, traces_then}}
use Rattle.mk_cycle.proofs.{Steps.step_untouched, Below.Words.PointedCells.{found_there, looked_for}}
use Rattle.mk_cycle.specs.{Stops.{IsWanted, hand_of, is_page_word, is_root}, Tracing.{Traces, is_marking}}
use Rattle.mk_cycle.specs.Below.Words.{TurnSteps.{LooksForCell, MayLookAtHeaders}, Steps.Finds}
use Rattle.mk_cycle.specs.Below.Words.TurnSteps.{world_at}
use Rattle.mk_core.{proofs.PointedPages.{pointed_within}, specs.declared.seats.Source.TheVariants.{Marked, Unmarked}}
use Rattle.mk_core.specs.{Effects.{hand_given, is_in_stop, is_mapped_cell}, Conditions.is_word, Words.named_word}
use Rattle.mk_sweep.specs.Sweeps.{HasInHand, IsReachedCell, IsSweeping, word_looked_at, IsSweptCell}

-- Where values and allocations are the same, so is what a sweep looks at and marks.
module _ (c : Config) (v w : World) (same : untouched_of v ≡ untouched_of w) where
  pub word_alike : (n : ℕ) → IsScannedWord c v.allocations n → IsScannedWord c w.allocations n
  word_alike n = grind arith

  pub value_alike : {u : ℕ} → IsSweptValue c v u → IsSweptValue c w u
  value_alike (InRegister i is) = InRegister i (sym (ap (λ (x : Untouched). slice_index x.registers i) same) ∙ is)
  value_alike (InGlobal g is) = InGlobal g (sym (ap (λ (x : Untouched). slice_index x.globals g) same) ∙ is)
  value_alike (InWord n scanned is) =
      InWord n (word_alike n scanned) (sym (ap (λ (x : Untouched). slice_index x.heap n) same) ∙ is)

  pub cell_alike : {cell : Cell} → IsSweptCell c v cell → IsSweptCell c w cell
  cell_alike s = record {
    value = s.value;
    found = value_alike s.found;
    points = sym (ap (λ (x : Untouched). pointed_cell c.pages x.steady.pages s.value) same) ∙ s.points;
  }

  pub rule_alike : (m : Moment) (s : Step) → SweepsBy v c m s → SweepsBy w c m s
  rule_alike m x1 r = grind (arith, word_alike, cell_alike)

-- The sweep goes on, and on.

pub sweeps_from : (t : TurnState) → IsSweeping t.pass → SweepsOn t t []
sweeps_from t sweeping =
    let traces : Traces is_marking (SweepsBy (world_of t.pass)) t.pass t.pass = grind (arith, traces_nothing) in
    record { table = refl; sweeping = sweeping; traces = traces; looked = looks_of_nothing traces.does }

pub sweeps_then : {t u v : TurnState} {ns ms : List ℕ} → SweepsOn t u ns → SweepsOn u v ms → SweepsOn t v (ns ++ ms)
sweeps_then {t} {u} {v} {ns} one two =
    let next : Traces is_marking (SweepsBy (world_of t.pass)) u.pass v.pass =
    traces_alike is_marking _ _ _ _ (rule_alike _ _ _ one.traces.untouched) two.traces in
    let traces = traces_then is_marking (SweepsBy (world_of t.pass)) t.pass u.pass v.pass one.traces next in
    record {
      table = two.table ∙ one.table;
      sweeping = two.sweeping;
      traces = traces;
      looked = cc (looks_in_parts one.traces.does two.traces.does traces.does, one.looked, two.looked);
    }

-- A part that looks at no heap word, before or after.

pub quiet_then : {t u v : TurnState} {ms : List ℕ} → SweepsOn t u [] → SweepsOn u v ms → SweepsOn t v ms
quiet_then one two = sweeps_then one two

pub then_quiet : {t u v : TurnState} {ns : List ℕ} → SweepsOn t u ns → SweepsOn u v [] → SweepsOn t v ns
then_quiet {t} {v} {ns} one two = subst (λ xs. SweepsOn t v xs) (append-nil ns) (sweeps_then one two)

-- Nothing is on its way after it.
pub settled_kept : (p q : PassState) → q ≡ record p { seen = q.seen } → untouched_of (world_of q) ≡ untouched_of
    (world_of p) → phase_of (now_of q).words ≡ 2 → IsSettled (world_of p) → IsSettled (world_of q)
settled_kept p q pass same two settled = grind (arith, ne_eqb, unmapped_kept)

module _ {t u : TurnState} (sweeping : IsSweeping t.pass) where
  pub sweeps_by_step : {s : Step} (a : Acts t.pass s u.pass) → is_stopped_step s ≡ true → is_marking s ≡ true
      → SweepsBy (world_of t.pass) t.pass.table.config (world_at a.makes).now s → SweepsOn t u (word_looked_at s)
  sweeps_by_step {s} a stopped kind ruled =
      let traces = stopped_traces a sweeping.wanted stopped (SweepsBy (world_of t.pass)) kind ruled in
      let wanted = still_wanted a sweeping.wanted stopped in
      record {
        table = ap (λ (x : PassState). x.table) a.makes.is;
        sweeping = record {
          wanted = wanted;
          settled = settled_kept t.pass u.pass (a.makes.is ∙ ap (λ (x : PassState). record t.pass { seen = x.seen })
              (sym a.makes.is)) traces.untouched wanted.phase sweeping.settled;
        };
        traces = traces;
        looked = looks_of_step a.makes traces.does;
      }

  pub on_plain : (x : Word) → Acts t.pass (Step.Look x) u.pass → is_page_word x ≡ true → SweepsOn t u []
  on_plain (Word.Head p) a h = sweeps_by_step a refl refl tt
  on_plain (Word.Used p) a h = sweeps_by_step a refl refl tt
  on_plain (Word.Mark p) a h = sweeps_by_step a refl refl tt
  on_plain (Word.Black p) a h = sweeps_by_step a refl refl tt
  on_plain (Word.Dirty p) a h = sweeps_by_step a refl refl tt
  on_plain _ a h = cc

  pub on_root : (x : Word) → Acts t.pass (Step.Look x) u.pass → is_root x ≡ true → SweepsOn t u []
  on_root (Word.Reg j r) a h = sweeps_by_step a refl refl tt
  on_root (Word.Global g) a h = sweeps_by_step a refl refl tt
  on_root _ a h = cc

  pub on_word : {n : ℕ} → Acts t.pass (Step.Look (Word.Heap n)) u.pass
      → IsScannedWord t.pass.table.config (world_of t.pass).allocations n → SweepsOn t u (n ∷ [])
  on_word {n} a scanned = sweeps_by_step a refl refl scanned

  pub on_mark : {cell : Cell} → Acts t.pass (Step.Mark cell.page (2 ^ cell.index)) u.pass → IsReachedCell t.pass cell
      → SweepsOn t u []
  on_mark {cell} a r = sweeps_by_step a refl refl (record {
    index = cell.index;
    bit = refl;
    swept = record { value = r.value; found = r.in_hand.found; points = r.points };
  })

  pub on_black : {page value : ℕ} → Acts t.pass (Step.Black page value) u.pass → SweepsOn t u []
  on_black {page} {value} a = sweeps_by_step a refl refl tt

  pub on_unblack : {page : ℕ} → Acts t.pass (Step.Unblack page) u.pass → SweepsOn t u []
  on_unblack {page} a = sweeps_by_step a refl refl tt

  pub on_undirty : {page : ℕ} → Acts t.pass (Step.Undirty page) u.pass → SweepsOn t u []
  on_undirty {page} a = sweeps_by_step a refl refl tt

-- The cell into which a value points is looked for.

pub may_look_at_headers : (t : TurnState) → IsSweeping t.pass → MayLookAtHeaders t.pass
may_look_at_headers t sweeping page lt = may_look t sweeping.wanted (Word.Head page) (lt-ltb page _ lt)

module _ {value : ℕ} {t u : TurnState} (l : LooksForCell value t u) (sweeping : IsSweeping t.pass) where
  pub sweeps_for_cell : SweepsOn t u []
  sweeps_for_cell =
      looked_for (λ (v : TurnState). SweepsOn t v []) l (sweeps_from t sweeping)
      (λ a. on_plain sweeping (Word.Head (page_at_address value)) a refl)

  pub words_for_cell : still_words u.pass ≡ still_words t.pass
  words_for_cell = grind (arith, looked_for, look_words)

-- The hand stays, through looks that leave it.
pub hand_kept : {t u : TurnState} {ns : List ℕ} {n : ℕ} → SweepsOn t u ns → hand_of u.pass ≡ hand_of t.pass
    → HasInHand t.pass n → HasInHand u.pass n
hand_kept {t} {u} {n} on same h = record {
  hand = h.hand;
  is = same ∙ h.is;
  value = h.value;
  found = subst (λ (x : Config). IsSweptValue x (world_of u.pass) n) (sym (ap (λ (x : WordsState). x.config)
      on.table)) (value_alike _ _ _ (sym on.traces.untouched) h.found);
}

pub reached_within : {p : PassState} {cell : Cell} → IsReachedCell p cell
    → (cell.page < p.table.config.pages) × (cell.index < 64)
reached_within {p} {cell} r = pointed_within p.table.config.pages (still_words p) r.value cell r.points

pub may_mark_reached : (t : TurnState) {cell : Cell} → IsWanted t.pass → IsReachedCell t.pass cell
    → IsEnabledTo t.pass (Step.Mark cell.page (2 ^ cell.index))
may_mark_reached t {cell} wanted r =
    may_mark_by_hand t wanted cell (marks_by _ (now_of t.pass).words _ r.value cell r.in_hand.hand r.in_hand.is
    r.in_hand.value r.points) (reached_within r).0

-- what a look at a root gives, and one at a scanned word

pub root_in_hand : {p q : PassState} → IsWanted p → {x : Word} → Acts p (Step.Look x) q → {n : ℕ}
    → Finds p (Step.Look x) n q → is_root x ≡ true → HasInHand q n
root_in_hand {p} {q} wanted {x} a {n} finds root =
    let h = root_hand wanted a finds root in
    record { hand = h.hand; is = h.is; value = h.value; found = by x root (found_there p q x n finds) }
  where
    by : (y : Word) → is_root y ≡ true → named_word (now_of q).words y ≡ n → IsSweptValue q.table.config (world_of q) n
    by (Word.Reg j r) e is = InRegister (8 * j + r) is
    by (Word.Global g) e is = InGlobal g is
    by _ e is = cc

module _ (t : TurnState) (n : ℕ) (scanned : IsScannedWord t.pass.table.config (world_of t.pass).allocations n) where
  abbrev p : PassState
  p = t.pass

  abbrev a : PlacedAllocation
  a = placed_at (world_of p).allocations scanned.number

  abbrev cell : Cell
  cell = cell_of_allocation p.table.config (placed_at (world_of p).allocations scanned.number)

  pub word_named : is_word p.table.config (Word.Heap n) ≡ true
  word_named = grind (arith, and_parts, allocations_stand, mapped_stays, lt-ltb, t.in_order)

  module _ {q : PassState} (sweeping : IsSweeping p) (acts : Acts p (Step.Look (Word.Heap n)) q) where
    abbrev m : Moment
    m = (world_at acts.makes).now

    still : but_phase (world_at acts.makes).now.words ≡ still_words p
    still = words_there acts sweeping.wanted

    abbrev gives : Bool → Bool → Bool → ℕ → Option Hand
    gives bare marked mapped value =
        if bare then None else if marked then Some (record { value = value; source = Marked })
        else if mapped then Some (record { value = value; source = Unmarked }) else None

    pointed_now : pointed_cell p.table.config.pages (world_at acts.makes).now.words.pages (address_of n)
        ≡ Some (cell_of_allocation p.table.config (placed_at (world_of p).allocations scanned.number))
    pointed_now = ap (λ (w : Words). pointed_cell p.table.config.pages w.pages (address_of n)) still ∙
        (grind (arith, and_parts, allocations_stand, mapped_stays, word_points, t.in_order))

    bare_now : has_no_pointers (header_in (world_at acts.makes).now.words
        (cell_of_allocation p.table.config (placed_at (world_of p).allocations scanned.number)).page) ≡ false
    bare_now = grind (arith, cell, still, scanned_stands, t.in_order)

    mapped_now : (is_in_stop p.table.config.callers (world_at acts.makes).now.words p.seat
        && is_mapped_cell (world_at acts.makes).now.words (world_at acts.makes).now.seats.holding.placing
        (cell_of_allocation p.table.config (placed_at (world_of p).allocations scanned.number))) ≡ true
    mapped_now =
        and_from _ _ (and_from _ _ (eq-eqb _ 2 (phase_there acts sweeping.wanted))
        (ap (λ (w : Words). others_are_held p.table.config.callers w p.seat) still ∙ sweeping.wanted.gates))
        (ap (λ (w : Words). is_mapped_cell w m.seats.holding.placing cell) still
        ∙ ap (λ (x : Holding). is_mapped_cell (now_of p).words x.placing cell) acts.holding ∙ mapped_cell _ _
        t.in_order.history sweeping.settled scanned.number scanned.scanned)

    -- some hand, whether the cell is marked or not
    given : (value : ℕ) → (h : Hand) × (hand_given p.table.config (world_at acts.makes).now p.seat (Word.Heap n) value
        ≡ Some h) × (h.value ≡ value)
    given value = by (is_marked m.words cell) refl
      where
        to_cell : hand_given p.table.config (world_at acts.makes).now p.seat (Word.Heap n) value
            ≡ gives false (is_marked m.words cell) true value
        to_cell = cc (pointed_now, bare_now, mapped_now)

        by : (b : Bool) → is_marked m.words cell ≡ b → (h : Hand) × (hand_given p.table.config
            (world_at acts.makes).now p.seat (Word.Heap n) value ≡ Some h) × (h.value ≡ value)
        by true e =
            (record { value = value; source = Marked }, to_cell ∙ ap (λ (b : Bool). gives false b true value) e, refl)
        by false e =
            (record { value = value; source = Unmarked }, to_cell ∙ ap (λ (b : Bool). gives false b true value) e, refl)

    pub word_in_hand : {k : ℕ} → Finds p (Step.Look (Word.Heap n)) k q → HasInHand q k
    word_in_hand {k} finds =
        let value : ℕ = found p.table.config m (event_of p (Step.Look (Word.Heap n))) in
        let g = given value in
        let same = step_untouched acts refl sweeping.wanted.gates refl in
        let there : IsScannedWord p.table.config (world_of q).allocations n =
        word_alike p.table.config (world_of p) (world_of q) (sym same) n scanned in
        record {
          hand = g.0;
          is = hand_now sweeping.wanted acts finds ∙ ap (λ (o : Option Hand). or_else o (hand_of p)) g.1;
          value = g.2 ∙ found_now sweeping.wanted acts finds;
          found = InWord n (subst (λ (x : WordsState). IsScannedWord x.config (world_of q).allocations n)
              (sym (ap (λ (x : PassState). x.table) acts.makes.is)) there) (found_there p q (Word.Heap n) k finds);
        }
