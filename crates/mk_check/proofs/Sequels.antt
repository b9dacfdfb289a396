-- What is told of what comes after a line, and where a script then stops.
use Rattle.mk_check.proofs.Vocabulary.{Answer, Bool, HasStopped, Instruction, IsTree, KeptState, List, Node, None}
use Rattle.mk_check.proofs.Vocabulary.{Option, Place, PlaceFits, PlaceIsWithin, Sequel, Some, TakesLine, ℕ}
use Rattle.mk_check.proofs.Vocabulary.{after_answer, ap, arith, asks_at, false, kept_in, length, node_at, not, refl}
use Rattle.mk_check.proofs.Vocabulary.{sequel_to, sequels_of, subst, sym, true, with_kept, ◌&&◌, ◌∙◌, ◌≡◌}
use Rattle.mk_check.proofs.{NextRounds.{kept_left, left_with, stops_behind_block}, AtOnce.{asks_so, stopped_here}}
use Rattle.mk_check.proofs.{Moves.{below_length, line_fits}, TreeNodes.is_at}
use Rattle.mk_check.specs.{Feeding.{LeavesToOp, TakesAtOnce}, Steps.{is_show, is_silent, keeping_register, with_value}}
use Rattle.mk_check.specs.{Feed.is_refusal, Trees.sequels_by, declared.feeding.tree.Sequels.Sequels}

-- what is next, where that is told

-- The node is a line before this one, whose answer this register keeps, if any does, and this comes next.
record IsLine (nodes : List Node) (n : Node) (next : ℕ) (kept : Option ℕ) (s : Sequel) : Type 0 where
  line : ℕ
  instruction : Instruction
  is : n ≡ Node.Line line instruction next
  shown : is_show instruction ≡ false
  keeps : keeping_register instruction ≡ kept
  told : sequel_to (node_at nodes next) ≡ s

kept_by : (next : ℕ) (shown : Bool) (kept : Option ℕ) (u s : Sequel) → (s ≡ Sequel.Other → ⊥)
    → (sequels_by next shown kept u).kept ≡ s → ((sequels_by next shown kept u).next ≡ next) × (shown ≡ false)
    × (kept ≡ Some (sequels_by next shown kept u).register) × (u ≡ s)
kept_by next x1 x2 u s known e = grind arith

unkept_by : (next : ℕ) (shown : Bool) (kept : Option ℕ) (u s : Sequel) → (s ≡ Sequel.Other → ⊥)
    → (sequels_by next shown kept u).unkept ≡ s
    → ((sequels_by next shown kept u).next ≡ next) × (shown ≡ false) × (kept ≡ None) × (u ≡ s)
unkept_by next x1 x2 u s known e = grind arith

line_told : (nodes : List Node) (line : ℕ) (instruction : Instruction) {next behind : ℕ} {kept : Option ℕ} {s : Sequel}
    → (behind ≡ next) × (is_show instruction ≡ false) × (keeping_register instruction ≡ kept)
    × (sequel_to (node_at nodes next) ≡ s) → IsLine nodes (Node.Line line instruction next) behind kept s
line_told nodes line instruction by = record {
  line = line;
  instruction = instruction;
  is = ap (λ (j : ℕ). Node.Line line instruction j) (sym by.0);
  shown = by.1;
  keeps = by.2;
  told = ap (λ (j : ℕ). sequel_to (node_at nodes j)) by.0 ∙ by.3;
}

asks_is_known : Sequel.Asks ≡ Sequel.Other → ⊥
asks_is_known e = absurd cc

begins_is_known : Sequel.Begins ≡ Sequel.Other → ⊥
begins_is_known e = absurd cc

ends_is_known : Sequel.Ends ≡ Sequel.Other → ⊥
ends_is_known e = absurd cc

-- what the answer does to what is kept

pub number_kept : (instruction : Instruction) (number value : ℕ) (k : KeptState) → keeping_register instruction
    ≡ Some number → after_answer instruction (Answer.Num value) k ≡ with_value k number value
number_kept x0 number value k e = grind arith

pub nothing_kept : (instruction : Instruction) (a : Answer) (k : KeptState) → is_show instruction ≡ false
    → keeping_register instruction ≡ None → after_answer instruction a k ≡ k
nothing_kept x0 a k s e = grind arith

neither : (a b : Bool) → a ≡ false → b ≡ false → (not a && not b) ≡ true
neither x0 x1 e f = grind arith

pub silent : (instruction : Instruction) (a : Answer) → is_refusal a ≡ false → is_show instruction ≡ false
    → is_silent instruction a ≡ true
silent instruction a e f = neither (is_refusal a) (is_show instruction) e f

module _ (nodes : List Node) (p : Place) (next : ℕ) (instruction : Instruction) (tree : IsTree nodes)
    (w : PlaceIsWithin (length nodes) (record p { at = next })) where
  -- what is kept after an answer, at the next node
  abbrev start : Answer → Place
  start a = with_kept (record p { at = next }) (after_answer instruction a (kept_in p))

  stops_at_line : (a : Answer) (t : Place) → is_silent instruction a ≡ true → asks_at (node_at nodes next) ≡ true
      → t ≡ start a → TakesAtOnce nodes next instruction a p t
  stops_at_line a t quiet asks is = record {
    silent = quiet;
    stopped = subst (λ (x : Place). HasStopped nodes (start a) x) (sym is)
        (stopped_here nodes (start a) (node_at nodes next) tree (record { at = w.at; frames = w.frames }) refl
        (asks_so (start a).numbers (node_at nodes next) asks));
  }

  stops_behind : (a : Answer) {q : Place} (t : Place) → is_silent instruction a ≡ true → node_at nodes next ≡ Node.Done
      → LeavesToOp nodes p q → t ≡ with_kept q (after_answer instruction a (kept_in p))
      → TakesAtOnce nodes next instruction a p t
  stops_behind a {q = q} t quiet ends l is = record {
    silent = quiet;
    stopped = subst (λ (x : Place). HasStopped nodes (start a) x) (sym is) (stops_behind_block nodes tree
        (record { at = w.at; frames = w.frames }) ends (left_with next _ l.leaves) l.asks);
  }

module _ (nodes : List Node) {p : Place} (tree : IsTree nodes) (w : PlaceIsWithin (length nodes) p) where
  -- the node after the place's line
  within_next : (line : ℕ) (instruction : Instruction) (next : ℕ) → node_at nodes p.at ≡ Node.Line line instruction next
      → PlaceIsWithin (length nodes) (record p { at = next })
  within_next line instruction next here = record { at = below_length nodes (is_at tree w here); frames = w.frames }

  at_line : {kept : Option ℕ} {next : ℕ} (a : Answer) (k : KeptState) (t : Place) → is_refusal a ≡ false
      → (l : IsLine nodes (node_at nodes p.at) next kept Sequel.Asks)
      → after_answer l.instruction a (kept_in p) ≡ k → t ≡ with_kept (record p { at = next }) k → TakesLine nodes a p t
  at_line {next} a k t accepted l after is = record {
    line = l.line;
    instruction = l.instruction;
    next = next;
    here = l.is;
    taken = stops_at_line nodes p next l.instruction tree (within_next l.line l.instruction next l.is) a t
        (silent l.instruction a accepted l.shown) (grind arith)
        (is ∙ ap (λ (x : KeptState). with_kept (record p { at = next }) x) (sym after));
  }

  at_end : {kept : Option ℕ} {next : ℕ} (a : Answer) (k : KeptState) {q : Place} (t : Place) → is_refusal a ≡ false
      → (l : IsLine nodes (node_at nodes p.at) next kept Sequel.Ends) → LeavesToOp nodes p q
      → after_answer l.instruction a (kept_in p) ≡ k → t ≡ with_kept q k → TakesLine nodes a p t
  at_end {next} a k {q = q} t accepted l leaves after is = record {
    line = l.line;
    instruction = l.instruction;
    next = next;
    here = l.is;
    taken = stops_behind nodes p next l.instruction tree (within_next l.line l.instruction next l.is) a t
        (silent l.instruction a accepted l.shown) (grind arith) leaves
        (is ∙ ap (λ (x : KeptState). with_kept q x) (sym after));
  }

  module _ (s : Sequels) (so : s ≡ sequels_of nodes (node_at nodes p.at)) where
    kept_here : (told : Sequel) → (told ≡ Sequel.Other → ⊥) → s.kept ≡ told
        → IsLine nodes (node_at nodes p.at) s.next (Some s.register) told
    kept_here told known e =
        subst (λ (x : Sequels). IsLine nodes (node_at nodes p.at) x.next (Some x.register) told) (sym so)
        (grind (arith, line_told, kept_by))

    unkept_here : (told : Sequel) → (told ≡ Sequel.Other → ⊥) → s.unkept ≡ told
        → IsLine nodes (node_at nodes p.at) s.next None told
    unkept_here told known e =
        subst (λ (x : Sequels). IsLine nodes (node_at nodes p.at) x.next None told) (sym so)
        (grind (arith, line_told, unkept_by))

    pub number_at_line : (value : ℕ) (t : Place) → s.kept ≡ Sequel.Asks → t ≡ with_kept (record p { at = s.next })
        (with_value (kept_in p) s.register value) → TakesLine nodes (Answer.Num value) p t
    number_at_line value t e is =
        let l = kept_here Sequel.Asks asks_is_known e in
        at_line (Answer.Num value) (with_value (kept_in p) s.register value) t refl l
        (number_kept l.instruction s.register value (kept_in p) l.keeps) is

    pub number_at_end : (value : ℕ) {q : Place} (t : Place) → s.kept ≡ Sequel.Ends → LeavesToOp nodes p q
        → t ≡ with_kept q (with_value (kept_in p) s.register value) → TakesLine nodes (Answer.Num value) p t
    number_at_end value {q = q} t e leaves is =
        let l = kept_here Sequel.Ends ends_is_known e in
        at_end (Answer.Num value) (with_value (kept_in p) s.register value) t refl l leaves
        (number_kept l.instruction s.register value (kept_in p) l.keeps) is

    pub none_at_line : (a : Answer) (t : Place) → is_refusal a ≡ false → s.unkept ≡ Sequel.Asks
        → t ≡ record p { at = s.next } → TakesLine nodes a p t
    none_at_line a t accepted e is =
        let l = unkept_here Sequel.Asks asks_is_known e in
        at_line a (kept_in p) t accepted l (nothing_kept l.instruction a (kept_in p) l.shown l.keeps) is

    pub none_at_end : (a : Answer) {t : Place} → is_refusal a ≡ false → s.unkept ≡ Sequel.Ends
        → LeavesToOp nodes p t → TakesLine nodes a p t
    none_at_end a {t = t} accepted e leaves =
        let l = unkept_here Sequel.Ends ends_is_known e in
        at_end a _ t accepted l leaves (nothing_kept l.instruction a _ l.shown l.keeps)
        (ap (with_kept t) (kept_left leaves.leaves))

    -- the `repeat` after the line

    pub begins_within : s.unkept ≡ Sequel.Begins → PlaceIsWithin (length nodes) (record p { at = s.next })
    begins_within e =
        let l = unkept_here Sequel.Begins begins_is_known e in within_next l.line l.instruction s.next l.is

    pub begins_fits : s.unkept ≡ Sequel.Begins → PlaceFits nodes p → PlaceFits nodes (record p { at = s.next })
    begins_fits e fits =
        let l = unkept_here Sequel.Begins begins_is_known e in line_fits nodes (is_at tree w l.is) fits

    pub none_at_repeat : (a : Answer) {t : Place} → is_refusal a ≡ false → s.unkept ≡ Sequel.Begins
        → HasStopped nodes (record p { at = s.next }) t → TakesLine nodes a p t
    none_at_repeat a {t = t} accepted e stopped =
        let l = unkept_here Sequel.Begins begins_is_known e in
        record {
          line = l.line;
          instruction = l.instruction;
          next = s.next;
          here = l.is;
          taken = record {
            silent = silent l.instruction a accepted l.shown;
            stopped = subst (λ (k : KeptState). HasStopped nodes (with_kept (record p { at = s.next }) k) t)
                (sym (nothing_kept l.instruction a (kept_in p) l.shown l.keeps)) stopped;
          };
        }
