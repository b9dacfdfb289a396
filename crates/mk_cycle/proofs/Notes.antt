-- What is noted, through marks: each cell that turns gray is noted, as far as there is room.
use Rattle.std.proofs.lemmas.List.Elements.{All-pop, All-push, Contains-append_cases, Contains-append_left}
use Rattle.std.proofs.lemmas.List.Elements.{Contains-append_right, Contains-push, Contains-push_cases}
use Rattle.std.{proofs.Common.{IfNone, IfSome, option_to_list}, specs.{Bool.then_some, List.All}}
use Rattle.mk_words.proofs.Below.Laws.Vocabulary.{Bool, Cell, List, None, Option, Some, Words, ℕ, ap, append-nil, arith}
use Rattle.mk_words.proofs.Below.Laws.Vocabulary.{cells_under, false, has_bit, header_in, inl, inr, refl, slice_index}
use Rattle.mk_words.proofs.Below.Laws.Vocabulary.{subst, sym, true, true≢false, [], ◌++◌, ◌<◌, ◌^◌, ◌∙◌, ◌∷◌, ◌≡◌, ◌≤◌}
use Rattle.mk_words.proofs.Below.Laws.Vocabulary.{◌⊎◌}
use Rattle.mk_cycle.proofs.{MoreMarks.{more_same, more_then}, NotedCells.{all_black, all_more, gray_before, one_more}}
use Rattle.mk_cycle.proofs.{NoGrays.no_gray, StopSteps.{looks_from, on_then}}
use Rattle.mk_cycle.specs.Grays.{GraysOne, HasNoGray, IsGray, IsUnmarked, LooksOn, MarksMore, MarksOn, is_black}
use Rattle.mk_cycle.specs.Grays.{with_blacks, Adds, AreNoted, IsAmong, IsNoted, Notes, NotesGrays, listed}
use Rattle.mk_cycle.specs.{Grays.{with_last, MarksAndNotes}, Stops.{IsWanted, still_words}}
use Rattle.mk_cycle.specs.declared.{noted.Noted.Noted, worklist.Worklist.Worklist}
use Rattle.mk_geom.proofs.ListSearch.{Contains-nil}
use Rattle.mk_words.specs.States.{TurnState}

-- Cells of one list are among those of a longer one, and those of a longer one are of one part or the other.

among_left : {xs : List Noted} (ys : List Noted) {cell : Cell} → IsAmong xs cell → IsAmong (xs ++ ys) cell
among_left ys h = record { noted = h.noted; among = Contains-append_left _ ys _ h.among; is = h.is }

among_right : (xs : List Noted) {ys : List Noted} {cell : Cell} → IsAmong ys cell → IsAmong (xs ++ ys) cell
among_right xs h = record { noted = h.noted; among = Contains-append_right xs _ _ h.among; is = h.is }

among_cases : (xs ys : List Noted) {cell : Cell} → IsAmong (xs ++ ys) cell → IsAmong xs cell ⊎ IsAmong ys cell
among_cases xs ys h = elim (Contains-append_cases xs ys _ h.among) [
  | inl left ↦ inl (record { noted = h.noted; among = left; is = h.is })
  | inr right ↦ inr (record { noted = h.noted; among = right; is = h.is })
]

among_one : (noted : Noted) {cell : Cell} → noted.cell ≡ cell → IsAmong (noted ∷ []) cell
among_one noted is = record { noted = noted; among = Contains-push [] noted; is = is }

one_among : {noted : Noted} {cell : Cell} → IsAmong (noted ∷ []) cell → noted.cell ≡ cell
one_among h = grind (arith, Contains-push_cases, Contains-nil)

-- No cell in registers is as if there were the list alone.
pub none_last : (work : Worklist) → with_last work None ≡ listed work
none_last work = ap (λ (xs : List Noted). record { cells = xs; is_whole = work.is_whole }) (append-nil work.cells.items)

-- Nothing is marked: through looks, and where what is noted stands elsewhere now.

pub looks_alone : {pages : ℕ} {t u : TurnState} {notes : Notes} → LooksOn t u → MarksAndNotes pages t notes u notes
looks_alone {pages} {notes = notes} looks = record {
  on = looks.on;
  more = more_same _ _ looks.words;
  each = subst (λ (y : Words). All (IsNoted pages y) notes.cells) (sym looks.words);
  grays = λ whole. record {
    whole = whole;
    kept = λ cell h. h;
    new = λ cell gray. inl (subst (λ (y : Words). IsGray pages y cell) looks.words gray);
  };
}

pub marks_nothing : {pages : ℕ} {t : TurnState} {notes : Notes} → IsWanted t.pass → MarksAndNotes pages t notes t notes
marks_nothing wanted = looks_alone (looks_from wanted)

noted_elsewhere : {pages : ℕ} {t : TurnState} {a b : Notes} → IsWanted t.pass
    → (All (IsNoted pages (still_words t.pass)) a.cells → All (IsNoted pages (still_words t.pass)) b.cells)
    → (b.is_whole ≡ true → (a.is_whole ≡ true) × ((cell : Cell) → IsAmong a.cells cell → IsAmong b.cells cell))
    → MarksAndNotes pages t a t b
noted_elsewhere wanted all whole = record {
  on = (looks_from wanted).on;
  more = more_same _ _ refl;
  each = all;
  grays = λ h. record { whole = (whole h).0; kept = (whole h).1; new = λ cell gray. inl gray };
}

-- The same notes under another name, as where no cell is in registers.
pub notes_as : {pages : ℕ} {t u : TurnState} {a b c : Notes} → b ≡ c → MarksAndNotes pages t a u b
    → MarksAndNotes pages t a u c
notes_as {pages} {t} {u} {a} same marks = subst (λ (n : Notes). MarksAndNotes pages t a u n) same marks

pub last_added : {pages : ℕ} {t : TurnState} (work : Worklist) (last : Option Noted) → IsWanted t.pass
    → IfSome last (IsNoted pages (still_words t.pass)) → MarksAndNotes pages t (listed work) t (with_last work last)
last_added work None wanted is = notes_as (sym (none_last work)) (marks_nothing wanted)
last_added {pages} {t} work (Some noted) wanted is =
    noted_elsewhere wanted (λ all. All-push (IsNoted pages (still_words t.pass)) _ noted all is)
    (λ whole. (whole, λ cell h. among_left _ h))

pub list_added : {pages : ℕ} {t : TurnState} (a : Worklist) (last : Option Noted) (b : Worklist) → IsWanted t.pass
    → Adds a last b → MarksAndNotes pages t (with_last a last) t (listed b)
list_added a last b wanted (inl is) = notes_as (sym is) (marks_nothing wanted)
list_added {pages} {t} a last b wanted (inr is) =
    notes_as (sym is)
    (noted_elsewhere wanted (λ all. (All-pop (IsNoted pages (still_words t.pass)) _ a.cells.items last refl all).0)
    (λ whole. absurd (true≢false (sym whole))))

-- A cell that is told where it was white is among what is noted then, and so is one that the list has now.

pub told_among : (xs : List Noted) (noted : Noted) {was_white : Bool} {last : Option Noted}
    → last ≡ then_some was_white noted → was_white ≡ true → IsAmong (xs ++ option_to_list last) noted.cell
told_among xs noted told was = grind (arith, among_right, among_one)

pub added_among : (a : Worklist) (last : Option Noted) (b : Worklist) {cell : Cell} {count : ℕ} → Adds a last b
    → b.is_whole ≡ true → IfSome last (λ (n : Noted). n.cell ≡ cell) → IfNone last (count ≤ cell.index)
    → cell.index < count → IsAmong b.cells.items cell
added_among a last b (inr part) whole one none lt =
    absurd (true≢false (sym whole ∙ ap (λ (n : Notes). n.is_whole) part))
added_among a None b (inl is) whole one none lt = absurd (omega arith)
added_among a (Some noted) b {cell} (inl is) whole one none lt =
    subst (λ (n : Notes). IsAmong n.cells cell) (sym is) (among_right a.cells.items (among_one noted one))

-- Marks one after the other.

grays_then : {pages : ℕ} {w v x : Words} {a b c : Notes} → NotesGrays pages w a v b → NotesGrays pages v b x c
    → NotesGrays pages w a x c
grays_then one two = grind arith

pub notes_then : {pages : ℕ} {t u v : TurnState} {a b c : Notes} → MarksAndNotes pages t a u b
    → MarksAndNotes pages u b v c → MarksAndNotes pages t a v c
notes_then one two = record {
  on = on_then one.on two.on;
  more = more_then _ _ _ one.more two.more;
  each = λ all. two.each (one.each all);
  grays = λ whole. grays_then (one.grays (two.grays whole).whole) (two.grays whole);
}

-- A cell is marked, and noted after that, if it was white.
pub white_then : {pages : ℕ} {t u v : TurnState} {a b : Notes} {cell : Cell} {was_white : Bool} → MarksOn t u
    → MarksMore (still_words t.pass) (still_words u.pass)
    → GraysOne (still_words t.pass) cell was_white (still_words u.pass) → MarksAndNotes pages u a v b
    → (was_white ≡ true → b.is_whole ≡ true → IsGray pages (still_words u.pass) cell → IsAmong b.cells cell)
    → MarksAndNotes pages t a v b
white_then {pages} {t} {u} {b = b} on more one marks noted = record {
  on = on_then on marks.on;
  more = more_then _ _ _ more marks.more;
  each = λ all. marks.each (all_more _ more all);
  grays = λ whole.
      let g = marks.grays whole in
      record {
        whole = g.whole;
        kept = g.kept;
        new = λ other gray. elim (g.new other gray) [
          | inr among ↦ inr among
          | inl was ↦ elim (one pages other was) [
            | inl old ↦ inl old
            | inr turned ↦ inr (subst (λ c. IsAmong b.cells c) (sym turned.1) (noted turned.0 whole
                (subst (λ c. IsGray pages (still_words u.pass) c) turned.1 was)))
          ]
        ];
      };
}

-- The cell in registers stays there while nothing is noted, and goes to the list where another takes its place.

abbrev pub and_one : Notes → Noted → Notes
and_one notes noted = record { cells = notes.cells ++ noted ∷ []; is_whole = notes.is_whole }

one_beside : {pages : ℕ} {t u : TurnState} {a b : Notes} (last : Noted) → MarksAndNotes pages t a u b
    → MarksAndNotes pages t (and_one a last) u (and_one b last)
one_beside {pages} {t} {u} {a} last marks = record {
  on = marks.on;
  more = marks.more;
  each = λ all.
      let parts = All-pop (IsNoted pages (still_words t.pass)) _ a.cells (Some last) refl all in
      All-push (IsNoted pages (still_words u.pass)) _ last (marks.each parts.0) (one_more marks.more parts.1);
  grays = λ whole.
      let g = marks.grays whole in
      record {
        whole = g.whole;
        kept = λ cell h. elim (among_cases a.cells _ h) [
          | inl left ↦ among_left _ (g.kept cell left)
          | inr right ↦ among_right _ right
        ];
        new = λ cell gray. elim (g.new cell gray) [
          | inl old ↦ inl old
          | inr noted ↦ inr (among_left _ noted)
        ];
      };
}

pub last_stays : {pages : ℕ} {t u : TurnState} {a : Notes} (b : Worklist) (last : Noted)
    → MarksAndNotes pages t a u (with_last b None)
    → MarksAndNotes pages t (and_one a last) u (with_last b (Some last))
last_stays b last marks = one_beside last (notes_as (none_last b) marks)

swapped : (P : Noted → Type 0) (xs : List Noted) (x y : Noted) → All P ((xs ++ x ∷ []) ++ y ∷ [])
    → All P ((xs ++ y ∷ []) ++ x ∷ [])
swapped P xs x y all =
    let parts = All-pop P _ (xs ++ x ∷ []) (Some y) refl all in
    let first = All-pop P _ xs (Some x) refl parts.0 in
    All-push P _ x (All-push P xs y first.0 parts.1) first.1

swapped_among : (xs : List Noted) (x y : Noted) (cell : Cell) → IsAmong ((xs ++ x ∷ []) ++ y ∷ []) cell
    → IsAmong ((xs ++ y ∷ []) ++ x ∷ []) cell
swapped_among xs x y cell h = elim (among_cases (xs ++ x ∷ []) _ h) [
  | inr last ↦ among_left _ (among_right xs last)
  | inl others ↦ elim (among_cases xs _ others) [
    | inl old ↦ among_left _ (among_left _ old)
    | inr first ↦ among_right (xs ++ y ∷ []) first
  ]
]

pub last_goes : {pages : ℕ} {t u : TurnState} {a : Notes} (b c : Worklist) (last noted : Noted)
    → MarksAndNotes pages t a u (with_last b (Some noted)) → Adds b (Some last) c
    → MarksAndNotes pages t (and_one a last) u (with_last c (Some noted))
last_goes {pages} {u = u} b c last noted marks adds =
    let wanted = marks.on.wanted in
    notes_then (one_beside last marks)
    (notes_then (noted_elsewhere wanted (swapped (IsNoted pages (still_words u.pass)) b.cells.items noted last)
    (λ whole. (whole, swapped_among _ noted last)))
    (one_beside noted (list_added b (Some last) c wanted adds)))

-- What is noted where no cell is marked, and after a cell was taken out that is black, or is blackened.

pub noted_as : {pages : ℕ} {w : Words} {a b : Notes} → a ≡ b → AreNoted pages w a → AreNoted pages w b
noted_as {pages} {w} same are = subst (AreNoted pages w) same are

pub none_noted : {pages : ℕ} {w : Words} (work : Worklist) → work.cells.items ≡ []
    → (work.is_whole ≡ true → (p : ℕ) → p < pages → IsUnmarked w p) → AreNoted pages w (listed work)
none_noted {pages} {w} work none unmarked = record {
  each = subst (λ (xs : List Noted). All (IsNoted pages w) xs) (sym none) (λ k d lt. absurd (omega arith));
  grays = λ whole cell gray.
      absurd (true≢false (sym gray.marked ∙ unmarked whole cell.page gray.page cell.index gray.index));
}

pub noted_after : {pages : ℕ} {t u : TurnState} {a b : Notes} → AreNoted pages (still_words t.pass) a
    → MarksAndNotes pages t a u b → AreNoted pages (still_words u.pass) b
noted_after are marks = record {
  each = marks.each are.each;
  grays = λ whole cell gray.
      let g = marks.grays whole in
      elim (g.new cell gray) [
        | inl old ↦ g.kept cell (are.grays g.whole cell old)
        | inr noted ↦ noted
      ];
}

pub last_noted : {pages : ℕ} {w : Words} (work : Worklist) (noted : Noted)
    → AreNoted pages w (with_last work (Some noted))
    → IsNoted pages w noted
last_noted {pages} {w} work noted are = (All-pop (IsNoted pages w) _ work.cells.items (Some noted) refl are.each).1

-- a gray cell is among those that are left where a black one was taken out
left_among : (w : Words) (xs : List Noted) (out : Noted) (cell : Cell) → is_black w out.cell ≡ true
    → is_black w cell ≡ false → IsAmong (xs ++ out ∷ []) cell → IsAmong xs cell
left_among w xs out cell black gray h = grind (arith, among_cases, one_among)

pub black_left_out : {pages : ℕ} {w : Words} (work : Worklist) (noted : Noted) → is_black w noted.cell ≡ true
    → AreNoted pages w (with_last work (Some noted)) → AreNoted pages w (listed work)
black_left_out {pages} {w} work noted black are = record {
  each = (All-pop (IsNoted pages w) _ work.cells.items (Some noted) refl are.each).0;
  grays = λ whole cell gray.
      left_among w work.cells.items noted cell black gray.not_black (are.grays whole cell gray);
}

pub blackened_left_out : {pages : ℕ} {t u : TurnState} {v : Words} (work : Worklist) (gray : Noted) {has : Notes}
    → v ≡ with_blacks gray.cell.page (2 ^ gray.cell.index) (still_words u.pass) → is_black v gray.cell ≡ true
    → MarksAndNotes pages t (listed work) u has
    → AreNoted pages (still_words t.pass) (with_last work (Some gray)) → AreNoted pages v has
blackened_left_out {pages} {t} {v = v} work gray is black marks are = record {
  each = all_black _ _ _ is
      (marks.each (All-pop (IsNoted pages (still_words t.pass)) _ work.cells.items (Some gray) refl are.each).0);
  grays = λ whole cell here.
      let g = marks.grays whole in
      elim (g.new cell (gray_before _ _ is here)) [
        | inr noted ↦ noted
        | inl old ↦
            g.kept cell (left_among v work.cells.items gray cell black here.not_black (are.grays g.whole cell old))
      ];
}

-- Where whole notes have no cell, no cell is gray.

pub none_gray : {pages : ℕ} {w : Words} {notes : Notes} → AreNoted pages w notes → notes.is_whole ≡ true
    → notes.cells ≡ [] → (p : ℕ) → p < pages → HasNoGray w p
none_gray {pages} {w} {notes} are whole none p lt =
    no_gray w p (λ k known marked. by k known marked (has_bit (slice_index w.blacks p) k) refl)
  where
    by : (k : ℕ) → k < cells_under (header_in w p) → has_bit (slice_index w.marks p) k ≡ true → (b : Bool)
        → has_bit (slice_index w.blacks p) k ≡ b → b ≡ true
    by k known marked true is = refl
    by k known marked false is =
        let cell : Cell = record { page = p; index = k } in
        let gray : IsGray pages w cell = record { page = lt; index = known; marked = marked; not_black = is } in
        absurd (Contains-nil _ (subst (λ xs. IsAmong xs cell) none (are.grays whole cell gray)).among)
