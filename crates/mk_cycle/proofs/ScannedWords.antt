-- The words of a cell that is scanned, which point well one after the other.
use Rattle.mk_words.proofs.Below.Laws.Vocabulary.{Cell, Words, ℕ, arith, cases_lt, first_word, inl, inr, points_well}
use Rattle.mk_words.proofs.Below.Laws.Vocabulary.{slice_index, subst, sym, true, ◌+◌, ◌<◌, ◌≡◌, ◌≤◌}
use Rattle.mk_cycle.proofs.{Blackened.{cell_kept, gray_kept, scan_done}, MoreMarks.well_more}
use Rattle.mk_cycle.proofs.Notes.{looks_alone, notes_then}
use Rattle.mk_cycle.specs.{Stops.still_words, declared.noted.Noted.Noted, Grays.{LooksOn, MarksMore}}
use Rattle.mk_cycle.specs.Grays.{IsDue, Notes, MarksAndNotes, Scans}
use Rattle.mk_core.specs.Cells.{words_point_well}
use Rattle.mk_words.specs.States.{TurnState}

-- A cell stays due through looks, and after marks.

pub due_same : {pages : ℕ} {w v : Words} {gray : Noted} → IsDue pages w gray → v ≡ w → IsDue pages v gray
due_same {pages} {gray = gray} due same = subst (λ (y : Words). IsDue pages y gray) (sym same) due

pub due_kept : {pages : ℕ} {w v : Words} {gray : Noted} → IsDue pages w gray → MarksMore w v → IsDue pages v gray
due_kept due more = grind (arith, gray_kept)

-- No word yet, words up to another after those before it, and fewer of them.

pub none_scanned : {pages : ℕ} {t u : TurnState} {a b : Notes} {cell : Cell} {from end : ℕ} → end ≤ from
    → MarksAndNotes pages t a u b → Scans pages t a u b cell from end
none_scanned none marks = record { marks = marks; well = λ k le lt. absurd (omega arith) }

pub scans_then : {pages : ℕ} {t u v : TurnState} {a b c : Notes} {cell : Cell} {from i end : ℕ}
    → Scans pages t a u b cell from i → Scans pages u b v c cell i end → Scans pages t a v c cell from end
scans_then {pages} {t} {u} {v} {cell = cell} {i = i} one two = record {
  marks = notes_then one.marks two.marks;
  well = λ k le lt. elim (cases_lt k i) [
    | inl below ↦ well_more pages (still_words u.pass) (still_words v.pass) _ two.marks.more (one.well k le below)
    | inr past ↦
        cc (cell_kept cell k one.marks.more, two.well k past lt)
  ];
}

-- the same notes under another name
pub scans_as : {pages : ℕ} {t u : TurnState} {a b c : Notes} {cell : Cell} {from end : ℕ} → b ≡ c
    → Scans pages t a u b cell from end → Scans pages t a u c cell from end
scans_as {pages} {t} {u} {a} {cell = cell} {from} {end} same scans =
    subst (λ (n : Notes). Scans pages t a u n cell from end) same scans

pub scans_to : {pages : ℕ} {t u : TurnState} {a b : Notes} {cell : Cell} {from end : ℕ} (n : ℕ) → n ≤ end
    → Scans pages t a u b cell from end → Scans pages t a u b cell from n
scans_to n le all = record { marks = all.marks; well = λ k lo hi. all.well k lo (omega arith) }

pub scans_after : {pages : ℕ} {t u : TurnState} {a b : Notes} {cell : Cell} {from end : ℕ} (n : ℕ) → from ≤ n
    → Scans pages t a u b cell from end → Scans pages t a u b cell n end
scans_after n le all = record { marks = all.marks; well = λ k lo hi. all.well k (omega arith) hi }

-- One word, which was looked at, and what it points into then marked.
pub one_scanned : {pages : ℕ} {t u v : TurnState} {a b : Notes} {cell : Cell} {i value : ℕ} → LooksOn t u → value
    ≡ slice_index (still_words t.pass).heap (first_word (still_words t.pass) cell + i) → MarksAndNotes pages u a v b
    → points_well pages (still_words v.pass) value ≡ true → Scans pages t a v b cell i (i + 1)
one_scanned {pages} {t} {u} {v} {cell = cell} {i = i} looks found marks well = record {
  marks = notes_then (looks_alone looks) marks;
  well = λ k le lt.
      let at : i ≡ k = omega arith in
      cc (at, well);
}

-- All words of a cell.
pub all_scanned : {pages : ℕ} {t u : TurnState} {a b : Notes} {gray : Noted} → IsDue pages (still_words t.pass) gray
    → Scans pages t a u b gray.cell 0 gray.words → words_point_well pages (still_words u.pass) gray.cell ≡ true
all_scanned {pages} {gray = gray} due all =
    scan_done pages gray.cell all.marks.more (λ j lt. all.well j (omega arith) (subst (λ n. j < n) (sym due.words) lt))
