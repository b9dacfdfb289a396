-- What a call did, from its parts.
use Rattle.mk_words.proofs.Below.Laws.Vocabulary.{MarkerState, Seat, Step, Word, ℕ, ap, arith, subst, sym, ◌%◌, ◌∙◌}
use Rattle.mk_words.proofs.Below.Laws.Vocabulary.{◌≡◌, ◌≢◌}
use Rattle.mk_core.specs.{MarkingConditions.is_out, Words.phase_number, declared.phases.Phase.Phase}
use Rattle.mk_marker.proofs.{Did.{did_then, seat_kept}, Looking.did_more}
use Rattle.mk_marker.specs.Steps.{LooksInVain, Moved, MovesMarker, ScansCell, SeesCell}
use Rattle.mk_marker.specs.Markers.{FindsNoWork, FindsPhase, IsBlackIn, ScansACell, SeesACell, SeesNoWork}
use Rattle.mk_marker.specs.{Markers.Scans, declared.cells.MarkedCell.MarkedCell}
use Rattle.mk_words.specs.States.{PassState}

pub finds_phase : {p : PassState} {n : ℕ} (phase : Phase) {a : PassState} (q : PassState)
    → MovesMarker p Step.Attend n a
    → Moved a Step.Quit q → phase_number phase ≡ n % 8 → n % 8 ≢ 1 → FindsPhase p phase q
finds_phase {p} {n} phase {a = a} q comes goes is other = record {
  found = n;
  left = goes.0;
  did = did_more comes.did goes.1;
  low_bits = is;
  other = λ one. other (sym is ∙ one);
  out = ap (λ (x : MarkerState). is_out x.presence) goes.1.marker;
}

pub finds_no_work : {p : PassState} {n : ℕ} {a q : PassState} {pages : ℕ} → MovesMarker p (Step.Mlook Word.Phase) n a
    → n % 8 ≢ 2 → pages ≡ p.table.config.pages → LooksInVain a 0 pages q → FindsNoWork p q
finds_no_work {p} {n} {a} {q} {pages} looks unwanted is vain = record {
  phase = n;
  steps = vain.steps;
  did = did_then looks.did vain.did;
  not_wanted = unwanted;
  looks = vain.looks;
  pages = λ page lt. subst (λ (s : Seat). SeesNoWork s page vain.steps)
      (seat_kept looks.did) (vain.pages page (omega arith) (omega arith));
}

pub scans_a_cell : {p : PassState} {n : ℕ} {a b q : PassState} {cell : MarkedCell}
    → MovesMarker p (Step.Mlook Word.Phase) n a → n % 8 ≢ 2
    → SeesCell a cell b → ScansCell b cell q → IsBlackIn q cell.page cell.index → ScansACell p q
scans_a_cell {p} {n} {a} {b} {q} {cell} looks unwanted sees scans black =
    let first : a.seat ≡ p.seat = seat_kept looks.did in
    let second : b.seat ≡ p.seat = seat_kept sees.did ∙ first in
    record {
      phase = n;
      page = cell.page;
      index = cell.index;
      header = cell.header;
      search = sees.steps;
      scan = scans.steps;
      did =
          did_then looks.did (did_then sees.did scans.did);
      not_wanted = unwanted;
      sees = subst (λ (s : Seat). SeesACell s cell.page cell.index cell.header sees.steps) first sees.sees;
      scans = subst (λ (s : Seat). Scans s cell.page cell.index cell.header scans.steps) second scans.scans;
      black = black;
    }
