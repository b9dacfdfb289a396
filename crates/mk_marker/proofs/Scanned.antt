-- The steps of a scan, one after the other.
use Rattle.std.proofs.lemmas.List.Sums.{sum_by-append}
use Rattle.mk_words.proofs.Below.Laws.Vocabulary.{List, Seat, Step, ℕ, ap, arith, cond, false, refl, subst, true, []}
use Rattle.mk_words.proofs.{Below.Laws.Vocabulary.{◌++◌, ◌+◌, ◌∙◌, ◌∷◌, ◌≡◌}, Doing.of_kinds_in_parts}
use Rattle.mk_core.specs.History.{Finding}
use Rattle.mk_marker.{proofs.Did.{did_nothing, did_then, seat_kept}, specs.declared.cells.MarkedCell.{MarkedCell}}
use Rattle.mk_marker.specs.Markers.{Did, count_loads, finding, is_markers_load, is_of_scan}
use Rattle.mk_marker.specs.Steps.{ClaimsMarked, Moved}
use Rattle.mk_marker.specs.Steps.{MovesMarker, ScansCell, ScansOn}
use Rattle.mk_core.specs.Cells.{words_scanned}
use Rattle.mk_geom.specs.Addresses.{header_of}
use Rattle.mk_words.specs.States.{PassState}

count_in_parts : (xs ys : List Finding) → count_loads (xs ++ ys) ≡ count_loads xs + count_loads ys
count_in_parts xs ys = sum_by-append (λ (x : Finding). cond (is_markers_load x.event.step) 1 0) xs ys

pub goes_nowhere : (p : PassState) → ScansOn p 0 p
goes_nowhere p = record { steps = []; did = did_nothing p; of_scan = refl; has_loads = refl }

pub goes_then : {p : PassState} {i : ℕ} {q : PassState} {j : ℕ} {r : PassState} → ScansOn p i q → ScansOn q j r
    → ScansOn p (i + j) r
goes_then {p} {i} {q} {r} a b = record {
  steps = a.steps ++ b.steps;
  did = did_then a.did b.did;
  of_scan = of_kinds_in_parts is_of_scan a.steps b.steps a.of_scan b.of_scan;
  has_loads = count_in_parts a.steps b.steps ∙ ap (λ (n : ℕ). n + count_loads b.steps) a.has_loads
      ∙ ap (λ (n : ℕ). i + n) b.has_loads;
}

pub goes_once : {p : PassState} {s : Step} {n : ℕ} {q : PassState} → is_of_scan s ≡ true → is_markers_load s ≡ false
    → MovesMarker p s n q → ScansOn p 0 q
goes_once allowed silent m = grind arith

pub loads_once : {p : PassState} {n : ℕ} {q : PassState} → MovesMarker p Step.Mload n q → ScansOn p 1 q
loads_once {p} {n} m =
    record { steps = finding p.seat Step.Mload n ∷ []; did = m.did; of_scan = refl; has_loads = refl }

pub scanned : {p : PassState} {cell : MarkedCell} {a : PassState} {count : ℕ} {b : PassState} (q : PassState)
    → ClaimsMarked p cell a → ScansOn a count b
    → count ≡ words_scanned (header_of cell.header) → Moved b Step.Mblack q → ScansCell p cell q
scanned {p} {cell} {a} {b} q claims goes is black =
    let one = goes.did in
    let at : b.seat ≡ p.seat = seat_kept goes.did ∙ seat_kept claims.moves.did in
    let last : Did b (finding p.seat Step.Mblack black.0 ∷ []) q = subst
    (λ (s : Seat). Did b (finding s Step.Mblack black.0 ∷ []) q) at black.1.did in
    record {
      steps = finding p.seat (Step.Claim cell.page cell.index) claims.found ∷
          (goes.steps ++ finding p.seat Step.Mblack black.0 ∷ []);
      did =
          did_then claims.moves.did (did_then goes.did last);
      scans = record {
        marks = claims.found;
        blacks = black.0;
        words = goes.steps;
        is = refl;
        marked = claims.marked;
        of_scan = goes.of_scan;
        loads = goes.has_loads ∙ is;
      };
    }
