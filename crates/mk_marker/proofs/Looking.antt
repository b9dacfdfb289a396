-- Looks at pages, one after the other.
use Rattle.std.proofs.Common.{IfNone, IfSome}
use Rattle.mk_words.proofs.Below.Laws.Vocabulary.{Caller, Config, Host, IsMarking, List, Marker, MarkerState, Moment}
use Rattle.mk_words.proofs.Below.Laws.Vocabulary.{None, Option, Seat, SeenHeader, Some, Step, Word, ℕ, and_parts, ap}
use Rattle.mk_words.proofs.Below.Laws.Vocabulary.{append_assoc, arith, cells_under, has_bit, has_bit_without, header_at}
use Rattle.mk_words.proofs.Below.Laws.Vocabulary.{header_of, inl, inr, is_attending, marker_at, marker_behind, not}
use Rattle.mk_words.proofs.Below.Laws.Vocabulary.{not-true, refl, subst, sym, true, without, [], ◌++◌, ◌+◌, ◌<◌, ◌∙◌}
use Rattle.mk_words.proofs.Below.Laws.{Vocabulary.{◌∷◌, ◌≡◌, ◌≢◌, ◌≤◌, ◌⊎◌}, Known.{Known, known_left}}
use Rattle.mk_words.proofs.Doing.{of_kinds_in_parts}
use Rattle.mk_core.specs.{History.Finding, Words.named_word}
use Rattle.mk_marker.proofs.{Did.{did_nothing, did_then, seat_kept}, MarkedCells.marks_are_of_cells}
use Rattle.mk_marker.specs.Markers.{Did, finding, is_markers_look, looking, IsBetweenScans, attends}
use Rattle.mk_marker.specs.{Markers.between_scans, Steps.{IsMarkedIn, LooksInVain, MovesMarker, SeesCell}}
use Rattle.mk_marker.specs.{Markers.{SeesACell, SeesNoWork}, declared.cells.MarkedCell.MarkedCell}
use Rattle.mk_words.specs.{Steps.marker_in, States.{PassState, now_of}}

-- one more step
pub did_more : {p : PassState} {xs : List Finding} {q : PassState} {s : Step} {n : ℕ} {r : PassState} → Did p xs q
    → MovesMarker q s n r → Did p (xs ++ finding p.seat s n ∷ []) r
did_more d m = grind (arith, did_then, seat_kept)

-- what was seen of a page in some of the steps

seen_before : {s : Seat} {page : ℕ} {xs : List Finding} (ys : List Finding) → SeesNoWork s page xs
    → SeesNoWork s page (xs ++ ys)
seen_before ys h = grind (arith, append_assoc)

seen_behind : (s : Seat) (page : ℕ) (xs ys : List Finding) → SeesNoWork s page ys → SeesNoWork s page (xs ++ ys)
seen_behind s page xs ys h = record {
  before = xs ++ h.before;
  behind = h.behind;
  marks = h.marks;
  blacks = h.blacks;
  is =
      ap (λ (zs : List Finding). xs ++ zs) h.is ∙ sym
      (append_assoc xs h.before (looking s (Word.Mark page) h.marks ∷ looking s (Word.Black page) h.blacks ∷ h.behind));
  no_work = h.no_work;
}

pub looked_at_none : (p : PassState) (first : ℕ) → IsBetweenScans p → LooksInVain p first first p
looked_at_none p first between = grind (arith, did_nothing)

pub looked_on : {p : PassState} {a b : ℕ} {q : PassState} {d e : ℕ} {r : PassState} (first end : ℕ)
    → LooksInVain p a b q → LooksInVain q d e r → ((page : ℕ) → first ≤ page → page < end
    → ((a ≤ page) × (page < b)) ⊎ ((d ≤ page) × (page < e))) → LooksInVain p first end r
looked_on {p = p} {q = q} {r = r} first end one two all = record {
  steps = one.steps ++ two.steps;
  did = did_then one.did two.did;
  looks = of_kinds_in_parts is_markers_look one.steps two.steps one.looks two.looks;
  pages = λ page le lt. elim (all page le lt) [
    | inl there ↦ seen_before two.steps (one.pages page there.0 there.1)
    | inr there ↦ seen_behind p.seat page one.steps two.steps
        (subst (λ (s : Seat). SeesNoWork s page two.steps) (seat_kept one.did) (two.pages page there.0 there.1))
  ];
  between = two.between;
}

pub sees_then : {p : PassState} {a b : ℕ} {q : PassState} {cell : MarkedCell} {r : PassState} → LooksInVain p a b q
    → SeesCell q cell r → SeesCell p cell r
sees_then {p} {q} {cell} {r} one two =
    let sees : SeesACell p.seat cell.page cell.index cell.header two.steps = grind (arith, seat_kept) in
    record {
      steps = one.steps ++ two.steps;
      did = did_then one.did two.did;
      sees = record {
        looks = one.steps ++ sees.looks;
        marks = sees.marks;
        blacks = sees.blacks;
        is = ap (λ (zs : List Finding). one.steps ++ zs) sees.is ∙ sym (append_assoc one.steps sees.looks _);
        are_looks = of_kinds_in_parts is_markers_look one.steps sees.looks one.looks sees.are_looks;
        marked = sees.marked;
        not_black = sees.not_black;
        cell = sees.cell;
      };
      marker = two.marker;
      marked = two.marked;
    }

-- A look of a marker between two scans leaves it so.

behind_look : (c : Config) (n page : ℕ) (x : MarkerState) (seen : Option SeenHeader) → x ≡ between_scans seen
    → marker_behind c n (Step.Mlook (Word.Head page)) x ≡ between_scans (Some (record { page = page; header = n }))
behind_look c n page x seen is = ap (λ (y : MarkerState). marker_behind c n (Step.Mlook (Word.Head page)) y) is

-- the looks at a page's mark and black word
pub record TwoLooks (p : PassState) (page n m : ℕ) (b : PassState) : Type 0 where
  pub did : Did p (looking p.seat (Word.Mark page) n ∷ looking p.seat (Word.Black page) m ∷ []) b
  pub marker : marker_in b ≡ between_scans None

pub two_looks : {p : PassState} {page n : ℕ} {a : PassState} {m : ℕ} {b : PassState} → IsBetweenScans p → MovesMarker p
    (Step.Mlook (Word.Mark page)) n a → MovesMarker a (Step.Mlook (Word.Black page)) m b → TwoLooks p page n m b
two_looks {p} {page} {n} {a} {m} {b} between one two =
    let at : marker_in a ≡ between_scans None =
    one.marker ∙ ap (λ (x : MarkerState). marker_behind p.table.config n (Step.Mlook (Word.Mark page)) x) between.1 in
    record {
      did = did_more one.did two;
      marker = two.marker ∙ ap (λ (x : MarkerState). marker_behind a.table.config m
          (Step.Mlook (Word.Black page)) x) at;
    }

pub nothing_to_scan : {p : PassState} {page n m : ℕ} {b : PassState} → TwoLooks p page n m b → without n m ≡ 0
    → LooksInVain p page (page + 1) b
nothing_to_scan {p} {page} {n} {m} two none = record {
  steps = looking p.seat (Word.Mark page) n ∷ looking p.seat (Word.Black page) m ∷ [];
  did = two.did;
  looks = refl;
  pages = λ other le lt.
      let same : page ≡ other = omega arith in
      subst (λ (i : ℕ). SeesNoWork p.seat i (looking p.seat (Word.Mark page) n ∷ looking p.seat (Word.Black page) m ∷
      [])) same (record { before = []; behind = []; marks = n; blacks = m; is = refl; no_work = inl none });
  between = (None, two.marker);
}

pub no_cell_yet : {p : PassState} {page n m : ℕ} {b : PassState} {h : ℕ} {d : PassState} → TwoLooks p page n m b
    → MovesMarker b (Step.Mlook (Word.Head page)) h d → h ≡ 0 → LooksInVain p page (page + 1) d
no_cell_yet {p} {page} {n} {m} {b} {h} {d} two head free =
    let xs = looking p.seat (Word.Mark page) n ∷ looking p.seat (Word.Black page) m ∷ looking p.seat
    (Word.Head page) 0 ∷ [] in
    record {
      steps = looking p.seat (Word.Mark page) n ∷ looking p.seat (Word.Black page) m ∷ looking p.seat
          (Word.Head page) 0 ∷ [];
      did =
          subst (λ (i : ℕ). Did p (looking p.seat (Word.Mark page) n ∷ looking p.seat
          (Word.Black page) m ∷ looking p.seat (Word.Head page) i ∷ []) d) free (did_more two.did head);
      looks = refl;
      pages = λ other le lt.
          let same : page ≡ other = omega arith in
          subst (λ (i : ℕ). SeesNoWork p.seat i (looking p.seat (Word.Mark page) n ∷ looking p.seat
          (Word.Black page) m ∷ looking p.seat (Word.Head page) 0 ∷ [])) same (record {
            before = [];
            behind = looking p.seat (Word.Head page) 0 ∷ [];
            marks = n;
            blacks = m;
            is = refl;
            no_work = inr ([], refl);
          });
      between = (
        Some (record { page = page; header = h }),
        head.marker ∙ behind_look b.table.config h page (marker_in b) None two.marker,
      );
    }

-- a marker attends while a cycle marks
marking_for : {c : Config} {m : Moment} (s : Seat) → Known c m → is_attending (marker_at m s).presence ≡ true
    → IsMarking m.words
marking_for (Marker k) known on = known.orderly.attends k on
marking_for (Caller k) known on = cc
marking_for Host known on = cc

pub a_cell : {p : PassState} {page n : ℕ} {a : PassState} {m : ℕ} {b : PassState} {h : ℕ} {d : PassState} (k : ℕ)
    → IsBetweenScans p → MovesMarker p (Step.Mlook (Word.Mark page)) n a
    → n ≡ named_word (now_of a).words (Word.Mark page) → MovesMarker a (Step.Mlook (Word.Black page)) m b
    → MovesMarker b (Step.Mlook (Word.Head page)) h d → h ≡ named_word (now_of d).words (Word.Head page) → h ≢ 0
    → has_bit (without n m) k ≡ true → SeesCell p (record { page = page; index = k; header = h }) d
a_cell {p} {page} {n} {a} {m} {b} {h} {d} k between one marks two head shows some bit =
    let history = head.pass.history in
    let looks = two_looks between one two in
    let at : marker_in a ≡ between_scans None =
    one.marker ∙ ap (λ (x : MarkerState). marker_behind p.table.config n (Step.Mlook (Word.Mark page)) x) between.1 in
    let now : marker_in d ≡ between_scans (Some (record { page = page; header = h })) =
    head.marker ∙ behind_look b.table.config h page (marker_in b) None looks.marker in
    let parts = and_parts (has_bit n k) (not (has_bit m k)) (sym (has_bit_without n m k) ∙ bit) in
    let here : IsMarkedIn a page k = subst (λ (i : ℕ). has_bit i k ≡ true) marks parts.0 in
    let there : IsMarkedIn b page k = two.marks (ap (λ (x : MarkerState). is_attending x.presence) at) page k here in
    let still : IsMarkedIn d page k = head.marks
    (ap (λ (x : MarkerState). is_attending x.presence) looks.marker) page k there in
    let on : attends d ≡ true = ap (λ (x : MarkerState). is_attending x.presence) now in
    let early : IsMarking (now_of d).words = marking_for d.seat
    (known_left d.table.config d.seen history.within_limits history.enabled) on in
    let cell : k < cells_under (header_of (header_at (now_of d).words page)) =
    marks_are_of_cells history early page k still (λ z. some (shows ∙ z)) in
    record {
      steps = looking p.seat (Word.Mark page) n ∷ looking p.seat (Word.Black page) m ∷ looking p.seat
          (Word.Head page) h ∷ [];
      did = did_more looks.did head;
      sees = record {
        looks = [];
        marks = n;
        blacks = m;
        is = refl;
        are_looks = refl;
        marked = parts.0;
        not_black = not-true (has_bit m k) parts.1;
        cell = subst (λ (i : ℕ). k < cells_under (header_of i)) (sym shows) cell;
      };
      marker = now;
      marked = still;
    }

-- two searches, one after the other

pub none_both : (r : Option MarkedCell) {p : PassState} {a b : ℕ} {q : PassState} (d e : ℕ) (t : PassState)
    (first end : ℕ) → LooksInVain p a b q
    → ((page : ℕ) → first ≤ page → page < end → ((a ≤ page) × (page < b)) ⊎ ((d ≤ page) × (page < e)))
    → IfNone r (LooksInVain q d e t) → IfNone r (LooksInVain p first end t)
none_both (Some x) d e t first end one all h = h
none_both None {p = p} {a = a} {b = b} {q = q} d e t first end one all h = looked_on first end one h all

pub some_then : (r : Option MarkedCell) {p : PassState} {a b : ℕ} {q : PassState} (t : PassState) → LooksInVain p a b q
    → IfSome r (λ (cell : MarkedCell). SeesCell q cell t) → IfSome r (λ (cell : MarkedCell). SeesCell p cell t)
some_then (Some x) {p = p} {a = a} {b = b} {q = q} t one h = sees_then one h
some_then None t one h = h
