-- What a marker's steps need, and leave of the marker.
use Rattle.mk_heap.proofs.Below.Laws.Vocabulary.{Block, Config, Flight, Group, Header, Marker, MarkerState, Moment}
use Rattle.mk_heap.proofs.Below.Laws.Vocabulary.{Option, Some}
use Rattle.mk_heap.proofs.Below.Laws.Vocabulary.{Step, Word, ℕ, and_from, ap, arith, at_rest, cell_seen, cells_of}
use Rattle.mk_heap.proofs.Below.Laws.Vocabulary.{cells_under}
use Rattle.mk_heap.proofs.Below.Laws.Vocabulary.{eq-eqb, group_of, has_next_word, has_phase, has_seen_cell, header_of}
use Rattle.mk_heap.proofs.Below.Laws.Vocabulary.{holder_may}
use Rattle.mk_heap.proofs.Below.Laws.Vocabulary.{is_attending, is_in_range, is_none, is_some, lt-ltb, marker_may, refl}
use Rattle.mk_heap.proofs.Below.Laws.Vocabulary.{subst, sym}
use Rattle.mk_heap.proofs.Below.Laws.Vocabulary.{true, ◌%◌, ◌<◌, ◌==◌, ◌∙◌, ◌≡◌}
use Rattle.mk_core.proofs.Conditions.{meets_enabled}
use Rattle.mk_heap.specs.Below.Words.{Steps.{Marks, marker_in}, States.PassState}
use Rattle.mk_heap.specs.Below.Words.Steps.{IsEnabledTo, Makes}
use Rattle.mk_clients.specs.Clients.{IsAttending, IsOutside}

markers_phase : (n : ℕ) (s : Step) → group_of s ≡ Group.Markers → has_phase n s ≡ true
markers_phase n Step.Attend h = refl
markers_phase n _ h = cc

markers_holder : (c : Config) (m : Moment) (f : Flight) (s : Step) → group_of s ≡ Group.Markers
    → holder_may c m f s ≡ true
markers_holder c m f Step.Attend h = refl
markers_holder c m f _ h = cc

-- A marker's step is enabled, where its operands are in range and the marker may make it.
pub marker_step : (p : PassState) (s : Step) (k : ℕ) → p.seat ≡ Marker k → k < 8 → group_of s ≡ Group.Markers
    → is_in_range p.table.config (Marker k) at_rest s ≡ true → marker_may p.table.config (marker_in p) s ≡ true
    → IsEnabledTo p s
marker_step p s k seat_is few kind range may = grind (arith, meets_enabled, lt-ltb, markers_phase, markers_holder)

-- what a marker's step leaves

pub seat_kept : {p q : PassState} {s : Step} → Makes p s q → q.seat ≡ p.seat
seat_kept m = ap (λ (r : PassState). r.seat) m.is

pub config_kept : {p q : PassState} {s : Step} → Makes p s q → q.table ≡ p.table
config_kept m = ap (λ (r : PassState). r.table) m.is

pub load_may : {p : PassState} → IsAttending p → has_next_word (marker_in p).scan ≡ true → IsEnabledTo p Step.Mload
load_may {p} a next =
    marker_step p Step.Mload a.number a.seat a.few refl refl (and_from (has_next_word (marker_in p).scan)
    (is_none (marker_in p).hand) next (ap (λ (h : Option ℕ). is_none h) a.hand))

pub look_may : (p : PassState) (k page : ℕ) → p.seat ≡ Marker k → k < 8 → is_attending (marker_in p).presence ≡ true
    → page < p.table.config.pages → IsEnabledTo p (Step.Mlook (Word.Head page))
look_may p k page seat few attends lt =
    marker_step p (Step.Mlook (Word.Head page)) k seat few refl (lt-ltb page p.table.config.pages lt)
    (and_from (is_attending (marker_in p).presence) true attends refl)

pub mark_may : (p : PassState) (k : ℕ) → p.seat ≡ Marker k → k < 8
    → is_some (cell_seen p.table.config (marker_in p).seen (marker_in p).hand) ≡ true → IsEnabledTo p Step.Mmark
mark_may p k seat few some = marker_step p Step.Mmark k seat few refl refl some

pub attended : {p q : PassState} {n : ℕ} → IsOutside p → Marks p Step.Attend n q → n % 8 ≡ 1 → IsAttending q
attended o m is = grind (arith, seat_kept, eq-eqb)

-- A look at a page's header shows a cell of its block.
pub seen_cell : {p q : PassState} {page n : ℕ} (class k : ℕ) → IsAttending p → Marks p (Step.Mlook (Word.Head page)) n q
    → header_of n ≡ Some (Block class) → k < cells_of class → has_seen_cell (marker_in q).seen page k ≡ true
seen_cell {page = page} class k a m is lt =
    ap (λ (y : MarkerState). has_seen_cell y.seen page k) m.marker ∙ and_from (page == page) _ (eq-eqb page page refl)
    (lt-ltb k _ (subst (λ (h : Option Header). k < cells_under h) (sym is) lt))
