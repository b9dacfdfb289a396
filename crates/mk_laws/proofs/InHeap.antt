-- Runs, places and scans lie in the heap, after every enabled list.
use Rattle.mk_laws.proofs.Vocabulary.{AreEnabled, AreOfPages, Config, Event, IsWithinLimits, List, Marker, Moment, Seat}
use Rattle.mk_laws.proofs.Vocabulary.{Step, World, ℕ, access, accessed_lengths, and_parts, enabled_meets, first_moment}
use Rattle.mk_laws.proofs.Vocabulary.{free_page, left, ltb-true, marker_of, nat_lt, outside, refl, word_accessed}
use Rattle.mk_laws.proofs.{Vocabulary.zero_lengths, Basics.{Known, Meets, WorldBehind, at_first, marker_set}}
use Rattle.mk_laws.proofs.NewPlace.{PlacesFit, place_fits_now, places_behind}
use Rattle.mk_laws.proofs.{ScansInHeap.{MarkerFits, marker_fits_behind, nothing_fits}, Ground.ground_step}
use Rattle.mk_laws.proofs.{Known.along_enabled, RunsInHeap.{RunsFit, runs_behind}}

pub record InHeap (c : Config) (m : Moment) : Type 0 where
  pub lengths : AreOfPages c.pages m.words
  pub runs : RunsFit c m.words.pages
  pub places : PlacesFit c m
  pub markers : (k : ℕ) → MarkerFits c (marker_of m k)

markers_fit : {c : Config} (w : World) (seat : Seat) (x : Step) → InHeap c w.now → Meets c w.now seat x → (k : ℕ)
    → MarkerFits c (marker_of (WorldBehind c w seat x).now k)
markers_fit {c} w (Marker j) x in_heap h k =
    marker_set w.now.seats.markers j k _ (MarkerFits c) (λ lt. marker_fits_behind _ x
    (λ p e. rw e (in_heap.runs p)) (λ p i e. ltb-true p c.pages (and_parts _ (nat_lt i 32) (rw e at h.range)).0)
    h.marker (in_heap.markers j)) (in_heap.markers k)
markers_fit w _ x in_heap h k = in_heap.markers k

in_heap_behind : {c : Config} (w : World) (seat : Seat) (x : Step) → Known c w.now → InHeap c w.now
    → Meets c w.now seat x → InHeap c (WorldBehind c w seat x).now
in_heap_behind {c} w seat x known in_heap h =
    let e : Event = record { seat = seat; step = x } in
    record {
      lengths = accessed_lengths c.pages w.now.words (word_accessed c w.now e) (access c w.now e) in_heap.lengths;
      runs = runs_behind (λ place now. place_fits_now c w.now seat x place
          in_heap.lengths.pages in_heap.places h now) in_heap.runs (ground_step c w seat x h);
      places = places_behind w seat x known in_heap.lengths.pages in_heap.places h;
      markers = markers_fit w seat x in_heap h;
    }

in_heap_at_first : (c : Config) → InHeap c (first_moment c)
in_heap_at_first c = record {
  lengths = zero_lengths c.pages;
  runs = λ p. rw (at_first c.pages p free_page) (λ count shows. cc);
  places = λ k lt new place held. cc;
  markers = λ k. rw (at_first 8 k outside) (nothing_fits c outside refl refl);
}

pub in_heap_left : (c : Config) (es : List Event) → IsWithinLimits c → AreEnabled c es → InHeap c (left c es).now
in_heap_left c es limits on = along_enabled (λ w xs. InHeap c w.now) (λ w e xs lengths known here k.
    in_heap_behind w e.seat e.step known k (enabled_meets c w.now e here)) es limits on (in_heap_at_first c)
