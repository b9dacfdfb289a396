-- The host makes callers and markers for threads of their own, and joins the markers.
use Rattle.std.proofs.{Common.⊎_elim, lemmas.List.get_or-replicate}
use Rattle.mk_alloc.proofs.Below.Laws.Vocabulary.{Caller, Config, IsHistory, List, Marker, Seat, ℕ, ap, append-nil}
use Rattle.mk_alloc.proofs.Below.Laws.Vocabulary.{append_assoc, arith, left, marker_at, outside, refl, subst, sym, true}
use Rattle.mk_alloc.proofs.Below.Laws.Vocabulary.{[], ◌++◌, ◌+◌, ◌<◌, ◌∙◌, ◌∷◌, ◌≡◌, ◌≤◌, ◌⊎◌}
use Rattle.mk_alloc.proofs.Below.Words.Seats.{has_first, has_left, has_right, others_append, others_fewer, others_none}
use Rattle.mk_alloc.{proofs.Below.Words.Seats.{without_keeps}, specs.Below.Words.States.{PassState, WordsState}}
use Rattle.mk_alloc.specs.Below.{Callers.States.{CallerState, IsAtHome, IsIdleCaller}, Words.States.Has}
use Rattle.mk_core.specs.{History.left_from, MarkingConditions.is_out}
use Rattle.mk_heap.specs.Hosts.{HasMade, IsFirstPass, IsMarkersPass, JoinsMarkers, HostState, TakesBack}
use Rattle.mk_heap.specs.Hosts.{pass_for, with_caller_made, with_marker_made}

-- The host makes the next caller, or the next marker.

pub caller_made : {w : WordsState} {markers k : ℕ} {h : HostState} → HasMade w markers k h
    → HasMade w markers (k + 1) (with_caller_made h)
caller_made made = grind (arith, without_keeps)

pub marker_made : {w : WordsState} {j k : ℕ} {h : HostState} → HasMade w j k h
    → HasMade w (j + 1) k (with_marker_made h)
marker_made made = grind (arith, without_keeps)

pub first_pass : {w : WordsState} {markers k : ℕ} {h : HostState} (s : CallerState) (p : PassState)
    → HasMade w markers k h → IsAtHome s (pass_for h (Caller h.callers)) → p ≡ s.pass → IsIdleCaller s.pass
    → IsFirstPass w k p
first_pass s p made is same idle = grind arith

-- A marker that has done nothing is out.

unseen : (c : Config) (j : ℕ) → j < 8 → is_out (marker_at (left c []).now (Marker j)).presence ≡ true
unfolding left_from
unseen c j few = ap (λ m. is_out m.presence) (get_or-replicate 8 j outside outside few)

pub first_marker : {w : WordsState} {j k : ℕ} {h : HostState} (m p : PassState) → HasMade w j k h → j < 8
    → m ≡ pass_for h (Marker h.markers) → p ≡ m → IsMarkersPass w j p
first_marker m p made few is same = grind (arith, unseen)

-- None is joined yet, and one more.

pub joins_none : (j : ℕ) {h : HostState} → h.markers ≤ j → IsHistory h.pass.table.config h.pass.seen
    → JoinsMarkers j h h
joins_none j {h} all history = record {
  table = refl;
  seat = refl;
  callers = refl;
  same_markers = refl;
  home = λ s has. has;
  markers = λ i le lt. absurd (omega (arith, all, le, lt));
  behind = record { more = []; is = sym (append-nil h.pass.seen); of_others = others_none h.pass.seats };
  history = history;
  overs = refl;
}

same_or_later : (k j : ℕ) → k ≤ j → (j ≡ k) ⊎ (k + 1 ≤ j)
same_or_later k j le = grind arith

pub joins_more : {j : ℕ} {h g i : HostState} (p : PassState) → JoinsMarkers (j + 1) h g → TakesBack g p i
    → p.seats ≡ Marker j ∷ [] → JoinsMarkers j h i
joins_more {j} {h} {g} {i} p joins takes alone =
    let seats : i.pass.seats ≡ g.pass.seats ++ p.seats = ap (λ (x : HostState). x.pass.seats) takes.host in
    let mine : Has p.seats (Marker j) =
    subst (λ (l : List Seat). Has l (Marker j)) (sym alone) (has_first (Marker j) []) in
    let keeps : (s : Seat) → Has g.pass.seats s → Has i.pass.seats s =
    λ s has. rw seats (has_left g.pass.seats p.seats s has) in
    let count : i.markers ≡ g.markers = ap (λ (x : HostState). x.markers) takes.host in
    record {
      table = ap (λ (x : HostState). x.pass.table) takes.host ∙ joins.table;
      seat = ap (λ (x : HostState). x.pass.seat) takes.host ∙ joins.seat;
      callers = ap (λ (x : HostState). x.callers) takes.host ∙ joins.callers;
      same_markers = count ∙ joins.same_markers;
      home = λ s has. keeps s (joins.home s has);
      markers = λ n le lt. ⊎_elim (λ (e : n ≡ j). rw seats (has_right g.pass.seats p.seats (Marker n)
          (subst (λ (x : ℕ). Has p.seats (Marker x)) (sym e) mine)))
          (λ (later : j + 1 ≤ n). keeps (Marker n) (joins.markers n later (omega (arith, lt, count))))
          (same_or_later j n le);
      behind = record {
        more = joins.behind.more ++ takes.own.more;
        is = cc (takes.own.is, joins.behind.is, append_assoc h.pass.seen joins.behind.more takes.own.more);
        of_others =
            others_append h.pass.seats joins.behind.more takes.own.more joins.behind.of_others
            (others_fewer g.pass.seats h.pass.seats takes.own.more joins.home takes.own.of_others);
      };
      history = takes.history;
      overs = takes.overs ∙ joins.overs;
    }
