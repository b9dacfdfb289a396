use Rattle.mk_heap.proofs.Below.Laws.Vocabulary.{Caller, Config, List, Marker, Seat, ap, arith, cases_Bool, inl, inr}
use Rattle.mk_heap.proofs.Below.Laws.Vocabulary.{lt-ltb}
use Rattle.mk_heap.proofs.Below.Laws.Vocabulary.{marker_at, outside, refl, seat_exists, subst, sym, true, [], ◌++◌, ◌∷◌}
use Rattle.mk_heap.proofs.Below.Laws.Vocabulary.{◌≡◌}
use Rattle.mk_core.specs.History.{is_same_seat, left_from}
use Rattle.mk_heap.proofs.Below.Words.Seats.{has_all, has_first, has_left, has_right, same_seat, without_keeps}
use Rattle.mk_heap.specs.Below.Words.States.{Has, all_seats, without_seat, PassState, now_of}
use Rattle.mk_clients.proofs.lives.one_life.Goals as goal

pub split-caller-requires-clause-here : goal.split-caller-requires-clause-here
split-caller-requires-clause-here c = grind (arith, has_all, lt-ltb)

pub split-marker-requires-clause-here : goal.split-marker-requires-clause-here
split-marker-requires-clause-here c = grind (arith, has_all, without_keeps)

first_out : (p : PassState) → marker_at (now_of (record p { seen = [] })) (Marker 0) ≡ outside
unfolding left_from
first_out p = refl

pub split-marker-requires-clause-out : goal.split-marker-requires-clause-out
split-marker-requires-clause-out c = grind (arith, first_out)

pub close-requires-clause-home : goal.close-requires-clause-home
close-requires-clause-home c s exists =
    let k : Config = c.args.config.now in
    let first : List Seat = c.in_ok-words.host.seats in
    let start : first ≡ all_seats k = ap (λ (x : PassState). x.seats) c.in_ok-words.ensures.pass in
    let there : c.in_ok-words.words.config ≡ k = c.in_ok-words.ensures.config in
    let all : Has first s = subst (λ (xs : List Seat). Has xs s) (sym start)
    (has_all k s (subst (λ (d : Config). seat_exists d s ≡ true) there exists)) in
    let less : List Seat = without_seat (Marker 0) (without_seat (Caller 0) first) in
    let host : c.split-marker.new.pass.seats ≡ less = cc (c.split-marker.ensures.pass, c.split-caller.ensures.pass) in
    let marker : c.split-marker.result.seats ≡ Marker 0 ∷ [] =
    ap (λ (x : PassState). x.seats) c.split-marker.ensures.made in
    let caller : c.split-caller.result.seats ≡ Caller 0 ∷ [] =
    ap (λ (x : PassState). x.seats) c.split-caller.ensures.made in
    let one : c.join.new.into.seats ≡ less ++ (Marker 0 ∷ []) = cc (c.join.ensures.pass, host, marker) in
    let both : c.join-2.new.into.seats ≡ (less ++ (Marker 0 ∷ [])) ++ (Caller 0 ∷ []) =
    cc (c.join-2.ensures.pass, one, caller) in
    subst (λ (xs : List Seat). Has xs s) (sym both) (elim (cases_Bool (is_same_seat (Caller 0) s)) [
      | inl same ↦ has_right (less ++ (Marker 0 ∷ [])) (Caller 0 ∷ []) s
          (subst (λ (x : Seat). Has (Caller 0 ∷ []) x) (same_seat (Caller 0) s same) (has_first (Caller 0) []))
      | inr other ↦ has_left (less ++ (Marker 0 ∷ [])) (Caller 0 ∷ []) s
          (elim (cases_Bool (is_same_seat (Marker 0) s)) [
            | inl same ↦ has_right less (Marker 0 ∷ []) s
                (subst (λ (x : Seat). Has (Marker 0 ∷ []) x) (same_seat (Marker 0) s same) (has_first (Marker 0) []))
            | inr neither ↦ has_left less (Marker 0 ∷ []) s (without_keeps (Marker 0)
                (without_seat (Caller 0) first) s neither (without_keeps (Caller 0) first s other all))
          ])
    ])
