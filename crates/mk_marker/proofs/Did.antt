-- What is done in parts.
use Rattle.mk_words.proofs.Below.Laws.Vocabulary.{Event, List, ap, append-nil, append_assoc, arith, refl, subst, sym}
use Rattle.mk_words.proofs.{Below.Laws.Vocabulary.{[], ◌++◌, ◌∙◌, ◌≡◌}, Doing.{done_in_parts, own_or_others_in_parts}}
use Rattle.mk_words.specs.Steps.{AreOwnOrOfOthers, done_in}
use Rattle.mk_core.specs.History.{Finding, own_from}
use Rattle.mk_marker.specs.{Markers.Did, Steps.IsOf}
use Rattle.mk_words.specs.States.{PassState, WordsState}

then_at : (p : PassState) (more : List Event) (xs ys : List Finding) → AreOwnOrOfOthers p.seat p.seats more
    → done_in p more ≡ xs → (r : PassState) → Did (record p { seen = p.seen ++ more }) ys r → Did p (xs ++ ys) r
then_at p more xs ys own done r d = record {
  more = more ++ d.more;
  is = d.is ∙ ap (λ (es : List Event). record p { seen = es }) (append_assoc p.seen more d.more);
  own_or_others = own_or_others_in_parts p.seat p.seats more d.more own d.own_or_others;
  done =
      done_in_parts p more d.more ∙ ap (λ (zs : List Finding). zs ++ done_in
      (record p { seen = p.seen ++ more }) d.more) done ∙ ap (λ (zs : List Finding). xs ++ zs) d.done;
}

pub did_then : {p : PassState} {xs : List Finding} {q : PassState} {ys : List Finding} {r : PassState} → Did p xs q
    → Did q ys r → Did p (xs ++ ys) r
did_then {p} {xs} {ys} {r} d e = then_at p d.more xs ys d.own_or_others d.done r
    (subst (λ (x : PassState). Did x ys r) d.is e)

pub seat_kept : {p : PassState} {xs : List Finding} {q : PassState} → Did p xs q → q.seat ≡ p.seat
seat_kept d = ap (λ (x : PassState). x.seat) d.is

pub still_of : {w : WordsState} {p : PassState} {xs : List Finding} {q : PassState} → IsOf w p → Did p xs q → IsOf w q
still_of {p} {xs} {q} o d = grind (arith, seat_kept)

pub did_nothing : (p : PassState) → Did p [] p
unfolding AreOwnOrOfOthers own_from
did_nothing p = record {
  more = [];
  is = sym (ap (λ (es : List Event). record p { seen = es }) (append-nil p.seen));
  own_or_others = tt;
  done = refl;
}
