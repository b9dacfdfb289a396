-- Which heap words were looked at: in parts, and by one step.
use Rattle.mk_sweep.proofs.Vocabulary.{Event, PassState, Step, heap_looks}
use Rattle.mk_cycle.proofs.Below.Laws.Vocabulary.{Bool, List, and_parts, ap, append-nil, append_assoc, arith, refl, sym}
use Rattle.mk_cycle.proofs.{Below.Laws.Vocabulary.{true, [], ◌++◌, ◌∙◌, ◌∷◌, ◌≡◌}, Parts.{done_by_one, more_in_parts}}
use Rattle.mk_cycle.proofs.{Parts.{more_of_nothing, more_of_step}, Below.Words.Doing.done_in_parts}
use Rattle.mk_cycle.specs.{Tracing.is_waiting, Below.Words.Steps.{Does, are_of, done_in, Makes}}
use Rattle.mk_core.specs.History.{Finding, own_from}
use Rattle.mk_sweep.specs.Sweeps.{word_looked_at, words_looked_at}

looked_at_in_parts : (xs ys : List Finding) → words_looked_at (xs ++ ys) ≡ words_looked_at xs ++ words_looked_at ys
looked_at_in_parts [] ys = refl
looked_at_in_parts (x ∷ xs) ys =
    cc (looked_at_in_parts xs ys, append_assoc (word_looked_at x.event.step) (words_looked_at xs) (words_looked_at ys))

none_done : (p : PassState) → words_looked_at (done_in p []) ≡ []
unfolding own_from
none_done p = refl

pub looks_of_nothing : {kinds : Step → Bool} {p : PassState} (d : Does kinds p p) → heap_looks d ≡ []
looks_of_nothing {p} d = cc (more_of_nothing d, none_done p)

pub looks_in_parts : {kinds more both : Step → Bool} {p q r : PassState} (d : Does kinds p q) (e : Does more q r)
    (f : Does both p r) → heap_looks f ≡ heap_looks d ++ heap_looks e
looks_in_parts {p} {r} d e f =
    ap (λ (es : List Event). words_looked_at (done_in p es)) (more_in_parts d e f)
    ∙ ap words_looked_at (done_in_parts p d.more e.more)
    ∙ looked_at_in_parts (done_in p d.more) (done_in (record p { seen = p.seen ++ d.more }) e.more)
    ∙ ap (λ (x : PassState). heap_looks d ++ words_looked_at (done_in x e.more)) (sym d.is)

pub looks_of_step : {kinds : Step → Bool} {p q : PassState} {s : Step} (m : Makes p s q) (d : Does kinds p q)
    → heap_looks d ≡ word_looked_at s
looks_of_step {p} {s} m d =
    ap (λ (es : List Event). words_looked_at (done_in p es)) (more_of_step m d)
    ∙ ap words_looked_at (done_by_one m) ∙ append-nil (word_looked_at s)

-- Waiting for the markers looks at none.

none_waiting : (s : Step) → is_waiting s ≡ true → word_looked_at s ≡ []
none_waiting x0 h = grind arith

none_waited : (xs : List Finding) → are_of is_waiting xs ≡ true → words_looked_at xs ≡ []
none_waited [] h = refl
none_waited (x ∷ xs) h =
    let parts = and_parts (is_waiting x.event.step) (are_of is_waiting xs) h in
    ap (λ ns. ns ++ words_looked_at xs) (none_waiting x.event.step parts.0) ∙ none_waited xs parts.1

pub looks_of_waiting : {p q : PassState} (d : Does is_waiting p q) → heap_looks d ≡ []
looks_of_waiting {p} d = none_waited (done_in p d.more) d.of_kinds
