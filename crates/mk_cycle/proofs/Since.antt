-- What a pass has seen since, in parts and by one step.
use Rattle.std.proofs.Math.Seq.{drop-append_seam, drop-length}
use Rattle.mk_words.proofs.Below.Laws.Vocabulary.{Config, Event, List, Moment, Step, World, ap, append_assoc, left}
use Rattle.mk_words.proofs.Below.Laws.Vocabulary.{left_in_parts, subst, sym, [], ◌++◌, ◌∙◌, ◌∷◌, ◌≡◌}
use Rattle.mk_words.proofs.Doing.{done_in_parts, none_own}
use Rattle.mk_cycle.specs.{Beside.{done_since, seen_since}, Tracing.OwnStepsKeep}
use Rattle.mk_cycle.proofs.Parts.{keep_in_parts, one_keeps, one_own, others_keep}
use Rattle.mk_words.specs.Steps.{done_in}
use Rattle.mk_core.specs.History.{Finding, own_from}
use Rattle.mk_words.{proofs.Seats.{same_self}, specs.TurnSteps.{world_at}}
use Rattle.mk_words.specs.{States.{Has, PassState, event_of, world_of}, Steps.{Makes, found_by}}

-- what was seen after a list
pub since_behind : (p : PassState) (xs : List Event) → seen_since p (record p { seen = p.seen ++ xs }) ≡ xs
since_behind p xs = drop-append_seam p.seen xs

pub since_is : (p q : PassState) (xs : List Event) → q ≡ record p { seen = p.seen ++ xs } → seen_since p q ≡ xs
since_is p q xs is = ap (λ (x : PassState). seen_since p x) is ∙ since_behind p xs

-- in two parts
module _ (p : PassState) (xs : List Event) (r : PassState) (ys : List Event)
    (is : r ≡ record p { seen = (p.seen ++ xs) ++ ys }) where
  since_both : seen_since p r ≡ xs ++ ys
  since_both =
      since_is p r (xs ++ ys) (is ∙ ap (λ (es : List Event). record p { seen = es }) (append_assoc p.seen xs ys))

  since_second : seen_since (record p { seen = p.seen ++ xs }) r ≡ ys
  since_second = since_is (record p { seen = p.seen ++ xs }) r ys is

  pub done_then : done_since p r
      ≡ done_since p (record p { seen = p.seen ++ xs }) ++ done_since (record p { seen = p.seen ++ xs }) r
  done_then = cc (since_both, done_in_parts p xs ys, since_behind p xs, since_second)

  pub rule_then : (rule : Config → Moment → Step → Type 0)
      → OwnStepsKeep rule p.table.config p.seat (world_of p) (seen_since p (record p { seen = p.seen ++ xs }))
      → OwnStepsKeep rule p.table.config p.seat (world_of (record p { seen = p.seen ++ xs })) (seen_since
      (record p { seen = p.seen ++ xs }) r) → OwnStepsKeep rule p.table.config p.seat (world_of p) (seen_since p r)
  rule_then rule one two =
      let c : Config = p.table.config in
      subst (λ (es : List Event). OwnStepsKeep rule c p.seat (world_of p) es) (sym since_both) (keep_in_parts rule c _ _
      xs ys (subst (λ (es : List Event). OwnStepsKeep rule c p.seat (world_of p) es) (since_behind p xs) one)
      (subst (λ (w : World). OwnStepsKeep rule c p.seat w ys) (left_in_parts c _ xs)
      (subst (λ (es : List Event). OwnStepsKeep rule c p.seat (left c (p.seen ++ xs)) es) since_second two)))

-- one step
module _ (p : PassState) (s : Step) (q : PassState) (m : Makes p s q) where
  abbrev c : Config
  c = p.table.config

  pub since_step : seen_since p q ≡ m.others ++ event_of p s ∷ []
  since_step =
      since_is p q (m.others ++ event_of p s ∷ [])
      (m.is ∙ ap (λ (es : List Event). record p { seen = es }) (append_assoc p.seen m.others (event_of p s ∷ [])))

  pub done_step : Has p.seats p.seat → done_since p q ≡ record { event = event_of p s; found = found_by m } ∷ []
  done_step has =
      ap (λ (es : List Event). done_in p es) since_step ∙ done_in_parts p m.others (event_of p s ∷ [])
      ∙ ap (λ (zs : List Finding). zs ++ done_in (record p { seen = p.seen ++ m.others }) (event_of p s ∷ []))
      (none_own c p.seats p.seat (left c p.seen) m.others has m.of_others)
      ∙ one_own c p.seat (world_at m) (event_of p s) (same_self p.seat)

  pub keeps_step : (rule : Config → Moment → Step → Type 0) → Has p.seats p.seat → rule c (world_at m).now s
      → OwnStepsKeep rule c p.seat (world_of p) (seen_since p q)
  keeps_step rule has is =
      subst (λ (es : List Event). OwnStepsKeep rule c p.seat (world_of p) es) (sym since_step)
      (keep_in_parts rule c p.seat (world_of p) m.others (event_of p s ∷ []) (others_keep rule c p.seat p.seats
      (world_of p) m.others has m.of_others) (subst (λ (w : World). OwnStepsKeep rule c p.seat w (event_of p s ∷ []))
      (left_in_parts c p.seen m.others) (one_keeps rule c p.seat (world_at m) (event_of p s) is)))

-- nothing
pub nothing_since : (p : PassState) → seen_since p p ≡ []
nothing_since p = drop-length p.seen

pub nothing_done : (p : PassState) → done_since p p ≡ []
unfolding own_from
nothing_done p = ap (λ (es : List Event). done_in p es) (nothing_since p)

pub nothing_keeps : (rule : Config → Moment → Step → Type 0) (p : PassState)
    → OwnStepsKeep rule p.table.config p.seat (world_of p) (seen_since p p)
unfolding OwnStepsKeep
nothing_keeps rule p =
    subst (λ (es : List Event). OwnStepsKeep rule p.table.config p.seat (world_of p) es) (sym (nothing_since p)) tt
