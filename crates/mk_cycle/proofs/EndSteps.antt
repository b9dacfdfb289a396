-- The `end` of a cycle.
use Rattle.std.proofs.lemmas.List.Sums.{sum_by-append}
use Rattle.mk_words.proofs.Below.Laws.Vocabulary.{Step, World, ℕ, ap, arith, ends, eq-eqb, refl, [], ◌%◌, ◌++◌, ◌+◌}
use Rattle.mk_words.proofs.Below.Laws.Vocabulary.{◌-◌, ◌<◌, ◌^◌, ◌∷◌, ◌≡◌}
use Rattle.mk_cycle.proofs.Vocabulary.{Acts, IsAtPhase, IsEnabledTo, IsFreeForCycle, IsGone, IsSettledPage, IsTurn}
use Rattle.mk_cycle.proofs.Vocabulary.{KeepsGates, PassState, call_of, count_by-le-length, done_of, event_of}
use Rattle.mk_cycle.proofs.Vocabulary.{full_answers, made, now_of, steady_of, world_at, world_of}
use Rattle.mk_core.specs.Effects.{cycle_ended}
use Rattle.mk_cycle.proofs.OwnSteps.{done_in, no_more_calls, same_call, still_gone, undecided}
use Rattle.mk_cycle.proofs.{Allowed.protocol, BeginSteps.all_from, KeptInParts.gates_behind, MayAct.may_act}

pub end_allowed : {p : PassState} → IsTurn p → IsFreeForCycle p → IsAtPhase p 4
    → ((page : ℕ) → page < p.table.config.pages → IsSettledPage p page) → IsEnabledTo p Step.End
end_allowed {p} t free at settled =
    may_act p Step.End (protocol p t free) t.holds free.decided refl refl refl (eq-eqb _ 4 at) (all_from _ _ settled)

module _ {p q : PassState} (t : IsTurn p) (at : IsAtPhase p 4) (u : IsTurn q) (a : Acts p Step.End q) where
  abbrev w : World
  w = world_at a.makes

  phase_there : (w.now.words.phase + (2 ^ 64 - 4)) % 2 ^ 64 % 8 ≡ 0
  phase_there = grind (arith, made, protocol, count_by-le-length)

  pub steady_ended : steady_of (world_of q) ≡ record (steady_of (world_of p)) { phase = 0 }
  steady_ended = grind (arith, phase_there)

  pub ended_call : call_of q ≡ call_of p
  ended_call = same_call p Step.End q a t.own t.holds u.history (λ n. refl)

  pub ended_done : done_of (now_of q)
      ≡ record (done_of (now_of p)) { cycle = cycle_ended (now_of p).seats.holding.cycle }
  ended_done = grind (arith, done_in)

  pub ended_gone : IsGone p → IsGone q
  ended_gone = still_gone p Step.End q a t.own t.holds u.history (λ n. refl) refl

  pub ended_gates : KeepsGates p q
  ended_gates = gates_behind p Step.End q a refl

  seen_is : q.seen ≡ (p.seen ++ a.makes.others) ++ event_of p Step.End ∷ []
  seen_is = ap (λ (r : PassState). r.seen) a.makes.is

  pub one_more_end : ends q.seen ≡ ends p.seen + 1
  one_more_end = grind (arith, seen_is, sum_by-append)

  pub as_many_fulls : full_answers p.table.config q.seen ≡ full_answers p.table.config p.seen
  as_many_fulls = grind (arith, seen_is, no_more_calls, undecided)
