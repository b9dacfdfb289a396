-- All of a finish: what was released is given back, the cycle ends, and the tallies are set.
use Rattle.mk_words.proofs.Below.Laws.Vocabulary.{Config, PlacedAllocation, Steady, Step, TalliesAreTidy, Words, ℕ}
use Rattle.mk_words.proofs.Below.Laws.Vocabulary.{all_below-at, ap, arith, ends, has_place, in_a_word, is_held, map}
use Rattle.mk_words.proofs.Below.Laws.Vocabulary.{not, refl, subst, sym, true, with_released, [], ◌+◌, ◌<◌, ◌∙◌, ◌≡◌}
use Rattle.mk_words.proofs.Below.Laws.Vocabulary.{Holding}
use Rattle.mk_cycle.proofs.{Allowed.{in_turn_after, in_turn_before}, BeginSteps.{all_from, counts_then}}
use Rattle.mk_cycle.proofs.EndSteps.{as_many_fulls, ended_call, ended_done, ended_gates, ended_gone, one_more_end}
use Rattle.mk_cycle.proofs.{EndSteps.steady_ended, HeldReleased.held_alike, KeptInParts.{calls_then, free_then}}
use Rattle.mk_cycle.proofs.{KeptInParts.{gates_then, same_config}, NewlyReleased.newly_added, OwnSteps.same_pass}
use Rattle.mk_cycle.proofs.{ReleasedCounts.told_to, Vocabulary.{Acts, CountsAreLeft, HasReleased, HoldsFewer}}
use Rattle.mk_cycle.proofs.Vocabulary.{IsAtPhase, IsFreeForCycle, IsTurn, KeepsCall, KeepsGates, PassState, Released}
use Rattle.mk_cycle.proofs.Vocabulary.{done_of, full_answers, is_pending_free, now_of, releases, steady_of, world_of}
use Rattle.mk_cycle.specs.{FinishCycle.{words_released, Sets, with_cycle_counted, FinishesCycle}, Freeing.GivesAllBack}
use Rattle.mk_core.specs.{Counts.TalliesAreExact, Effects.cycle_ended, Moments.none_is_held}

pub gives_call : {p g : PassState} → GivesAllBack p g → KeepsCall p g
gives_call x = grind (arith, calls_then)

pub gives_free : {p g : PassState} → GivesAllBack p g → IsFreeForCycle p → IsFreeForCycle g
gives_free {p} {g} x free = free_then p g (gives_call x) free

gives_counts : {p g : PassState} → GivesAllBack p g → CountsAreLeft p.table.config p.seen g.seen
gives_counts x = grind (arith, counts_then, same_config)

pub ended_free : {g e : PassState} → IsAtPhase g 4 → Acts g Step.End e → IsFreeForCycle g → IsFreeForCycle e
ended_free {g} {e} at a free = record {
  decided = ap is_pending_free (ended_call t at u a) ∙ free.decided;
  unplaced = ap (λ (d : Holding). has_place d.placing) (ended_done t at u a) ∙ free.unplaced;
  gone = ended_gone t at u a free.gone;
}
  where
    t : IsTurn g
    t = in_turn_before a

    u : IsTurn e
    u = in_turn_after a refl

-- without what is released and given back
but_given : Steady → Steady
but_given s = record s { phase = 0; pages = []; freed = []; snapshot = []; fresh_words = 0; allocations = [] }

gives_steady : {p g : PassState} → GivesAllBack p g
    → but_given (steady_of (world_of g)) ≡ but_given (steady_of (world_of p))
unfolding but_given
gives_steady x = grind (arith, but_given)

-- A count that stands in a word stands there with more as well.
more_in_a_word : (n more : ℕ) → in_a_word (in_a_word n + more) ≡ in_a_word (n + more)
more_in_a_word n more = omega arith

none_held : (callers : ℕ) (v w : Words) → ((j : ℕ) → j < callers → is_held w j ≡ is_held v j)
    → none_is_held callers v ≡ true → none_is_held callers w ≡ true
none_held callers v w same h =
    all_from callers (λ j. not (is_held w j))
    (λ j lt. ap not (same j lt) ∙ all_below-at callers j (λ i. not (is_held v i)) h lt)

module _ {p g e q : PassState} {r : Released} (gives : GivesAllBack p g) (free : IsFreeForCycle p)
    (a : Acts g Step.End e) (held : ℕ) (sets : Sets (with_cycle_counted (now_of e).words held r.count) e q)
    (told : HasReleased p g r) (fewer : HoldsFewer p g held) where
  t : IsTurn g
  t = in_turn_before a

  u : IsTurn e
  u = in_turn_after a refl

  abbrev c : Config
  c = p.table.config

  -- what a release makes of an allocation
  f : PlacedAllocation → PlacedAllocation
  f = with_released p.table.config (words_released gives.releases.makes)

  free_g : IsFreeForCycle g
  free_g = gives_free gives free

  pass_g : g ≡ record p { seen = g.seen }
  pass_g = (gives_call gives).pass

  pass_e : e ≡ record g { seen = e.seen }
  pass_e = same_pass g Step.End e a t.own t.holds u.history

  pass_q : q ≡ record p { seen = q.seen }
  pass_q = sets.call.pass ∙ ap (λ (x : PassState). record x { seen = q.seen })
      (pass_e ∙ ap (λ (x : PassState). record x { seen = e.seen }) pass_g)

  steady_e : steady_of (world_of e) ≡ record (steady_of (world_of g)) { phase = 0 }
  steady_e = steady_ended t gives.phase u a

  steady_q : steady_of (world_of q)
      ≡ with_cycle_counted (now_of e).words held r.count (record (steady_of (world_of g)) { phase = 0 })
  steady_q = sets.steady ∙ ap (λ (s : Steady). with_cycle_counted (now_of e).words held r.count s) steady_e

  same_g : (world_of q).allocations ≡ (world_of g).allocations
  same_g = ap (λ (s : Steady). s.allocations) steady_q

  allocations_q : (world_of q).allocations ≡ map f (world_of p).allocations
  unfolding f
  allocations_q = grind (arith, same_g, same_config)

  done_e : done_of (now_of e) ≡ record (done_of (now_of g)) { cycle = cycle_ended (now_of g).seats.holding.cycle }
  done_e = ended_done t gives.phase u a

  tallies_g : but_given (steady_of (world_of g)) ≡ but_given (steady_of (world_of p))
  tallies_g = gives_steady gives

  exact_q : TalliesAreExact p.table.config p.seen → TalliesAreExact q.table.config q.seen
  unfolding but_given
  exact_q x = grind (arith, same_config, pass_q, steady_e, tallies_g, held_alike, pass_g, same_g, steady_q)

  ends_q : ends q.seen ≡ ends p.seen + 1
  ends_q = cc (sets.counts.ends, one_more_end t gives.phase u a, (gives_counts gives).ends)

  fulls_q : full_answers q.table.config q.seen ≡ full_answers c p.seen
  fulls_q =
      cc (
        sets.counts.fulls,
        as_many_fulls t gives.phase u a,
        (gives_counts gives).fulls,
        same_config p g pass_g,
        same_config g e pass_e,
        same_config p q pass_q,
      )

  told_q : HasReleased p q r
  told_q = told_to q same_g told

  releases_q : releases (world_of q).allocations ≡ releases (world_of p).allocations + r.count
  unfolding f
  releases_q = grind (arith, told_q, allocations_q, newly_added)

  tidy_q : TalliesAreTidy p.table.config p.seen → TalliesAreTidy q.table.config q.seen
  unfolding but_given
  tidy_q x = grind (arith, steady_e, tallies_g, more_in_a_word, ends_q, releases_q, steady_q, fulls_q)

  gates_q : none_is_held c.callers (now_of q).words ≡ true
  gates_q =
      let both : KeepsGates g q = gates_then g e q pass_e (ended_gates t gives.phase u a) sets.gates in
      none_held c.callers (now_of g).words (now_of q).words
      (λ j lt. both j (subst (λ (x : Config). j < x.callers) (sym (same_config p g pass_g)) lt)) gives.gates

  pub finishes_cycle : FinishesCycle p q
  unfolding f
  finishes_cycle = record {
    makes = record {
      held = gives.held;
      released = gives.released;
      opened = gives.opened;
      freed = g;
      ended = e;
      holds = gives.holds.does;
      releases = gives.releases.makes;
      opens = gives.opens;
      none_held = gives.none_held;
      frees = gives.gives;
      end = a.makes;
      behind = sets.does;
    };
    pass = pass_q;
    call = sets.call.call ∙ ended_call t gives.phase u a ∙ (gives_call gives).call;
    done = sets.call.done ∙ done_e
        ∙ ap (λ (x : Holding). record x { cycle = cycle_ended x.cycle }) (gives_call gives).done;
    phase = ap (λ (s : Steady). s.phase) steady_q;
    gates = gates_q;
    allocations = allocations_q;
    gone = sets.call.gone (ended_gone t gives.phase u a free_g.gone);
    exact = exact_q;
    tidy = tidy_q;
  }

  pub has_released : HasReleased p q r
  has_released = told_q

-- So the turn is free for a cycle after a finish, as it is after a begin.
