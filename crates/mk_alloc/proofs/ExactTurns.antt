-- The turns of a caller stay exact, whatever its next call is.
use Rattle.mk_alloc.proofs.Vocabulary.{Bool, EndsExactly, Event, List, PassState, Some, Step, ap, append_assoc, arith}
use Rattle.mk_alloc.proofs.Vocabulary.{event_of, only_seen, own_before, refl, subst, sym, [], ◌++◌, ◌∙◌, ◌∷◌, ◌≡◌}
use Rattle.mk_alloc.proofs.OwnGives.{GivesNone, calls_give, does_give_none, doing_gives, none_more, one_gives, one_more}
use Rattle.mk_alloc.{proofs.OwnGives.{others_give}, specs.TurnCalls.{StayExactWhereHeld}}
use Rattle.mk_alloc.specs.TurnCalls.{OwnAreExact, StayExactBehindCalls, StayExactBehindOthers, StayExactBehindTurns}
use Rattle.mk_caller.proofs.Below.Words.TakesAlone.{taking_does}

pub stay_exact_behind_calls : StayExactBehindCalls
stay_exact_behind_calls on p o a q own called exact =
    rw called.is (none_more on p.table.config p.seat p.seen called.more (calls_give p o a called.more called.steps)
    exact)

pub stay_exact_where_held : StayExactWhereHeld
stay_exact_where_held on p o q own held exact =
    let m = held.finds.makes in
    rw m.is (rw (← (append_assoc p.seen m.others (event_of p (Step.Enter o) ∷ []))) at (none_more on p.table.config
    p.seat p.seen (m.others ++ event_of p (Step.Enter o) ∷ []) (one_gives m own refl) exact))

-- after more that a pass has seen, in which its seat gave nothing back
goes_on : (on : Bool) (p q : PassState) (more : List Event) → q ≡ record p { seen = p.seen ++ more }
    → GivesNone p.seat more → OwnAreExact on p → OwnAreExact on q
goes_on on p q more is none exact =
    subst (λ (x : PassState). OwnAreExact on x) (sym is) (none_more on p.table.config p.seat p.seen more none exact)

pub stay_exact_behind_turns : StayExactBehindTurns
stay_exact_behind_turns on p o a q own called exact =
    let takes = taking_does p (Some o) called.taken own called.takes in
    let taken = goes_on on p called.taken takes.more takes.is (does_give_none (λ x h. grind arith) takes) exact in
    let acts = called.acts in
    let done =
    goes_on on called.taken called.done acts.more acts.is (doing_gives called.taken called.done acts) taken in
    let g = called.gives in
    let before = none_more on called.done.table.config called.done.seat called.done.seen g.others
    (others_give called.done.seat called.done.seats g.others (own_before g) g.of_others) done in
    let same : called.done ≡ record p { seen = called.done.seen } = only_seen called.taken called.done acts.more acts.is
    ∙ ap (λ (x : PassState). record x { seen = called.done.seen }) takes.is in
    subst (λ (x : PassState). OwnAreExact on x) (sym g.is) (one_more on called.done.table.config called.done.seat
    (called.done.seen ++ g.others) (event_of called.done Step.Give) before (subst
    (λ (x : PassState). EndsExactly on x.table.config x.seat (called.done.seen ++ g.others)) (sym same) called.ends))

pub stay_exact_behind_others : StayExactBehindOthers
stay_exact_behind_others on c s seats es fs has grows exact =
    rw grows.is (none_more on c s es grows.more (others_give s seats grows.more has grows.of_others) exact)
