-- What is said of the world in which marks are closed, from wider parts of a turn.
use Rattle.mk_words.proofs.Below.Laws.Vocabulary.{Config, Event, IsHistory, List, Step, World, ap, append_assoc, arith}
use Rattle.mk_words.proofs.Below.Laws.Vocabulary.{[], ◌++◌, ◌≡◌}
use Rattle.mk_cycle.{proofs.Vocabulary.{Has, Makes, PassState, made}, specs.Stops.{IsToldAtClose, IsToldOf}}

-- at the step that closes them
pub told_closing : (tells : Config → World → Type 0) {p q : PassState} → Has p.seats p.seat → Makes p Step.Close q
    → IsHistory q.table.config q.seen → IsToldOf tells p → IsToldAtClose tells p q
told_closing tells {p = p} {q = q} has makes history told = record {
  before = makes.others;
  behind = [];
  is = ap (λ (x : PassState). x.seen) makes.is;
  told = told makes.others makes.of_others (made p Step.Close q makes).history;
}

-- when more was seen after it
pub told_later : {tells : Config → World → Type 0} {p q : PassState} (r : PassState) (more : List Event)
    → r.seen ≡ q.seen ++ more → IsToldAtClose tells p q → IsToldAtClose tells p r
told_later r more is t = grind (arith, append_assoc)

pub told_earlier : {tells : Config → World → Type 0} (o : PassState) {p : PassState} (more : List Event) {q : PassState}
    → p ≡ record o { seen = o.seen ++ more } → IsToldAtClose tells p q → IsToldAtClose tells o q
told_earlier o more is t = grind (arith, append_assoc)
