-- What an engine did up to a `close`, from wider parts of a turn.
use Rattle.mk_words.proofs.Below.Laws.Vocabulary.{Bool, Config, Event, List, Step, World, ℕ, ap, append-nil}
use Rattle.mk_words.proofs.Below.Laws.Vocabulary.{append_assoc, false, refl, sym, [], ◌++◌, ◌∙◌, ◌≡◌}
use Rattle.mk_words.specs.Steps.{Does}
use Rattle.mk_cycle.proofs.Vocabulary.{HoldsGates, PassState, does_sweep, holds_gates, sweeps_then}
use Rattle.mk_cycle.proofs.HoldingSteps.{holds_nothing, holds_then}
use Rattle.mk_cycle.proofs.{Sweepless.marks_nothing, Told.{told_earlier, told_later}}
use Rattle.mk_cycle.specs.{Stops.{ClosesAsPromised, IsClosedBy}, FinishCycle.MakesRelease}

module _ (closes : PassState → PassState → Type 0) where
  -- in the stop itself
  pub closed_in_stop : (p q : PassState) (m : MakesRelease p q) → closes p m.closing → IsClosedBy closes p q
  closed_in_stop p q m part = record {
    held = p;
    released = q;
    holds = holds_nothing p;
    makes = m;
    part = part;
    rest = [];
    is = sym (append-nil q.seen);
  }

  -- when gates were held before it
  pub closed_when_held : {o p q : PassState} → HoldsGates o p → IsClosedBy closes p q → IsClosedBy closes o q
  closed_when_held {o} {p} holds k = record {
    held = k.held;
    released = k.released;
    holds = holds_then holds k.holds;
    makes = k.makes;
    part = k.part;
    rest = k.rest;
    is = k.is;
  }

  -- when more was seen after it
  pub closed_later : {p q : PassState} (r : PassState) (more : List Event) → r.seen ≡ q.seen ++ more
      → IsClosedBy closes p q → IsClosedBy closes p r
  closed_later r more is k = record {
    held = k.held;
    released = k.released;
    holds = k.holds;
    makes = k.makes;
    part = k.part;
    rest = k.rest ++ more;
    is = is ∙ ap (λ (es : List Event). es ++ more) k.is ∙ append_assoc k.released.seen k.rest more;
  }

-- All that an engine promises, from wider parts of a turn.
module _ {sweeps : Bool} {tells : Config → World → Type 0} {closes : PassState → PassState → Type 0} where
  pub promised_when_held : {o p q : PassState} → HoldsGates o p → ClosesAsPromised sweeps tells closes p q
      → ClosesAsPromised sweeps tells closes o q
  promised_when_held {o} {p} {q} holds k = record {
    reached = λ none. sweeps_then o p q holds.keeps.call.pass
        (does_sweep holds_gates o p (marks_nothing holds_gates (λ page v. refl)) holds.does) (k.reached none);
    told = told_earlier o holds.does.more holds.does.is k.told;
    closed = closed_when_held closes holds k.closed;
  }

  -- when steps came after it that mark nothing
  pub promised_later : {kinds : Step → Bool} → ((page v : ℕ) → kinds (Step.Mark page v) ≡ false) → {p q r : PassState}
      → q ≡ record p { seen = q.seen } → Does kinds q r → ClosesAsPromised sweeps tells closes p q
      → ClosesAsPromised sweeps tells closes p r
  promised_later {kinds} marks {p} {q} {r} same d k = record {
    reached = λ none. sweeps_then p q r same (k.reached none) (does_sweep kinds q r (marks_nothing kinds marks) d);
    told = told_later r d.more (ap (λ (x : PassState). x.seen) d.is) k.told;
    closed = closed_later closes r d.more (ap (λ (x : PassState). x.seen) d.is) k.closed;
  }
