-- The stop and the giving back, joined.
use Rattle.mk_words.proofs.Below.Laws.Vocabulary.{Config, Steady, ℕ, all_below-at, ap, arith, is_held, not, not-true}
use Rattle.mk_words.proofs.Below.Laws.Vocabulary.{subst, true, ◌<◌, ◌∙◌, ◌≡◌}
use Rattle.mk_words.specs.Steps.{Does}
use Rattle.mk_cycle.proofs.Vocabulary.{Frees, GivesNothingBack, HasReleased, HoldsFewer, HoldsGates, IsAtPhase}
use Rattle.mk_cycle.proofs.Vocabulary.{IsSettledPage, PassState, Released, held_below, now_of, released_below}
use Rattle.mk_core.specs.Moments.{none_is_held}
use Rattle.mk_cycle.proofs.CountedPages.{held_alike_below, told_alike_below}
use Rattle.mk_cycle.proofs.{BeginSteps.all_from, FreeingSteps.{freed_phase, frees_then}}
use Rattle.mk_cycle.proofs.{HeldReleased.held_alike, ReleasedCounts.{told_from, told_to}}
use Rattle.mk_cycle.specs.{Freeing.GivesAllBack, FinishCycle.ReleasesUnmarked}
use Rattle.mk_words.specs.Steps.{is_open}

pub held_phase : (p q : PassState) (n : ℕ) → HoldsGates p q → IsAtPhase p n → IsAtPhase q n
held_phase p q n k at = ap (λ (s : Steady). s.phase) k.keeps.steady ∙ at

none_held_then : (callers : ℕ) {p q : PassState} → Frees p q → none_is_held callers (now_of p).words ≡ true
    → none_is_held callers (now_of q).words ≡ true
none_held_then callers {p = p} {q = q} k h =
    all_from callers (λ j. not (is_held (now_of q).words j)) (λ j lt. ap not (k.gates j
    (not-true (is_held (now_of p).words j) (all_below-at callers j (λ i. not (is_held (now_of p).words i)) h lt))))

pub gives_all_back : {p h r o q : PassState} → HoldsGates p h → ReleasesUnmarked h r → Does is_open r o
    → GivesNothingBack r o → Frees o q
    → none_is_held r.table.config.callers (now_of o).words ≡ true
    → ((page : ℕ) → page < p.table.config.pages → IsSettledPage q page) → GivesAllBack p q
gives_all_back {p} {h} {r} {o} {q} holds releases only opens frees none settled =
    let same : r.table.config ≡ p.table.config = grind arith in
    let all : Frees r q = frees_then opens.frees frees in
    let none_held = subst (λ (c : Config). none_is_held c.callers (now_of o).words ≡ true) same none in
    record {
      held = h;
      released = r;
      holds = holds;
      releases = releases;
      opened = o;
      opens = only;
      none_held = none_held;
      gives = frees.does;
      frees = all;
      phase = freed_phase all (ap (λ (s : Steady). s.phase) releases.steady);
      gates = none_held_then p.table.config.callers frees
          none_held;
      settled = settled;
    }

-- What is counted after the gates' opening is what was released up to there, and still is after the giving back.
pub all_told : {p h r o q : PassState} (n : ℕ) (counted : Released) → HoldsGates p h → GivesNothingBack r o → Frees o q
    → HasReleased h r (released_below (now_of r).words n) → counted ≡ released_below (now_of o).words n
    → HasReleased p q counted
all_told n counted holds opens frees told is = grind (arith, told_alike_below, told_to, frees_then, told_from)

pub all_held : {p h r o q : PassState} (n held : ℕ) → HoldsGates p h → GivesNothingBack r o → Frees o q
    → HoldsFewer h r (held_below (now_of r).words n) → held ≡ held_below (now_of o).words n → HoldsFewer p q held
all_held n held holds opens frees told is = grind (arith, frees_then, held_alike, held_alike_below)
