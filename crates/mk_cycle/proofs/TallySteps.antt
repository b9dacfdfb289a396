-- Looks and tallies after an `end`.
use Rattle.mk_words.proofs.Below.Laws.Vocabulary.{Config, Steady, Step, Tally, Word, Words, World, ℕ, ap, arith}
use Rattle.mk_words.proofs.Below.Laws.Vocabulary.{in_a_word, refl, subst, tally_word, world_behind, ◌+◌, ◌-◌, ◌∙◌, ◌≡◌}
use Rattle.mk_cycle.proofs.Vocabulary.{Acts, IsFreeForCycle, PassState, does_step, does_then, event_of, now_of}
use Rattle.mk_cycle.proofs.{Vocabulary.{sets_tallies, steady_of, world_at, world_of}, CleaningSteps.calm_keeps}
use Rattle.mk_cycle.proofs.{KeptInParts.{gates_behind, gates_then, keeps_then}, Allowed.in_turn_before}
use Rattle.mk_core.specs.Words.{named_word}
use Rattle.mk_cycle.specs.{FinishCycle.{Sets, with_cycle_counted, with_tally}, TurnKeeps.unchanged}

pub sets_then : {f g : Steady → Steady} {p q r : PassState} → Sets f p q → Sets g q r → Sets (λ s. g (f s)) p r
sets_then {g} {p} {q} {r} a b =
    let none : Steady → Steady = λ s. steady_of (world_of p) in
    let k = keeps_then none p q r (record { call = a.call; steady = refl; counts = a.counts })
    (record { call = b.call; steady = refl; counts = b.counts }) in
    record {
      does = does_then sets_tallies p q r a.does b.does;
      call = k.call;
      steady = b.steady ∙ ap g a.steady;
      counts = k.counts;
      gates = gates_then p q r a.call.pass a.gates b.gates;
    }

tally_behind : (c : Config) (w : World) (p : PassState) (n : Tally) (v : ℕ)
    → steady_of (world_behind c w (event_of p (Step.Tally n v))) ≡ with_tally n v (steady_of w)
tally_behind c w p x3 v = grind arith

tally_gates : (c : Config) (w : World) (p : PassState) (n : Tally) (v : ℕ)
    → (world_behind c w (event_of p (Step.Tally n v))).now.words.gates ≡ w.now.words.gates
tally_gates c w p x3 v = grind arith

nothing_seen : Steady → Steady → Steady
nothing_seen t s = t

module _ {p q : PassState} (free : IsFreeForCycle p) where
  pub look_sets : {x : Word} → Acts p (Step.Look x) q → Sets unchanged p q
  look_sets {x} a =
      let k = calm_keeps p (Step.Look x) q a (in_turn_before a) a.makes.pass.history refl free unchanged refl in
      record {
        does = does_step sets_tallies p q (Step.Look x) a.makes refl;
        call = k.call;
        steady = k.steady;
        counts = k.counts;
        gates = gates_behind p (Step.Look x) q a refl;
      }

  pub tally_sets : {n : Tally} {v : ℕ} → Acts p (Step.Tally n v) q → Sets (with_tally n v) p q
  unfolding nothing_seen
  tally_sets {n} {v} a =
      let k = calm_keeps p (Step.Tally n v) q a (in_turn_before a) a.makes.pass.history refl free
      (nothing_seen (steady_of (world_of p))) refl in
      record {
        does = does_step sets_tallies p q (Step.Tally n v) a.makes refl;
        call = k.call;
        steady = cc (a.world, tally_behind p.table.config (world_at a.makes) p n v, a.turn.steady);
        counts = k.counts;
        gates = gates_behind p (Step.Tally n v) q a (tally_gates p.table.config (world_at a.makes) p n v);
      }

-- What a tally's word is goes by what only the holder changes.
pub same_tally : (p q : PassState) (n : Tally) → steady_of (world_of q) ≡ steady_of (world_of p)
    → named_word (now_of q).words (tally_word n) ≡ named_word (now_of p).words (tally_word n)
same_tally p q x2 same = grind arith

-- a tally that is set by what it is found to be
pub set_by : {p a q : PassState} (n : Tally) (x : Word) (becomes : ℕ → ℕ) (found to : ℕ) → x ≡ tally_word n
    → Sets unchanged p a → found ≡ named_word (now_of a).words x → to ≡ becomes found → Sets (with_tally n to) a q
    → Sets (with_tally n (becomes (named_word (now_of p).words x))) p q
set_by {p} {a} {q} n x becomes found to is looks finds sum sets =
    let same : named_word (now_of a).words x ≡ named_word (now_of p).words x = cc (is, same_tally p a n looks.steady) in
    subst (λ (v : ℕ). Sets (with_tally n v) p q) (sum ∙ ap becomes (finds ∙ same)) (sets_then looks sets)

-- the three tallies, one after the other

with_three : ℕ → ℕ → ℕ → Steady → Steady
with_three held cycles released s = record s { held = held; cycles = cycles; released = released }

pub cycle_counted : {p a b q : PassState} (fewer released : ℕ)
    → Sets (with_tally Tally.Held ((now_of p).words.held - fewer)) p a
    → Sets (with_tally Tally.Cycles (in_a_word ((now_of a).words.cycles + 1))) a b
    → Sets (with_tally Tally.Released (in_a_word ((now_of b).words.released + released))) b q
    → Sets (with_cycle_counted (now_of p).words fewer released) p q
unfolding with_three
cycle_counted {p} {a} {b} {q} fewer released held cycles more =
    let v : Words = (now_of p).words in
    let h : ℕ = v.held - fewer in
    let c : ℕ = in_a_word ((now_of a).words.cycles + 1) in
    let r : ℕ = in_a_word ((now_of b).words.released + released) in
    let both = sets_then held cycles in
    let all : Sets (with_three h c r) p q = sets_then both more in
    subst (λ (n : ℕ). Sets (with_three h (in_a_word (n + 1)) (in_a_word (v.released + released))) p q)
    (ap (λ (s : Steady). s.cycles) held.steady) (subst (λ (n : ℕ). Sets (with_three h c (in_a_word (n + released))) p q)
    (ap (λ (s : Steady). s.released) cycles.steady ∙ ap (λ (s : Steady). s.released) held.steady) all)
