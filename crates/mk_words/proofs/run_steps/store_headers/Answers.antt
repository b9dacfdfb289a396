use Rattle.std.proofs.Common.{eq-eqb, ne_eqb}
use Rattle.mk_laws.proofs.Vocabulary.{Bool, Step, ap, arith, cond, subst, suc, sym, ℕ, ◌*◌, ◌+◌, ◌-◌, ◌∙◌, ◌≡◌}
use Rattle.mk_core.specs.Below.Books.KnownPages.{run_word}
use Rattle.mk_words.proofs.run_steps.store_headers.Goals as goal
use Rattle.mk_words.proofs.run_steps.store_headers.Goals.{Joined-distance-eq0, else-distance-eq0, then-distance-eq0}
use Rattle.mk_words.proofs.StoredHeads.{heads_keep_table, heads_keep_turn}
use Rattle.mk_words.specs.{TurnSteps.{StoresHeads, Acts}, Steps.IsEnabledTo}

abbrev word : (c : Joined-distance-eq0) → Bool → ℕ
word c is_head = cond is_head c.args.head (c.args.next + 16 * (c.loop-distance.distance - 1))

header_is : (c : Joined-distance-eq0)
    → c.if-distance-eq0.header ≡ run_word c.args.head c.args.next c.loop-distance.distance
header_is c = elim c.if-distance-eq0.branch [
  | then-distance-eq0 w ↦ w.header-is ∙ sym (ap (word c) (eq-eqb c.loop-distance.distance 0 w.if-distance-eq0.true))
  | else-distance-eq0 w ↦ w.header-is ∙ sym (ap (word c) (ne_eqb c.loop-distance.distance 0 w.if-distance-eq0.false))
]

pub store_header-requires-clause-one_table : goal.store_header-requires-clause-one_table
store_header-requires-clause-one_table c =
    heads_keep_table c.args.pass.now c.args.first c.loop-distance.distance (run_word c.args.head c.args.next)
    c.loop-distance.pass c.loop-distance.invariant.stores ∙ c.requires.one_table

pub store_header-requires-clause-turn : goal.store_header-requires-clause-turn
store_header-requires-clause-turn c =
    heads_keep_turn c.args.pass.now c.args.first c.loop-distance.distance (run_word c.args.head c.args.next)
    c.loop-distance.pass c.loop-distance.invariant.stores c.requires.turn

pub store_header-requires-clause-enabled : goal.store_header-requires-clause-enabled
store_header-requires-clause-enabled c =
    let x = (goal.at.store_header-requires-clause-enabled c).Joined-distance-eq0 in
    subst (λ (v : ℕ). IsEnabledTo c.loop-distance.pass (Step.Head (c.args.first + c.loop-distance.distance) v))
    (sym (header_is x)) (c.requires.may c.loop-distance.distance c.loop-distance.pass (omega (
      arith,
      c.loop-distance-test.true,
    )) c.loop-distance.invariant.stores)

next : (n : ℕ) → suc n ≡ n + 1
next n = omega arith

pub loop-distance-preserved : goal.loop-distance-preserved
loop-distance-preserved c =
    let x = (goal.at.loop-distance-preserved c).Joined-distance-eq0 in
    let stored = subst (λ (v : ℕ). Acts c.loop-distance.pass
    (Step.Head (c.args.first + c.loop-distance.distance) v) c.store_header.new.pass) (header_is x)
    c.store_header.ensures in
    record {
      stores = subst (λ (n : ℕ). StoresHeads c.args.pass.now c.args.first n (run_word c.args.head c.args.next)
          c.store_header.new.pass) (next c.loop-distance.distance)
          (c.loop-distance.pass, c.loop-distance.invariant.stores, stored);
    }
