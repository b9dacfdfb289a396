-- What is kept in parts is kept.
use Rattle.mk_words.proofs.Below.Laws.Vocabulary.{Config, Steady, Step, World, ℕ, ap, arith, cases_eq, eq-eqb, inl, inr}
use Rattle.mk_words.proofs.Below.Laws.Vocabulary.{is_held, ne_eqb, refl, slice_index, subst, sym, world_behind, ◌<◌}
use Rattle.mk_words.proofs.Below.Laws.Vocabulary.{◌==◌, ◌∙◌, ◌≡◌, ◌≢◌, Holding}
use Rattle.mk_cycle.proofs.Vocabulary.{Acts, IsFreeForCycle, KeepsCall, KeepsGates, LeavesTurn, PassState, event_of}
use Rattle.mk_cycle.proofs.Vocabulary.{world_at}

pub calls_then : {p q r : PassState} → KeepsCall p q → KeepsCall q r → KeepsCall p r
calls_then a b = grind arith

pub same_config : (p q : PassState) → q ≡ record p { seen = q.seen } → q.table.config ≡ p.table.config
same_config p q is = ap (λ (x : PassState). x.table.config) is

pub keeps_at_once : (view : Steady → Steady) (p : PassState) → LeavesTurn view p p
keeps_at_once view p = record {
  call = record { pass = refl; call = refl; done = refl; gone = λ g. g };
  steady = refl;
  counts = record { ends = refl; fulls = refl };
}

pub keeps_then : (view : Steady → Steady) (p q r : PassState) → LeavesTurn view p q → LeavesTurn view q r
    → LeavesTurn view p r
keeps_then view p q r a b = record {
  call = calls_then a.call b.call;
  steady = b.steady ∙ a.steady;
  counts = record {
    ends = b.counts.ends ∙ a.counts.ends;
    fulls = cc (same_config p q a.call.pass, b.counts.fulls, a.counts.fulls);
  };
}

-- Less is seen by another view of the view.
pub keeps_less : (view more : Steady → Steady) (p q : PassState) → LeavesTurn view p q
    → LeavesTurn (λ s. more (view s)) p q
keeps_less view more p q a = record { call = a.call; steady = ap more a.steady; counts = a.counts }

pub gates_then : (p q r : PassState) → q ≡ record p { seen = q.seen } → KeepsGates p q → KeepsGates q r → KeepsGates p r
gates_then p q r is a b j lt = b j (subst (λ (c : Config). j < c.callers) (sym (same_config p q is)) lt) ∙ a j lt

pub held_so : (a b : ℕ) → (a ≡ 2 → b ≡ 2) → (a ≢ 2 → b ≢ 2) → (b == 2) ≡ (a == 2)
held_so a b held free = elim (cases_eq a 2) [
  | inl e ↦ eq-eqb b 2 (held e) ∙ sym (eq-eqb a 2 e)
  | inr ne ↦ ne_eqb b 2 (free ne) ∙ sym (ne_eqb a 2 ne)
]

-- A step that changes no gate: others neither hold one nor open one that is held.
pub gates_behind : (p : PassState) (s : Step) (q : PassState) (a : Acts p s q) → (world_behind p.table.config
    (world_at a.makes) (event_of p s)).now.words.gates ≡ (world_at a.makes).now.words.gates → KeepsGates p q
gates_behind p s q a same j lt =
    ap (λ (w : World). is_held w.now.words j) a.world ∙ ap (λ gs. slice_index gs j == 2) same
    ∙ held_so _ _ (a.turn.held_gates j) (a.turn.other_gates j)

pub free_then : (p q : PassState) → KeepsCall p q → IsFreeForCycle p → IsFreeForCycle q
free_then p q k free = grind (arith, Holding)
