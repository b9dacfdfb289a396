use Rattle.mk_check.proofs.Vocabulary.{Built, List, Node, ℕ, ap, length, subst, sym, [], ◌++◌, ◌<◌, ◌∙◌, ◌∷◌, ◌≡◌}
use Rattle.mk_check.proofs.{feeding.building.Builder.finish.Goals.{in-None, in-Some}, Builds.popped}
use Rattle.mk_check.proofs.feeding.building.Builder.finish.Goals as goal

pub returns-clause-within : goal.returns-clause-within
returns-clause-within c =
    let b = c.args.self in
    let below : (j : ℕ) → j < length b.nodes → j < length c.self.inside.tree =
    λ j h. subst (λ (ns : List Node). j < length ns) (sym (ap (λ (x : Built). x.nodes) c.self.view_is)) h in
    elim c.match-pop.branch [
      | in-Some w ↦
          let was : b.parts ≡ c.pop.new.self.items ++ w.in-Some.part ∷ [] =
          sym (ap (λ (x : Built). x.parts) c.self.view_is) ∙ w.in-Some.ensures.items in
          let p = popped w.in-Some.part c.pop.new.self.items c.requires was in
          below c.match-pop.first (subst (λ (j : ℕ). j < length b.nodes) (sym w.first-is) p.1)
      | in-None w ↦ below c.match-pop.first (subst (λ (j : ℕ). j < length b.nodes) (sym w.first-is) c.requires.some)
    ]
