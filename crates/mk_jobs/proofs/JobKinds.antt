-- Points of different kinds of jobs: a job stays with the points of its own, and ends at one.
use Rattle.mk_heap.proofs.Below.Laws.Vocabulary.{List, Op, ap, inl, inr, subst, sym, [], ◌∙◌, ◌∷◌, ◌≡◌}
use Rattle.mk_never.specs.declared.operations.Reply.{Reply}
use Rattle.mk_heap.specs.Below.Words.States.{PassState}
use Rattle.mk_jobs.specs.{Jobs.{Asks, Leads, Replied}, Passes.GoesToEnd, Typing.Plan, declared.steps.Step.{Step}}

module _ {Job Done Point Kind : Type 0} (p : Plan Job Done Point) (kind : Point → Kind)
    (stays : (s t : Point) (o : Op) (r : Reply) → Asks p.with_number (p.step s) o r t → kind t ≡ kind s) where
  goes_on : (s : Point) (all : List Replied) (t : Point) → Leads p s all t → kind t ≡ kind s
  goes_on s [] t e = ap kind (sym e)
  goes_on s (x ∷ xs) t (inl on) = goes_on on.0 xs t on.2 ∙ stays s on.0 x.op x.reply on.1
  goes_on s (x ∷ xs) t (inr clear) = goes_on s xs t clear.2

  -- What holds of the ends of its kind holds of it.
  pub ends_as_its_kind : (Fits : Kind → Done → Type 0)
      → ((s : Point) (d : Done) → p.step s ≡ Step.End d → Fits (kind s) d) → {q q' : PassState} (j : Job) (d : Done)
      → GoesToEnd p q (p.starting j) q' d → Fits (kind (p.starting j)) d
  ends_as_its_kind Fits ends j d does =
      subst (λ (x : Kind). Fits x d) (goes_on (p.starting j) does.goes.all does.last does.goes.leads)
      (ends does.last d does.ended)
