use Rattle.mk_laws.proofs.Vocabulary.{refl, sym, ◌∙◌}
use Rattle.mk_words.{proofs.MapSteps.{map_cleaned, map_that, page_known, same_turn}, specs.States.{now_of}}
use Rattle.mk_words.proofs.turns.TurnAt.cleaned.Goals as goal

pub cleaned-requires : goal.cleaned-requires
cleaned-requires g c =
    page_known c.self.inside.pass c.args.page _ (rw (sym c.self.view_is) at c.requires.within)
    (map_that c.deref_mut.ensures.value c.self.invariant).shows

pub invariant_of-self : goal.invariant_of-self
invariant_of-self g c =
    let t = c.self.inside in
    let held = map_that c.deref_mut.ensures.value c.self.invariant in
    record {
      shows = map_cleaned (now_of t.pass).words _ c.deref_mut.result.now c.cleaned.new.self c.cleaned.ensures.shows
          c.cleaned.ensures.others (rw (sym c.self.view_is) at c.requires.none) held.shows;
      gates = held.gates;
    }

pub returns : goal.returns
returns g c = record { same = same_turn _ c.self.inside.in_order refl ∙ c.self.view_is }
