use Rattle.mk_laws.proofs.Vocabulary.{Config, MarkerState, ap, marker_behind, marker_may, subst, sym, true, ◌∙◌, ◌≡◌}
use Rattle.mk_words.proofs.Markers.{marks, own_met}
use Rattle.mk_words.specs.{Steps.{Marks, IsEnabledTo}, States.{PassState, WordsState}}
use Rattle.mk_words.proofs.marker_passes.MarkerPass.perform_marking.Goals as goal

pub marker_behind-self-inside-requires-clause-own : goal.marker_behind-self-inside-requires-clause-own
marker_behind-self-inside-requires-clause-own c =
    let p = c.self.inside in
    let same = ap (λ (r : PassState). r.table.config) c.self.view_is
    ∙ ap (λ (w : WordsState). w.config) (c.requires.one_table ∙ sym c.words.view_is) in
    let met = own_met p.own c.args.step
    (subst (λ (r : PassState). IsEnabledTo r c.args.step) (sym c.self.view_is) c.requires.may.may.enabled) in
    subst (λ (d : Config). marker_may d p.marker c.args.step ≡ true) same
    (subst (λ (x : MarkerState). marker_may p.own.table.config x c.args.step ≡ true) (sym c.self.invariant) met)

pub invariant_of-self : goal.invariant_of-self
invariant_of-self c =
    let p = c.self.inside in
    let f = c.perform-found in
    let same = ap (λ (r : PassState). r.table.config) c.self.view_is
    ∙ ap (λ (w : WordsState). w.config) (c.requires.one_table ∙ sym c.words.view_is) in
    let m = marks p.own c.args.step f.result f.new.self f.ensures.told c.requires.kind in
    c.marker_behind-self-inside.ensures ∙ ap (λ (d : Config). marker_behind d f.result c.args.step p.marker) (sym same)
    ∙ ap (λ (x : MarkerState). marker_behind p.own.table.config f.result c.args.step x) c.self.invariant ∙ sym m.marker

pub returns : goal.returns
returns c =
    let p = c.self.inside in
    let f = c.perform-found in
    subst (λ (r : PassState). Marks r c.args.step f.result f.new.self) c.self.view_is
    (marks p.own c.args.step f.result f.new.self f.ensures.told c.requires.kind)
