use Rattle.mk_words.proofs.Below.Laws.Vocabulary.{ap, eqb-false, subst, sym, ◌%◌, ◌∙◌}
use Rattle.mk_marker.{proofs.Worked.{finds_no_work, scans_a_cell}, specs.Markers.{FindsNoWork, ScansACell}}
use Rattle.mk_words.specs.States.{PassState, WordsState}
use Rattle.mk_marker.proofs.markers.Marker.work.Goals as goal

pub returns-in-Some-clause-cause : goal.returns-in-Some-clause-cause
returns-in-Some-clause-cause c =
    let a = c.look in
    subst (λ (p : PassState). ScansACell p c.scan_cell.new.pass) c.self.view_is
    (scans_a_cell a.ensures.moves (eqb-false (a.result % 8) 2 (sym c.is_in.ensures ∙ c.if-is_in.false))
    c.in-Some.ensures.some c.scan_cell.ensures.scans c.scan_cell.ensures.black)

pub returns-in-None-clause-cause : goal.returns-in-None-clause-cause
returns-in-None-clause-cause c =
    let a = c.look in
    subst (λ (p : PassState). FindsNoWork p c.find_cell.new.pass) c.self.view_is
    (finds_no_work a.ensures.moves (eqb-false (a.result % 8) 2 (sym c.is_in.ensures ∙ c.if-is_in.false))
    (sym (ap (λ (w : WordsState). w.config.pages) c.self.invariant.one_table)) c.in-None.ensures.none)
