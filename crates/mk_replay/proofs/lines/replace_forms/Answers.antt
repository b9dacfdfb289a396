use Rattle.mk_replay.proofs.{Vocabulary.{Ok, form_of, texts_of}, FormsInTurn.{goes_on, single}}
use Rattle.mk_laws.proofs.Vocabulary.{ap, sym, ◌∙◌}
use Rattle.mk_replay.specs.Schedules.{forms_so_far, with_form}
use Rattle.mk_replay.proofs.lines.replace_forms.Goals as goal

pub loop-piece-init : goal.loop-piece-init
loop-piece-init c =
    single c.args.first ∙ ap (λ none. with_form (Ok none) c.args.first) (sym c.clear.ensures.items)
    ∙ sym c.in_ok-fault.ensures

pub loop-piece-preserved : goal.loop-piece-preserved
loop-piece-preserved c =
    let before = forms_so_far c.loop-piece.fault c.loop-piece.forms.items in
    goes_on c.args.first c.args.others.now c.loop-piece.piece-index _ before
    (forms_so_far c.in_ok-fault-2.fault c.add_form-in-loop-piece.new.forms.items) c.loop-piece-test.true
    c.loop-piece.invariant (c.in_ok-fault-2.ensures ∙ ap (with_form before) (c.form.ensures
    ∙ ap form_of (ap texts_of c.deref.ensures.value ∙ c.in_ok-replace_words.ensures)))
