use Rattle.mk_outputs.proofs.PrintedTexts.{texts_are_printed}
use Rattle.mk_outputs.proofs.replays.run.Goals as goal

pub returns-clause-printed : goal.returns-clause-printed
returns-clause-printed c =
    let printed = texts_are_printed _ _ c.in_ok-texts.texts.items c.in_ok-texts.ensures.texts in
    cc (c.in_ok-joined.ensures, c.deref.ensures.value, printed, c.in_ok-checked.ensures.program)
