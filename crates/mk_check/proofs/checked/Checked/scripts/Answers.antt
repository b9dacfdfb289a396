use Rattle.std.proofs.Common.{count_by, rules}
use Rattle.mk_check.proofs.{Vocabulary.{is_script, ◌≡◌}, FaultLemmas.length-script_names}
use Rattle.mk_check.proofs.checked.Checked.scripts.Goals as goal

pub returns : goal.returns
returns c =
    let items = c.items-items.result.now in
    let counted : c.count.result ≡ count_by is_script items = search rules in
    cc (counted, length-script_names items, c.items-items.ensures.items, c.self.view_is)
