use Rattle.std.proofs.Common.{rules}
use Rattle.mk_core.proofs.{Vocabulary.{words_are_zero, ◌*◌, ◌+◌, ◌∙◌}, Wiped.run_wiped}
use Rattle.mk_core.proofs.table.Table.is_run_wiped.Goals as goal

pub returns : goal.returns
returns c = c.all_below.ensures (λ page. words_are_zero c.args.self.now (64 * (c.args.run.page + page)) 64)
    (λ page answer lt told. search rules) ∙ run_wiped c.args.self.now c.args.run.page c.args.run.count
