use Rattle.mk_script.proofs.Vocabulary.{rules}
use Rattle.mk_script.proofs.parsing.parse.Goals as goal

pub from_items-requires : goal.from_items-requires
from_items-requires c = (c.args.bytes.now, search rules)
