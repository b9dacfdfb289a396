-- The pieces that are written are the lines, each with its newline.
use Rattle.mk_outputs.proofs.text.push_script.Goals as goal
use Rattle.mk_outputs.proofs.Vocabulary.{append_assoc, codes, decimal}

pub returns : goal.returns
returns c = rw (append_assoc (decimal c.args.place) (codes " n")) c.in_ok-write.ensures.bytes
