use Rattle.mk_script.proofs.RoundTrip.{program_of-canonical_text}
use Rattle.mk_script.proofs.laws.canonical_texts_are_read_back.Goals as goal

pub returns : goal.returns
returns c = program_of-canonical_text
