use Rattle.clap.specs.Words.{found_of}
use Rattle.mk_outputs.proofs.words.Named.read.Goals as goal
use Rattle.mk_outputs.proofs.Getting.{gen_reads, run_reads}

pub returns-in-Run : goal.returns-in-Run
returns-in-Run c given = rw c.in-Run.is (run_reads (found_of c.args.matches.now) given c.run_in.result c.run_in.ensures)

pub returns-in-Gen : goal.returns-in-Gen
returns-in-Gen c given = rw c.in-Gen.is (gen_reads (found_of c.args.matches.now) given c.gen_in.result c.gen_in.ensures)
