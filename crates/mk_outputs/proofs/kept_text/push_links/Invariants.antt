use Rattle.mk_run.proofs.Below.Laws.Vocabulary.{drop, ◌++◌, ◌≡◌}
use Rattle.mk_outputs.specs.RunOutputs.{links_text}
use Rattle.mk_outputs.proofs.kept_text.push_links.Given as goal

-- the lines so far, and those of the words that are left
abbrev pub invariant-loop-link : goal.invariant-loop-link
invariant-loop-link l = l.text.items ++ links_text (drop l.link-index l.links)
    ≡ l.initial.text.items ++ links_text l.links
