use Rattle.std.specs.List.{flat_map}
use Rattle.mk_run.proofs.Below.Laws.Vocabulary.{take, ◌≡◌}
use Rattle.mk_outputs.proofs.texts.joined.Given as goal

-- the texts so far
abbrev pub invariant-loop-text : goal.invariant-loop-text
invariant-loop-text l = l.bytes.items ≡ flat_map (λ text. text.bytes.items) (take l.text-index l.texts)
