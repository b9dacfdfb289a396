use Rattle.std.specs.List.{range_with_len}
use Rattle.mk_sweep.proofs.{Vocabulary.world_of, SweptWords.{no_words, one_word, same_words, words_then}}
use Rattle.mk_sweep.{proofs.{SweepSteps.word_alike, WordLists.word_more}, specs.Sweeps.{SweepsWords}}
use Rattle.mk_cycle.proofs.Below.Laws.Vocabulary.{ℕ, arith, subst, sym, ◌+◌, ◌≡◌}
use Rattle.mk_sweep.proofs.sweeping.sweep_words.Goals as goal

pub loop-i-init : goal.loop-i-init
loop-i-init c = no_words c.requires.sweeping

pub look_at_word-value-requires-clause-scanned : goal.look_at_word-value-requires-clause-scanned
look_at_word-value-requires-clause-scanned c =
    word_alike c.args.words.now.config (world_of c.args.stop.now.pass) (world_of c.loop-i.stop.pass) (sym
    c.loop-i.invariant.on.traces.untouched) (c.args.first + c.loop-i.i) (c.requires.scanned c.loop-i.i (omega arith))

pub loop-i-preserved : goal.loop-i-preserved
loop-i-preserved c =
    let look = c.look_at_word-value.ensures in
    let mark = c.mark_value.ensures in
    same_words (word_more c.args.first c.loop-i.i)
    (words_then c.loop-i.invariant (one_word look.on look.words look.found mark.on mark.more mark.well))

pub returns : goal.returns
returns c =
    let end = c.loop-i-test.false in
    let at : c.loop-i.i ≡ c.args.size = omega arith in
    record {
      sweeps = subst (λ (k : ℕ). SweepsWords c.args.words.now.config.pages c.args.stop.now c.loop-i.stop
          (range_with_len c.args.first k)) at c.loop-i.invariant;
    }
