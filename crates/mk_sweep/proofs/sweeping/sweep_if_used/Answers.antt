use Rattle.std.proofs.lemmas.List.FromFn.{length-range_with_len}
use Rattle.mk_sweep.{proofs.{Vocabulary.words_if, SweptWords.no_words}, specs.Sweeps.{SweepsWords}}
use Rattle.mk_cycle.proofs.Below.Laws.Vocabulary.{Bool, ap, length, subst, sym}
use Rattle.mk_sweep.proofs.sweeping.sweep_if_used.Goals as goal

pub returns-then-not-used-clause-sweeps : goal.returns-then-not-used-clause-sweeps
returns-then-not-used-clause-sweeps c =
    subst (λ (b : Bool). SweepsWords c.args.words.now.config.pages c.args.stop.now c.args.stop.now
    (words_if b c.args.first c.args.size)) (sym c.if-not-used.true) (no_words c.requires.sweeping)

pub returns-then-not-used-clause-looks : goal.returns-then-not-used-clause-looks
returns-then-not-used-clause-looks c =
    sym (ap (λ (b : Bool). length (words_if b c.args.first c.args.size)) c.if-not-used.true)

pub returns-clause-sweeps : goal.returns-clause-sweeps
returns-clause-sweeps c =
    subst (λ (b : Bool). SweepsWords c.args.words.now.config.pages c.args.stop.now c.sweep_words.new.stop
    (words_if b c.args.first c.args.size)) (sym c.if-not-used.false) c.sweep_words.ensures.sweeps

pub returns-clause-looks : goal.returns-clause-looks
returns-clause-looks c = cc (c.if-not-used.false, length-range_with_len c.args.first c.args.size)
