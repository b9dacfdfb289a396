use Rattle.mk_words.proofs.Below.Laws.Vocabulary.{Words, arith, histories_keep_lengths, subst, sym, ◌∙◌, ◌≡◌}
use Rattle.mk_cycle.proofs.{Blackened.{colours_same, colours_then, one_fewer_white}, Notes.{none_last, noted_as}}
use Rattle.mk_cycle.proofs.tracing.trace.Goals as goal
use Rattle.mk_cycle.proofs.StopSteps.{on_from, on_then}
use Rattle.mk_cycle.specs.{Grays.ColoursMore, Stops.still_words}

pub loop-gray-init : goal.loop-gray-init
loop-gray-init c = record {
  on = on_from c.requires.may.wanted;
  more = colours_same _;
  noted = noted_as (sym (none_last c.args.work.now)) c.requires.noted;
}

pub loop-gray-smaller : goal.loop-gray-smaller
loop-gray-smaller c =
    let p = c.loop-gray.stop.pass in
    let sized : c.args.table.pages ≡ p.table.config.pages = grind arith in
    one_fewer_white c.in-Some.ensures.gray.gray (sized ∙ sym
    (histories_keep_lengths p.table.config p.seen).blacks) c.next_gray.ensures.looks.words c.blacken-last.ensures.one

pub loop-gray-preserved : goal.loop-gray-preserved
loop-gray-preserved c =
    let w = still_words c.args.stop.now.pass in
    let looks = c.next_gray.ensures.looks in
    let black = c.blacken-last.ensures in
    record {
      on = on_then (on_then c.loop-gray.invariant.on looks.on) black.on;
      more = colours_then w
          (subst (λ (y : Words). ColoursMore w y) (sym looks.words) c.loop-gray.invariant.more) black.one;
      noted = black.noted c.in-Some.ensures.noted;
    }

pub returns-clause-on : goal.returns-clause-on
returns-clause-on c = on_then c.loop-gray.invariant.on c.next_gray.ensures.looks.on
