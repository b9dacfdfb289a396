use Rattle.mk_words.proofs.Below.Laws.Vocabulary.{Words, ℕ, ap, arith, cases_lt, sym, ◌+◌, ◌<◌, ◌∙◌, ◌≡◌, ◌≤◌}
use Rattle.mk_cycle.proofs.{StopSteps.{looks_from, looks_then}, FirstBits.no_gray_there, FreePages.none_past}
use Rattle.mk_cycle.proofs.grays.gray_between.Goals as goal
use Rattle.mk_cycle.proofs.grays.gray_between.Goals.{else-grays-ne0, then-grays-ne0+in_default-found}
use Rattle.mk_cycle.specs.{Grays.{HasNoGray, gray_bits}, Stops.still_words}

-- where the pages before one have no gray cell, and it has none, those up to the next have none
none_on : (w v : Words) (from page : ℕ) → v ≡ w → ((p : ℕ) → from ≤ p → p < page → HasNoGray w p) → HasNoGray v page
    → (p : ℕ) → from ≤ p → p < page + 1 → HasNoGray w p
none_on w v from page same before here p low high = grind (arith, cases_lt)

pub loop-page-init : goal.loop-page-init
loop-page-init c = record { looks = looks_from c.requires.may.wanted; none = λ p low high. absurd (omega arith) }

pub returns-then-page-to-clause-none : goal.returns-then-page-to-clause-none
returns-then-page-to-clause-none c p low high =
    none_past _ _ c.args.from c.loop-page.next c.in-Some.page c.loop-page.invariant.looks.words
    c.loop-page.invariant.none c.in-Some.ensures.3 p low (omega (arith, high, c.if-page-to.true))

pub gray_among-found-requires-clause-grays : goal.gray_among-found-requires-clause-grays
gray_among-found-requires-clause-grays c =
    let bits = c.gray_bits-grays.ensures in
    bits.bits ∙ sym (ap (λ (w : Words). gray_bits w c.in-Some.page) bits.looks.words)

pub returns-in-Some-found-clause-looks : goal.returns-in-Some-found-clause-looks
returns-in-Some-found-clause-looks c =
    looks_then (looks_then c.loop-page.invariant.looks c.gray_bits-grays.ensures.looks) c.gray_among-found.ensures.looks

pub loop-page-preserved : goal.loop-page-preserved
loop-page-preserved c =
    let i = c.loop-page.invariant in
    let bits = c.gray_bits-grays.ensures in
    let seen = looks_then i.looks bits.looks in
    let before = none_past _ _ c.args.from c.loop-page.next c.in-Some.page i.looks.words i.none c.in-Some.ensures.3 in
    elim c.if-grays-ne0.branch [
      | then-grays-ne0+in_default-found w ↦
          record {
            looks = rw w.stop-is (looks_then seen w.gray_among-found.ensures.looks);
            none = none_on _ _ c.args.from c.in-Some.page seen.words before w.in_default-found.ensures.none;
          }
      | else-grays-ne0 w ↦
          record {
            looks = rw w.stop-is seen;
            none = none_on _ _ c.args.from c.in-Some.page i.looks.words before
                (no_gray_there (still_words c.loop-page.stop.pass) c.in-Some.page
                (sym bits.bits ∙ w.if-grays-ne0.false));
          }
    ]
