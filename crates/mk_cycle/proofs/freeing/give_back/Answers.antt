use Rattle.mk_words.proofs.Below.Laws.Vocabulary.{Step, ℕ, ap, gives_back, has_bit, header_of, quarantine_word, refl}
use Rattle.mk_words.proofs.Below.Laws.Vocabulary.{subst, sym, true, without, words_under, ◌%◌, ◌-◌, ◌/◌, ◌^◌, ◌∙◌, ◌≡◌}
use Rattle.mk_cycle.proofs.Vocabulary.{Acts, AreFreeCells, GivesNothingBack, IsTurnAt, bit_and, drops, now_of}
use Rattle.mk_cycle.proofs.GiveBack.{GivesCells, drops_here, gives_all, gives_here, gone_too, turn_d}
use Rattle.mk_cycle.proofs.GivingSteps.{look_frees, none_then, quar_allowed, used_allowed}
use Rattle.mk_cycle.proofs.SettledPages.{some_free, still_free}
use Rattle.mk_cycle.proofs.freeing.give_back.Goals.{After-look_among-used, After-used, After-wipe_released, After-word}
use Rattle.mk_cycle.proofs.{FreeingSteps.freed_turn, MayAct.calm_admitted, PageSteps.same_used}
use Rattle.mk_cycle.proofs.freeing.give_back.Goals as goal

-- The look gives nothing back, nor does the wiping.

looked : (c : After-look_among-used) → GivesNothingBack c.args.turn.now.pass c.look_among-used.new.turn.pass
looked c = look_frees c.requires.may.turn.is_turn c.look_among-used.ensures.acts

wiped : (c : After-wipe_released) → GivesNothingBack c.args.turn.now.pass c.wipe_released.new.turn.pass
wiped c =
    none_then (look_frees c.requires.may.turn.is_turn c.look_among-used.ensures.acts) c.wipe_released.ensures.frees

given : (c : After-used) → GivesCells c.args.words.now c.args.turn.now.pass c.wipe_released.new.turn.pass
    c.used.new.self.pass c.args.page c.look_among-used.result c.args.gone c.args.quarantine
given c =
    let look = c.look_among-used in
    let first = look_frees c.requires.may.turn.is_turn look.ensures.acts in
    record {
      begun = c.args.turn.now.in_order;
      wiped = none_then first c.wipe_released.ensures.frees;
      turn = c.requires.may.turn.is_turn;
      within = c.requires.may.within;
      is_used =
          look.ensures.reads ∙ same_used c.args.turn.now.pass look.new.turn.pass c.args.page (first.same c.args.page);
      is_gone = c.requires.gone;
      word = c.requires.quarantine;
      gives = subst (λ (n : ℕ). Acts c.wipe_released.new.turn.pass (Step.Used c.args.page n) c.used.new.self.pass)
          c.without.ensures c.used.ensures;
    }

pub wipe_released-requires-clause-turn : goal.wipe_released-requires-clause-turn
wipe_released-requires-clause-turn c = record {
  is_turn = freed_turn (looked (goal.at.wipe_released-requires-clause-turn c).After-look_among-used).frees
      c.requires.may.turn.is_turn;
  count = c.requires.may.turn.count;
}

pub wipe_released-requires-clause-cells : goal.wipe_released-requires-clause-cells
wipe_released-requires-clause-cells c =
    let some : ℕ = bit_and c.look_among-used.result c.args.gone in
    still_free (looked (goal.at.wipe_released-requires-clause-cells c).After-look_among-used).frees
    (subst (λ (n : ℕ). AreFreeCells c.args.turn.now.pass c.args.page n some) (sym c.requires.may.is_header)
    (some_free some c.requires.may.cells (λ k has. subst (λ (n : ℕ). has_bit n k ≡ true) c.requires.gone
    (gone_too c.look_among-used.result c.args.gone k has))))

turn : (c : After-wipe_released) → IsTurnAt 4 c.args.words.now c.wipe_released.new.turn.pass
turn c = freed_turn (wiped c).frees c.requires.may.turn.is_turn

pub used-requires-clause-one_table : goal.used-requires-clause-one_table
used-requires-clause-one_table c = (turn (goal.at.used-requires-clause-one_table c).After-wipe_released).one_table

pub used-requires-clause-enabled : goal.used-requires-clause-enabled
used-requires-clause-enabled c =
    let at = goal.at.used-requires-clause-enabled c in
    let first = looked at.After-look_among-used in
    let p = c.args.turn.now.pass in
    let b = c.wipe_released.new.turn.pass in
    used_allowed c.wipe_released.new.turn.in_order (turn at.After-wipe_released) _ _ c.requires.may.within
    (ap (λ (n : ℕ). gives_back (now_of b).words c.args.page n) c.without.ensures
    ∙ gives_here _ c.look_among-used.result c.args.gone _ (wiped at.After-wipe_released)
    (c.look_among-used.ensures.reads ∙ same_used p c.look_among-used.new.turn.pass _ (first.same _)) c.requires.gone
    (ap (λ (n : ℕ). words_under (header_of n)) c.requires.may.is_header) c.wipe_released.ensures.zeros)

dropped : (c : After-word) → c.word.result ≡ quarantine_word (without (c.args.quarantine % 2 ^ 32) c.args.gone)
    (c.args.quarantine / 2 ^ 32 - c.args.gone)
dropped c = cc (c.word.ensures, c.without-2.ensures, c.of-freed.ensures.freed, c.of-freed.ensures.snapshot)

pub quar-requires-clause-one_table : goal.quar-requires-clause-one_table
quar-requires-clause-one_table c = (turn_d (given (goal.at.quar-requires-clause-one_table c).After-used)).one_table

pub quar-requires-clause-enabled : goal.quar-requires-clause-enabled
quar-requires-clause-enabled c =
    let x = given (goal.at.quar-requires-clause-enabled c).After-used in
    quar_allowed c.used.new.self.in_order (turn_d x) _ _ c.requires.may.within
    (subst (λ (n : ℕ). drops (now_of c.used.new.self.pass).words c.args.page (n % 2 ^ 32) (n / 2 ^ 32) ≡ true)
    (sym (dropped (goal.at.quar-requires-clause-enabled c).After-word)) (drops_here x))

pub quar-requires-clause-admitted : goal.quar-requires-clause-admitted
quar-requires-clause-admitted c =
    calm_admitted c.used.new.self.pass _ c.used.new.self.in_order.history refl
    (turn_d (given (goal.at.quar-requires-clause-admitted c).After-used)).free.decided

pub returns : goal.returns
returns c =
    gives_all (given (goal.at.returns c).After-used) (subst (λ (n : ℕ). Acts c.used.new.self.pass
    (Step.Quar c.args.page n) c.quar.new.self.pass) (dropped (goal.at.returns c).After-word) c.quar.ensures)
