use Rattle.mk_laws.proofs.Vocabulary.{sym, ◌∙◌}
use Rattle.mk_words.proofs.TurnSteps.{hold_finds, hold_holds, hold_misses}
use Rattle.mk_words.proofs.stop_steps.Turn.try_hold.Goals as goal

pub returns-then-found-eq0-clause-found : goal.returns-then-found-eq0-clause-found
returns-then-found-eq0-clause-found c =
    let f = c.perform-found in
    record { makes = f.ensures.told.makes; finds = sym c.if-found-eq0.true ∙ f.ensures.told.tells }

pub returns-then-found-eq0-clause-held : goal.returns-then-found-eq0-clause-held
returns-then-found-eq0-clause-held c =
    let f = c.perform-found in
    hold_holds c.args.self.now.pass c.args.caller f.result f.new.self.pass f.ensures.told c.if-found-eq0.true

pub returns-else-found-eq0-clause-in_call : goal.returns-else-found-eq0-clause-in_call
returns-else-found-eq0-clause-in_call c =
    let f = c.perform-found in
    record {
      makes = f.ensures.told.makes;
      finds = sym (hold_finds _ c.args.caller f.result _ f.ensures.told c.if-found-eq0.false) ∙ f.ensures.told.tells;
    }

pub returns-else-found-eq0-clause-not_held : goal.returns-else-found-eq0-clause-not_held
returns-else-found-eq0-clause-not_held c =
    let f = c.perform-found in
    hold_misses c.args.self.now.pass c.args.caller f.result f.new.self.pass f.ensures.told c.if-found-eq0.false
