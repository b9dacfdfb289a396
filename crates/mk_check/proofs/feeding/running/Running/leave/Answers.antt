use Rattle.mk_check.proofs.Vocabulary.{Frame, Some, arith, innermost, refl, sym, ◌-◌, ◌∙◌, ◌≡◌}
use Rattle.mk_check.proofs.AsksFirst.{branch_left, none_open, repeat_left, round_left}
use Rattle.mk_check.proofs.feeding.running.Running.leave.Goals as goal

pub returns-in-Some-Rounds-clause-left : goal.returns-in-Some-Rounds-clause-left
returns-in-Some-Rounds-clause-left c =
    let l = c.in-Some-Rounds in
    let p = c.args.self.now in
    let last : innermost p.frames ≡ Some (Frame.Rounds l.rounds l.body l.next) = cc in
    λ t. round_left p c.go_round.new.self l.rounds (l.rounds - 1) l.body l.next last c.if-rounds-gt0.true refl
    c.go_round.ensures

pub returns-in-Some-Rounds-2-clause-left : goal.returns-in-Some-Rounds-2-clause-left
returns-in-Some-Rounds-2-clause-left c =
    let l = c.in-Some-Rounds in
    let p = c.args.self.now in
    let next = l.next in
    let last : innermost p.frames ≡ Some (Frame.Rounds l.rounds l.body next) = cc in
    λ t. repeat_left p c.close.new.self l.rounds l.body next last (omega arith) c.close.ensures

pub returns-in-Some-Branch-clause-left : goal.returns-in-Some-Branch-clause-left
returns-in-Some-Branch-clause-left c =
    let p = c.args.self.now in
    let next = c.in-Some-Branch.next in
    let last : innermost p.frames ≡ Some (Frame.Branch next) = cc in
    λ t. branch_left p c.close-in-Some-Branch.new.self next last c.close-in-Some-Branch.ensures

pub returns-in-None-clause-none : goal.returns-in-None-clause-none
returns-in-None-clause-none c = λ f. (none_open c.args.self.now.frames (sym c.innermost.ensures ∙ c.in-None.is), refl)
