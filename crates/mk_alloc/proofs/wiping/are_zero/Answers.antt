use Rattle.std.proofs.lemmas.Nat.{le_or_l, le_or_r}
use Rattle.mk_caller.proofs.Below.Laws.Vocabulary.{ℕ, arith, eqb-true, subst, ◌*◌, ◌+◌, ◌≡◌}
use Rattle.mk_alloc.proofs.{ObjectVocabulary.{PassState, WipesTo}, WipedRuns.{found_wiped, look_may, looks_then}}
use Rattle.mk_alloc.proofs.wiping.are_zero.Goals as goal
use Rattle.mk_alloc.proofs.WipedRuns.{wiped_from}

pub loop-i-init : goal.loop-i-init
loop-i-init c =
    let p : PassState = c.args.turn.now.pass in
    let none = wiped_from p c.requires.from.wiped in
    let start : 8 * c.args.group ≡ 8 * c.args.group + 0 = omega arith in
    record { still = none; zero = λ zero. subst (λ n. WipesTo p c.args.run n p) start none }

pub look_on_page-all-requires-clause-enabled : goal.look_on_page-all-requires-clause-enabled
look_on_page-all-requires-clause-enabled c = grind (arith, look_may)

pub look_on_page-all-requires-clause-page : goal.look_on_page-all-requires-clause-page
look_on_page-all-requires-clause-page c = omega (arith, c.requires.first, c.requires.last, c.loop-i-test.true)

pub loop-i-preserved : goal.loop-i-preserved
loop-i-preserved c =
    let p : PassState = c.args.turn.now.pass in
    let i = c.loop-i.invariant in
    let word : ℕ = 8 * c.args.group + c.loop-i.i in
    let next : word + 1 ≡ 8 * c.args.group + (c.loop-i.i + 1) = omega arith in
    let q : PassState = c.look_on_page-all.new.self.pass in
    let found : ℕ = c.look_on_page-all.result in
    let seen : (n : ℕ) → WipesTo p c.args.run n c.loop-i.turn.pass → WipesTo p c.args.run n q =
    λ n reached. looks_then c.args.turn.now.in_order c.requires.from.may word reached
    (omega (arith, c.requires.within, c.requires.last, c.loop-i-test.true)) c.look_on_page-all.ensures.acts in
    record {
      still = seen (8 * c.args.group) i.still;
      zero = λ none.
          let before : c.loop-i.all ≡ 0 =
          let most = le_or_l c.loop-i.all found in omega (arith, most, none) in
          let here : found ≡ 0 = let most = le_or_r c.loop-i.all found in omega (arith, most, none) in
          subst (λ n. WipesTo p c.args.run n q) next (found_wiped c.args.turn.now.in_order c.requires.from.may
          (seen word (i.zero before)) c.look_on_page-all.ensures.finds here);
    }

pub returns-clause-zero : goal.returns-clause-zero
returns-clause-zero c is = grind (arith, eqb-true)
