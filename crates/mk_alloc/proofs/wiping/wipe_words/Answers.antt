use Rattle.mk_caller.proofs.Below.Laws.Vocabulary.{ℕ, arith, subst, ◌*◌, ◌+◌, ◌<◌, ◌≡◌}
use Rattle.mk_alloc.proofs.ObjectVocabulary.{PassState, WipesTo}
use Rattle.mk_alloc.proofs.WipedRuns.{found_wiped, look_may, looks_then, wipe_may, wiped_from, wipes_on}
use Rattle.mk_alloc.proofs.wiping.wipe_words.Goals.{else-found-ne0, then-found-ne0}
use Rattle.mk_alloc.proofs.wiping.wipe_words.Goals as goal

pub loop-i-init : goal.loop-i-init
loop-i-init c =
    let p : PassState = c.args.turn.now.pass in
    let start : 8 * c.args.group ≡ 8 * c.args.group + 0 = omega arith in
    record { wiped = subst (λ n. WipesTo p c.args.run n p) start (wiped_from p c.requires.from.wiped) }

pub look_on_page-found-requires-clause-enabled : goal.look_on_page-found-requires-clause-enabled
look_on_page-found-requires-clause-enabled c = grind (arith, look_may)

pub look_on_page-found-requires-clause-page : goal.look_on_page-found-requires-clause-page
look_on_page-found-requires-clause-page c = omega (arith, c.requires.first, c.requires.last, c.loop-i-test.true)

pub wipe-requires-clause-enabled : goal.wipe-requires-clause-enabled
wipe-requires-clause-enabled c =
    let n : ℕ = 8 * c.args.group + c.loop-i.i in
    let near : n < 64 * c.args.run.count = omega (arith, c.requires.within, c.requires.last, c.loop-i-test.true) in
    wipe_may c.args.turn.now.in_order c.requires.from.may (looks_then c.args.turn.now.in_order c.requires.from.may
    n c.loop-i.invariant.wiped near c.look_on_page-found.ensures.acts) near

pub loop-i-preserved : goal.loop-i-preserved
loop-i-preserved c =
    let p : PassState = c.args.turn.now.pass in
    let i = c.loop-i.invariant in
    let n : ℕ = 8 * c.args.group + c.loop-i.i in
    let next : n + 1 ≡ 8 * c.args.group + (c.loop-i.i + 1) = omega arith in
    let near : n < 64 * c.args.run.count = omega (arith, c.requires.within, c.requires.last, c.loop-i-test.true) in
    let turn = c.args.turn.now.in_order in
    let may = c.requires.from.may in
    let seen = looks_then turn may n i.wiped near c.look_on_page-found.ensures.acts in
    elim c.if-found-ne0.branch [
      | then-found-ne0 w ↦
          record {
            wiped = rw w.turn-is (subst (λ n. WipesTo p c.args.run n w.wipe.new.self.pass) next
                (wipes_on turn may seen near w.wipe.ensures));
          }
      | else-found-ne0 w ↦
          record {
            wiped = rw w.turn-is (subst (λ n. WipesTo p c.args.run n c.look_on_page-found.new.self.pass) next
                (found_wiped turn may seen c.look_on_page-found.ensures.finds w.if-found-ne0.false));
          }
    ]

pub returns : goal.returns
returns c = grind arith
