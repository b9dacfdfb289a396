use Rattle.mk_why.proofs.Vocabulary.{IsListed, ListsOn, View, base_at, cell_of_allocation, is_kept, placed_at, view_by}
use Rattle.mk_why.proofs.{Vocabulary.world_in, Lists.{kept_page, lists_nothing, lists_then, none_listed, pages_more}}
use Rattle.mk_why.proofs.Looks.{looks_at_nothing, looks_then}
use Rattle.mk_sweep.proofs.Below.Laws.Vocabulary.{ℕ, arith, subst, true, ◌∙◌, ◌≡◌}
use Rattle.mk_why.proofs.listing.list_kept.Goals as goal

pub loop-page-init : goal.loop-page-init
loop-page-init c = grind (arith, looks_at_nothing, lists_nothing, none_listed)

pub list_page-requires-clause-size : goal.list_page-requires-clause-size
list_page-requires-clause-size c = c.loop-page.invariant.on.size ∙ c.requires.size

pub list_page-requires-clause-of_kept : goal.list_page-requires-clause-of_kept
list_page-requires-clause-of_kept c = grind arith

pub loop-page-preserved : goal.loop-page-preserved
loop-page-preserved c =
    let k = c.args.words.now.config in
    let v = view_by c.args.stop.now.pass in
    let x = c.loop-page.invariant in
    let s = c.list_page.new.tables in
    let on : ListsOn k v c.loop-page.tables s = grind arith in
    record {
      looks = looks_then x.looks c.list_page.ensures.looks;
      on = lists_then x.on on;
      listed = pages_more c.loop-page.page on x.listed (subst (λ (y : View). (b : ℕ) → is_kept k (world_in y) b ≡ true
          → (cell_of_allocation k (placed_at y.allocations b)).page ≡ c.loop-page.page
          → IsListed s.kept.items (base_at y b)) x.looks.view c.list_page.ensures.listed);
    }

pub returns-clause-each : goal.returns-clause-each
returns-clause-each c b kept = grind (arith, kept_page)
