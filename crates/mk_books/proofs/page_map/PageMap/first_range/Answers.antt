use Rattle.std.specs.Option.{unwrap_or}
use Rattle.mk_books.proofs.Vocabulary.{IsNext, KnownPages, List, Page, Some, ℕ, ap, arith, length, range_start}
use Rattle.mk_books.proofs.Vocabulary.{range_start_from, subst, sym, uses_of_pages, ◌∙◌, ◌≡◌}
use Rattle.mk_books.proofs.FreeRanges.{IsRange, is_free_at, lowest_page_is_range, no_range, past_pages_in_use}
use Rattle.mk_books.proofs.FreeRanges.{range_from, range_is_long, range_is_short}
use Rattle.mk_books.proofs.page_map.PageMap.first_range.Goals as goal
use Rattle.mk_books.proofs.page_map.PageMap.first_range.Goals.{After-unwrap_or-end}

pub returns-then-count-eq1 : goal.returns-then-count-eq1
returns-then-count-eq1 c pages freed shows = grind (arith, lowest_page_is_range)

abbrev held : After-unwrap_or-end → List Page
held c = c.args.self.now.pages

count : (c : After-unwrap_or-end) → c.len-pages.result ≡ length (held c)
count c = c.len-pages.ensures ∙ c.self.inside.pages.ok.0 ∙ ap (λ (k : KnownPages). length k.pages) c.self.view_is

-- the next free page
found : (c : After-unwrap_or-end)
    → IsNext (is_free_at (held c)) c.loop-start.from (length (held c)) (Some c.in-Some.start)
found c = c.in-Some.ensures.sorted (omega arith)

-- the range that begins with it
range : (c : After-unwrap_or-end) → IsRange (held c) c.in-Some.start c.unwrap_or-end.result
range c = subst (λ (end : ℕ). IsRange (held c) c.in-Some.start end)
    (sym (c.unwrap_or-end.ensures ∙ ap (unwrap_or c.next_of-in-Some.result) (count c))) (range_from
    (held c) c.next_of-in-Some.result (found c).1 (found c).2 (c.next_of-in-Some.ensures.sorted (omega arith)))

-- no range before it is one
from_there : (c : After-unwrap_or-end)
    → range_start_from c.in-Some.start c.args.count (held c) ≡ range_start c.args.count (uses_of_pages (held c))
from_there c = grind (arith, found, past_pages_in_use)

pub returns-then-end-start : goal.returns-then-end-start
returns-then-end-start c pages freed shows =
    let x = (goal.at.returns-then-end-start c).After-unwrap_or-end in
    sym (range_is_long c.args.count c.requires (range x) c.if-end-start.true) ∙ from_there x
    ∙ ap (λ ps. range_start c.args.count (uses_of_pages ps)) shows.page_by_page

pub loop-start-preserved : goal.loop-start-preserved
loop-start-preserved c =
    let x = (goal.at.loop-start-preserved c).After-unwrap_or-end in
    record {
      begun = omega (arith, (range x).within, count x);
      rest = sym (range_is_short c.args.count c.requires (range x) c.if-end-start.false) ∙ from_there x;
    }

pub returns : goal.returns
returns c pages freed shows =
    let long : c.len-pages.result ≡ length c.args.self.now.pages = c.len-pages.ensures ∙ c.self.inside.pages.ok.0
    ∙ ap (λ (k : KnownPages). length k.pages) c.self.view_is in
    sym (no_range c.args.count c.args.self.now.pages c.requires (omega (arith, c.loop-start.invariant.begun))
    (c.in_default.ensures.sorted (omega arith)))
    ∙ c.loop-start.invariant.rest ∙ ap (λ ps. range_start c.args.count (uses_of_pages ps)) shows.page_by_page
