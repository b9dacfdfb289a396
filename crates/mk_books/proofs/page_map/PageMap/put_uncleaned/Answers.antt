use Rattle.mk_books.proofs.Vocabulary.{arith, length, refl, ◌<◌, ◌≡◌}
use Rattle.mk_books.proofs.Uncleaned.{PutsInto, others_kept, still_fits, still_shows, this_uncleaned}
use Rattle.mk_books.proofs.page_map.PageMap.put_uncleaned.Goals as goal
use Rattle.mk_books.proofs.{Showing.{sets_written, written_in}, Storing.page_within}
use Rattle.mk_books.proofs.page_map.PageMap.put_uncleaned.Goals.{After-put}

within : (c : After-put) → c.args.page < length c.self.inside.pages.items
within c = page_within c.args.self.now c.self.inside.pages.items c.self.inside.sets.items c.args.page c.self.view_is
    c.requires

puts : (c : After-put) → PutsInto c.self.inside.pages.items c.self.inside.sets.items c.deref_mut.result.now
    c.put.new.sets c.self.inside.resident 19 c.args.page c.args.inside
puts c = record {
  fit = c.self.invariant;
  within = within c;
  is_slice = c.deref_mut.ensures.value;
  puts = c.put.ensures;
}

same_sets : (c : After-put)
    → written_in c.put.new.sets c.self.inside.sets.items c.self.inside.sets.len ≡ c.put.new.sets
same_sets c = sets_written c.put.new.sets c.self.inside.sets.ok.0 (c.self.invariant.are_sets (omega (arith, within c)))
    c.put.ensures.are_sets

pub invariant_of-self : goal.invariant_of-self
invariant_of-self c =
    let x = (goal.at.invariant_of-self c).After-put in
    still_fits _ (omega arith) (puts x) (same_sets x)

pub returns-clause-shows : goal.returns-clause-shows
returns-clause-shows c pages freed shows =
    let x = (goal.at.returns-clause-shows c).After-put in
    still_shows _ (puts x) (same_sets x) c.self.view_is shows

pub returns-clause-this : goal.returns-clause-this
returns-clause-this c =
    let x = (goal.at.returns-clause-this c).After-put in
    this_uncleaned c.self.inside.pages.items c.put.new.sets _ c.args.page c.args.inside (within x) (same_sets x)
    c.put.ensures.this

pub returns-clause-others : goal.returns-clause-others
returns-clause-others c number differ =
    let x = (goal.at.returns-clause-others c).After-put in
    others_kept c.args.self.now c.self.inside.pages.items c.self.inside.pages.items c.self.inside.sets.items _ number
    c.self.view_is c.deref_mut.ensures.value (same_sets x) refl c.self.invariant.few c.put.ensures.other_pages differ
