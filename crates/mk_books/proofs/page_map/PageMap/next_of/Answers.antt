use Rattle.mk_books.proofs.{Vocabulary.{IsNext, is_member, subst, ◌∙◌}, Uncleaned.next_of_uncleaned}
use Rattle.mk_books.proofs.page_map.PageMap.next_of.Goals as goal
use Rattle.mk_books.proofs.Reading.{next_of_quarantined, next_of_sorted, no_others_there, reads_by}

pub next_page-requires-clause-no_others : goal.next_page-requires-clause-no_others
next_page-requires-clause-no_others c =
    no_others_there c.args.set (reads_by c.self.view_is c.self.invariant c.deref.ensures.value
    (c.len.ensures ∙ c.self.inside.pages.ok.0)) c.requires

pub returns : goal.returns
returns c =
    let reads = reads_by c.self.view_is c.self.invariant c.deref.ensures.value
    (c.len.ensures ∙ c.self.inside.pages.ok.0) in
    let next = c.next_page.result in
    record {
      sorted = λ is_set. next_of_sorted c.args.set c.args.from next reads is_set c.next_page.ensures;
      quarantined = λ is. next_of_quarantined c.args.from next reads
          (subst (λ s. IsNext (is_member c.deref.result.now s) c.args.from c.len.result next) is c.next_page.ensures);
      uncleaned = λ is. next_of_uncleaned c.args.from next reads
          (subst (λ s. IsNext (is_member c.deref.result.now s) c.args.from c.len.result next) is c.next_page.ensures);
    }
