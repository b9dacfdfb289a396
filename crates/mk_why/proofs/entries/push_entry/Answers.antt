use Rattle.mk_why.{proofs.{LazyTables.read_with, Vocabulary.{Found, Storage, entry_at}}, specs.Searching.{IsMadeOf}}
use Rattle.mk_sweep.proofs.Below.Laws.Vocabulary.{Option, subst, sym, ◌≡◌}
use Rattle.mk_why.proofs.entries.push_entry.Goals as goal

pub returns-clause-more : goal.returns-clause-more
returns-clause-more c s is =
    let found = c.args.tables.now.found.items in
    let kept = c.args.tables.now.kept.items in
    let r = c.args.tables.now in
    let read : entry_at kept c.args.base ≡ c.get.result =
    read_with kept c.args.base r.none_kept c.get.ensures in
    let way = read_with found c.args.base r.none_found c.get-2.ensures in
    let same : s ≡ c.in-Some.storage = cc in
    record {
      entry = c.in_ok-kept.kept;
      is = c.in_ok-append.ensures;
      made = subst (λ (x : Storage). IsMadeOf found x (entry_at found c.args.base) c.in_ok-kept.kept) (sym same) (subst
          (λ (o : Option Found). IsMadeOf found c.in-Some.storage o c.in_ok-kept.kept) (sym way)
          c.in_ok-kept.ensures);
    }
