use Rattle.mk_why.proofs.{Vocabulary.Root, MadeEntries.{IsLedBack, led_first, led_more, led_to_root}}
use Rattle.mk_sweep.proofs.Below.Laws.Vocabulary.{List, Option, ℕ, subst, sym, ◌∙◌}
use Rattle.mk_why.specs.Searching.{IsLed, root_of}
use Rattle.mk_why.proofs.entries.chain.Goals as goal

pub loop-link-init : goal.loop-link-init
loop-link-init c = record {
  led = λ k v b ways apart way.
      subst (λ (ls : List ℕ). IsLedBack k v c.args.tables.now.found.items c.args.found ls b c.args.found.links)
      (sym c.new-links.ensures.items) (led_first k v c.args.tables.now.found.items c.args.found b way);
}

pub loop-link-preserved : goal.loop-link-preserved
loop-link-preserved c = record {
  led = λ k v b ways apart way. subst (λ (ls : List ℕ). IsLedBack k v c.args.tables.now.found.items c.in-Some.before ls
      b c.args.found.links) (sym c.in_ok-append.ensures) (led_more k v c.args.tables.now.found.items ways apart
      (c.loop-link.invariant.led k v b ways apart way) c.in-Some.link c.in-Some.before
      (sym c.step_back.ensures.exact ∙ c.in-Some.is));
}

pub returns : goal.returns
returns c k v b ways apart way =
    subst (λ (o : Option Root). IsLed k v b c.args.found.links o c.reverse.new.self.items) (sym c.root_of.ensures)
    (subst (IsLed k v b c.args.found.links (root_of c.loop-link.current.way)) (sym c.reverse.ensures.items)
    (led_to_root k v c.args.tables.now.found.items ways apart (c.loop-link.invariant.led k v b ways apart way)
    (sym c.step_back.ensures.exact ∙ c.in_default.is)))
