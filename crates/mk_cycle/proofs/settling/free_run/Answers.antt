use Rattle.mk_words.proofs.Below.Laws.Vocabulary.{ℕ, ap, arith, subst, sym, ◌+◌, ◌-◌, ◌<◌, ◌∙◌, ◌≡◌, ◌≤◌}
use Rattle.std.specs.Option.{unwrap_or}
use Rattle.mk_cycle.proofs.{Vocabulary.WordsState, RestOfRuns.{MayFreeRun, bare_to, next_from, next_within}}
use Rattle.mk_cycle.proofs.RestOfRuns.{run_allowed, run_stands, run_stored}
use Rattle.mk_cycle.proofs.settling.free_run.Goals.{After-later_end-last}
use Rattle.mk_cycle.specs.Freeing.{FreesRun}
use Rattle.mk_cycle.proofs.settling.free_run.Goals as goal

pub later_end-last-requires-clause-some : goal.later_end-last-requires-clause-some
later_end-last-requires-clause-some c =
    let same : c.args.pages ≡ c.args.turn.now.pass.table.config.pages =
    c.requires.turn.count ∙ sym (ap (λ (x : WordsState). x.config.pages) c.requires.turn.is_turn.one_table) in
    let next = c.next_quarantined.result in
    let after = subst (λ (n : ℕ). c.args.head + 1 ≤ unwrap_or next n) (sym same) (next_from _ (c.args.head + 1) _ next
    c.next_quarantined.ensures (omega (arith, same, c.requires.within, c.requires.turn.count))) in
    omega (arith, after, c.min-2.ensures, c.min.ensures, c.unwrap_or-next.ensures, c.requires.some)

-- the pages that are freed

ends : (c : After-later_end-last) → c.later_end-last.result ≤ c.args.words.now.config.pages
ends c =
    let next = next_within _ (c.args.head + 1) _ c.next_quarantined.result c.next_quarantined.ensures in
    let same : c.args.pages ≡ c.args.turn.now.pass.table.config.pages =
    c.requires.turn.count ∙ sym (ap (λ (x : WordsState). x.config.pages) c.requires.turn.is_turn.one_table) in
    let within = subst (λ (n : ℕ). unwrap_or c.next_quarantined.result n ≤ n) (sym same) next in
    omega (
      arith,
      within,
      c.requires.turn.count,
      c.later_end-last.ensures.ends,
      c.min-2.ensures,
      c.min.ensures,
      c.unwrap_or-next.ensures,
    )

all_there : (c : After-later_end-last) → c.args.head + (c.later_end-last.result - c.args.head) ≡ c.later_end-last.result
all_there c = omega (arith, c.later_end-last.ensures.begun)

may : (c : After-later_end-last) → MayFreeRun c.args.head (c.args.head + (c.later_end-last.result - c.args.head))
    c.args.turn.now.pass
may c =
    let next = c.next_quarantined.result in
    let same : c.args.pages ≡ c.args.turn.now.pass.table.config.pages =
    c.requires.turn.count ∙ sym (ap (λ (x : WordsState). x.config.pages) c.requires.turn.is_turn.one_table) in
    let all = all_there c in
    record {
      heads = c.requires.heads;
      unused = c.requires.unused;
      none_left = c.requires.none_left;
      later = λ r after lt. c.later_end-last.ensures.later r (omega (arith, after)) (omega (arith, lt, all));
      bare = λ r after lt. bare_to _ (c.args.head + 1) _ next r c.next_quarantined.ensures (omega (arith, after))
          (subst (λ (n : ℕ). r < unwrap_or next n) same (omega (
            arith,
            lt,
            all,
            c.later_end-last.ensures.ends,
            c.min-2.ensures,
            c.min.ensures,
            c.unwrap_or-next.ensures,
          )));
    }

pub free_pages-requires-clause-unmapped : goal.free_pages-requires-clause-unmapped
free_pages-requires-clause-unmapped c =
    run_stands c.args.turn.now.pass c.args.head _
    (may (goal.at.free_pages-requires-clause-unmapped c).After-later_end-last)

pub free_pages-requires-clause-may : goal.free_pages-requires-clause-may
free_pages-requires-clause-may c =
    run_allowed c.args.turn.now.in_order c.requires.turn.is_turn
    (may (goal.at.free_pages-requires-clause-may c).After-later_end-last)
    (omega (
      arith,
      ends (goal.at.free_pages-requires-clause-may c).After-later_end-last,
      c.later_end-last.ensures.begun,
    ))

pub returns-clause-frees : goal.returns-clause-frees
returns-clause-frees c =
    let at = (goal.at.returns-clause-frees c).After-later_end-last in
    subst (λ (n : ℕ). FreesRun c.args.head n c.args.turn.now.pass c.free_pages.new.self.pass) (all_there at)
    (run_stored c.args.turn.now.in_order c.requires.turn.is_turn (may at)
    (omega (arith, ends at, c.later_end-last.ensures.begun)) (omega (arith, c.later_end-last.ensures.begun))
    c.free_pages.ensures)
