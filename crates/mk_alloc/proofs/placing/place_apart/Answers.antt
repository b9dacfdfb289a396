use Rattle.mk_caller.proofs.Below.Laws.Vocabulary.{arith, histories_keep_lengths, place_on_pages, ◌∙◌, ◌≡◌}
use Rattle.mk_caller.proofs.Below.Words.Sweeping.{nothing_sweeps}
use Rattle.mk_alloc.proofs.{ObjectVocabulary.{PassState, now_of, object_for}, PlacedNews.{fit_found, fit_within}}
use Rattle.mk_alloc.proofs.{PlacedNews.{place_found, placed_there}, JoinedLooks.{goes_to, looks_nothing}}
use Rattle.mk_alloc.proofs.placing.place_apart.Goals as goal
use Rattle.mk_alloc.proofs.placing.place_apart.Goals.{After-seek}

-- the place that was sought is where it fits
fit : (c : After-seek) → place_on_pages c.args.turn.now.pass.table.config.resident
    (now_of c.args.turn.now.pass).words.pages (object_for c.args.turn.now.pass) ≡ c.seek.result
fit c = grind (arith, fit_found)

pub page-page-requires : goal.page-page-requires
page-page-requires c =
    let x = goal.at.page-page-requires c in
    let p : PassState = c.args.turn.now.pass in
    let within = fit_within c.in-Some.place c.args.turn.now.in_order c.requires.unplaced
    (fit x.After-seek ∙ c.in-Some.is) in
    omega (arith, within, (histories_keep_lengths p.table.config p.seen).pages)

pub serve_now-requires : goal.serve_now-requires
serve_now-requires c = grind (arith, goes_to, fit)

pub returns-in-None-clause-nowhere : goal.returns-in-None-clause-nowhere
returns-in-None-clause-nowhere c =
    let x = goal.at.returns-in-None-clause-nowhere c in
    let p : PassState = c.args.turn.now.pass in
    λ h. record {
      nowhere = place_found c.args.turn.now.in_order c.requires.unplaced (fit x.After-seek ∙ c.in-None.is);
      looks = looks_nothing p;
    }

pub returns-in-None-clause-reached : goal.returns-in-None-clause-reached
returns-in-None-clause-reached c = nothing_sweeps c.args.turn.now.pass

pub returns-in-Some-clause-placed : goal.returns-in-Some-clause-placed
returns-in-Some-clause-placed c =
    let x = goal.at.returns-in-Some-clause-placed c in
    λ h. placed_there c.args.turn.now.in_order c.requires.unplaced (fit x.After-seek ∙ c.in-Some.is) c.serve_now.ensures
