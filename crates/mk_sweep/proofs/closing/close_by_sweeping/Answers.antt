use Rattle.mk_sweep.proofs.Vocabulary.{CellsAreClosed, PageIsBlack, PointWell, TurnState, WordsState, still_words}
use Rattle.mk_sweep.proofs.{Vocabulary.words_below, SweptMarks.{SweepsInStop, closes, sweeping_behind, sweeps, told}}
use Rattle.mk_sweep.proofs.{Kept.ready_of, closing.close_by_sweeping.Goals.After-sweep_in_stop}
use Rattle.mk_cycle.proofs.Below.Laws.Vocabulary.{ℕ, ap, arith, length, slice_index, subst, sym, ◌<◌, ◌∙◌, ◌≡◌}
use Rattle.mk_sweep.proofs.closing.close_by_sweeping.Goals as goal

pub want_and_wait-requires-clause-ready : goal.want_and_wait-requires-clause-ready
want_and_wait-requires-clause-ready g c = ready_of c.args.stop.now.in_order c.requires.free

pub sweep_in_stop-requires-clause-sweeping : goal.sweep_in_stop-requires-clause-sweeping
sweep_in_stop-requires-clause-sweeping g c =
    sweeping_behind c.want_and_wait.ensures.traces c.want_and_wait.ensures.wanted c.requires.free c.requires.marking

-- What is known by the table of the words, by that of the passes.

well_on : (words : WordsState) (t u : TurnState) → t.pass.table ≡ words → u.pass.table ≡ words
    → PointWell words.config.pages (still_words u.pass) (words_below (still_words t.pass) words.config.pages)
    → PointWell u.pass.table.config.pages (still_words u.pass)
    (words_below (still_words t.pass) t.pass.table.config.pages)
well_on words t u before behind well =
    subst (λ (x : WordsState). PointWell u.pass.table.config.pages (still_words u.pass)
    (words_below (still_words t.pass) x.config.pages)) (sym before) (subst (λ (x : WordsState). PointWell x.config.pages
    (still_words u.pass) (words_below (still_words t.pass) words.config.pages)) (sym behind) well)

-- the sweep, in the stop
in_stop : (g : _) (c : After-sweep_in_stop g)
    → SweepsInStop c.args.stop.now.pass c.want_and_wait.new.stop c.sweep_in_stop.new.stop
in_stop g c =
    let words : WordsState = c.args.words.now in
    let t = c.want_and_wait.new.stop in
    let sweep = c.sweep_in_stop in
    let before : t.pass.table ≡ words = c.want_and_wait.ensures.table ∙ c.requires.one_table in
    let behind : sweep.new.stop.pass.table ≡ words = sweep.ensures.on.table ∙ before in
    record {
      wants = c.want_and_wait.ensures.wants;
      waited = c.want_and_wait.ensures.traces;
      sweeping = sweeping_behind c.want_and_wait.ensures.traces c.want_and_wait.ensures.wanted c.requires.free
          c.requires.marking;
      on = grind arith;
      closed = subst (λ (x : WordsState). CellsAreClosed x.config (still_words sweep.new.stop.pass)) (sym behind)
          sweep.ensures.closed;
      well = well_on words t sweep.new.stop before behind sweep.ensures.well;
    }

pub returns-clause-law : goal.returns-clause-law
returns-clause-law g c =
    let u = c.sweep_in_stop.new.stop in
    let behind : u.pass.table ≡ c.args.words.now =
    c.sweep_in_stop.ensures.on.table ∙ c.want_and_wait.ensures.table ∙ c.requires.one_table in
    closes (in_stop g (goal.at.returns-clause-law g c).After-sweep_in_stop)
    (subst (λ (x : WordsState). (pg : ℕ) → pg < x.config.pages → PageIsBlack (still_words u.pass) pg) (sym behind)
    c.sweep_in_stop.ensures.black)
    (subst (λ (x : WordsState). (pg : ℕ) → pg < x.config.pages → slice_index (still_words u.pass).dirty pg ≡ 0)
    (sym behind) c.sweep_in_stop.ensures.clean)

pub returns-clause-told : goal.returns-clause-told
returns-clause-told g c = told (in_stop g (goal.at.returns-clause-told g c).After-sweep_in_stop)

pub returns-clause-sweeps : goal.returns-clause-sweeps
returns-clause-sweeps g c =
    let t = c.want_and_wait.new.stop in
    sweeps (in_stop g (goal.at.returns-clause-sweeps g c).After-sweep_in_stop) c.sweep_in_stop.result
    (c.sweep_in_stop.ensures.looks ∙ sym (ap (λ (x : WordsState). length
    (words_below (still_words t.pass) x.config.pages)) (c.want_and_wait.ensures.table ∙ c.requires.one_table)))
