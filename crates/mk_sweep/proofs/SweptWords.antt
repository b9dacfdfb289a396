-- A sweep over lists of words, one after the other.
use Rattle.mk_sweep.proofs.Vocabulary.{MarksMore, SweepsOn, TurnState, Words, points_well, still_words}
use Rattle.mk_sweep.proofs.{SweepSteps.{sweeps_from, sweeps_then, then_quiet}, WordLists.{both_well, none_well}}
use Rattle.mk_sweep.{proofs.WordLists.{one_well}, specs.Sweeps.{IsSweeping, SweepsWords}}
use Rattle.mk_cycle.proofs.Below.Laws.Vocabulary.{List, ℕ, arith, slice_index, subst, true, [], ◌++◌, ◌∷◌, ◌≡◌}
use Rattle.mk_cycle.proofs.MoreMarks.{more_same, more_then}

pub no_words : {pages : ℕ} {t : TurnState} → IsSweeping t.pass → SweepsWords pages t t []
no_words sweeping = grind (arith, sweeps_from, more_same, none_well)

-- where nothing is marked
pub quiet_words : {pages : ℕ} {t u : TurnState} → SweepsOn t u [] → still_words u.pass ≡ still_words t.pass
    → SweepsWords pages t u []
quiet_words on same = grind (arith, more_same, none_well)

pub one_word : {pages : ℕ} {t u v : TurnState} {n value : ℕ} → SweepsOn t u (n ∷ [])
    → still_words u.pass ≡ still_words t.pass → value ≡ slice_index (still_words t.pass).heap n → SweepsOn u v []
    → MarksMore (still_words u.pass) (still_words v.pass) → points_well pages (still_words v.pass) value ≡ true
    → SweepsWords pages t v (n ∷ [])
one_word {pages} {t} {v} {n} {value} looks same found marks more well =
    let grown = subst (λ (w : Words). MarksMore w (still_words v.pass)) same more in
    record {
      on = then_quiet looks marks;
      more = grown;
      well = one_well pages [] n value grown (none_well pages (still_words t.pass)) found well;
    }

pub words_then : {pages : ℕ} {t u v : TurnState} {ns ms : List ℕ} → SweepsWords pages t u ns
    → SweepsWords pages u v ms → SweepsWords pages t v (ns ++ ms)
words_then {pages} {ns} {ms} a b = record {
  on = sweeps_then a.on b.on;
  more = more_then _ _ _ a.more b.more;
  well = both_well pages ns ms b.more a.well b.well;
}

pub same_words : {pages : ℕ} {t u : TurnState} {ns ms : List ℕ} → ns ≡ ms → SweepsWords pages t u ns
    → SweepsWords pages t u ms
same_words {pages} {t} {u} is x = subst (λ (l : List ℕ). SweepsWords pages t u l) is x
