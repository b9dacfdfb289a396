-- The host looks at a word between calls: it is told the word, and leaves all as it is.
use Rattle.mk_trace.proofs.Vocabulary.{Caller, CallerIsHome, Config, Event, Has, HasAll, Host, HostOnlyLooks, HostState}
use Rattle.mk_trace.proofs.Vocabulary.{IsHistory, IsTidy, LeavesAllocations, PassState, PlacedAllocation, Step}
use Rattle.mk_trace.proofs.Vocabulary.{SweepsNothing, TalliesAreTidy, Word, WordsState, World, ends, event_of}
use Rattle.mk_trace.proofs.Vocabulary.{first_world, found, greatest, has_step, held_by_allocations, in_a_word, is_end}
use Rattle.mk_trace.proofs.{Vocabulary.{left, seen_made}, FoundByEnds.{ends-append, no_end-cons, none_end}}
use Rattle.mk_trace.proofs.HeldLooks.{IsApart, Looked, all_lack, behind, exact, first, first_lacks, giving, looked_same}
use Rattle.mk_trace.proofs.HeldLooks.{looking, looks_alone, mine, of_pass, seen_is, taken_same, taken_seen}
use Rattle.mk_trace.proofs.LookedTables.{LeavesTable, is_no_look, looks_leave, looks_measure, word_left}
use Rattle.mk_trace.proofs.{EndsInLists.{changes, leaves_then}, ExactPlays.{caller_is_still, look_stays_exact}}
use Rattle.mk_trace.proofs.{OneCaller.{callers_at_home, same_calls}, OwnPieces.{mine_parts, none_of_others}}
use Rattle.mk_trace.proofs.PeakParts.{from-append, last_below}
use Rattle.mk_heap.proofs.Below.Laws.Vocabulary.{List, ℕ, ap, append-nil, append_assoc, arith, earlier_part_is_history}
use Rattle.mk_heap.proofs.Below.Laws.Vocabulary.{enabled_in_parts, false, left_in_parts, left_more, refl, subst, sym}
use Rattle.mk_heap.proofs.Below.Laws.Vocabulary.{[], ◌++◌}
use Rattle.mk_heap.proofs.Below.Laws.Vocabulary.{◌∙◌, ◌∷◌, ◌≡◌}
use Rattle.mk_heap.proofs.MovedHosts.{taken_own}
use Rattle.mk_heap.specs.Ending.{TellsWord}
use Rattle.mk_trace.specs.Calls.{held_behind, word_behind}

-- With looks alone the most is as it was.
most_looked : (c : Config) (measure : List PlacedAllocation → ℕ) (es more : List Event)
    → has_step is_no_look more ≡ false → greatest c measure (es ++ more) ≡ greatest c measure es
most_looked c measure es more looks = grind (arith, from-append, last_below, looks_measure)

word_found : (r : PassState) (x : Word) (others : List Event) → others ≡ [] → found r.table.config
    (left r.table.config (r.seen ++ others)).now (event_of r (Step.Look x)) ≡ word_behind r.table.config r.seen x
word_found r x others none = cc (append-nil r.seen)

module _ {p q : PassState} {x : Word} {n : ℕ} (l : Looked p x n q) where
  abbrev c : Config
  c = p.table.config

  abbrev h : TellsWord p x n q
  h = l.tells

  abbrev at : List Event
  at = h.taken.seen

  no_look : IsApart is_no_look
  no_look = record { take = λ o. refl; look = λ y. refl; give = refl }

  leaves_table : (es more : List Event) → es ≡ p.seen ++ more → has_step is_no_look more ≡ false
      → LeavesTable (left c p.seen) (left c es)
  leaves_table es more is looks = grind (arith, left_in_parts, looks_leave, looks)

  leaves_taken : LeavesTable (left c p.seen) (left c at)
  leaves_taken = leaves_table at (first l) (taken_seen l) (first_lacks l is_no_look no_look)

  told_taken : n ≡ word_behind c at x
  told_taken =
      h.looks.finds ∙ word_found h.taken x h.looks.makes.others (looks_alone l)
      ∙ ap (λ (r : PassState). word_behind r.table.config at x) (taken_same l)

  -- how much is held
  told_held : x ≡ Word.Held → n ≡ held_by_allocations c (left c p.seen).allocations
  told_held is =
      told_taken ∙ ap (word_behind c at) is ∙ (exact l).held ∙ ap (held_by_allocations c) leaves_taken.allocations

  -- and how many cycles ended

  abbrev look : Event
  look = event_of h.taken (Step.Look x)

  abbrev last : List Event
  last = h.looked.seen ++ h.gives.others

  gives_alone : h.gives.others ≡ []
  gives_alone =
      none_of_others c [] p.seats h.gives.others l.all (mine_parts c [] h.gives.others
      (event_of h.looked Step.Give ∷ []) (mine_parts c [] (looking l) (giving l) (mine l).1).1).0
      (of_pass l h.looked h.gives.others (looked_same l) h.gives.of_others)

  last_is : last ≡ at ++ look ∷ []
  last_is =
      cc (gives_alone, append-nil h.looked.seen, seen_made h.taken h.looked (Step.Look x) h.looks.makes, looks_alone l)

  told_ends : IsTidy c q.seen → x ≡ Word.Cycles → n ≡ in_a_word (ends p.seen)
  told_ends tidy is =
      let tidy_then : TalliesAreTidy c last = grind (arith, last, seen_made, append_assoc) in
      told_taken ∙ ap (word_behind c at) is ∙ sym (ap (λ (w : World). w.now.words.cycles)
      (left_more c (first_world c) at look)) ∙ ap (λ (es : List Event). (left c es).now.words.cycles) (sym last_is)
      ∙ tidy_then.cycles ∙ ap in_a_word (ap ends last_is ∙ (let whole = ends-append at (look ∷ []) in
      let one = no_end-cons look [] refl in
      let taken : ends at ≡ ends (p.seen ++ first l) = ap ends (taken_seen l) in
      let parts = ends-append p.seen (first l) in
      let none = none_end (first l)
      (first_lacks l is_end (record { take = λ o. refl; look = λ y. refl; give = refl })) in
      omega arith))

  -- The host's looks are no calls, and leave the allocations.

  leaves : LeavesAllocations c p.seen q.seen
  leaves =
      subst (LeavesAllocations c p.seen) (sym (seen_is l)) (leaves_then c p.seen (first l ++ behind l)
      ((enabled_in_parts c p.seen (first l ++ behind l)).0 (subst (IsHistory c) (seen_is l) l.history).enabled).1
      (all_lack l changes (record { take = λ o. refl; look = λ y. refl; give = refl })))

  looks : p.seat ≡ Host → Has p.seats (Caller 0) → c.callers ≡ 1 → SweepsNothing p q → HostOnlyLooks c p.seen q.seen
  looks host joined one sweeps = record {
    calls =
        same_calls one (earlier_part_is_history c _ (first l ++ behind l) (subst (IsHistory c) (seen_is l) l.history))
        l.history (caller_is_still l host joined);
    leaves = leaves;
    words = (leaves_table q.seen (first l ++ behind l) (seen_is l) (all_lack l is_no_look no_look)).words;
    most = λ measure. ap (greatest c measure) (seen_is l)
        ∙ most_looked c measure p.seen (first l ++ behind l) (all_lack l is_no_look no_look);
    exact = look_stays_exact l host joined sweeps;
  }

-- All that a look of the host does and says.
pub record Reports (c : Config) (es : List Event) (x : Word) (n : ℕ) (fs : List Event) : Type 0 where
  pub looks : HostOnlyLooks c es fs
  pub tells : n ≡ word_behind c es x
  pub holds : x ≡ Word.Held → n ≡ held_behind c es
  pub counts : IsTidy c fs → x ≡ Word.Cycles → n ≡ in_a_word (ends es)

pub reports : {w : WordsState} {h : HostState} → CallerIsHome w h → {x : Word} {n : ℕ} (k : HostState)
    → CallerIsHome w k → TellsWord h.pass x n k.pass → SweepsNothing h.pass k.pass
    → Reports w.config h.pass.seen x n k.pass.seen
reports {h} home {x} {n} k after tells sweeps =
    let l : Looked h.pass x n k.pass = record {
      tells = tells;
      own = taken_own tells.takes;
      all = subst (λ (y : WordsState). HasAll y.config h.pass.seats) (sym home.table) home.all;
      history = subst (λ (y : WordsState). IsHistory y.config k.pass.seen) (sym home.table) after.history;
    } in
    subst (λ (y : WordsState). Reports y.config h.pass.seen x n k.pass.seen) home.table (record {
      looks = looks l home.seat home.joined (callers_at_home home) sweeps;
      tells = told_taken l ∙ word_left (leaves_taken l) x;
      holds = told_held l;
      counts = told_ends l;
    })
