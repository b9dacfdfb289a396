-- Lists of jobs that callers did are the jobs of a history.
use Rattle.std.proofs.lemmas.List.{length-replicate}
use Rattle.mk_jobs.proofs.RunVocabulary.{AreAdmitted, AreBelow, AreJobRuns, Call, Config, Dones, Event, HaveDone}
use Rattle.mk_jobs.proofs.RunVocabulary.{IsHistory, JobRun, Jobs, NeverState, Null, Plan, Replied, after_op, all_of}
use Rattle.mk_jobs.proofs.RunVocabulary.{asked, calls, never_first, own_replied, replied_in, reply_of}
use Rattle.mk_heap.proofs.Below.Laws.Vocabulary.{Bool, Kind, List, ℕ, ap, arith, false, if◌then◌else◌, length, ne_eqb}
use Rattle.mk_heap.proofs.Below.Laws.Vocabulary.{refl, suc}
use Rattle.mk_heap.proofs.Below.Laws.Vocabulary.{true, zero, [], ◌*◌, ◌++◌, ◌+◌, ◌<◌, ◌==◌, ◌∙◌, ◌∷◌, ◌≡◌, ◌≤◌, sym}
use Rattle.mk_never.{proofs.Later.{op_stays}, specs.NeverHeap.{start_of}}
use Rattle.mk_jobs.specs.{Jobs.{IsFounding, jobs_of_first}, Runs.{AreJobsOf, AreRunsOf}}

-- Admitted calls are of callers that exist.
are_below : (globals : List ℕ) (n : NeverState) (callers : ℕ) (xs : List Call) → length n.registers ≡ 8 * callers
    → AreAdmitted globals n xs → AreBelow callers xs
are_below globals n callers [] count admitted = tt
are_below globals n callers (x ∷ xs) count admitted =
    let there : 8 * x.caller + 7 < length n.registers = admitted.0.of_a_caller in (
      omega (arith, count, there),
      are_below globals (after_op n x.caller x.op) callers xs ((op_stays n x.caller x.op).registers ∙ count) admitted.1,
    )

pub callers_are_below : {c : Config} {es : List Event} → IsHistory c es → AreBelow c.callers (asked (calls c es))
callers_are_below {c} {es} h =
    are_below c.globals (never_first c) c.callers (asked (calls c es)) (length-replicate (8 * c.callers) Null)
    h.admitted

-- A caller that isn't there asks for nothing.
unasked_beyond : (k callers : ℕ) (n : NeverState) (xs : List Call) → AreBelow callers xs → callers ≤ k
    → own_replied k n xs ≡ []
unasked_beyond k callers n [] below le = refl
unasked_beyond k callers n (x ∷ xs) below le =
    by (x.caller == k) (ne_eqb x.caller k (λ e. (let lt = below.0 in omega arith)))
    (record { op = x.op; reply = reply_of n x.caller x.op })
    (own_replied k (after_op n x.caller x.op) xs) (unasked_beyond k callers (after_op n x.caller x.op) xs below.1 le)
  where
    by : (b : Bool) → b ≡ false → (r : Replied) (rest : List Replied) → rest ≡ [] → (if b then r ∷ rest else rest) ≡ []
    by true is r rest none = cc
    by false is r rest none = none

module _ {Job Done Point : Type 0} (p : Plan Job Done Point) (c : Config) (es : List Event) where
  -- the runs of the callers, counted from the first of the lists
  runs_at : (first : List Replied) (k : ℕ) (lists : List (Jobs Job)) (all : List (Dones Done))
      → HaveDone p c es first k lists all → ℕ → List (JobRun Job Done)
  runs_at first k (x ∷ xs) (d ∷ ds) h zero = h.0.runs
  runs_at first k (x ∷ xs) (d ∷ ds) h (suc i) = runs_at [] (k + 1) xs ds h.1 i
  runs_at first k _ _ h i = []

  are_runs_at : (first : List Replied) (k : ℕ) (lists : List (Jobs Job)) (all : List (Dones Done))
      (h : HaveDone p c es first k lists all) (i : ℕ) → AreJobRuns p (runs_at first k lists all h i)
  unfolding runs_at
  are_runs_at first k (x ∷ xs) (d ∷ ds) h zero = h.0.are_runs
  are_runs_at first k (x ∷ xs) (d ∷ ds) h (suc i) = are_runs_at [] (k + 1) xs ds h.1 i
  are_runs_at first k _ _ h i = tt

  same_at : (first : List Replied) (k : ℕ) (lists : List (Jobs Job)) (all : List (Dones Done))
      (h : HaveDone p c es first k lists all) → AreRunsOf lists all (runs_at first k lists all h)
  unfolding runs_at
  same_at first k [] [] h i jobs dones at at' = grind arith
  same_at first k (x ∷ xs) (d ∷ ds) h zero jobs dones at at' = grind arith
  same_at first k (x ∷ xs) (d ∷ ds) h (suc i) jobs dones at at' = same_at [] (k + 1) xs ds h.1 i jobs dones at at'
  same_at first k _ _ h i jobs dones at at' = absurd h

  as_many : (first : List Replied) (k : ℕ) (lists : List (Jobs Job)) (all : List (Dones Done))
      → HaveDone p c es first k lists all → length all ≡ length lists
  as_many first k [] [] h = refl
  as_many first k (x ∷ xs) (d ∷ ds) h = ap suc (as_many [] (k + 1) xs ds h.1)
  as_many first k _ _ h = absurd h

  -- After the last list no caller asks for anything.
  own_at : (below : AreBelow c.callers (asked (calls c es))) (first : List Replied) (k : ℕ) (lists : List (Jobs Job))
      (all : List (Dones Done)) (h : HaveDone p c es first k lists all) → (length lists ≡ 0 → first ≡ [])
      → k + length lists ≡ c.callers → (i : ℕ)
      → replied_in c (k + i) es ≡ jobs_of_first i first ++ all_of (runs_at first k lists all h i)
  unfolding runs_at
  own_at below first k [] [] h none count zero =
      cc (unasked_beyond (k + 0) c.callers (never_first c) (asked (calls c es)) below (omega arith), none refl)
  own_at below first k [] [] h none count (suc i) =
      unasked_beyond (k + suc i) c.callers (never_first c) (asked (calls c es)) below (omega arith)
  own_at below first k [] (d ∷ ds) h none count i = absurd h
  own_at below first k (x ∷ xs) [] h none count i = absurd h
  own_at below first k (x ∷ xs) (d ∷ ds) h none count zero = ap (λ (j : ℕ). replied_in c j es) (omega arith)
      ∙ h.0.all_are
  own_at below first k (x ∷ xs) (d ∷ ds) h none count (suc i) =
      ap (λ (j : ℕ). replied_in c j es) (omega arith) ∙ own_at below [] (k + 1) xs ds h.1 (λ e. refl) (omega arith) i
      ∙ ap (λ (l : List Replied). l ++ all_of (runs_at [] (k + 1) xs ds h.1 i)) (no_first i)
    where
      no_first : (i : ℕ) → jobs_of_first i [] ≡ []
      no_first zero = refl
      no_first (suc i) = refl

  pub are_jobs_of : {founding : List Replied} (lists : List (Jobs Job)) (all : List (Dones Done)) → IsHistory c es
      → c.types ≡ p.types → IsFounding p founding → length lists ≡ c.callers → HaveDone p c es founding 0 lists all
      → AreJobsOf p c es lists all
  are_jobs_of {founding} lists all history types founds count h =
      let below = callers_are_below history in
      let least : 1 ≤ c.callers = history.within_limits.callers.0 in
      record {
        founding = founding;
        runs = runs_at founding 0 lists all h;
        one_each = as_many founding 0 lists all h;
        are = same_at founding 0 lists all h;
        interleaved = record {
          founds = founds;
          jobs = are_runs_at founding 0 lists all h;
          own = λ k.
              ap (λ (ts : List (List Kind)). own_replied k (start_of ts c.callers) (asked (calls c es))) (sym types)
              ∙ ap (λ (j : ℕ). replied_in c j es) (omega arith) ∙ own_at below founding 0 lists all h
              (λ e. absurd (omega (arith, e, count, least))) (omega (arith, count)) k;
          exist = below;
        };
      }
