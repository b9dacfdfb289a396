-- A caller does one job more of its list.
use Rattle.std.proofs.lemmas.List.{take_more}
use Rattle.mk_jobs.proofs.RunVocabulary.{AreJobRuns, DoesJobs, GoesToEnd, JobRun, PassState, Plan, Replied, all_of}
use Rattle.mk_jobs.{proofs.RunVocabulary.{replied_to}, specs.Jobs.IsJobRun}
use Rattle.mk_heap.proofs.Below.Laws.Vocabulary.{List, ℕ, ap, append-nil, append_assoc, get_or, length, map, refl, sym}
use Rattle.mk_heap.proofs.Below.Laws.Vocabulary.{take, []}
use Rattle.mk_heap.proofs.Below.Laws.Vocabulary.{◌++◌}
use Rattle.mk_heap.proofs.Below.Laws.Vocabulary.{◌+◌, ◌<◌, ◌∙◌, ◌∷◌, ◌≡◌}

all_in_parts : {Job Done : Type 0} (rs ss : List (JobRun Job Done)) → all_of (rs ++ ss) ≡ all_of rs ++ all_of ss
all_in_parts [] ss = refl
all_in_parts (r ∷ rs) ss =
    ap (λ (l : List Replied). r.all ++ l) (all_in_parts rs ss) ∙ sym (append_assoc r.all (all_of rs) (all_of ss))

one_job_more : {Job Done : Type 0} (rs : List (JobRun Job Done)) (r : JobRun Job Done)
    → map (λ (r : JobRun Job Done). r.job) (rs ++ r ∷ []) ≡ map (λ (r : JobRun Job Done). r.job) rs ++ r.job ∷ []
one_job_more [] r = refl
one_job_more (x ∷ rs) r = ap (λ l. x.job ∷ l) (one_job_more rs r)

one_done_more : {Job Done : Type 0} (rs : List (JobRun Job Done)) (r : JobRun Job Done)
    → map (λ (r : JobRun Job Done). r.done) (rs ++ r ∷ []) ≡ map (λ (r : JobRun Job Done). r.done) rs ++ r.done ∷ []
one_done_more [] r = refl
one_done_more (x ∷ rs) r = ap (λ l. x.done ∷ l) (one_done_more rs r)

module _ {Job Done Point : Type 0} (p : Plan Job Done Point) where
  one_run_more : (rs : List (JobRun Job Done)) (r : JobRun Job Done) → AreJobRuns p rs → IsJobRun p r
      → AreJobRuns p (rs ++ r ∷ [])
  one_run_more [] r are is = (is, tt)
  one_run_more (x ∷ rs) r are is = (are.0, one_run_more rs r are.1 is)

  pub does_none : (q : PassState) → DoesJobs p q [] [] q
  does_none q = record {
    is = refl;
    done = record {
      runs = [];
      are_runs = tt;
      same_jobs = refl;
      same_dones = refl;
      all_are = sym (append-nil (replied_to q));
    };
  }

  pub does_more : {q r : PassState} (u : PassState) {jobs : List Job} {dones : List Done} (job : Job) (done : Done)
      → DoesJobs p q jobs dones r → GoesToEnd p r (p.starting job) u done
      → DoesJobs p q (jobs ++ job ∷ []) (dones ++ done ∷ []) u
  does_more {q} {r} u {jobs} {dones} job done before does =
      let run : JobRun Job Done = record { job = job; done = done; all = does.goes.all } in
      let so_far = before.done in
      record {
        is = does.goes.is ∙ ap (λ (s : PassState). record s { seen = u.seen }) before.is;
        done = record {
          runs = so_far.runs ++ run ∷ [];
          are_runs = one_run_more so_far.runs run so_far.are_runs (does.last, does.goes.leads, does.ended);
          same_jobs = one_job_more so_far.runs run ∙ ap (λ l. l ++ job ∷ []) so_far.same_jobs;
          same_dones = one_done_more so_far.runs run ∙ ap (λ l. l ++ done ∷ []) so_far.same_dones;
          all_are =
              does.goes.did ∙ ap (λ (l : List Replied). l ++ run.all) so_far.all_are
              ∙ append_assoc (replied_to q) (all_of so_far.runs) run.all
              ∙ ap (λ (l : List Replied). replied_to q ++ l) (ap (λ (l : List Replied). all_of so_far.runs ++ l)
              (sym (append-nil run.all)) ∙ sym (all_in_parts so_far.runs (run ∷ [])));
        };
      }

  -- the same, along a list of jobs
  pub does_next : {q r : PassState} (u : PassState) (jobs : List Job) (i : ℕ) {dones : List Done} (d : Job)
      (done : Done) → i < length jobs → DoesJobs p q (take i jobs) dones r
      → GoesToEnd p r (p.starting (get_or jobs i d)) u done
      → DoesJobs p q (take (i + 1) jobs) (dones ++ done ∷ []) u
  does_next u jobs i d done within before does =
      rw (take_more jobs i d within) (does_more u (get_or jobs i d) done before does)
