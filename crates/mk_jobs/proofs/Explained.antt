-- From the first operation on: the order of all jobs, and what becomes of each object.
use Rattle.mk_never.proofs.TypedCalls.{start_is_typed}
use Rattle.mk_jobs.proofs.Vocabulary.{AreDecidedOnce, Call, Gone, IsAlwaysExplained, IsExplained, IsInterleaved}
use Rattle.mk_jobs.proofs.Vocabulary.{IsTyped, JobRun, Keeps, List, NeverState, None, Null, Option, Plan, Private}
use Rattle.mk_jobs.proofs.Vocabulary.{Public, Replied, Role, Taken, Unborn, World, [], after_calls, ap, arith, bit}
use Rattle.mk_jobs.proofs.Vocabulary.{drop, false≢true, first_world, found, jobs_of_first, length, length-replicate}
use Rattle.mk_jobs.proofs.Vocabulary.{order_of, own_decisions, refl, start_of, subst, suc, sym, take, times_freed, zero}
use Rattle.mk_jobs.proofs.{Vocabulary.{ℕ, ◌*◌, ◌<◌, ◌∙◌, ◌≡◌}, Allocations.is_gone, Waiting.{Holding, Standing}}
use Rattle.mk_jobs.proofs.{Waiting.born_below, Owing.{Work, clears, does, holds_at}, Interleaving.{Inv, IsLocal}}
use Rattle.mk_jobs.proofs.{Interleaving.IsWork, Running.Ran, AllCalls.run_all}

module _ {Job Done Point State : Type 0} {p : Plan Job Done Point} {left_by : State → Job → Done → Option State}
    {first : State} {content : NeverState → List ℕ → State → Type 0} {Shared : World → State → Type 0}
    {Local : World → ℕ → Point → Option Done → Type 0} {Rely : ℕ → World → World → Type 0} {job_at : Point → Option Job}
    (typed : IsTyped p) (K : Keeps p left_by first content Shared Local Rely job_at) where
  -- The first caller makes the object; each other one begins with its first job.
  first_work : List Replied → Point → (ℕ → List (JobRun Job Done)) → ℕ → Work p
  first_work founding found runs zero = record {
    now = does (record { point = p.founding; decided = None; rest = founding; goal = found; run = None });
    later = runs zero;
  }
  first_work founding found runs (suc k) = record { now = clears []; later = runs (suc k) }

  module _ {callers : ℕ} {founding : List Replied} {runs : ℕ → List (JobRun Job Done)} {calls : List Call}
      (h : IsInterleaved p (start_of p.types callers) callers founding runs calls) where
    abbrev n : NeverState
    n = start_of p.types callers

    abbrev m : NeverState
    m = after_calls n calls

    abbrev w : World
    w = first_world p left_by callers

    abbrev W : ℕ → Work p
    W = first_work founding h.founds.found runs

    stands : Standing p callers w
    stands = record {
      typed = start_is_typed p.globals p.types callers;
      types = refl;
      registers = length-replicate (8 * callers) Null;
      globals = length-replicate 64 Null;
      fits = λ a. record {
        unborn = λ ge. refl;
        born = λ lt. absurd (omega arith);
        freed = λ e. absurd (false≢true e);
        gone = λ e. absurd (cc e);
      };
    }

    -- nothing is owned yet
    none_held : (k : ℕ) → Holding w k []
    none_held k = record {
      holds = λ r lt. tt;
      owner = record {
        below = λ r own. absurd (false≢true own);
        privates = λ r a private points. absurd (false≢true private);
        owed = λ r a owes points. absurd (false≢true owes);
        alone = λ r q a own other points also. absurd (false≢true own);
        has_private = λ a is. absurd (let e : Unborn ≡ Private k = is in cc e);
        has_taken = λ a is. absurd (let e : Unborn ≡ Taken k = is in cc e);
      };
    }

    first_holding : (k : ℕ) → Holding w k (holds_at (W k).now)
    unfolding first_work
    first_holding zero = subst (Holding w 0) (sym typed.founding) (none_held 0)
    first_holding (suc k) = none_held (suc k)

    first_local : (k : ℕ) → k < callers → IsLocal typed K w k (W k).now
    unfolding first_work
    first_local zero lt = (K.founding callers).1
    first_local (suc k) lt = tt

    first_inv : Inv typed K callers w first W
    first_inv =
        record { stands = stands; shared = (K.founding callers).0; holding = first_holding; local = first_local }

    first_works : (k : ℕ) → IsWork typed K callers n calls k (W k)
    unfolding first_work
    first_works zero = record {
      own = h.own zero;
      doing = record { leads = h.founds.founds; goal = h.founds.founded; job = λ e. (K.founding callers).2 };
      later = h.jobs zero;
      exists = λ at_job. absurd at_job;
    }
    first_works (suc k) = record {
      own = h.own (suc k);
      doing = tt;
      later = h.jobs (suc k);
      exists = λ at_job. absurd at_job;
    }

    abbrev all : Ran typed K w first W calls
    all = run_all typed K callers calls h.exist w first W first_inv first_works

    module _ (ran : Ran typed K w first W calls) where
      once : (k : ℕ) → AreDecidedOnce k (runs k)
          (drop (length (jobs_of_first k founding)) (own_decisions k calls ran.decisions))
      unfolding first_work
      once zero = (ran.once zero).later
      once (suc k) = (ran.once (suc k)).later

      founds_only : order_of (take (length founding) (own_decisions 0 calls ran.decisions)) ≡ []
      unfolding first_work
      founds_only = (ran.once zero).first

      times : (a : ℕ) (r : Role) → ran.end.role a ≡ r → times_freed a n calls ≡ bit (is_gone r)
      times a r is = omega (arith, ran.frees a, ap (λ (x : Role). bit (is_gone x)) is)

      freed_once : (a : ℕ) → a < length m.allocations → (ran.end.role a ≡ Public → ⊥) → (r : Role) → ran.end.role a ≡ r
          → times_freed a n calls ≡ 1
      freed_once a lt hidden Unborn is = absurd ((ran.end.fits a).born lt is)
      freed_once a lt hidden (Private k) is = absurd (ran.end.private k a is)
      freed_once a lt hidden Public is = absurd (hidden is)
      freed_once a lt hidden (Taken k) is = absurd (ran.end.taken k a is)
      freed_once a lt hidden Gone is = times a Gone is

      explained_by : IsExplained p first left_by content callers founding runs calls
      explained_by =
          let c = K.contains (record { n = m; role = ran.end.role }) ran.left ran.end.shared in
          record {
            parts = c.0;
            left = ran.left;
            is_left = c.1;
            decisions = ran.decisions;
            one_each = ran.one_each;
            explained = ran.explained;
            founds_only = founds_only;
            once = once;
            no_leak = record {
              kept = λ a one. (
                born_below (ran.end.fits a) (λ e. (let f : Public ≡ Unborn = sym (c.3 a one) ∙ e in cc f)),
                times a Public (c.3 a one),
              );
              gone = λ a lt off. freed_once a lt (λ public. off (c.2 a public)) (ran.end.role a) refl;
              single = ran.single;
            };
          }

  -- What a client keeps explains all interleavings of its jobs.
  pub explained : IsAlwaysExplained p first left_by content
  explained callers founding done calls h = explained_by h (all h)
