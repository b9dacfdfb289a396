-- Where a caller has ended what it was at: it owns nothing, nothing is owed, and it begins its next job.
use Rattle.mk_jobs.proofs.Vocabulary.{Anything, AreClears, AreDecidedOnce, AreJobRuns, Asks, Call, Hold, IsJobRun}
use Rattle.mk_jobs.proofs.Vocabulary.{IsTyped, IsTypedStep, JobRun, Keeps, Leads, List, NeverState, None, Option}
use Rattle.mk_jobs.proofs.Vocabulary.{Ordered, Plan, Replied, Some, Step, World, [], all_give, all_of, ap, arith, false}
use Rattle.mk_jobs.proofs.Vocabulary.{gives, inl, inr, is_own, leads, own_decisions, refl, register_at, subst, sym}
use Rattle.mk_jobs.proofs.{Vocabulary.{true, ℕ, ◌++◌, ◌<◌, ◌∙◌, ◌∷◌, ◌≡◌}, Holds.all_so, Owners.{IsIdle, idle_owner}}
use Rattle.mk_jobs.proofs.{Owners.nothing_idle, Waiting.Holding, Callers.{nothing_left, put, put_back, put_by}}
use Rattle.mk_jobs.proofs.Owing.{Agrees, AgreesNow, Doing, IsAtJob, IsGoal, IsJob, IsOnce, Now, Work, clears, does}
use Rattle.mk_jobs.{proofs.Owing.{first_of_job, job_of, holds_at, owed_by, owed_now, rest_of}, specs.Jobs.{IsEnd}}
use Rattle.mk_jobs.proofs.{Interleaving.{Inv, IsDoing, IsDoingNow, IsLocal, IsWork}, Running.{AllWork, Ran}}
use Rattle.mk_jobs.specs.declared.steps.Step.TheVariants as step

gives_none : (h : Hold) → gives h Anything ≡ true → is_own h ≡ false
gives_none x0 e = grind arith

module _ {Job Done Point State : Type 0} {p : Plan Job Done Point} {left_by : State → Job → Done → Option State}
    {first : State} {content : NeverState → List ℕ → State → Type 0} {Shared : World → State → Type 0}
    {Local : World → ℕ → Point → Option Done → Type 0} {Rely : ℕ → World → World → Type 0} {job_at : Point → Option Job}
    (typed : IsTyped p) (K : Keeps p left_by first content Shared Local Rely job_at) where
  ended_gives : (hs : List Hold) (st : Step Point Done) → IsEnd st → IsTypedStep p hs st → all_give gives hs [] ≡ true
  ended_gives hs (step.End done) is typed_step = typed_step
  ended_gives hs _ is typed_step = absurd is

  idle_at_end : (s : Point) → IsEnd (p.step s) → IsIdle (p.holds s)
  idle_at_end s is =
      let all = ended_gives (p.holds s) (p.step s) is (typed.steps s) in
      record { none = λ r. gives_none _ (all_so gives refl (p.holds s) [] all r) }

  none_asked : (st : Step Point Done) (x : Replied) (t : Point) → IsEnd st → Asks p.with_number st x.op x.reply t → ⊥
  none_asked (step.End done) x t is asks = asks
  none_asked _ x t is asks = absurd is

  -- Where nothing is asked any more, registers are cleared.
  pub ends_clear : (s : Point) (xs : List Replied) (t : Point) → IsEnd (p.step s) → Leads p s xs t
      → AreClears xs × (s ≡ t)
  ends_clear s [] t is leads = (tt, leads)
  ends_clear s (x ∷ xs) t is (inl asked) = absurd (none_asked (p.step s) x asked.0 is asked.1)
  ends_clear s (x ∷ xs) t is (inr clear) =
      let rest = ends_clear s xs t is clear.2 in ((clear.1, rest.0), rest.1)

  -- A job has an operation.
  pub begins : World → (r : JobRun Job Done) → IsJobRun p r → r.all ≡ [] → ⊥
  begins w r run none =
      let at : p.starting r.job ≡ run.0 =
      subst (λ (xs : List Replied). Leads p (p.starting r.job) xs run.0) none run.1 in
      let is : None ≡ Some r.done = K.ends w 0 (p.starting r.job) None r.done r.job (K.begins w 0 r.job).0
      (ap p.step at ∙ run.2) (λ e. (K.begins w 0 r.job).1) in
      (cc is)

  pub no_jobs_left : World → (rs : List (JobRun Job Done)) → AreJobRuns p rs → all_of rs ≡ [] → rs ≡ []
  no_jobs_left w [] runs e = refl
  no_jobs_left w (r ∷ rs) runs e = absurd (begins w r runs.0 (nothing_left r.all (all_of rs) (sym e)).0)

  -- what holds of a caller that has done what it was at
  pub record IsSettled (k : ℕ) (e : Now p) : Type 0 where
    pub agrees : AgreesNow e
    pub owes : owed_now k e ≡ []
    pub idle : IsIdle (holds_at e)

  pub settled : (callers : ℕ) (w : World) (k : ℕ) (d : Doing p) → IsDoing typed K d → d.point ≡ d.goal
      → (IsJob d.run → k < callers) → (k < callers → Local w k d.point d.decided) → IsSettled k (does d)
  settled callers w k d doing at exists local = by d.run refl
    where
      by : (r : Option (JobRun Job Done)) → d.run ≡ r → IsSettled k (does d)
      by None is = record {
        agrees = subst (λ (r : Option (JobRun Job Done)). Agrees r d.decided) (sym is) tt;
        owes = ap (λ (r : Option (JobRun Job Done)). owed_by k r d.decided) is;
        idle = idle_at_end d.point (subst (λ (s : Point). IsEnd (p.step s)) (sym at)
            (subst (λ (r : Option (JobRun Job Done)). IsGoal p r d.goal) is doing.goal));
      }
      by (Some r) is =
          let ended : p.step d.point ≡ step.End r.done =
          ap p.step at ∙ subst (λ (x : Option (JobRun Job Done)). IsGoal p x d.goal) is doing.goal in
          let lt : k < callers = exists (subst (IsJob) (sym is) tt) in
          let done : d.decided ≡ Some r.done = K.ends w k d.point d.decided r.done r.job (local lt) ended
          (λ e. doing.job e ∙ ap job_of is) in
          record {
            agrees = subst (λ (x : Option (JobRun Job Done)). Agrees x d.decided) (sym is)
                (subst (Agrees (Some r)) (sym done) refl);
            owes = ap (λ (x : Option (JobRun Job Done)). owed_by k x d.decided) is
                ∙ ap (owed_by k (Some r)) done;
            idle = idle_at_end d.point (subst IsEnd (sym ended) tt);
          }

  -- What a caller is at is said in another way.
  pub record Renews (callers : ℕ) (w : World) (W : ℕ → Work p) (calls : List Call) (c : ℕ) (v : Work p)
      : Type 0 where
    pub holding : Holding w c (holds_at v.now)
    pub local : c < callers → IsLocal typed K w c v.now
    pub work : IsWork typed K callers w.n calls c v
    pub once : (ds : List (Option (Ordered Job Done))) → IsOnce c v ds → IsOnce c (W c) ds

  module _ {callers : ℕ} {w : World} {x : State} {W : ℕ → Work p} (inv : Inv typed K callers w x W)
      (calls : List Call) (works : AllWork typed K callers w.n calls W) (c : ℕ) where
    module _ {v : Work p} (renews : Renews callers w W calls c v) where
      pub new_inv : Inv typed K callers w x (put W c v)
      new_inv = record {
        stands = inv.stands;
        shared = inv.shared;
        holding = put_by (λ (k : ℕ) (u : Work p). Holding w k (holds_at u.now)) W c v renews.holding
            (λ k other. inv.holding k);
        local = put_by (λ (k : ℕ) (u : Work p). k < callers → IsLocal typed K w k u.now) W c v
            renews.local (λ k other. inv.local k);
      }

      pub new_works : AllWork typed K callers w.n calls (put W c v)
      new_works = put_by (λ (k : ℕ) (u : Work p). IsWork typed K callers w.n calls k u) W c v
          renews.work (λ k other. works k)

      pub renewed : Ran typed K w x (put W c v) calls → Ran typed K w x W calls
      renewed ran = record {
        left = ran.left;
        end = ran.end;
        decisions = ran.decisions;
        one_each = ran.one_each;
        explained = ran.explained;
        once = put_back (λ (k : ℕ) (u : Work p). IsOnce k u (own_decisions k calls ran.decisions))
            (λ (k : ℕ) (u : Work p). IsOnce k u (own_decisions k calls ran.decisions)) W c v
            (renews.once (own_decisions c calls ran.decisions)) (λ k other once. once) ran.once;
        frees = ran.frees;
        single = ran.single;
      }

    -- A caller that is at its goal clears registers from there on.
    pub settles_at : (d : Doing p) → (W c).now ≡ does d → AreClears d.rest → d.point ≡ d.goal
        → Renews callers w W calls c (record { now = clears d.rest; later = (W c).later })
    settles_at d is are at =
        let doing = subst (IsDoingNow typed K) is (works c).doing in
        let rest = settled callers w c d doing at (subst (λ (e : Now p). IsAtJob e → c < callers) is
        (works c).exists) (λ lt. subst (IsLocal typed K w c) is (inv.local c lt)) in
        let holding = subst (λ (e : Now p). Holding w c (holds_at e)) is (inv.holding c) in
        record {
          holding = record {
            holds = λ r below. tt;
            owner = idle_owner (register_at w.n c) [] rest.idle nothing_idle holding.owner;
          };
          local = λ lt. tt;
          work = record {
            own = (works c).own ∙ ap (λ (e : Now p). rest_of e ++ all_of (W c).later) is;
            doing = are;
            later = (works c).later;
            exists = λ none. absurd none;
          };
          once = λ ds once. subst (λ (e : Now p). IsOnce {p = p} c (record { now = e; later = (W c).later }) ds)
              (sym is) (record { agrees = rest.agrees; first = once.first ∙ sym rest.owes; later = once.later });
        }

    -- One that has nothing left to do begins its next job.
    pub begins_at : (r : JobRun Job Done) (rs : List (JobRun Job Done)) → (W c).now ≡ clears [] → (W c).later ≡ r ∷ rs
        → c < callers → (run : IsJobRun p r) → AreJobRuns p rs → Renews callers w W calls c (record {
          now = does (first_of_job p r run.0);
          later = rs;
        })
    begins_at r rs is later_is lt run runs =
        let holding = subst (λ (e : Now p). Holding w c (holds_at e)) is (inv.holding c) in
        record {
          holding = subst (Holding w c) (sym (typed.starting r.job)) holding;
          local = λ below. (K.begins w c r.job).0;
          work = record {
            own = (works c).own ∙ ap (λ (e : Now p). rest_of e ++ all_of (W c).later) is
                ∙ ap all_of later_is;
            doing = record { leads = run.1; goal = run.2; job = λ e. (K.begins w c r.job).1 };
            later = runs;
            exists = λ at. lt;
          };
          once = λ ds once. subst (λ (e : Now p). IsOnce {p = p} c (record { now = e; later = (W c).later }) ds)
              (sym is) (record {
                agrees = tt;
                first = refl;
                later = subst (λ (js : List (JobRun Job Done)). AreDecidedOnce c js ds) (sym later_is)
                    (once.first, once.later);
              });
        }
