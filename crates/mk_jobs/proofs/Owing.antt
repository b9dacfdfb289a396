-- What callers still have to do, and what is still to be decided of it.
use Rattle.mk_jobs.{specs.Jobs.{IsEnd}, proofs.Vocabulary.{take, ℕ, ◌∙◌, ◌∷◌, ◌≡◌}}
use Rattle.mk_jobs.proofs.Vocabulary.{AreDecidedOnce, Decides, Hold, JobRun, List, None, Option, Ordered, Plan, Replied}
use Rattle.mk_jobs.proofs.Vocabulary.{Some, [], ap, drop, left_by_all, length, nothing, order_of, refl, settles, sym}
use Rattle.mk_jobs.specs.declared.steps.Step.TheVariants as step

module _ {Job Done Point : Type 0} (p : Plan Job Done Point) where
  -- a job that a caller is at: its point, what it was decided as, what it still does until its goal, and which it is.
  -- What makes the object is no job.
  pub record Doing : Type 0 where
    pub point : Point
    pub decided : Option Done
    pub rest : List Replied
    pub goal : Point
    pub run : Option (JobRun Job Done)

  -- A caller sets registers to null, or has nothing left to do; or it is at a job.
  pub data Now : Type 0 where
    clears : List Replied → Now
    does : Doing → Now

  pub record Work : Type 0 where
    pub now : Now
    pub later : List (JobRun Job Done)

  -- where a job begins that ends there
  abbrev pub first_of_job : JobRun Job Done → Point → Doing
  first_of_job r t = record { point = p.starting r.job; decided = None; rest = r.all; goal = t; run = Some r }

  abbrev pub IsGoal : Option (JobRun Job Done) → Point → Type 0
  IsGoal None g = IsEnd (p.step g)
  IsGoal (Some r) g = p.step g ≡ step.End r.done

module _ {Job Done : Type 0} where
  abbrev pub job_of : Option (JobRun Job Done) → Option Job
  job_of None = None
  job_of (Some r) = Some r.job

  abbrev pub IsJob : Option (JobRun Job Done) → Type 0
  IsJob None = ⊥
  IsJob (Some r) = Unit {0}

  -- what a job is still to be decided as
  abbrev pub owed_by : ℕ → Option (JobRun Job Done) → Option Done → List (Ordered Job Done)
  owed_by k None u = []
  owed_by k (Some r) None = record { caller = k; job = r.job; done = r.done } ∷ []
  owed_by k (Some r) (Some y) = []

  -- What was decided is what the job ends with.
  abbrev pub Agrees : Option (JobRun Job Done) → Option Done → Type 0
  Agrees (Some r) (Some y) = y ≡ r.done
  Agrees r u = Unit {0}

module _ {Job Done Point : Type 0} {p : Plan Job Done Point} where
  abbrev pub rest_of : Now p → List Replied
  rest_of (clears xs) = xs
  rest_of (does d) = d.rest

  abbrev pub holds_at : Now p → List Hold
  holds_at (clears xs) = []
  holds_at (does d) = p.holds d.point

  abbrev pub IsAtJob : Now p → Type 0
  IsAtJob (clears xs) = ⊥
  IsAtJob (does d) = IsJob d.run

  abbrev pub owed_now : ℕ → Now p → List (Ordered Job Done)
  owed_now k (clears xs) = []
  owed_now k (does d) = owed_by k d.run d.decided

  abbrev pub AgreesNow : Now p → Type 0
  AgreesNow (clears xs) = Unit {0}
  AgreesNow (does d) = Agrees d.run d.decided

  pub record IsOnce (k : ℕ) (w : Work p) (ds : List (Option (Ordered Job Done))) : Type 0 where
    pub agrees : AgreesNow w.now
    pub first : order_of (take (length (rest_of w.now)) ds) ≡ owed_now k w.now
    pub later : AreDecidedOnce k w.later (drop (length (rest_of w.now)) ds)

none_job : {Job : Type 0} (j : Job) → None ≡ Some j → ⊥
none_job j e = cc

module _ {Job Done State : Type 0} (left_by : State → Job → Done → Option State) where
  -- what a decision leaves
  abbrev pub IsLeft : Option (Ordered Job Done) → State → State → Type 0
  IsLeft None x y = x ≡ y
  IsLeft (Some e) x y = left_by x e.job e.done ≡ Some y

  -- One decision before others
  pub explained_more : (d : Option (Ordered Job Done)) (x y z : State) (ds : List (Option (Ordered Job Done)))
      → IsLeft d x y → left_by_all left_by y (order_of ds) ≡ Some z
      → left_by_all left_by x (order_of (d ∷ ds)) ≡ Some z
  explained_more None x y z ds left rest = rw left rest
  explained_more (Some e) x y z ds left rest =
      rw left rest

  -- What an operation decides of the job that its caller is at
  pub record IsDecided (c : ℕ) (run : Option (JobRun Job Done)) (u : Option Done) (x : State) (u' : Option Done)
      (y : State) : Type 0 where
    pub decision : Option (Ordered Job Done)
    pub left : IsLeft decision x y
    pub agrees : Agrees run u' → Agrees run u
    pub first : (ds : List (Option (Ordered Job Done))) → Agrees run u' → order_of ds ≡ owed_by c run u'
        → order_of (decision ∷ ds) ≡ owed_by c run u

module _ {Job Done Point State : Type 0} {p : Plan Job Done Point} {left_by : State → Job → Done → Option State} where
  pub decided_so : (c : ℕ) (run : Option (JobRun Job Done)) (job : Option Job) (u : Option Done) (x : State)
      (u' : Option Done) (y : State) → (u ≡ None → job ≡ job_of run) → Decides p left_by job u x u' y
      → IsDecided left_by c run u x u' y
  decided_so c run job u x u' y same nothing =
      record { decision = None; left = refl; agrees = λ a. a; first = λ ds a e. e }
  decided_so c None job None x (Some d) y same (settles {j} is left) = absurd (none_job j (sym (same refl) ∙ is))
  decided_so c (Some r) job None x (Some d) y same (settles {j} is left) =
      let job_is : r.job ≡ j = cc (same refl, is) in
      record {
        decision = Some (record { caller = c; job = j; done = d });
        left = left;
        agrees = λ a. tt;
        first = λ ds a e. ap (λ (es : List (Ordered Job Done)). record { caller = c; job = j; done = d } ∷ es) e
            ∙ ap (λ (i : Job). record { caller = c; job = i; done = d } ∷ []) (sym job_is)
            ∙ ap (λ (i : Done). record { caller = c; job = r.job; done = i } ∷ []) a;
      }

  -- What isn't decided after an operation wasn't before.
  pub undecided : {job : Option Job} {u : Option Done} {x : State} {u' : Option Done} {y : State}
      → Decides p left_by job u x u' y → u' ≡ None → u ≡ None
  undecided nothing e = e
  undecided (settles is left) e = absurd (cc)
