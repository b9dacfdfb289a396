-- All operations, one after the other, as the jobs that they are.
use Rattle.mk_jobs.proofs.Vocabulary.{AreBelow, AreClears, AreDecidedOnce, AreJobRuns, Asks, Call, IsClear, IsTyped}
use Rattle.mk_jobs.proofs.Vocabulary.{JobRun, Keeps, Leads, List, NeverState, Op, Option, Plan, Replied, World, []}
use Rattle.mk_jobs.proofs.Vocabulary.{after_op, all_of, ap, arith, drop, false≢true, inl, inr, length, order_of}
use Rattle.mk_jobs.proofs.Vocabulary.{own_replied, refl, reply_of, subst, sym, take, ℕ, ◌++◌, ◌<◌, ◌∙◌, ◌∷◌, ◌≡◌}
use Rattle.mk_jobs.proofs.{Owners.{nothing_idle, own_owed, own_private}, Callers.{cons_head, mine, nothing_left, put}}
use Rattle.mk_jobs.proofs.{Callers.put_same, Owing.{Doing, IsAtJob, Now, Work, clears, does, first_of_job, owed_now}}
use Rattle.mk_jobs.proofs.{Owing.rest_of, Interleaving.{Inv, IsDoing, IsDoingNow, IsLocal, Stepped, steps}}
use Rattle.mk_jobs.proofs.{Cleared.{clears_one, is_clearing}, Running.{AllWork, Ran, RunsOn, goes_on}}
use Rattle.mk_jobs.proofs.Renewed.{IsSettled, begins, begins_at, ends_clear, new_inv, new_works, no_jobs_left, renewed}
use Rattle.mk_jobs.proofs.Renewed.{settled, settles_at}

module _ {Job Done Point State : Type 0} {p : Plan Job Done Point} {left_by : State → Job → Done → Option State}
    {first : State} {content : NeverState → List ℕ → State → Type 0} {Shared : World → State → Type 0}
    {Local : World → ℕ → Point → Option Done → Type 0} {Rely : ℕ → World → World → Type 0} {job_at : Point → Option Job}
    (typed : IsTyped p) (K : Keeps p left_by first content Shared Local Rely job_at) where
  abbrev Runs : ℕ → List Call → Type 0
  Runs callers calls = RunsOn typed K callers calls

  -- Where all have done all
  module _ {callers : ℕ} {w : World} {x : State} {W : ℕ → Work p} (inv : Inv typed K callers w x W)
      (works : AllWork typed K callers w.n [] W) where
    none_left : (k : ℕ) → (rest_of (W k).now ≡ []) × (all_of (W k).later ≡ [])
    none_left k = nothing_left (rest_of (W k).now) (all_of (W k).later) (works k).own

    at_rest : (k : ℕ) → IsSettled typed K k (W k).now
    at_rest k = by (W k).now (works k).doing (works k).exists (inv.local k) (none_left k).0
      where
        by : (e : Now p) → IsDoingNow typed K e → (IsAtJob e → k < callers)
            → (k < callers → IsLocal typed K w k e) → rest_of e ≡ []
            → IsSettled typed K k e
        by (clears xs) are exists local none = record { agrees = tt; owes = refl; idle = nothing_idle }
        by (does d) doing exists local none =
            settled typed K callers w k d doing
            (subst (λ (xs : List Replied). Leads p d.point xs d.goal) none doing.leads) exists local

    no_later : (k : ℕ) → (W k).later ≡ []
    no_later k = no_jobs_left typed K w (W k).later (works k).later (none_left k).1

    all_done : Ran typed K w x W []
    all_done = record {
      left = x;
      end = record {
        role = w.role;
        shared = inv.shared;
        fits = inv.stands.fits;
        private = λ k a is. let f = (inv.holding k).owner.has_private a is in
            false≢true (sym ((at_rest k).idle.none f.place) ∙ own_private _ f.held);
        taken = λ k a is. let f = (inv.holding k).owner.has_taken a is in
            false≢true (sym ((at_rest k).idle.none f.place) ∙ own_owed _ f.held);
      };
      decisions = [];
      one_each = refl;
      explained = refl;
      once = λ k. record {
        agrees = (at_rest k).agrees;
        first = subst (λ (xs : List Replied). order_of (take (length xs) []) ≡ owed_now k (W k).now)
            (sym (none_left k).0) (sym (at_rest k).owes);
        later = subst (λ (xs : List Replied). AreDecidedOnce k (W k).later (drop (length xs) [])) (sym (none_left k).0)
            (subst (λ (js : List (JobRun Job Done)). AreDecidedOnce k js []) (sym (no_later k)) refl);
      };
      frees = λ a. omega arith;
      single = tt;
    }

  -- The first operation of a list, where all later ones are known
  module _ {callers : ℕ} (w : World) (x : State) (c : ℕ) (o : Op) (xs : List Call) (lt : c < callers)
      (run : Runs callers xs) where
    abbrev calls : List Call
    calls = record { caller = c; op = o } ∷ xs

    abbrev Goal : (ℕ → Work p) → Type 0
    Goal W = Inv typed K callers w x W → AllWork typed K callers w.n calls W
        → Ran typed K w x W calls

    -- its caller sets a register to null,
    clearing : (W : ℕ → Work p) (y : Replied) (ys : List Replied) → (W c).now ≡ clears (y ∷ ys) → Goal W
    clearing W y ys is inv works =
        let are : AreClears (y ∷ ys) = subst (IsDoingNow typed K) is (works c).doing in
        let rest : rest_of (W c).now ≡ y ∷ ys = ap (rest_of) is in
        let same : record { op = o; reply = reply_of w.n c o } ≡ y =
        cons_head _ y (own_replied c (after_op w.n c o) xs) (ys ++ all_of (W c).later) (sym (mine c o w.n xs)
        ∙ (works c).own ∙ ap (λ (r : List Replied). r ++ all_of (W c).later) rest) in
        let clear = is_clearing o (subst (λ (z : Replied). IsClear z.op) (sym same) are.0) in
        goes_on typed K c o xs lt works (subst (λ (q : Op). Stepped typed K callers w x W c q
        (record { now = clears ys; later = (W c).later })) (sym clear.is)
        (clears_one typed K inv c lt clear.d clear.below y ys is are.1)) y rest refl run

    -- goes on with its job, or has ended it,
    doing : (W : ℕ → Work p) (d : Doing p) (y : Replied) (ys : List Replied) → (W c).now ≡ does d
        → d.rest ≡ y ∷ ys → Goal W
    doing W d y ys is rest_is inv works =
        by (subst (λ (r : List Replied). Leads p d.point r d.goal) rest_is doing_it.leads)
      where
        doing_it : IsDoing typed K d
        doing_it = subst (IsDoingNow typed K) is (works c).doing

        rest : rest_of (W c).now ≡ y ∷ ys
        rest = ap (rest_of) is ∙ rest_is

        same : record { op = o; reply = reply_of w.n c o } ≡ y
        same = cons_head _ y (own_replied c (after_op w.n c o) xs) (ys ++ all_of (W c).later) (sym (mine c o w.n xs)
            ∙ (works c).own ∙ ap (λ (r : List Replied). r ++ all_of (W c).later) rest)

        ended : (AreClears (y ∷ ys)) × (d.point ≡ d.goal) → Ran typed K w x W calls
        ended end =
            let are : AreClears d.rest = subst AreClears (sym rest_is) end.0 in
            let renews = settles_at typed K inv calls works c d is are end.1 in
            let v : Work p = record { now = clears d.rest; later = (W c).later } in
            renewed typed K inv calls works c renews
            (clearing (put W c v) y ys (ap (λ (u : Work p). u.now) (put_same W c v)
            ∙ ap clears rest_is) (new_inv typed K inv calls works c renews)
            (new_works typed K inv calls works c renews))

        by : Leads p d.point (y ∷ ys) d.goal → Ran typed K w x W calls
        by (inl asked) =
            let asks = subst (λ (z : Replied). Asks p.with_number (p.step d.point) z.op z.reply asked.0) (sym same)
            asked.1 in
            let s = steps typed K inv c lt d is doing_it o asked.0 asks y ys rest_is asked.2 in
            goes_on typed K c o xs lt works s.1 y
            (rest ∙ ap (λ (zs : List Replied). y ∷ zs) (sym s.2)) s.3 run
        by (inr clear) = ended (ends_clear typed K d.point (y ∷ ys) d.goal clear.0 (inr clear))

    -- or begins its next job.
    beginning : (W : ℕ → Work p) → (W c).now ≡ clears [] → (js : List (JobRun Job Done)) → (W c).later ≡ js
        → Goal W
    beginning W is [] later inv works = absurd (let e : record { op = o; reply = reply_of w.n c o }
        ∷ own_replied c (after_op w.n c o) xs ≡ [] = sym (mine c o w.n xs) ∙ (works c).own
        ∙ ap (λ (e : Now p). rest_of e ++ all_of (W c).later) is ∙ ap all_of later in cc e)
    beginning W is (r ∷ rs) later inv works = by r.all refl
      where
        runs : AreJobRuns p (r ∷ rs)
        runs = subst (AreJobRuns p) later (works c).later

        by : (l : List Replied) → r.all ≡ l → Ran typed K w x W calls
        by [] e = absurd (begins typed K w r runs.0 e)
        by (y ∷ ys) e =
            let renews = begins_at typed K inv calls works c r rs is later lt runs.0 runs.1 in
            let d = first_of_job p r runs.0.0 in
            let v : Work p = record { now = does (first_of_job p r runs.0.0); later = rs } in
            renewed typed K inv calls works c renews
            (doing (put W c v) d y ys (ap (λ (u : Work p). u.now) (put_same W c v)) e
            (new_inv typed K inv calls works c renews)
            (new_works typed K inv calls works c renews))

    run_more : (W : ℕ → Work p) → Goal W
    run_more W inv works = by (W c).now refl
      where
        at : (d : Doing p) → (W c).now ≡ does d → (l : List Replied) → d.rest ≡ l
            → Ran typed K w x W calls
        at d is (y ∷ ys) rest = doing W d y ys is rest inv works
        at d is [] rest =
            let it = subst (IsDoingNow typed K) is (works c).doing in
            let renews = settles_at typed K inv calls works c d is (subst AreClears (sym rest) tt)
            (subst (λ (r : List Replied). Leads p d.point r d.goal) rest it.leads) in
            let v : Work p = record { now = clears d.rest; later = (W c).later } in
            renewed typed K inv calls works c renews
            (beginning (put W c v) (ap (λ (u : Work p). u.now) (put_same W c v) ∙ ap clears rest)
            (put W c v c).later refl (new_inv typed K inv calls works c renews)
            (new_works typed K inv calls works c renews))

        by : (e : Now p) → (W c).now ≡ e → Ran typed K w x W calls
        by (clears []) is = beginning W is (W c).later refl inv works
        by (clears (y ∷ ys)) is = clearing W y ys is inv works
        by (does d) is = at d is d.rest refl

  -- All operations
  pub run_all : (callers : ℕ) (calls : List Call) → AreBelow callers calls → Runs callers calls
  run_all callers [] below w x W inv works = all_done inv works
  run_all callers (x ∷ xs) below w s W inv works =
      run_more w s x.caller x.op xs below.0 (run_all callers xs below.1) W inv works
