-- What holds at every place of an interleaving, and what one operation makes of it.
use Rattle.mk_jobs.proofs.Vocabulary.{AreClears, AreDecidedOnce, AreJobRuns, Asks, Call, IsAdmitted, IsThere, IsTyped}
use Rattle.mk_jobs.proofs.Vocabulary.{Keeps, Leads, List, Moves, NeverState, None, Op, Option, Ordered, Plan, Replied}
use Rattle.mk_jobs.proofs.Vocabulary.{Reply, World, after, after_op, all_of, bit, drop, freed_by, length, order_of}
use Rattle.mk_jobs.proofs.Vocabulary.{own_replied, refl, reply_of, subst, sym, take, ℕ, ◌++◌, ◌+◌, ◌<◌, ◌∙◌, ◌∷◌, ◌≡◌}
use Rattle.mk_jobs.proofs.{Vocabulary.◌≢◌, Meeting.sound, Ways.asks_way, Allocations.is_gone, Left.{Left, leaves}}
use Rattle.mk_jobs.proofs.Waiting.{Holding, Standing, asked_admitted, holds_on, is_there, others_hold, stands_on}
use Rattle.mk_jobs.proofs.{Waiting.{state_of, waits}, Callers.{put, put_by}, Owing.{Doing, IsAtJob, IsDecided, IsGoal}}
use Rattle.mk_jobs.proofs.Owing.{IsLeft, IsOnce, Now, Work, clears, decided_so, does, holds_at, job_of, owed_by}
use Rattle.mk_jobs.proofs.Owing.{rest_of, undecided}

module _ {Job Done Point State : Type 0} {p : Plan Job Done Point} {left_by : State → Job → Done → Option State}
    {first : State} {content : NeverState → List ℕ → State → Type 0} {Shared : World → State → Type 0}
    {Local : World → ℕ → Point → Option Done → Type 0} {Rely : ℕ → World → World → Type 0} {job_at : Point → Option Job}
    (typed : IsTyped p) (K : Keeps p left_by first content Shared Local Rely job_at) where
  abbrev pub IsLocal : World → ℕ → Now p → Type 0
  IsLocal w k (clears xs) = Unit {0}
  IsLocal w k (does d) = Local w k d.point d.decided

  -- the world, what the object is, and where each caller is
  pub record Inv (callers : ℕ) (w : World) (x : State) (W : ℕ → Work p) : Type 0 where
    pub stands : Standing p callers w
    pub shared : Shared w x
    pub holding : (k : ℕ) → Holding w k (holds_at (W k).now)
    pub local : (k : ℕ) → k < callers → IsLocal w k (W k).now

  -- what a caller still does of what it is at
  pub record IsDoing (d : Doing p) : Type 0 where
    pub leads : Leads p d.point d.rest d.goal
    pub goal : IsGoal p d.run d.goal
    pub job : d.decided ≡ None → job_at d.point ≡ job_of d.run

  abbrev pub IsDoingNow : Now p → Type 0
  IsDoingNow (clears xs) = AreClears xs
  IsDoingNow (does d) = IsDoing d

  pub record IsWork (callers : ℕ) (n : NeverState) (calls : List Call) (k : ℕ) (w : Work p) : Type 0 where
    pub own : own_replied k n calls ≡ rest_of w.now ++ all_of w.later
    pub doing : IsDoingNow w.now
    pub later : AreJobRuns p w.later
    pub exists : IsAtJob w.now → k < callers

  -- what one operation of caller c leaves, which has this to do after it
  pub record Stepped (callers : ℕ) (w : World) (x : State) (W : ℕ → Work p) (c : ℕ) (o : Op) (v : Work p)
      : Type 0 where
    pub world : World
    pub after_it : world.n ≡ after_op w.n c o
    pub state : State
    pub decision : Option (Ordered Job Done)
    pub left : IsLeft left_by decision x state
    pub doing : IsDoingNow v.now
    pub once : (ds : List (Option (Ordered Job Done))) → IsOnce c v ds
        → IsOnce c (W c) (decision ∷ ds)
    pub inv : Inv callers world state (put W c v)
    pub frees : (a : ℕ) → bit (is_gone (world.role a)) ≡ bit (is_gone (w.role a)) + freed_by a w.n c o
    pub single : reply_of w.n c o ≡ Reply.Double → ⊥

  module _ {callers : ℕ} {w : World} {x : State} {W : ℕ → Work p} (inv : Inv callers w x W) (c : ℕ)
      (lt : c < callers) (d : Doing p) (now_is : (W c).now ≡ does d) (doing : IsDoing d) where
    held : Holding w c (p.holds d.point)
    held = subst (λ (e : Now p). Holding w c (holds_at e)) now_is (inv.holding c)

    here : Local w c d.point d.decided
    here = subst (IsLocal w c) now_is (inv.local c lt)

    there_is : IsThere p left_by callers w c d.point
    there_is = is_there p left_by d.point lt inv.stands held

    module _ (o : Op) (t : Point) (asks : Asks p.with_number (p.step d.point) o (reply_of w.n c o) t) where
      abbrev MovesSo : Type 0
      MovesSo = Moves p left_by Rely Shared Local job_at c d.point d.decided x w o t

      moves : MovesSo
      moves = K.moves callers w c d.point d.decided x there_is inv.shared here o t asks

      module _ (m : MovesSo) where
        admitted : IsAdmitted p.globals w.n c o
        admitted = asked_admitted p left_by inv.stands c lt (p.holds d.point) (p.step d.point) (typed.steps d.point)
            held.holds o t asks

        left : Left w c o (p.holds d.point) (p.holds t)
        left =
            let state = state_of p left_by inv.stands c lt in
            leaves w c (p.holds d.point) (p.holds t) held.holds held.owner inv.stands.fits (λ r. sound state r)
            state.caller o (asks_way p w state (p.holds d.point) held.holds (p.step d.point) (typed.steps d.point) o t
            asks m.takes)

        abbrev w' : World
        w' = after p left_by w c o d.point t

        others_local : (k : ℕ) → k ≢ c → k < callers → (e : Now p) → Holding w k (holds_at e)
            → IsLocal w k e → IsLocal w' k e
        others_local k other below (clears xs) holding local = tt
        others_local k other below (does e) holding local =
            K.waits callers c k e.point e.decided w w' (λ f. other (sym f))
            (is_there p left_by e.point below inv.stands holding)
            (waits p left_by inv.stands c lt d.point o t admitted left k (λ f. other (sym f)) (λ a i. m.spares a i k))
            m.rely local

        decided : IsDecided left_by c d.run d.decided x m.decided m.state
        decided = decided_so c d.run (job_at d.point) d.decided x m.decided m.state doing.job m.decides

        module _ (y : Replied) (ys : List Replied) (rest_is : d.rest ≡ y ∷ ys) (leads : Leads p t ys d.goal) where
          abbrev work : Work p
          work = record {
            now = does (record { point = t; decided = m.decided; rest = ys; goal = d.goal; run = d.run });
            later = (W c).later;
          }

          -- what it still decides of its present job, with this operation
          once_so : (ds : List (Option (Ordered Job Done))) → IsOnce c work ds
              → IsOnce {p = p} c (record { now = does d; later = (W c).later }) (decided.decision ∷ ds)
          once_so ds once = record {
            agrees = decided.agrees once.agrees;
            first = subst (λ (r : List Replied). order_of (take (length r) (decided.decision ∷ ds))
                ≡ owed_by c d.run d.decided) (sym rest_is)
                (decided.first (take (length ys) ds) once.agrees once.first);
            later = subst (λ (r : List Replied). AreDecidedOnce c (W c).later (drop (length r) (decided.decision ∷ ds)))
                (sym rest_is) once.later;
          }

          stepped : Stepped callers w x W c o work
          stepped = record {
            world = w';
            after_it = refl;
            state = m.state;
            decision = decided.decision;
            left = decided.left;
            doing = record {
              leads = leads;
              goal = doing.goal;
              job = λ e. m.same_job e ∙ doing.job (undecided m.decides e);
            };
            once = λ ds once. subst (λ (e : Now p). IsOnce {p = p} c (record { now = e; later = (W c).later })
                (decided.decision ∷ ds)) (sym now_is) (once_so ds once);
            inv = record {
              stands = stands_on p left_by inv.stands c lt d.point o t admitted left;
              shared = m.shared;
              holding = put_by (λ (j : ℕ) (v : Work p). Holding w' j (holds_at v.now)) W c work
                  (holds_on p left_by inv.stands c lt d.point o t admitted left)
                  (λ j other. others_hold p left_by inv.stands c lt d.point o t admitted left j (λ f. other (sym f))
                  (holds_at (W j).now) (inv.holding j));
              local = put_by (λ (j : ℕ) (v : Work p). j < callers → IsLocal w' j v.now) W c work
                  (λ below. m.local) (λ j other below. others_local j other below (W j).now (inv.holding j)
                  (inv.local j below));
            };
            frees = left.frees;
            single = left.single;
          }

      -- Its caller goes on with its job.
      pub steps : (y : Replied) (ys : List Replied) → d.rest ≡ y ∷ ys → Leads p t ys d.goal
          → (v : Work p) × Stepped callers w x W c o v × (rest_of v.now ≡ ys) × (v.later ≡ (W c).later)
          × (IsAtJob v.now → c < callers)
      steps y ys rest_is leads = (work moves y ys rest_is leads, stepped moves y ys rest_is leads, refl, refl, λ at. lt)
