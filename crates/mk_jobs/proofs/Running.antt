-- One operation before all later ones: the order of the jobs, and that each is decided once.
use Rattle.mk_jobs.proofs.Vocabulary.{AreJobRuns, Call, Fits, IsTyped, JobRun, Keeps, List, NeverState, NoneIsDouble}
use Rattle.mk_jobs.proofs.Vocabulary.{Op, Option, Ordered, Plan, Private, Replied, Role, Some, Taken, World}
use Rattle.mk_jobs.proofs.Vocabulary.{after_calls, all_of, ap, arith, bit, left_by_all, length, order_of, own_decisions}
use Rattle.mk_jobs.proofs.Vocabulary.{own_replied, replies_of, reply_of, subst, suc, sym, times_freed, ℕ, ◌++◌, ◌+◌}
use Rattle.mk_jobs.proofs.{Vocabulary.{◌<◌, ◌∙◌, ◌∷◌, ◌≡◌}, Allocations.is_gone, Callers.{cons_tail, decision_of_other}}
use Rattle.mk_jobs.proofs.{Callers.{mine, my_decision, of_other, put, put_back, put_by}, Owing.{IsOnce, Work}}
use Rattle.mk_jobs.proofs.{Owing.{explained_more, rest_of}, Interleaving.{Inv, IsWork, Stepped}}

module _ {Job Done Point State : Type 0} {p : Plan Job Done Point} {left_by : State → Job → Done → Option State}
    {first : State} {content : NeverState → List ℕ → State → Type 0} {Shared : World → State → Type 0}
    {Local : World → ℕ → Point → Option Done → Type 0} {Rely : ℕ → World → World → Type 0} {job_at : Point → Option Job}
    (typed : IsTyped p) (K : Keeps p left_by first content Shared Local Rely job_at) where
  -- what is so when all have done all: no caller owns anything
  pub record AtEnd (n : NeverState) (x : State) : Type 0 where
    pub role : ℕ → Role
    pub shared : Shared (record { n = n; role = role }) x
    pub fits : (a : ℕ) → Fits n a (role a)
    pub private : (k a : ℕ) → role a ≡ Private k → ⊥
    pub taken : (k a : ℕ) → role a ≡ Taken k → ⊥

  -- what all operations leave
  pub record Ran (w : World) (x : State) (W : ℕ → Work p) (calls : List Call) : Type 0 where
    pub left : State
    pub end : AtEnd (after_calls w.n calls) left
    pub decisions : List (Option (Ordered Job Done))
    pub one_each : length decisions ≡ length calls
    pub explained : left_by_all left_by x (order_of decisions) ≡ Some left
    pub once : (k : ℕ) → IsOnce k (W k) (own_decisions k calls decisions)
    pub frees : (a : ℕ) → bit (is_gone (end.role a)) ≡ bit (is_gone (w.role a)) + times_freed a w.n calls
    pub single : NoneIsDouble (replies_of w.n calls)

  abbrev pub AllWork : ℕ → NeverState → List Call → (ℕ → Work p) → Type 0
  AllWork callers n calls W = (k : ℕ) → IsWork typed K callers n calls k (W k)

  -- what all operations leave, from wherever they begin
  abbrev pub RunsOn : ℕ → List Call → Type 0
  RunsOn callers calls =
      (w : World) (x : State) (W : ℕ → Work p) → Inv typed K callers w x W → AllWork callers w.n calls W
      → Ran w x W calls

  module _ {callers : ℕ} {w : World} {x : State} {W : ℕ → Work p} (c : ℕ) (o : Op) (xs : List Call)
      (lt : c < callers) (works : AllWork callers w.n (record { caller = c; op = o } ∷ xs) W) {v : Work p}
      (stepped : Stepped typed K callers w x W c o v) (y : Replied)
      (rest_is : rest_of (W c).now ≡ y ∷ rest_of v.now) (later_is : v.later ≡ (W c).later) where
    abbrev n : NeverState
    n = stepped.world.n

    abbrev call : Call
    call = record { caller = c; op = o }

    own_is : record { op = o; reply = reply_of w.n c o } ∷ own_replied c n xs
        ≡ y ∷ (rest_of v.now ++ all_of (W c).later)
    own_is =
        ap (λ (m : NeverState). record { op = o; reply = reply_of w.n c o } ∷ own_replied c m xs) stepped.after_it
        ∙ sym (mine c o w.n xs) ∙ (works c).own ∙ ap (λ (r : List Replied). r ++ all_of (W c).later) rest_is

    works_on : AllWork callers n xs (put W c v)
    works_on = put_by (λ (j : ℕ) (u : Work p). IsWork typed K callers n xs j u) W c v (record {
      own = cons_tail _ y (own_replied c n xs) (rest_of v.now ++ all_of (W c).later) own_is
          ∙ ap (λ (js : List (JobRun Job Done)). rest_of v.now ++ all_of js) (sym later_is);
      doing = stepped.doing;
      later = subst (AreJobRuns p) (sym later_is) (works c).later;
      exists = λ at. lt;
    }) (λ j other. record {
      own = ap (λ (m : NeverState). own_replied j m xs) stepped.after_it ∙ sym (of_other j c o w.n xs other)
          ∙ (works j).own;
      doing = (works j).doing;
      later = (works j).later;
      exists = (works j).exists;
    })

    module _ (ran : Ran stepped.world stepped.state (put W c v) xs) where
      abbrev decisions : List (Option (Ordered Job Done))
      decisions = stepped.decision ∷ ran.decisions

      once_each : (k : ℕ) → IsOnce k (W k) (own_decisions k (call ∷ xs) decisions)
      once_each =
          put_back (λ (k : ℕ) (u : Work p). IsOnce k u (own_decisions k xs ran.decisions))
          (λ (k : ℕ) (u : Work p). IsOnce k u (own_decisions k (call ∷ xs) decisions)) W c v
          (λ once. subst (IsOnce c (W c)) (sym (my_decision c o xs stepped.decision ran.decisions))
          (stepped.once (own_decisions c xs ran.decisions) once)) (λ k other once. subst (IsOnce k (W k))
          (sym (decision_of_other k c o xs stepped.decision ran.decisions other)) once) ran.once

      pub ran_on : Ran w x W (call ∷ xs)
      ran_on = record {
        left = ran.left;
        end = subst (λ (m : NeverState). AtEnd (after_calls m xs) ran.left) stepped.after_it ran.end;
        decisions = decisions;
        one_each = ap suc ran.one_each;
        explained = explained_more left_by stepped.decision x stepped.state ran.left ran.decisions stepped.left
            ran.explained;
        once = once_each;
        frees = λ a. omega (
          arith,
          ran.frees a,
          stepped.frees a,
          ap (λ (m : NeverState). times_freed a m xs) stepped.after_it,
        );
        single = (
          stepped.single,
          subst (λ (m : NeverState). NoneIsDouble (replies_of m xs)) stepped.after_it ran.single,
        );
      }

    pub goes_on : RunsOn callers xs → Ran w x W (call ∷ xs)
    goes_on run = ran_on (run stepped.world stepped.state (put W c v) stepped.inv works_on)
