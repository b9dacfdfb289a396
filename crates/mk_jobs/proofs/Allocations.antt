-- Each allocation stays as its role says.
use Rattle.std.proofs.lemmas.List.{get_or_at}
use Rattle.mk_never.proofs.{Edits.{freed_exists, set_by}, Later.old_stays}
use Rattle.mk_jobs.proofs.Vocabulary.{Allocation, Bool, Fits, Gone, IsSound, List, NeverState, Nothing, Null, Num, Op}
use Rattle.mk_jobs.proofs.Vocabulary.{Private, Ptr, Public, Reply, Role, Taken, Target, Unborn, Unmapped, Value, WordOf}
use Rattle.mk_jobs.proofs.Vocabulary.{[], after_free, after_op, allocation_at, ap, arith, cases_eq, cond, eq-eqb, false}
use Rattle.mk_jobs.proofs.Vocabulary.{false≢true, freed_by, get_or, get_or-set_other, get_or-set_same, if◌then◌else◌}
use Rattle.mk_jobs.proofs.Vocabulary.{inl, inr, is_pointer_to, is_same, lea_reply, left_at, length, length-append}
use Rattle.mk_jobs.proofs.Vocabulary.{length-set, ne_eqb, no_allocation, refl, register_at, reply_at, reply_of, subst}
use Rattle.mk_jobs.proofs.Vocabulary.{sym, target_of, true, with_freed, with_new, with_register, with_word, word_at, ℕ}
use Rattle.mk_jobs.proofs.{Vocabulary.{◌+◌, ◌==◌, ◌∙◌, ◌≡◌, ◌≢◌, ◌⊎◌}, Owners.{RolePasses, publishes, takes_out}}
use Rattle.mk_jobs.proofs.{Owners.unmoved, Ways.is_quiet}
use Rattle.mk_never.specs.declared.operations.Op.TheVariants as op

abbrev pub is_gone : Role → Bool
is_gone Gone = true
is_gone _ = false

-- the same allocations, and freed ones
pub record KeepsFreed (n m : NeverState) : Type 0 where
  pub count : length m.allocations ≡ length n.allocations
  pub freed : (a : ℕ) → (allocation_at m a).freed ≡ (allocation_at n a).freed

word_keeps : (n : NeverState) (b i : ℕ) (v : Value) → KeepsFreed n (with_word n b i v)
word_keeps n b i v = record {
  count = length-set _ _ _;
  freed = λ a. set_by (λ x. x.freed ≡ (allocation_at n a).freed) n.allocations b a _ no_allocation (λ e. rw e refl)
      refl;
}

all_keep : (n : NeverState) → KeepsFreed n n
all_keep n = record { count = refl; freed = λ a. refl }

access_keeps : (n : NeverState) (t : Target) (m : NeverState) (at : ℕ → ℕ → NeverState) → KeepsFreed n m
    → ((a i : ℕ) → KeepsFreed n (at a i)) → KeepsFreed n (left_at t m at)
access_keeps n Nothing m at refused reached = refused
access_keeps n Unmapped m at refused reached = refused
access_keeps n (WordOf a i) m at refused reached = reached a i

chosen_keeps : (b : Bool) (n : NeverState) (a i : ℕ) (v : Value) → KeepsFreed n (if b then with_word n a i v else n)
chosen_keeps true n a i v = word_keeps n a i v
chosen_keeps false n a i v = all_keep n

pub quiet_keeps : (n : NeverState) (k : ℕ) (o : Op) → is_quiet o ≡ true → KeepsFreed n (after_op n k o)
quiet_keeps n k (op.New d ty true) e = all_keep n
quiet_keeps n k (op.New d ty false) e = absurd (false≢true e)
quiet_keeps n k (op.Free r) e = absurd (false≢true e)
quiet_keeps n k (op.SetNum q i m) e =
    access_keeps n (target_of n (register_at n k q) i) n _ (all_keep n) (λ a j. word_keeps n a j (Num m))
quiet_keeps n k (op.GetPtr d q i) e =
    access_keeps n (target_of n (register_at n k q) i) (with_register n k d Null) (λ a j. with_register n k d
    (word_at n a j)) (record { count = refl; freed = λ a. refl }) (λ b j. record { count = refl; freed = λ a. refl })
quiet_keeps n k (op.SetPtr q i r) e =
    access_keeps n (target_of n (register_at n k q) i) n _ (all_keep n) (λ a j. word_keeps n a j (register_at n k r))
quiet_keeps n k (op.CasPtr q i x r) e =
    access_keeps n (target_of n (register_at n k q) i) n _ (all_keep n)
    (λ a j. chosen_keeps (is_same (word_at n a j) (register_at n k x)) n a j (register_at n k r))
quiet_keeps n k _ e = record { count = refl; freed = λ a. refl }

pub quiet_frees_none : (a : ℕ) (n : NeverState) (k : ℕ) (o : Op) → is_quiet o ≡ true → freed_by a n k o ≡ 0
quiet_frees_none a n k (op.Free r) e = absurd (false≢true e)
quiet_frees_none a n k _ e = refl

access_single : (t : Target) (at : ℕ → ℕ → Reply) → ((a i : ℕ) → at a i ≡ Reply.Double → ⊥)
    → reply_at t at ≡ Reply.Double → ⊥
access_single Nothing at single e = cc
access_single Unmapped at single e = cc
access_single (WordOf a i) at single e = single a i e

pub quiet_single : (n : NeverState) (k : ℕ) (o : Op) → is_quiet o ≡ true → reply_of n k o ≡ Reply.Double → ⊥
quiet_single n k (op.New d ty true) e double = cc
quiet_single n k (op.New d ty false) e double = cc
quiet_single n k (op.Free r) e double = false≢true e
quiet_single n k (op.GetNum q i) e double = access_single (target_of n (register_at n k q) i) _ (λ a j f. (cc f)) double
quiet_single n k (op.SetNum q i m) e double =
    access_single (target_of n (register_at n k q) i) _ (λ a j f. (cc f)) double
quiet_single n k (op.GetPtr d q i) e double =
    access_single (target_of n (register_at n k q) i) _ (λ a j f. (cc f)) double
quiet_single n k (op.SetPtr q i r) e double =
    access_single (target_of n (register_at n k q) i) _ (λ a j f. (cc f)) double
quiet_single n k (op.CasPtr q i x r) e double =
    access_single (target_of n (register_at n k q) i) _ (λ a j f. (cc f)) double
quiet_single n k (op.Lea d q i) e double = by (register_at n k q) double
  where
    by : (v : Value) → lea_reply v ≡ Reply.Double → ⊥
    by Null f = cc
    by (Num m) f = cc
    by (Ptr a ty offset) f = cc
quiet_single n k _ e double = cc

-- A role that passes on fits where allocations stay.
pub fits_pass : {k a : ℕ} {r r' : Role} {n m : NeverState} → RolePasses k r r' → KeepsFreed n m → Fits n a r
    → Fits m a r'
fits_pass {a = a} {r = r} {r' = r'} {n = n} {m = m} (unmoved is) keeps fits = record {
  unborn = λ ge. is ∙ fits.unborn (omega (arith, ge, keeps.count));
  born = λ lt e. fits.born (omega (arith, lt, keeps.count)) (sym is ∙ e);
  freed = λ e. is ∙ fits.freed (sym (keeps.freed a) ∙ e);
  gone = λ e. keeps.freed a ∙ fits.gone (sym is ∙ e);
}
fits_pass {a = a} {r = r} {r' = r'} {n = n} {m = m} (publishes was is) keeps fits = record {
  unborn = λ ge. absurd (let e : Private _ ≡ Unborn = sym was ∙ fits.unborn (omega (arith, ge, keeps.count)) in cc e);
  born = λ lt e. (let f : Public ≡ Unborn = sym is ∙ e in cc f);
  freed = λ e. absurd (let f : Private _ ≡ Gone = sym was ∙ fits.freed (sym (keeps.freed a) ∙ e) in cc f);
  gone = λ e. absurd (let f : Public ≡ Gone = sym is ∙ e in cc f);
}
fits_pass {k = k} {a = a} {r = r} {r' = r'} {n = n} {m = m} (takes_out was is) keeps fits = record {
  unborn = λ ge. absurd (let e : Public ≡ Unborn = sym was ∙ fits.unborn (omega (arith, ge, keeps.count)) in cc e);
  born = λ lt e. (let f : Taken k ≡ Unborn = sym is ∙ e in cc f);
  freed = λ e. absurd (let f : Public ≡ Gone = sym was ∙ fits.freed (sym (keeps.freed a) ∙ e) in cc f);
  gone = λ e. absurd (let f : Taken k ≡ Gone = sym is ∙ e in cc f);
}

pub gone_passes : {k : ℕ} {r r' : Role} → RolePasses k r r' → is_gone r' ≡ is_gone r
gone_passes (unmoved is) = ap is_gone is
gone_passes (publishes was is) = rw was (rw is refl)
gone_passes (takes_out was is) = rw was (rw is refl)

-- A new object
pub fits_new : (n m : NeverState) (ty k a : ℕ) (r : Role) → m.allocations ≡ (with_new n ty).allocations → Fits n a r
    → Fits m a (if a == length n.allocations then Private k else r)
fits_new n m ty k a r are fits = by (cases_eq a (length n.allocations))
  where
    count : length m.allocations ≡ length n.allocations + 1
    count = ap length are ∙ length-append _ _

    there : allocation_at m a ≡ allocation_at (with_new n ty) a
    there = ap (λ (xs : List Allocation). get_or xs a no_allocation) are

    by : ((a ≡ length n.allocations) ⊎ (a ≢ length n.allocations))
        → Fits m a (if a == length n.allocations then Private k else r)
    by (inl e) =
        subst (Fits m a) (ap (λ (b : Bool). cond b (Private k) r) (sym (eq-eqb a (length n.allocations) e))) (record {
          unborn = λ ge. absurd (omega (arith, ge, count, e));
          born = λ lt f. (cc f);
          freed = λ f. absurd (false≢true (sym (ap (λ (x : Allocation). x.freed) (there
              ∙ get_or_at n.allocations _ [] no_allocation a (sym e))) ∙ f));
          gone = λ f. absurd (cc f);
        })
    by (inr ne) =
        subst (Fits m a) (ap (λ (b : Bool). cond b (Private k) r) (sym (ne_eqb a (length n.allocations) ne))) (record {
          unborn = λ ge. fits.unborn (omega (arith, ge, count));
          born = λ lt. fits.born (omega (arith, lt, count, ne));
          freed = λ f. let lt = freed_exists m a f in
              fits.freed (sym (ap (λ (x : Allocation). x.freed) (there
              ∙ old_stays n ty a (omega (arith, lt, count, ne)))) ∙ f);
          gone = λ f. let g = fits.gone f in
              ap (λ (x : Allocation). x.freed) (there ∙ old_stays n ty a (freed_exists n a g)) ∙ g;
        })

-- and one that is freed
pub fits_free : (n : NeverState) (v : Value) (a : ℕ) (r : Role) → IsSound n v → Fits n a r
    → Fits (after_free n v) a (if is_pointer_to a v then Gone else r)
fits_free n Null a r is_sound fits = fits
fits_free n (Num m) a r is_sound fits = absurd is_sound
fits_free n (Ptr b ty offset) a r is_sound fits = by (cases_eq b a)
  where
    count : length (with_freed n b).allocations ≡ length n.allocations
    count = length-set _ _ _

    by : ((b ≡ a) ⊎ (b ≢ a)) → Fits (with_freed n b) a (if b == a then Gone else r)
    by (inl e) =
        subst (Fits (with_freed n b) a) (ap (λ (x : Bool). cond x Gone r) (sym (eq-eqb b a e))) (record {
          unborn = λ ge. absurd (omega (arith, ge, count, e, is_sound.0));
          born = λ lt f. (cc f);
          freed = λ f. refl;
          gone = λ f. rw (sym e) (ap (λ (x : Allocation). x.freed)
              (get_or-set_same n.allocations b _ no_allocation is_sound.0));
        })
    by (inr ne) =
        let same : allocation_at (with_freed n b) a ≡ allocation_at n a =
        get_or-set_other n.allocations b a _ no_allocation (λ f. ne (sym f)) in
        subst (Fits (with_freed n b) a) (ap (λ (x : Bool). cond x Gone r) (sym (ne_eqb b a ne))) (record {
          unborn = λ ge. fits.unborn (omega (arith, ge, count));
          born = λ lt. fits.born (omega (arith, lt, count));
          freed = λ f. fits.freed (ap (λ (x : Allocation). x.freed) (sym same) ∙ f);
          gone = λ f. ap (λ (x : Allocation). x.freed) same ∙ fits.gone f;
        })
