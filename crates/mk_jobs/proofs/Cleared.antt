-- What is left where a caller that is at no job sets a register to null.
use Rattle.mk_jobs.proofs.Vocabulary.{AreClears, Covers, Hold, IsClear, IsTyped, Keeps, List, NeverState, None, Op}
use Rattle.mk_jobs.proofs.Vocabulary.{Option, Ordered, Plan, Replied, Role, Value, World, [], after_op, arith, refl}
use Rattle.mk_jobs.proofs.{Vocabulary.{register_at, subst, sym, there, ℕ, ◌<◌, ◌∙◌, ◌∷◌, ◌≡◌, ◌≢◌}, Holds.same_so}
use Rattle.mk_jobs.proofs.Owners.{IsOwner, idle_owner, nothing_idle, others_owner, unmoved}
use Rattle.mk_jobs.proofs.{Allocations.{fits_pass, quiet_keeps}, Left.same_owner, Waiting.{Holding, Standing, is_there}}
use Rattle.mk_jobs.proofs.{Callers.put_by, Owing.{IsOnce, Now, Work, clears, does, holds_at}}
use Rattle.mk_jobs.proofs.Interleaving.{Inv, IsLocal, Stepped}
use Rattle.mk_never.proofs.{Later.op_stays, Registers.{op_keeps as registers_keep}, TypedCalls.{op_keeps as types_keep}}
use Rattle.mk_never.specs.declared.operations.Op.TheVariants as op

pub record IsClearing (o : Op) : Type 0 where
  pub d : ℕ
  pub is : o ≡ op.Clear d
  pub below : d < 8

pub is_clearing : (o : Op) → IsClear o → IsClearing o
is_clearing (op.Clear d) lt = record { d = d; is = refl; below = lt }
is_clearing _ lt = absurd lt

-- Its caller owns nothing, before and after it.
pub none_holding : {k : ℕ} {role : ℕ → Role} {v : ℕ → Value} → IsOwner role k v [] → (w' : World)
    → ((a : ℕ) → w'.role a ≡ role a) → Holding w' k []
none_holding {k = k} owner w' same = record {
  holds = λ r lt. tt;
  owner = same_owner same (idle_owner (register_at w'.n k) [] nothing_idle nothing_idle owner);
}

module _ {Job Done Point State : Type 0} {p : Plan Job Done Point} {left_by : State → Job → Done → Option State}
    {first : State} {content : NeverState → List ℕ → State → Type 0} {Shared : World → State → Type 0}
    {Local : World → ℕ → Point → Option Done → Type 0} {Rely : ℕ → World → World → Type 0} {job_at : Point → Option Job}
    (typed : IsTyped p) (K : Keeps p left_by first content Shared Local Rely job_at) where
  module _ {callers : ℕ} {w : World} {x : State} {W : ℕ → Work p} (inv : Inv typed K callers w x W)
      (c : ℕ) (lt : c < callers) (d : ℕ) (below : d < 8) (y : Replied) (ys : List Replied)
      (now_is : (W c).now ≡ clears (y ∷ ys)) (are : AreClears ys) where
    abbrev o : Op
    o = op.Clear d

    abbrev w' : World
    w' = record { n = after_op w.n c o; role = w.role }

    covers : Covers w w'
    covers = record {
      globals = λ g. refl;
      words = λ a shown. refl;
      types = λ a shown. refl;
      public = λ a is. is;
      still = λ a is. is;
      shown = λ a shown. shown;
      stays = λ a shown. shown;
    }

    both : Shared w' x × Rely c w w'
    both = K.covers c x w w' covers inv.shared

    stands : Standing p callers w'
    stands =
        let on = op_stays w.n c o in
        record {
          typed = types_keep p.globals w.n c inv.stands.typed o below tt tt;
          types = inv.stands.types;
          registers = on.registers ∙ inv.stands.registers;
          globals = inv.stands.globals;
          fits = λ a. fits_pass {k = c} (unmoved refl) (quiet_keeps w.n c o refl) (inv.stands.fits a);
        }

    registers_stay : (k : ℕ) → k ≢ c → (r : ℕ) → r < 8 → register_at w'.n k r ≡ register_at w.n k r
    registers_stay k other = registers_keep w.n k c o (λ f. other (sym f)) below

    others_hold : (k : ℕ) → k ≢ c → (hs : List Hold) → Holding w k hs → Holding w' k hs
    others_hold k other hs holding = record {
      holds = same_so (register_at w.n k) (register_at w'.n k) hs (registers_stay k other) holding.holds;
      owner = others_owner (λ a. record { own = λ own. refl; before = λ own. refl; shown = λ shown. shown })
          (registers_stay k other) holding.owner;
    }

    others_local : (k : ℕ) → k ≢ c → k < callers → (e : Now p) → Holding w k (holds_at e)
        → IsLocal typed K w k e → IsLocal typed K w' k e
    others_local k other there (clears xs) holding local = tt
    others_local k other there (does e) holding local =
        K.waits callers c k e.point e.decided w w' (λ f. other (sym f))
        (is_there p left_by e.point there inv.stands holding) (record {
          registers = registers_stay k other;
          own = λ a own. (refl, refl);
          shown = λ a shown. shown;
          types = λ a there. refl;
        }) both.1 local

    mine_holding : Holding w c []
    mine_holding = subst (λ (e : Now p). Holding w c (holds_at e)) now_is (inv.holding c)

    abbrev work : Work p
    work = record { now = clears ys; later = (W c).later }

    once_so : (ds : List (Option (Ordered Job Done))) → IsOnce c work ds
        → IsOnce {p = p} c (record { now = clears (y ∷ ys); later = (W c).later }) (None ∷ ds)
    once_so ds once = record { agrees = tt; first = once.first; later = once.later }

    -- Its caller has one thing less to do.
    pub clears_one : Stepped typed K callers w x W c o work
    clears_one = record {
      world = w';
      after_it = refl;
      state = x;
      decision = None;
      left = refl;
      doing = are;
      once = λ ds once. subst (λ (e : Now p). IsOnce {p = p} c (record { now = e; later = (W c).later })
          (None ∷ ds)) (sym now_is) (once_so ds once);
      inv = record {
        stands = stands;
        shared = both.0;
        holding = put_by (λ (j : ℕ) (v : Work p). Holding w' j (holds_at v.now)) W c work
            (none_holding mine_holding.owner w' (λ a. refl))
            (λ j other. others_hold j other (holds_at (W j).now) (inv.holding j));
        local = put_by (λ (j : ℕ) (v : Work p). j < callers → IsLocal typed K w' j v.now) W c work
            (λ there. tt) (λ j other there. others_local j other there (W j).now (inv.holding j) (inv.local j there));
      };
      frees = λ a. omega arith;
      single = λ double. (cc double);
    }
