-- What an operation leaves to the callers that wait: what they have in registers, and what they own.
use Rattle.mk_never.proofs.{Edits.{left_at_by, if_by, set_by}, Later.{old_stays, op_stays}, Sameness.equal_from_same}
use Rattle.mk_jobs.proofs.Vocabulary.{Allocation, Asks, Fits, HasTypes, Hold, IfSome, IsAdmitted, IsOf, IsThere}
use Rattle.mk_jobs.proofs.Vocabulary.{IsTypedStep, List, NeverState, Null, Num, Op, Option, Plan, Ptr, Reply, Role}
use Rattle.mk_jobs.proofs.Vocabulary.{Step, StoresTo, Unborn, Value, Waits, World, after, after_free, after_op, ap}
use Rattle.mk_jobs.proofs.Vocabulary.{arith, cases_lt, false, inl, inr, is_same, length, no_allocation, op_of, refl}
use Rattle.mk_jobs.proofs.Vocabulary.{register_at, reply_of, subst, sym, target_of, true, with_word, word_at, words_of}
use Rattle.mk_jobs.proofs.{Vocabulary.{ℕ, ◌*◌, ◌<◌, ◌∙◌, ◌≡◌, ◌≢◌}, Holds.{HoldsIn, same_so}, Meeting.IsStateOf}
use Rattle.mk_jobs.proofs.{Stepping.admits, Owners.{IsOwner, LeavesRole, leaves_role, others_owner, own_unborn}}
use Rattle.mk_jobs.proofs.Left.{Left}
use Rattle.mk_never.proofs.{Registers.{destination, op_keeps as registers_keep}, TypedCalls.{op_keeps as types_keep}}
use Rattle.mk_jobs.specs.declared.steps.Step.TheVariants as step
use Rattle.mk_never.specs.declared.operations.Op.TheVariants as op

-- Words in which an operation stores nothing stay.
abbrev Same : NeverState → ℕ → NeverState → Type 0
Same n a m = words_of m a ≡ words_of n a

stored_apart : (n : NeverState) (a b i : ℕ) (v : Value) → (a ≡ b → ⊥) → Same n a (with_word n b i v)
stored_apart n a b i v other =
    set_by (λ x. x.words ≡ words_of n a) n.allocations b a _ no_allocation (λ e. absurd (other e)) refl

free_same : (n : NeverState) (a : ℕ) (v : Value) → Same n a (after_free n v)
free_same n a Null = refl
free_same n a (Num m) = refl
free_same n a (Ptr b ty offset) =
    set_by (λ x. x.words ≡ words_of n a) n.allocations b a _ no_allocation (λ e. rw e refl) refl

pub words_stay : (n : NeverState) (k : ℕ) (o : Op) (a : ℕ) → a < length n.allocations
    → ((i : ℕ) → StoresTo n k o a i → ⊥) → Same n a (after_op n k o)
words_stay n k (op.New d ty true) a lt spared = refl
words_stay n k (op.New d ty false) a lt spared = ap (λ (x : Allocation). x.words) (old_stays n ty a lt)
words_stay n k (op.Free r) a lt spared = free_same n a (register_at n k r)
words_stay n k (op.SetNum q i m) a lt spared =
    left_at_by (Same n a) (target_of n (register_at n k q) i) n _ refl
    (λ b j is. stored_apart n a b j (Num m) (λ e. spared j (rw e is)))
words_stay n k (op.SetPtr q i r) a lt spared =
    left_at_by (Same n a) (target_of n (register_at n k q) i) n _ refl
    (λ b j is. stored_apart n a b j (register_at n k r) (λ e. spared j (rw e is)))
words_stay n k (op.CasPtr q i x r) a lt spared =
    left_at_by (Same n a) (target_of n (register_at n k q) i) n _ refl
    (λ b j is. if_by (Same n a) (is_same (word_at n b j) (register_at n k x)) _ _
    (λ same. stored_apart n a b j (register_at n k r) (λ e. spared j (rw e (is, equal_from_same _ _ same))))
    (λ same. refl))
words_stay n k (op.GetPtr d q i) a lt spared =
    left_at_by (Same n a) (target_of n (register_at n k q) i) _ _ refl (λ b j is. refl)
words_stay n k _ a lt spared = refl

-- a world of a heap for these jobs
pub record Standing {Job Done Point : Type 0} (p : Plan Job Done Point) (callers : ℕ) (w : World) : Type 0 where
  pub typed : HasTypes p.globals w.n
  pub types : w.n.types ≡ p.types
  pub registers : length w.n.registers ≡ 8 * callers
  pub globals : length w.n.globals ≡ 64
  pub fits : (a : ℕ) → Fits w.n a (w.role a)

-- a caller in it, and what it has in its registers
pub record Holding (w : World) (k : ℕ) (hs : List Hold) : Type 0 where
  pub holds : HoldsIn (register_at w.n k) hs
  pub owner : IsOwner w.role k (register_at w.n k) hs

pub born_below : {n : NeverState} {a : ℕ} {r : Role} → Fits n a r → (r ≡ Unborn → ⊥) → a < length n.allocations
born_below {n} {a} fits born = elim (cases_lt a (length n.allocations)) [
  | inl lt ↦ lt
  | inr ge ↦ absurd (born (fits.unborn ge))
]

-- What holds of the operation of a step holds of the one that is asked, which may be refused.
asked_of : {Point Done : Type 0} (P : Op → Type 0) (f : Point → ℕ → Point) (st : Step Point Done) (r : Reply) (o : Op)
    (t : Point) → IfSome (op_of st) P → ((d ty : ℕ) → P (op.New d ty false) → P (op.New d ty true)) → Asks f st o r t
    → P o
asked_of P f (step.New d ty to full) r o t has refused asks = elim asks [
  | inl is ↦ subst P (sym is.0) has
  | inr is ↦ subst P (sym is.0) (refused d ty has)
]
asked_of P f (step.End done) r o t has refused asks = absurd asks
asked_of P f _ r o t has refused asks = subst P (sym asks.0) has

module _ {Job Done Point State : Type 0} (p : Plan Job Done Point) (left_by : State → Job → Done → Option State) where
  pub is_there : {callers : ℕ} {w : World} {k : ℕ} (s : Point) → k < callers → Standing p callers w
      → Holding w k (p.holds s) → IsThere p left_by callers w k s
  is_there s lt stands holding = record {
    exists = lt;
    typed = stands.typed;
    types = stands.types;
    registers = stands.registers;
    globals = stands.globals;
    fits = stands.fits;
    holds = holding.holds;
    privates = λ r a below private points. holding.owner.privates r a private points;
    owed = λ r a below owes points. holding.owner.owed r a owes points;
  }

  module _ {callers : ℕ} {w : World} (stands : Standing p callers w) (k : ℕ) (lt : k < callers) where
    pub state_of : IsStateOf p.types p.globals w.n k
    state_of = record {
      typed = stands.typed;
      types_are = stands.types;
      count = stands.globals;
      caller = omega (arith, lt, stands.registers);
    }

    pub asked_admitted : (hs : List Hold) (st : Step Point Done) → IsTypedStep p hs st → HoldsIn (register_at w.n k) hs
        → (o : Op) (t : Point) → Asks p.with_number st o (reply_of w.n k o) t → IsAdmitted p.globals w.n k o
    asked_admitted hs st typed h o t asks =
        asked_of (IsAdmitted p.globals w.n k) p.with_number st (reply_of w.n k o) o t (admits p state_of hs st typed h)
        (λ d ty it. record { of_a_caller = it.of_a_caller; in_range = it.in_range; access = tt; store = tt }) asks

    module _ (s : Point) (o : Op) (t : Point) (admitted : IsAdmitted p.globals w.n k o)
        (left : Left w k o (p.holds s) (p.holds t)) where
      abbrev w' : World
      w' = after p left_by w k o s t

      pub stands_on : Standing p callers w'
      stands_on =
          let on = op_stays w.n k o in
          record {
            typed = types_keep p.globals w.n k stands.typed o admitted.in_range admitted.access admitted.store;
            types = on.types ∙ stands.types;
            registers = on.registers ∙ stands.registers;
            globals = on.globals ∙ stands.globals;
            fits = left.fits;
          }

      pub holds_on : Holding w' k (p.holds t)
      holds_on = record { holds = left.holds; owner = left.owner }

      module _ (j : ℕ) (other : k ≢ j) where
        same_registers : (r : ℕ) → r < 8 → register_at w'.n j r ≡ register_at w.n j r
        same_registers = registers_keep w.n j k o other (destination w.n o admitted.in_range)

        roles_left : (a : ℕ) → LeavesRole j (w.role a) (w'.role a)
        roles_left a = leaves_role (w.role a) (w'.role a) (λ e. other (sym e)) (left.roles a)

        pub others_hold : (hs : List Hold) → Holding w j hs → Holding w' j hs
        others_hold hs holding = record {
          holds = same_so (register_at w.n j) (register_at w'.n j) hs same_registers holding.holds;
          owner = others_owner roles_left same_registers holding.owner;
        }

        pub waits : ((a i : ℕ) → StoresTo w.n k o a i → IsOf j (w.role a) → j ≡ k) → Waits j w w'
        waits spares = record {
          registers = same_registers;
          own = λ a own. (
            (roles_left a).own own,
            words_stay w.n k o a (born_below (stands.fits a) (own_unborn j (w.role a) own))
                (λ i stores. other (sym (spares a i stores own))),
          );
          shown = λ a. (roles_left a).shown;
          types = λ a lt. (op_stays w.n k o).ty a lt;
        }
