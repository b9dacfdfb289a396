-- What isn't reached stays so: operations get their pointers from places that are reached.
use Rattle.std.proofs.Common.{Bool, IsTrue, List, ℕ, arith, false, get_or, inl, inr, length, length-set, map, nat_lt}
use Rattle.std.proofs.Common.{set, subst, suc, sym, true, zero, [], ◌&&◌, ◌*◌, ◌++◌, ◌+◌, ◌<◌, ◌∷◌, ◌≡◌, ◌⊎◌}
use Rattle.std.proofs.lemmas.List.{get_or_past}
use Rattle.mk_never.proofs.{Edits.{if_by, left_at_by, set_by}, Later.op_stays, Reached.reached_is_in}
use Rattle.mk_never.specs.NeverHeap.{Allocation, Call, NeverState, after_free, after_op, allocation_at, grants_object}
use Rattle.mk_never.specs.NeverHeap.{is_unmapped, left_at, moved_on, no_allocation, register_at, with_global, with_new}
use Rattle.mk_never.specs.{NeverHeap.{with_register, with_word, word_at, words_of}, declared.values.Value.Value}
use Rattle.mk_never.specs.Laws.{AccessIsToReached, IsReachable, LeadsTo, ReachGrowsByGrants, UnreachedStays}
use Rattle.mk_never.specs.{Laws.{WordLeadsTo, by_global, by_register, by_word}, Types.{kinds_of, zero_of, zero_words}}
use Rattle.mk_never.specs.declared.operations.Op.{Op, TheVariants.{CasPtr, Clear, Free}}
use Rattle.mk_never.specs.declared.operations.Op.TheVariants.{GetGlobal, GetPtr, Lea, Move, New, SetGlobal, SetNum}
use Rattle.mk_never.specs.declared.{operations.Op.TheVariants.SetPtr, values.Value.TheVariants.{Null, Num}}
use Rattle.mk_never.specs.{declared.{values.Value.TheVariants.Ptr, types.Kind.Kind}, Laws.{Continues, Reaches}}
use Rattle.mk_never.specs.declared.values.Target.{Target, TheVariants.WordOf}
use Rattle.mk_never.specs.declared.types.Kind.TheVariants.{Num as Number, To}

-- The value leads only to what is reached.
abbrev LeadsToReached : NeverState → Value → Type 0
LeadsToReached n v = (number : ℕ) → LeadsTo v number → IsReachable n number

-- Nothing is reached in m but what is in n.
abbrev ReachesNoMore : NeverState → NeverState → Type 0
ReachesNoMore n m = (number : ℕ) → IsReachable m number → IsReachable n number

-- what holds of the appended element and of what stood at the place holds of what stands there
push_keeps : {A : Type 0} (P : A → Type 0) (xs : List A) (x d : A) (k : ℕ) → P x → P (get_or xs k d)
    → P (get_or (xs ++ x ∷ []) k d)
push_keeps P [] x d zero new old = new
push_keeps P [] x d (suc k) new old = old
push_keeps P (y ∷ xs) x d zero new old = old
push_keeps P (y ∷ xs) x d (suc k) new old = push_keeps P xs x d k new old

-- zero words lead nowhere
zeros_lead_nowhere : (kinds : List Kind) (place number : ℕ) → LeadsTo (get_or (map zero_of kinds) place Null) number → ⊥
zeros_lead_nowhere [] place number leads = leads
zeros_lead_nowhere (Number ∷ kinds) zero number leads = leads
zeros_lead_nowhere (To ty offset ∷ kinds) zero number leads = leads
zeros_lead_nowhere (kind ∷ kinds) (suc place) number leads = zeros_lead_nowhere kinds place number leads

-- an access gets to a word of the allocation that its pointer leads to, which isn't unmapped
target_leads : (n : NeverState) (v : Value) (i number place : ℕ) → Reaches n v i number place
    → LeadsTo v number × (is_unmapped (allocation_at n number) ≡ false)
target_leads n x1 i number place reaches = grind (arith, if_by)

-- a large allocation that was not unmapped before it was freed
was_mapped : (freed large : Bool) → (true && large) ≡ false → (freed && large) ≡ false
was_mapped x0 large h = grind arith

module _ (n : NeverState) where
  register_leads : (k : ℕ) → LeadsToReached n (get_or n.registers k Null)
  register_leads k number leads = by_register k number leads

  word_leads : (v : Value) (i a w : ℕ) → LeadsToReached n v → Reaches n v i a w → LeadsToReached n (word_at n a w)
  word_leads v i a w only reaches number leads =
      let target = target_leads n v i a w reaches in by_word a w number (only a target.0) (target.1, leads)

  moved_leads : (v : Value) (i : ℕ) → LeadsToReached n v → LeadsToReached n (moved_on v i)
  moved_leads x0 i only = grind arith

  register_adds_none : (c d : ℕ) (v : Value) → LeadsToReached n v → ReachesNoMore n (with_register n c d v)
  register_adds_none c d v only = reached_is_in (with_register n c d v) (IsReachable n)
      record {
        registers = λ k number. set_by (λ x. LeadsTo x number
            → IsReachable n number) n.registers (8 * c + d) k v Null (λ e. only number) (by_register k number);
        globals = by_global;
        words = by_word;
      }

  global_adds_none : (g : ℕ) (v : Value) → LeadsToReached n v → ReachesNoMore n (with_global n g v)
  global_adds_none g v only = reached_is_in (with_global n g v) (IsReachable n)
      record {
        registers = by_register;
        globals = λ k number. set_by (λ x. LeadsTo x number
            → IsReachable n number) n.globals g k v Null (λ e. only number) (by_global k number);
        words = by_word;
      }

  -- if the words of the allocation that a pointer leads to lead only to what is reached
  allocation_adds_none : (a : ℕ) (b : Allocation)
      → ((place number : ℕ) → IsReachable n a → is_unmapped b ≡ false → LeadsTo (get_or b.words place Null) number
      → IsReachable n number) → ReachesNoMore n (record n { allocations = set n.allocations a b })
  allocation_adds_none a b led = reached_is_in (record n { allocations = set n.allocations a b }) (IsReachable n)
      record {
        registers = by_register;
        globals = by_global;
        words = λ from place number reached leads.
            set_by (λ x. is_unmapped x ≡ false → LeadsTo (get_or x.words place Null) number
            → IsReachable n number) n.allocations a from b no_allocation
            (λ e. led place number (subst (λ k. IsReachable n k) e reached))
            (λ mapped leads'. by_word from place number reached (mapped, leads')) leads.0 leads.1;
      }

  word_adds_none : (a w : ℕ) (v : Value) → LeadsToReached n v → ReachesNoMore n (with_word n a w v)
  word_adds_none a w v only = allocation_adds_none a _ (λ place number reached mapped.
      set_by (λ x. LeadsTo x number → IsReachable n number) (words_of n a) w place v Null (λ e. only number)
      (λ leads. by_word a place number reached
      (subst (λ l. ((allocation_at n a).freed && nat_lt 32 l) ≡ false) (length-set (words_of n a) w v) mapped, leads)))

  free_adds_none : (v : Value) → ReachesNoMore n (after_free n v)
  free_adds_none Null = λ number reached. reached
  free_adds_none (Num m) = λ number reached. reached
  free_adds_none (Ptr a ty offset) = allocation_adds_none a _ (λ place number reached mapped leads.
      by_word a place number reached (was_mapped _ _ mapped, leads))

  -- A New's allocation and what was reached have the pointers after it.
  abbrev IsReachedOrNew : ℕ → Type 0
  IsReachedOrNew number = IsReachable n number ⊎ (number ≡ length n.allocations)

  new_adds_one : (c d ty number : ℕ)
      → IsReachable (with_register (with_new n ty) c d (Ptr (length n.allocations) ty 0)) number → IsReachedOrNew number
  new_adds_one c d ty =
      reached_is_in (with_register (with_new n ty) c d (Ptr (length n.allocations) ty 0)) IsReachedOrNew
      record {
        registers = λ k number. set_by (λ x. LeadsTo x number
            → IsReachedOrNew number) n.registers (8 * c + d) k (Ptr (length n.allocations) ty 0) Null
            (λ e new. inr (sym new)) (λ leads. inl (by_register k number leads));
        globals = λ g number leads. inl (by_global g number leads);
        words = λ from place number old leads.
            push_keeps (λ b. is_unmapped b ≡ false → LeadsTo (get_or b.words place Null) number
            → IsReachedOrNew number) n.allocations
            record { ty = ty; words = zero_words (kinds_of n.types ty); freed = false } no_allocation from
            (λ mapped leads'. absurd (zeros_lead_nowhere (kinds_of n.types ty) place number leads'))
            (λ mapped leads'. elim old [
              | inl reached ↦ inl (by_word from place number reached (mapped, leads'))
              | inr new ↦ grind (arith, get_or_past)
            ]) leads.0 leads.1;
      } where
        old_word : (from place number : ℕ) → IsReachedOrNew from → WordLeadsTo n from place number
            → IsReachedOrNew number
        old_word from place number (inl reached) leads = inl (by_word from place number reached leads)
        old_word from place number (inr new) leads = grind (arith, get_or_past)

-- an access reaches no more if what it leaves at the word that it gets to doesn't
access_adds_none : (n : NeverState) (t : Target) (refused : NeverState) (at : ℕ → ℕ → NeverState)
    → ReachesNoMore n refused → ((number place : ℕ) → t ≡ WordOf number place → ReachesNoMore n (at number place))
    → ReachesNoMore n (left_at t refused at)
access_adds_none n t refused at kept got = left_at_by (λ m. ReachesNoMore n m) t refused at kept got

same_adds_none : (n : NeverState) → ReachesNoMore n n
same_adds_none n number reached = reached

null_leads : (n : NeverState) → LeadsToReached n Null
null_leads n number leads = absurd leads

num_leads : (n : NeverState) (m : ℕ) → LeadsToReached n (Num m)
num_leads n m number leads = absurd leads

module _ (n : NeverState) (c : ℕ) where
  at_register : (r : ℕ) → LeadsToReached n (register_at n c r)
  at_register r = register_leads n (8 * c + r)

  load_adds_none : (d q i : ℕ) → ReachesNoMore n (after_op n c (GetPtr d q i))
  load_adds_none d q i = grind (arith, access_adds_none, register_adds_none, null_leads, word_leads, at_register)

  exchange_adds_none : (q i p r : ℕ) → ReachesNoMore n (after_op n c (CasPtr q i p r))
  exchange_adds_none q i p r = grind (arith, access_adds_none, same_adds_none, if_by, word_adds_none, at_register)

  new_grows : (d ty : ℕ) (full : Bool) (number : ℕ) → ReachGrowsByGrants n c (New d ty full) number
  new_grows d ty x2 number reached = grind (arith, new_adds_one)

  pub reach_grows_by_grants : (op : Op) (number : ℕ) → ReachGrowsByGrants n c op number
  reach_grows_by_grants (New d ty full) number = new_grows d ty full number
  reach_grows_by_grants (Free p) number = λ reached. inl (free_adds_none n (register_at n c p) number reached)
  reach_grows_by_grants (SetNum q i m) number =
      grind (arith, access_adds_none, same_adds_none, word_adds_none, num_leads)
  reach_grows_by_grants (GetPtr d q i) number = λ reached. inl (load_adds_none d q i number reached)
  reach_grows_by_grants (SetPtr q i p) number =
      grind (arith, access_adds_none, same_adds_none, word_adds_none, at_register)
  reach_grows_by_grants (CasPtr q i p r) number = λ reached. inl (exchange_adds_none q i p r number reached)
  reach_grows_by_grants (Lea d q i) number = grind (arith, register_adds_none, moved_leads, at_register)
  reach_grows_by_grants (Move d q) number = λ reached. inl (register_adds_none n c d _ (at_register q) number reached)
  reach_grows_by_grants (Clear d) number = λ reached. inl (register_adds_none n c d Null (null_leads n) number reached)
  reach_grows_by_grants (GetGlobal d g) number =
      λ reached. inl (register_adds_none n c d _ (λ k leads. by_global g k leads) number reached)
  reach_grows_by_grants (SetGlobal g p) number = λ reached. inl (global_adds_none n g _ (at_register p) number reached)
  reach_grows_by_grants _ number = λ reached. inl reached

pub access_is_to_reached : (n : NeverState) (caller q i number place : ℕ) → AccessIsToReached n caller q i number place
access_is_to_reached n caller q i number place reaches =
    by_register (8 * caller + q) number (target_leads n (register_at n caller q) i number place reaches).0

pub unreached_stays : (n : NeverState) (calls : List Call) (number : ℕ) → UnreachedStays n calls number
unreached_stays n [] number there reached = reached
unreached_stays n (x ∷ xs) number there reached =
    let stays : Continues n (after_op n x.caller x.op) = op_stays n x.caller x.op in
    let there' : number < length (after_op n x.caller x.op).allocations = omega (arith, stays.count) in
    (elim (reach_grows_by_grants n x.caller x.op number
    (unreached_stays (after_op n x.caller x.op) xs number there' reached)) [
      | inl old ↦ old
      | inr granted ↦ let new : number ≡ length n.allocations = granted.1 in absurd (omega arith)
    ]) where
      was_there : IsReachable n number ⊎ (IsTrue (grants_object x.op) × (number ≡ length n.allocations))
          → IsReachable n number
      was_there (inl old) = old
      was_there (inr granted) = let new : number ≡ length n.allocations = granted.1 in absurd (omega arith)

pub ruleset the_unreached_stays_so_facts = (access_is_to_reached, reach_grows_by_grants, unreached_stays)
