-- A number that a caller owns: what other callers leave of it, and what its own calls do.
use Rattle.std.proofs.Common.{ltb-false, set}
use Rattle.mk_heap.proofs.Below.Laws.Vocabulary.{AreAdmitted, Call, Continues, IsAdmitted, IsNumber, IsSound, IsTyped}
use Rattle.mk_heap.proofs.Below.Laws.Vocabulary.{Kind, List}
use Rattle.mk_heap.proofs.Below.Laws.Vocabulary.{Suits, To, Value, WordOf, ℕ, after_calls, after_free, allocation_at}
use Rattle.mk_heap.proofs.Below.Laws.Vocabulary.{ap, arith}
use Rattle.mk_heap.proofs.Below.Laws.Vocabulary.{cases_Bool, false, get_or, get_or-set_other, get_or-set_same}
use Rattle.mk_heap.proofs.Below.Laws.Vocabulary.{get_or_append_left}
use Rattle.mk_heap.proofs.Below.Laws.Vocabulary.{get_or_past, inl, inr, is_same, kinds_of, length, length-set, ltb-true}
use Rattle.mk_heap.proofs.Below.Laws.Vocabulary.{map, suc}
use Rattle.mk_heap.proofs.Below.Laws.Vocabulary.{sym, target_of, with_freed, with_global, with_register, with_word}
use Rattle.mk_heap.proofs.Below.Laws.Vocabulary.{word_at}
use Rattle.mk_heap.proofs.Below.Laws.Vocabulary.{words_of, zero, [], ◌*◌, ◌++◌, ◌+◌, ◌<◌, ◌∙◌, ◌∷◌, ◌≡◌, ◌≢◌, ◌≤◌}
use Rattle.mk_never.proofs.{Edits.{exists, if_by, left_at_by}, Fresh.new_adds, Later.op_stays}
use Rattle.mk_never.{proofs.Registers.{destination, op_keeps}, specs.NeverHeap.{after_op, left_at, reply_at, reply_of}}
use Rattle.mk_never.specs.declared.operations.Op.TheVariants.{CasPtr, Clear, Free, GetGlobal, GetNum, GetPtr, IsNull}
use Rattle.mk_never.specs.declared.operations.Op.TheVariants.{Lea, Move, New, Same, SetGlobal, SetNum, SetPtr}
use Rattle.mk_never.specs.{Admitted.{IsCaller, OperandsAreInRange}, Laws.{AreNotBy, LeadsTo}, Types.zero_of}
use Rattle.mk_never.specs.declared.{operations.Reply.Reply, values.Target.Target}
use Rattle.mk_clients.specs.Owned.{IsKnownToAlone, OwnsNumberIn, number_behind}
use Rattle.mk_heap.proofs.Below.Laws.Vocabulary.{Meets, NeverAllocation as Allocation, NeverState, Null, Num, Number}
use Rattle.mk_heap.proofs.Below.Laws.Vocabulary.{Op, Ptr}
use Rattle.mk_heap.proofs.Below.Laws.Vocabulary.{nat_lt, no_allocation, number_of as number_in, refl, register_at}
use Rattle.mk_heap.proofs.Below.Laws.Vocabulary.{set_by, subst}

-- The register, among those of all callers, is one of this caller's eight.
abbrev pub IsRegisterOf : ℕ → ℕ → Type 0
IsRegisterOf k j = (8 * k ≤ j) × (j < 8 * k + 8)

-- What other callers' operations leave of an object that one caller alone knows of: all of it.

-- what holds of the appended element and of what stood at the place holds of what stands there
pub push_keeps : {A : Type 0} (P : A → Type 0) (xs : List A) (x d : A) (k : ℕ) → P x → P (get_or xs k d)
    → P (get_or (xs ++ x ∷ []) k d)
push_keeps P [] x d zero new old = new
push_keeps P [] x d (suc k) new old = old
push_keeps P (y ∷ xs) x d zero new old = old
push_keeps P (y ∷ xs) x d (suc k) new old = push_keeps P xs x d k new old

-- zero words lead nowhere
pub zeros_lead_nowhere : (kinds : List Kind) (place number : ℕ) → LeadsTo (get_or (map zero_of kinds) place Null) number
    → ⊥
zeros_lead_nowhere [] place number leads = leads
zeros_lead_nowhere (Number ∷ kinds) zero number leads = leads
zeros_lead_nowhere (To ty offset ∷ kinds) zero number leads = leads
zeros_lead_nowhere (kind ∷ kinds) (suc place) number leads = zeros_lead_nowhere kinds place number leads

-- an access gets to a word of the allocation that its pointer leads to
target_leads : (n : NeverState) (v : Value) (i number place : ℕ) → target_of n v i ≡ WordOf number place
    → LeadsTo v number
target_leads n x1 i number place reaches = grind (arith, if_by)

-- After an operation only the caller knows of the allocation, and that is as it was.
pub record StaysAlone (n : NeverState) (k number : ℕ) (m : NeverState) : Type 0 where
  pub alone : IsKnownToAlone m k number
  pub same : allocation_at m number ≡ allocation_at n number

module _ {n : NeverState} {k number : ℕ} (own : IsKnownToAlone n k number) (there : number < length n.allocations) where
  abbrev LeadsElsewhere : Value → Type 0
  LeadsElsewhere v = LeadsTo v number → ⊥

  abbrev Stays : NeverState → Type 0
  Stays m = StaysAlone n k number m

  pub nothing_stays : Stays n
  nothing_stays = record { alone = own; same = refl }

  pub register_stays : (c d : ℕ) (v : Value) → LeadsElsewhere v → Stays (with_register n c d v)
  register_stays c d v none = record {
    alone = record {
      registers = λ j. set_by (λ x. LeadsTo x number → IsRegisterOf k j) n.registers (8 * c + d) j v Null
          (λ e leads. absurd (none leads)) (own.registers j);
      globals = own.globals;
      words = own.words;
    };
    same = refl;
  }

  global_stays : (g : ℕ) (v : Value) → LeadsElsewhere v → Stays (with_global n g v)
  global_stays g v none = record {
    alone = record {
      registers = own.registers;
      globals = λ j. set_by (λ x. LeadsTo x number → ⊥) n.globals g j v Null (λ e. none) (own.globals j);
      words = own.words;
    };
    same = refl;
  }

  -- a store to any word
  pub word_alone : (a w : ℕ) (v : Value) → LeadsElsewhere v → IsKnownToAlone (with_word n a w v) k number
  word_alone a w v none = record {
    registers = own.registers;
    globals = own.globals;
    words = λ from place. set_by (λ (x : Allocation). LeadsTo (get_or x.words place Null) number → ⊥) n.allocations a
        from _ no_allocation (λ e. set_by (λ x. LeadsTo x number → ⊥) (words_of n a) w place v Null (λ e'. none)
        (own.words a place)) (own.words from place);
  }

  word_stays : (a w : ℕ) (v : Value) → a ≢ number → LeadsElsewhere v → Stays (with_word n a w v)
  word_stays a w v other none = record {
    alone = word_alone a w v none;
    same = get_or-set_other n.allocations a number _ no_allocation (λ e. other (sym e));
  }

  freed_stays : (a : ℕ) → a ≢ number → Stays (with_freed n a)
  freed_stays a other = record {
    alone = record {
      registers = own.registers;
      globals = own.globals;
      words = λ from place. set_by (λ (x : Allocation). LeadsTo (get_or x.words place Null) number → ⊥) n.allocations a
          from _ no_allocation (λ e. own.words a place) (own.words from place);
    };
    same = get_or-set_other n.allocations a number _ no_allocation (λ e. other (sym e));
  }

  free_stays : (v : Value) → LeadsElsewhere v → Stays (after_free n v)
  free_stays Null none = nothing_stays
  free_stays (Num m) none = nothing_stays
  free_stays (Ptr a ty offset) none = freed_stays a none

  module _ (c : ℕ) (other : c ≢ k) where
    register_elsewhere : (r : ℕ) → r < 8 → LeadsElsewhere (register_at n c r)
    register_elsewhere r lt leads = let at = own.registers (8 * c + r) leads in other (omega arith)

    -- An access of another caller gets to other allocations.
    reached_other : (q i a w : ℕ) → q < 8 → target_of n (register_at n c q) i ≡ WordOf a w → a ≢ number
    reached_other q i a w lt got same = grind (arith, register_elsewhere, target_leads)

    pub op_stays_alone : (o : Op) → OperandsAreInRange n o → Stays (after_op n c o)
    op_stays_alone (New d ty full) h = if_by (λ m. Stays m) full _ _ (λ e. nothing_stays) (λ e. record {
      alone = record {
        registers = λ j. set_by (λ x. LeadsTo x number → IsRegisterOf k j) n.registers (8 * c + d) j
            (Ptr (length n.allocations) ty 0) Null
            (λ e leads. absurd (let same : length n.allocations ≡ number = leads in omega arith)) (own.registers j);
        globals = own.globals;
        words = λ from place.
            push_keeps (λ (x : Allocation). LeadsTo (get_or x.words place Null) number → ⊥) n.allocations _
            no_allocation from (zeros_lead_nowhere (kinds_of n.types ty) place number) (own.words from place);
      };
      same = get_or_append_left n.allocations _ no_allocation number there;
    })
    op_stays_alone (Free p) h = free_stays (register_at n c p) (register_elsewhere p h)
    op_stays_alone (GetNum q i) h = nothing_stays
    op_stays_alone (SetNum q i m) h =
        left_at_by (λ m. Stays m) (target_of n (register_at n c q) i) n _ nothing_stays
        (λ a w got. word_stays a w (Num m) (reached_other q i a w h got) (λ leads. leads))
    op_stays_alone (GetPtr d q i) h = grind (arith, left_at_by, register_stays)
    op_stays_alone (SetPtr q i p) h =
        left_at_by (λ m. Stays m) (target_of n (register_at n c q) i) n _ nothing_stays
        (λ a w got. word_stays a w (register_at n c p) (reached_other q i a w h.0 got) (register_elsewhere p h.1))
    op_stays_alone (CasPtr q i p r) h =
        left_at_by (λ m. Stays m) _ n _ nothing_stays (λ a w got. if_by (λ m. Stays m) (is_same (word_at n a w)
        (register_at n c p)) _ _ (λ e. word_stays a w (register_at n c r) (reached_other q i a w h.0 got)
        (register_elsewhere r h.2)) (λ e. nothing_stays))
    op_stays_alone (Lea d q i) h = grind (arith, register_stays, register_elsewhere)
    op_stays_alone (Move d q) h = register_stays c d _ (register_elsewhere q h.1)
    op_stays_alone (Clear d) h = register_stays c d Null (λ leads. leads)
    op_stays_alone (GetGlobal d g) h = register_stays c d _ (own.globals g)
    op_stays_alone (SetGlobal g p) h = global_stays g _ (register_elsewhere p h.1)
    op_stays_alone (Same p q) h = nothing_stays
    op_stays_alone (IsNull p) h = nothing_stays

-- It is owned still, and is the same number.
pub record KeepsNumber (n : NeverState) (k d : ℕ) (m : NeverState) : Type 0 where
  pub owns : OwnsNumberIn m k d
  pub same : number_behind m (register_at m k d) ≡ number_behind n (register_at n k d)

-- where it stands
pub number_is : (n : NeverState) (k d number ty : ℕ) → register_at n k d ≡ Ptr number ty 0
    → number_behind n (register_at n k d) ≡ number_in (word_at n number 0)
number_is n k d number ty pointer = ap (λ (v : Value). number_behind n v) pointer

-- Another caller's operation keeps it,
keeps_by_other : {globals : List ℕ} {n : NeverState} {k d c : ℕ} {o : Op} → OwnsNumberIn n k d → c ≢ k
    → IsAdmitted globals n c o → KeepsNumber n k d (after_op n c o)
keeps_by_other {n} {k} {d} {c} {o} owns other admitted =
    let m : NeverState = after_op n c o in
    let stays = op_stays_alone owns.alone (exists n owns.number 0 owns.some) c other o admitted.in_range in
    let on : Continues n m = op_stays n c o in
    let pointer : register_at m k d ≡ Ptr owns.number owns.ty 0 = grind (arith, op_keeps, destination) in
    record {
      owns = record {
        caller = subst (λ count. 8 * k + 7 < count) (sym on.registers) owns.caller;
        register = owns.register;
        number = owns.number;
        ty = owns.ty;
        pointer = pointer;
        some = subst (λ (a : Allocation). 0 < length a.words) (sym stays.same) owns.some;
        kind = subst (λ (types : List (List Kind)). IsNumber (get_or (kinds_of types (allocation_at m owns.number).ty) 0
            Number)) (sym on.types) (subst (λ (a : Allocation). IsNumber (get_or (kinds_of n.types a.ty) 0 Number))
            (sym stays.same) owns.kind);
        unfreed = ap (λ (a : Allocation). a.freed) stays.same ∙ owns.unfreed;
        alone = stays.alone;
      };
      same =
          number_is m k d owns.number owns.ty pointer ∙ ap (λ (a : Allocation). number_in (get_or a.words 0 Null))
          stays.same ∙ sym (number_is n k d owns.number owns.ty owns.pointer);
    }

-- and so do all that are of others.
pub keeps_by_others : (globals : List ℕ) {n : NeverState} {k d : ℕ} (calls : List Call) → OwnsNumberIn n k d
    → AreAdmitted globals n calls → AreNotBy k calls → KeepsNumber n k d (after_calls n calls)
keeps_by_others globals {n = n} {k = k} {d = d} [] owns admitted others = record { owns = owns; same = refl }
keeps_by_others globals {n = n} {k = k} {d = d} (x ∷ xs) owns admitted others =
    let first = keeps_by_other owns others.0 admitted.0 in
    let rest = keeps_by_others globals {n = (after_op n x.caller x.op)} xs first.owns admitted.1 others.1 in
    record { owns = rest.owns; same = rest.same ∙ first.same }

-- An access by the register gets to the number.
gets_to : {n : NeverState} {k d : ℕ} (owns : OwnsNumberIn n k d)
    → target_of n (register_at n k d) 0 ≡ WordOf owns.number 0
gets_to owns = grind arith

-- So a load is answered by it,
pub load_replies : {n : NeverState} {k d : ℕ} → OwnsNumberIn n k d
    → reply_of n k (Op.GetNum d 0) ≡ Reply.Num (number_behind n (register_at n k d))
load_replies owns = grind (arith, gets_to, number_is)

-- and a store is done,
pub store_replies : {n : NeverState} {k d : ℕ} (x : ℕ) → OwnsNumberIn n k d
    → reply_of n k (Op.SetNum d 0 x) ≡ Reply.Done
store_replies {n} {k} {d} x owns = ap (λ (t : Target). reply_at t (λ a w. Reply.Done)) (gets_to owns)

-- which leaves another number.
pub record HasStored (k d x : ℕ) (m : NeverState) : Type 0 where
  pub owns : OwnsNumberIn m k d
  pub stored : number_behind m (register_at m k d) ≡ x

stores_in : {n : NeverState} {k d : ℕ} (x : ℕ) (owns : OwnsNumberIn n k d)
    → HasStored k d x (with_word n owns.number 0 (Num x))
stores_in {n} {k} {d} x owns =
    let a = owns.number in
    let m : NeverState = with_word n a 0 (Num x) in
    let there : a < length n.allocations = exists n a 0 owns.some in
    let now : allocation_at m a ≡ record (allocation_at n a) { words = set (words_of n a) 0 (Num x) } =
    get_or-set_same n.allocations a _ no_allocation there in
    record {
      owns = record {
        caller = owns.caller;
        register = owns.register;
        number = a;
        ty = owns.ty;
        pointer = owns.pointer;
        some = subst (λ (b : Allocation). 0 < length b.words) (sym now)
            (omega (arith, owns.some, length-set (words_of n a) 0 (Num x)));
        kind = subst (λ (b : Allocation). IsNumber (get_or (kinds_of n.types b.ty) 0 Number)) (sym now) owns.kind;
        unfreed = ap (λ (b : Allocation). b.freed) now ∙ owns.unfreed;
        alone = word_alone owns.alone there a 0 (Num x) (λ leads. leads);
      };
      stored = cc (number_is m k d a owns.ty owns.pointer, now, get_or-set_same _ 0 (Num x) Null owns.some);
    }

pub store_leaves : (n : NeverState) (k d x : ℕ) → OwnsNumberIn n k d → HasStored k d x (after_op n k (Op.SetNum d 0 x))
store_leaves n k d x owns =
    rw (ap (λ (t : Target). left_at t n (λ a w. with_word n a w (Num x))) (gets_to owns)) (stores_in x owns)

-- Both are admitted.
pub access_admitted : (n : NeverState) (k d : ℕ) → OwnsNumberIn n k d → Meets n (register_at n k d) 0 IsNumber
access_admitted n k d owns = subst (λ (v : Value). Meets n v 0 IsNumber) (sym owns.pointer) (owns.some, owns.kind)

-- What is sound leads to allocations that exist.
sound_leads : (n : NeverState) (v : Value) (number : ℕ) → IsSound n v → LeadsTo v number → number < length n.allocations
sound_leads n x1 number sound leads = grind arith

suited_leads : (n : NeverState) (v : Value) (kind : Kind) (number : ℕ) → Suits n v kind → LeadsTo v number
    → number < length n.allocations
suited_leads n v x2 number suits leads = grind (arith, sound_leads)

word_leads : {globals : List ℕ} {n : NeverState} → IsTyped globals n → (from place number : ℕ)
    → LeadsTo (word_at n from place) number → number < length n.allocations
word_leads {n} typed from place number leads = elim (cases_Bool (nat_lt place (length (words_of n from)))) [
  | inl inside ↦
      let lt = ltb-true place (length (words_of n from)) inside in
      suited_leads n _ _ number ((typed.allocations from (exists n from place lt)).words place lt) leads
  | inr outside ↦
      let past = ltb-false place (length (words_of n from)) outside in
      absurd (subst (λ (v : Value). LeadsTo v number) (get_or_past (words_of n from) place Null past) leads)
]

-- A New of one number gives its caller one, which is 0.
pub new_owns : {globals : List ℕ} {n : NeverState} (k d ty : ℕ) → IsTyped globals n → IsCaller n k → d < 8
    → kinds_of n.types ty ≡ Number ∷ [] → HasStored k d 0 (after_op n k (Op.New d ty false))
new_owns {globals} {n} k d ty typed caller lt kinds =
    let a = length n.allocations in
    let m : NeverState = after_op n k (Op.New d ty false) in
    let adds = new_adds n k d ty caller lt in
    let words : words_of m a ≡ Num 0 ∷ [] = grind arith in
    record {
      owns = record {
        caller = subst (λ count. 8 * k + 7 < count) (sym (op_stays n k (Op.New d ty false)).registers) caller;
        register = lt;
        number = a;
        ty = ty;
        pointer = adds.register;
        some = subst (λ (ws : List Value). 0 < length ws) (sym words) (omega arith);
        kind = subst (λ (b : Allocation). IsNumber (get_or (kinds_of n.types b.ty) 0 Number)) (sym adds.made)
            (subst (λ (ks : List Kind). IsNumber (get_or ks 0 Number)) (sym kinds) refl);
        unfreed = ap (λ (b : Allocation). b.freed) adds.made;
        alone = record {
          registers = λ j. set_by (λ x. LeadsTo x a → IsRegisterOf k j) n.registers (8 * k + d) j (Ptr a ty 0) Null
              (λ e leads. (omega arith, omega arith))
              (λ leads. absurd (let old = sound_leads n _ a (typed.registers j) leads in omega arith));
          globals = λ g leads. let old = sound_leads n _ a (typed.globals g) leads in omega arith;
          words = λ from place. push_keeps (λ (x : Allocation). LeadsTo (get_or x.words place Null) a → ⊥) n.allocations
              _ no_allocation from (zeros_lead_nowhere (kinds_of n.types ty) place a)
              (λ leads. let old = word_leads typed from place a leads in omega arith);
        };
      };
      stored = number_is m k d a ty adds.register ∙ ap (λ (ws : List Value). number_in (get_or ws 0 Null)) words;
    }
