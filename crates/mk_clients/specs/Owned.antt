-- A number that is a caller's own: no other caller can get to its object, whatever other seats do.
use Rattle.std.specs.Prelude.{◌≡◌, ℕ, ◌+◌, ◌*◌, ◌<◌, ◌≤◌, false, length, slice_index_or, Bool, List, [], ◌∷◌}
use Rattle.mk_never.specs.{declared.values.Value.Value, declared.values.Value.TheVariants.{Null, Ptr}}
use Rattle.mk_never.specs.{Admitted.{IsCaller, IsNumber}, NeverHeap.{words_of, NeverState, allocation_at, global_at}}
use Rattle.mk_never.specs.{NeverHeap.{number_of as number_in, register_at, word_at}, Laws.LeadsTo, Types.kinds_of}
use Rattle.mk_never.specs.{declared.types.Kind.TheVariants.Num as Number, declared.operations.Op.Op}
use Rattle.mk_core.specs.{Calls.Decided, declared.events.Answer.Answer}
use Rattle.mk_heap.specs.{Below.Words.States.PassState, Below.Callers.States.{never_of, caller_of_pass, value_of}}
use Rattle.mk_heap.specs.{Below.Callers.States.IsIdleCaller, Below.Objects.TurnCalls.IsAnsweredFull}
use Rattle.mk_clients.specs.declared.outcomes.Unfinished.{Unfinished}

-- The caller's eight registers, among those of all, may lead to the allocation, and nothing else does: no register of
-- another caller, no global and no word of the heap.
pub record IsKnownToAlone (n : NeverState) (k number : ℕ) : Type 0 where
  pub registers : (j : ℕ) → LeadsTo (slice_index_or n.registers j Null) number → (8 * k ≤ j) × (j < 8 * k + 8)
  pub globals : (g : ℕ) → LeadsTo (global_at n g) number → ⊥
  pub words : (from place : ℕ) → LeadsTo (word_at n from place) number → ⊥

-- The caller's register points to an object that isn't freed, whose first word is a number, and the caller alone knows
-- of it.
pub record OwnsNumberIn (n : NeverState) (k d : ℕ) : Type 0 where
  pub caller : IsCaller n k
  pub register : d < 8
  pub number : ℕ
  pub ty : ℕ
  pub pointer : register_at n k d ≡ Ptr number ty 0
  pub some : 0 < length (words_of n number)
  pub kind : IsNumber (slice_index_or (kinds_of n.types (allocation_at n number).ty) 0 Number)
  pub unfreed : (allocation_at n number).freed ≡ false
  pub alone : IsKnownToAlone n k number

-- the number in the word that a pointer points to
abbrev pub number_behind : NeverState → Value → ℕ
number_behind n (Ptr number ty offset) = number_in (word_at n number offset)
number_behind n _ = 0

-- After all that the pass has seen register d has a number of its caller's own.
abbrev pub OwnsNumber : PassState → ℕ → Type 0
OwnsNumber p d = OwnsNumberIn (never_of p) (caller_of_pass p) d

-- that number
abbrev pub number_owned : PassState → ℕ → ℕ
number_owned p d = number_behind (never_of p) (value_of p d)

-- It owns a number by this register, which is this one.
pub record HasNumber (p : PassState) (d n : ℕ) : Type 0 where
  pub owns : OwnsNumber p d
  pub is : number_owned p d ≡ n

-- The pass is that of a caller. It has no other seat, and the type is that of one number.
pub record SuitsNumber (p : PassState) (d ty : ℕ) : Type 0 where
  pub exists : caller_of_pass p < p.table.config.callers
  pub alone : p.seats ≡ p.seat ∷ []
  pub register : d < 8
  pub number : kinds_of p.table.config.types ty ≡ Number ∷ []

-- Its caller is at rest, and an engine is made for so many pages, as its heap has.
pub record MayMakeNumber (pages : ℕ) (p : PassState) (d ty : ℕ) : Type 0 where
  pub idle : IsIdleCaller p
  pub suits : SuitsNumber p d ty
  pub made_for : pages ≡ p.table.config.pages

-- Nothing fits after a cycle; or a gate was held after the New, whose number is owned still.
abbrev pub EndsEarly : Bool → PassState → ℕ → ℕ → Unfinished → PassState → Type 0
EndsEarly on p d ty (Unfinished.NoRoom full) q = IsAnsweredFull on p (Op.New d ty false) full.census q
EndsEarly on p d ty Unfinished.Held q = OwnsNumber q d

-- The pass of a caller that made calls and is at rest again: it has seen more.
pub record ComesBack (p q : PassState) : Type 0 where
  pub is : q ≡ record p { seen = q.seen }
  pub idle : IsIdleCaller q

-- the caller's calls, with their answers

-- a number is stored in word 0 of an object, and loaded again
abbrev pub store_then_load : ℕ → ℕ → ℕ → List Decided
store_then_load k d n =
    record { caller = k; op = Op.SetNum d 0 n; answer = Answer.Done }
    ∷ record { caller = k; op = Op.GetNum d 0; answer = Answer.Num n } ∷ []

-- an object is made first
abbrev pub new_store_load : ℕ → ℕ → ℕ → ℕ → List Decided
new_store_load k d ty n = record { caller = k; op = Op.New d ty false; answer = Answer.Done } ∷ store_then_load k d n
