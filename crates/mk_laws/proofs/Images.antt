-- What the words that callers read and write show of the heap that never reuses storage.
use Rattle.std.specs.Prelude.{◌≡◌, ◌≢◌, ℕ, ◌+◌, ◌/◌, ◌%◌, ◌<◌, Bool, true, false, ◌==◌, List, length, slice_index}
use Rattle.std.specs.Prelude.{slice_index_or, if◌then◌else◌}
use Rattle.mk_never.specs.declared.{operations.Op.Op, values.Value.{Value, TheVariants.Null}}
use Rattle.mk_never.specs.declared.operations.Op.TheVariants as op
use Rattle.mk_never.specs.{declared.values.Value.TheVariants.{Num, Ptr}, NeverHeap.{NeverState, register_at}}
use Rattle.mk_never.specs.NeverHeap.{global_at, allocation_at, words_of, word_at, is_unmapped}
use Rattle.mk_core.specs.{declared.seats.{Stage.Stage, Flight.Flight}, Calls.{at_rest, q_of}}
use Rattle.mk_core.specs.declared.seats.Stage.TheVariants as stage
use Rattle.mk_core.specs.{Calls.{p_of, r_of, d_of, i_of}, History.image_of, Allocations.{PlacedAllocation, placed_at}}
use Rattle.mk_core.specs.History.{World, bases_of}
use Rattle.mk_laws.specs.Theorems.{has_q, has_some_q}

-- what the images read of a world
pub record ImageScene : Type 0 where
  pub registers : List ℕ
  pub globals : List ℕ
  pub heap : List ℕ
  pub flights : List Flight
  pub allocations : List PlacedAllocation

-- what the images read of a world
abbrev pub image_scene_of : World → ImageScene
image_scene_of w =
    record {
      registers = w.now.words.registers;
      globals = w.now.words.globals;
      heap = w.now.words.heap;
      flights = w.now.seats.flights;
      allocations = w.allocations;
    }

-- the call of a caller; after the last caller there is none
abbrev pub flight_among : List Flight → ℕ → Flight
flight_among fs k = slice_index_or fs k at_rest

-- The call is decided, and its register d is still to be stored.
abbrev pub is_put : Stage → Bool
is_put stage.Put = true
is_put _ = false

-- the call is about to store null in this register
abbrev pub owes : Stage → ℕ → ℕ → Bool
owes stage.Put d r = d == r
owes _ d r = false

-- a caller's register as it will be once what its call owes is stored
abbrev pub shown : Flight → ℕ → ℕ → ℕ
shown f r x = if owes f.stage (d_of f.op) r then f.loaded else x

-- Whether the stage is after the load of p or r, and what was loaded is used there; and whether it isn't null.

-- the call has loaded its register p
abbrev pub has_p : Stage → Op → Bool
has_p stage.LoadR o = true
has_p stage.Probe (op.SetPtr q i p) = true
has_p stage.Probe (op.CasPtr q i p r) = true
has_p stage.Write (op.SetPtr q i p) = true
has_p stage.Cas o = true
has_p stage.Setg o = true
has_p stage.LoadQ (op.Same p q) = true
has_p stage.Turn (op.Free p) = true
has_p _ _ = false

-- the same, where a pointer is needed
abbrev pub has_some_p : Stage → Op → Bool
has_some_p stage.Turn (op.Free p) = true
has_some_p _ _ = false

-- the call has loaded its register r
abbrev pub has_r : Stage → Op → Bool
has_r stage.Probe (op.CasPtr q i p r) = true
has_r stage.Cas o = true
has_r _ _ = false

-- an access whose `probe` found its word mapped
abbrev pub is_past_probe : Stage → Bool
is_past_probe stage.Read = true
is_past_probe stage.Write = true
is_past_probe stage.Cas = true
is_past_probe _ = false

-- What a call in flight has loaded are the images of these values.
pub record Carries (bases : List ℕ) (f : Flight) (of_q of_p of_r : Value) : Type 0 where
  pub q : has_q f.stage f.op ≡ true → f.q ≡ image_of bases of_q
  pub some_q : has_some_q f.stage f.op ≡ true → f.q ≢ 0
  pub p : has_p f.stage f.op ≡ true → f.p ≡ image_of bases of_p
  pub some_p : has_some_p f.stage f.op ≡ true → f.p ≢ 0
  pub r : has_r f.stage f.op ≡ true → f.r ≡ image_of bases of_r

-- They are the values of its caller's registers, as these are now.
abbrev pub CarriesOwn : List ℕ → NeverState → ℕ → Flight → Type 0
CarriesOwn bases n k f = Carries bases f (register_at n k (q_of f.op)) (register_at n k (p_of f.op))
    (register_at n k (r_of f.op))

-- An access through the value, if it is inside its allocation, meets a mapped one.
abbrev pub IsMet : NeverState → Value → ℕ → Type 0
IsMet n Null i = Unit {0}
IsMet n (Num m) i = Unit {0}
IsMet n (Ptr number ty offset) i = offset + i < length (words_of n number)
    → is_unmapped (allocation_at n number) ≡ false

-- A call after its probe meets a word of its object.
abbrev pub ProbedOwn : NeverState → ℕ → Flight → Type 0
ProbedOwn n k f = is_past_probe f.stage ≡ true → IsMet n (register_at n k (q_of f.op)) (i_of f.op)

-- Words are the images of values: those of registers and globals, those of unreleased allocations that aren't unmapped,
-- and what calls in flight have loaded.
pub record AreImages (s : ImageScene) (n : NeverState) : Type 0 where
  pub registers :
      (k : ℕ) → shown (flight_among s.flights (k / 8)) (k % 8) (slice_index s.registers k)
      ≡ image_of (bases_of s.allocations) (slice_index_or n.registers k Null)
  pub globals : (g : ℕ) → slice_index s.globals g ≡ image_of (bases_of s.allocations) (global_at n g)
  pub heap : (a i : ℕ) → (placed_at s.allocations a).released ≡ false → is_unmapped (allocation_at n a) ≡ false
      → i < length (words_of n a)
      → slice_index s.heap ((placed_at s.allocations a).base + i) ≡ image_of (bases_of s.allocations) (word_at n a i)
  pub carried : (j : ℕ) → CarriesOwn (bases_of s.allocations) n j (flight_among s.flights j)
  pub probed : (j : ℕ) → ProbedOwn n j (flight_among s.flights j)

-- The two lists of allocations go together.
pub record AreTwins (xs : List PlacedAllocation) (n : NeverState) : Type 0 where
  pub count : length xs ≡ length n.allocations
  pub ty : (a : ℕ) → a < length xs → (placed_at xs a).ty ≡ (allocation_at n a).ty
  pub freed : (a : ℕ) → a < length xs → (placed_at xs a).freed ≡ (allocation_at n a).freed
