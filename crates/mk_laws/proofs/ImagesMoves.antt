-- The moves of the images: what an event may do to what they read. Bases are added after the others, and stay.
use Rattle.mk_laws.proofs.Vocabulary.{Bool, CarriesOwn, Flight, ImageScene, IsSafe, IsSafeSet, List, NeverState}
use Rattle.mk_laws.proofs.Vocabulary.{PlacedAllocation, ProbedOwn, Ptr, Stage, Value, ℕ, address_of, allocation_at}
use Rattle.mk_laws.proofs.Vocabulary.{append-nil, arith, bases_of, d_of, false, flight_among, image_of, is_past_probe}
use Rattle.mk_laws.proofs.Vocabulary.{is_put, is_unmapped, kinds_of, length, list_any, map-append, placed_at, shown}
use Rattle.mk_laws.proofs.Vocabulary.{slice_index, slice_set, sym, true, with_freed, with_global, with_new}
use Rattle.mk_laws.proofs.Vocabulary.{with_register, with_word, words_of, [], ◌*◌, ◌++◌, ◌+◌, ◌<◌, ◌∙◌, ◌∷◌, ◌≡◌, ◌≢◌}
use Rattle.mk_core.specs.Calls.{is_same_stage}

-- nothing is carried, and nothing owed
abbrev pub is_bare : Stage → Bool
is_bare s = list_any (is_same_stage s) (Stage.Idle ∷ Stage.Getg ∷ Stage.Dirty ∷ Stage.Leave ∷ Stage.Give ∷ [])

-- the caller's call, of which nothing is owed, is over or decided after the event
pub record Decides (s : ImageScene) (n : NeverState) (k : ℕ) (f : Flight) : Type 0 where
  pub there : k < length s.flights
  pub registers : 8 * k + 7 < length n.registers
  pub was : is_put (flight_among s.flights k).stage ≡ false
  pub bare : is_bare f.stage ≡ true

-- as many allocations, each with its type and at its place
pub record SamePlaces (xs ys : List PlacedAllocation) : Type 0 where
  pub bases : bases_of ys ≡ bases_of xs
  pub count : length ys ≡ length xs
  pub each : (a : ℕ) → (placed_at ys a).ty ≡ (placed_at xs a).ty

abbrev pub SameReleased : List PlacedAllocation → List PlacedAllocation → Type 0
SameReleased xs ys = (a : ℕ) → (placed_at ys a).released ≡ (placed_at xs a).released

abbrev pub SameFreed : List PlacedAllocation → List PlacedAllocation → Type 0
SameFreed xs ys = (a : ℕ) → (placed_at ys a).freed ≡ (placed_at xs a).freed

-- from what an event finds to what it leaves
pub data Move (safe : ℕ → Bool) (s : ImageScene) (n : NeverState) : ImageScene → NeverState → Type 0 where
  Rests : Move safe s n s n
  Flies : (k : ℕ) (f : Flight) → ((r x : ℕ) → shown f r x ≡ shown (flight_among s.flights k) r x)
      → CarriesOwn (bases_of s.allocations) n k f → ProbedOwn n k f
      → Move safe s n (record s { flights = slice_set s.flights k f }) n
  Owes : (k : ℕ) (f : Flight) (v : Value) → k < length s.flights → 8 * k + 7 < length n.registers
      → is_put (flight_among s.flights k).stage ≡ false → f.stage ≡ Stage.Put → d_of f.op < 8
      → f.loaded ≡ image_of (bases_of s.allocations) v → IsSafe safe v
      → Move safe s n (record s { flights = slice_set s.flights k f }) (with_register n k (d_of f.op) v)
  Pays : (k : ℕ) (f : Flight) → k < length s.flights → 8 * k + 7 < length s.registers
      → (flight_among s.flights k).stage ≡ Stage.Put → d_of (flight_among s.flights k).op < 8 → is_bare f.stage ≡ true
      → Move safe s n (record s {
        flights = slice_set s.flights k f;
        registers = slice_set s.registers (8 * k + d_of (flight_among s.flights k).op)
            (flight_among s.flights k).loaded;
      }) n
  Stores : (k d x : ℕ) (f : Flight) (v : Value) → Decides s n k f → 8 * k + 7 < length s.registers → d < 8
      → x ≡ image_of (bases_of s.allocations) v → IsSafe safe v
      → Move safe s n (record s { flights = slice_set s.flights k f; registers = slice_set s.registers (8 * k + d) x })
      (with_register n k d v)
  Shares : (k g x : ℕ) (f : Flight) (v : Value) → Decides s n k f → g < length s.globals → g < length n.globals
      → x ≡ image_of (bases_of s.allocations) v → IsSafe safe v
      → Move safe s n (record s { flights = slice_set s.flights k f; globals = slice_set s.globals g x })
      (with_global n g v)
  Writes : (k a i x : ℕ) (f : Flight) (v : Value) → Decides s n k f → (placed_at s.allocations a).released ≡ false
      → is_unmapped (allocation_at n a) ≡ false → i < length (words_of n a)
      → (placed_at s.allocations a).base + i < length s.heap → x ≡ image_of (bases_of s.allocations) v → IsSafe safe v
      → Move safe s n (record s {
        flights = slice_set s.flights k f;
        heap = slice_set s.heap ((placed_at s.allocations a).base + i) x;
      }) (with_word n a i v)
  Wipes : (x : ℕ) → ((a i : ℕ) → (placed_at s.allocations a).released ≡ false → is_unmapped (allocation_at n a) ≡ false
      → i < length (words_of n a) → (placed_at s.allocations a).base + i ≢ x)
      → Move safe s n (record s { heap = slice_set s.heap x 0 }) n
  Grants : (k d base ty : ℕ) (f : Flight) → Decides s n k f → 8 * k + 7 < length s.registers → d < 8
      → ((i : ℕ) → i < length (kinds_of n.types ty) → slice_index s.heap (base + i) ≡ 0) → Move safe s n (record s {
        flights = slice_set s.flights k f;
        registers = slice_set s.registers (8 * k + d) (address_of base);
        allocations = s.allocations ++ record { base = base; ty = ty; freed = false; fresh = false; released = false }
            ∷ [];
      }) (with_register (with_new n ty) k d (Ptr (length n.allocations) ty 0))
  Frees : (k a : ℕ) (f : Flight) (xs : List PlacedAllocation) → Decides s n k f → SamePlaces s.allocations xs
      → SameReleased s.allocations xs → a < length n.allocations
      → ((b : ℕ) → b ≢ a → (placed_at xs b).freed ≡ (placed_at s.allocations b).freed) → (placed_at xs a).freed ≡ true
      → (is_unmapped (record (allocation_at n a) { freed = true }) ≡ true → (j : ℕ) → j ≢ k
      → is_past_probe (flight_among s.flights j).stage ≡ false)
      → Move safe s n (record s { flights = slice_set s.flights k f; allocations = xs }) (with_freed n a)
  Renews : (xs : List PlacedAllocation) → SamePlaces s.allocations xs → SameReleased s.allocations xs
      → SameFreed s.allocations xs → Move safe s n (record s { allocations = xs }) n
  Releases : (xs : List PlacedAllocation) → SamePlaces s.allocations xs
      → ((a : ℕ) → (placed_at xs a).released ≡ false → (placed_at s.allocations a).released ≡ false)
      → SameFreed s.allocations xs → (kept : ℕ → Bool) → IsSafeSet kept xs n
      → Move safe s n (record s { allocations = xs }) n

pub record IsLonger (xs ys : List ℕ) : Type 0 where
  pub more : List ℕ
  pub is : ys ≡ xs ++ more

same : (xs ys : List ℕ) → ys ≡ xs → IsLonger xs ys
same xs ys e = record { more = []; is = e ∙ sym (append-nil xs) }

pub bases_grow : {safe : ℕ → Bool} {s t : ImageScene} {n m : NeverState} → Move safe s n t m
    → IsLonger (bases_of s.allocations) (bases_of t.allocations)
bases_grow x0 = grind (arith, map-append, same, append-nil)
