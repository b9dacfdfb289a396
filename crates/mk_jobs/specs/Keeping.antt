-- How a client proves that its jobs are always explained: what holds between any two operations, one at a time.
use Rattle.std.specs.Prelude.{◌≡◌, ◌&&◌, ◌||◌, ◌==◌, ◌<◌, ◌≤◌, ◌+◌, ◌*◌, ℕ, Bool, true, false, not, List, [], ◌∷◌}
use Rattle.std.specs.Prelude.{length, Option, Some, None, if◌then◌else◌}
use Rattle.mk_never.specs.{declared.operations.Op.Op, NeverHeap.{NeverState, after_op, allocation_at, global_at}}
use Rattle.mk_never.specs.{NeverHeap.{register_at, reply_of, start_of, words_of}, Laws.StoresTo, Admitted.IsTyped}
use Rattle.mk_jobs.specs.{Typing.{Plan, Hold, Owns, Owes, hold_of}, Jobs.{Asks, HoldsAt}}
use Rattle.mk_jobs.specs.{Laws.{IsOneOf, is_pointer_to}, declared.steps.Step.Step}

-- who knows an allocation
pub data Role : Type 0 where
  Unborn : Role
  Private : ℕ → Role  -- the caller that created it
  Public : Role
  Taken : ℕ → Role  -- all may; this caller frees it
  Gone : Role  -- all may; it is freed

-- the heap that never reuses storage, with who knows which allocation
pub record World : Type 0 where
  pub n : NeverState
  pub role : ℕ → Role

-- All callers may know it.
abbrev pub IsShown : Role → Type 0
IsShown Unborn = ⊥
IsShown (Private k) = ⊥
IsShown _ = Unit {0}

-- It is this caller's own.
abbrev pub IsOf : ℕ → Role → Type 0
IsOf k (Private j) = j ≡ k
IsOf k (Taken j) = j ≡ k
IsOf k _ = ⊥

-- What the operation of another caller leaves to caller k, besides what the client's own relation says
pub record Waits (k : ℕ) (w w' : World) : Type 0 where
  pub registers : (r : ℕ) → r < 8 → register_at w'.n k r ≡ register_at w.n k r
  pub own : (a : ℕ) → IsOf k (w.role a) → (w'.role a ≡ w.role a) × (words_of w'.n a ≡ words_of w.n a)
  pub shown : (a : ℕ) → IsShown (w.role a) → IsShown (w'.role a)
  pub types : (a : ℕ) → a < length w.n.allocations → (allocation_at w'.n a).ty ≡ (allocation_at w.n a).ty

-- What all callers may know is as it was, but for what is freed.
pub record Covers (w w' : World) : Type 0 where
  pub globals : (g : ℕ) → global_at w'.n g ≡ global_at w.n g
  pub words : (a : ℕ) → IsShown (w.role a) → words_of w'.n a ≡ words_of w.n a
  pub types : (a : ℕ) → IsShown (w.role a) → (allocation_at w'.n a).ty ≡ (allocation_at w.n a).ty
  pub public : (a : ℕ) → w'.role a ≡ Public → w.role a ≡ Public
  pub still : (a : ℕ) → w.role a ≡ Public → w'.role a ≡ Public
  pub shown : (a : ℕ) → IsShown (w'.role a) → IsShown (w.role a)
  pub stays : (a : ℕ) → IsShown (w.role a) → IsShown (w'.role a)

-- the register has an object that nobody else knows
abbrev pub is_private : Hold → Bool
is_private (Owns t) = true
is_private _ = false

-- the register has an object that its caller has to free
abbrev pub is_owed : Hold → Bool
is_owed (Owes t) = true
is_owed _ = false

-- whether one of these registers holds a pointer to it so at s, and not so at t
abbrev pub is_held_no_more : (Hold → Bool) → NeverState → ℕ → ℕ → ℕ → List Hold → List Hold → Bool
is_held_no_more f n k a r [] gs = false
is_held_no_more f n k a r (h ∷ hs) gs =
    ((f h && not (f (hold_of gs r))) && is_pointer_to a (register_at n k r)) || is_held_no_more f n k a (r + 1) hs gs

-- Who knows what after an operation: what is created is its caller's, what isn't held as private any more is public,
-- what is owed from now on is taken, and what isn't owed any more is gone.
abbrev pub role_after : World → ℕ → Op → List Hold → List Hold → ℕ → Role
role_after w k (Op.New d ty false) hs gs a = if a == length w.n.allocations then Private k else w.role a
role_after w k (Op.Free p) hs gs a = if is_pointer_to a (register_at w.n k p) then Gone else w.role a
role_after w k o hs gs a =
    if is_held_no_more is_private w.n k a 0 hs gs then Public
    else if is_held_no_more is_owed w.n k a 0 gs hs then Taken k else w.role a

-- What an exchange takes out was public.
abbrev pub TakesPublic : World → ℕ → Op → List Hold → List Hold → Type 0
TakesPublic w k (Op.CasPtr q i x r) hs gs =
    is_owed (hold_of gs x) ≡ true → is_owed (hold_of hs x) ≡ false
    → (a : ℕ) → is_pointer_to a (register_at w.n k x) ≡ true → w.role a ≡ Public
TakesPublic w k _ hs gs = Unit {0}

-- Each allocation is as its role says.
pub record Fits (n : NeverState) (a : ℕ) (r : Role) : Type 0 where
  pub unborn : length n.allocations ≤ a → r ≡ Unborn
  pub born : a < length n.allocations → r ≡ Unborn → ⊥
  pub freed : (allocation_at n a).freed ≡ true → r ≡ Gone
  pub gone : r ≡ Gone → (allocation_at n a).freed ≡ true

module _ {Job Done Point State : Type 0} (p : Plan Job Done Point) (left_by : State → Job → Done → Option State) where
  -- what holds of a caller at a point, whatever the object is
  pub record IsThere (callers : ℕ) (w : World) (k : ℕ) (s : Point) : Type 0 where
    pub exists : k < callers
    pub typed : IsTyped p.globals w.n
    pub types : w.n.types ≡ p.types
    pub registers : length w.n.registers ≡ 8 * callers
    pub globals : length w.n.globals ≡ 64
    pub fits : (a : ℕ) → Fits w.n a (w.role a)
    pub holds : HoldsAt p (register_at w.n k) s
    pub privates : (r a : ℕ) → r < 8 → is_private (hold_of (p.holds s) r) ≡ true
        → is_pointer_to a (register_at w.n k r) ≡ true → w.role a ≡ Private k
    pub owed : (r a : ℕ) → r < 8 → is_owed (hold_of (p.holds s) r) ≡ true
        → is_pointer_to a (register_at w.n k r) ≡ true → w.role a ≡ Taken k

  -- the world after an operation that leads from one point to another
  abbrev pub after : World → ℕ → Op → Point → Point → World
  after w k o s t = record { n = after_op w.n k o; role = role_after w k o (p.holds s) (p.holds t) }

  -- An operation decides nothing, or its caller's job.
  pub data Decides (job : Option Job) : Option Done → State → Option Done → State → Type 0 where
    nothing : {u : Option Done} {x : State} → Decides job u x u x
    settles : {j : Job} {d : Done} {x y : State} → job ≡ Some j → left_by x j d ≡ Some y → Decides job None x (Some d) y

  -- the world before any operation
  abbrev pub first_world : ℕ → World
  first_world callers = record { n = start_of p.types callers; role = λ a. Unborn }

  -- What an operation of caller k has to leave, which leads to t. It stores in no object of another caller's own.
  pub record Moves (Rely : ℕ → World → World → Type 0) (Shared : World → State → Type 0)
      (Local : World → ℕ → Point → Option Done → Type 0) (job_at : Point → Option Job) (k : ℕ) (s : Point)
      (u : Option Done) (x : State) (w : World) (o : Op) (t : Point) : Type 0 where
    pub decided : Option Done
    pub state : State
    pub decides : Decides (job_at s) u x decided state
    pub same_job : decided ≡ None → job_at t ≡ job_at s
    pub local : Local (after w k o s t) k t decided
    pub shared : Shared (after w k o s t) state
    pub rely : Rely k w (after w k o s t)
    pub takes : TakesPublic w k o (p.holds s) (p.holds t)
    pub spares : (a i j : ℕ) → StoresTo w.n k o a i → IsOf j (w.role a) → j ≡ k

  -- What a client states and shows: what holds of the object, what holds of a caller at a point of its job, decided so
  -- or not yet, and what the callers may rely on of each other.
  pub record Keeps (first : State) (content : NeverState → List ℕ → State → Type 0) (Shared : World → State → Type 0)
      (Local : World → ℕ → Point → Option Done → Type 0) (Rely : ℕ → World → World → Type 0)
      (job_at : Point → Option Job) : Type 0 where
    pub founding : (callers : ℕ) → Shared (first_world callers) first × Local (first_world callers) 0 p.founding None
        × (job_at p.founding ≡ None)
    pub begins : (w : World) (k : ℕ) (j : Job) → Local w k (p.starting j) None × (job_at (p.starting j) ≡ Some j)
    pub ends : (w : World) (k : ℕ) (s : Point) (u : Option Done) (d : Done) (j : Job) → Local w k s u
        → p.step s ≡ Step.End d → (u ≡ None → job_at s ≡ Some j) → u ≡ Some d
    pub waits : (callers j k : ℕ) (s : Point) (u : Option Done) (w w' : World) → (j ≡ k → ⊥) → IsThere callers w k s
        → Waits k w w' → Rely j w w' → Local w k s u → Local w' k s u
    pub covers : (j : ℕ) (x : State) (w w' : World) → Covers w w' → Shared w x → Shared w' x × Rely j w w'
    pub moves : (callers : ℕ) (w : World) (k : ℕ) (s : Point) (u : Option Done) (x : State) → IsThere callers w k s
        → Shared w x → Local w k s u → (o : Op) (t : Point)
        → Asks p.with_number (p.step s) o (reply_of w.n k o) t → Moves Rely Shared Local job_at k s u x w o t
    pub contains : (w : World) (x : State) → Shared w x → (parts : List ℕ) × content w.n parts x
        × ((a : ℕ) → w.role a ≡ Public → IsOneOf a parts) × ((a : ℕ) → IsOneOf a parts → w.role a ≡ Public)
