-- Operations that leave all that callers may know: those that set a register alone, or reach an object of one caller.
use Rattle.mk_heap.proofs.Below.Laws.Vocabulary.{List, Value, allocation_at, ap, get_or, global_at, length, subst, sym}
use Rattle.mk_heap.proofs.Below.Laws.Vocabulary.{words_of}
use Rattle.mk_heap.proofs.Below.Laws.Vocabulary.{ℕ, ◌∙◌, ◌≡◌, ◌≢◌, ◌⊎◌, cases_eq, inl, inr}
use Rattle.mk_never.specs.NeverHeap.{Allocation, no_allocation}
use Rattle.mk_jobs.specs.Keeping.{Covers, Gone, IsShown, Private, Public, Role, Taken, Unborn, World}
use Rattle.mk_jobs.proofs.{Heaps.{Creates, Frees, Stores}, Puts.Puts}

-- Nothing but registers is changed.
pub record Looks (w w' : World) : Type 0 where
  pub allocations : w'.n.allocations ≡ w.n.allocations
  pub globals : (g : ℕ) → global_at w'.n g ≡ global_at w.n g
  pub roles : (a : ℕ) → w'.role a ≡ w.role a

-- A role that is the same to all but one caller
data RoleStays (r r' : Role) : Type 0 where
  same : r' ≡ r → RoleStays r r'
  hidden : (IsShown r → ⊥) → (IsShown r' → ⊥) → RoleStays r r'
  passed : IsShown r → IsShown r' → r ≢ Public → r' ≢ Public → RoleStays r r'

shown_now : {r r' : Role} → RoleStays r r' → IsShown r → IsShown r'
shown_now (same e) h = subst IsShown (sym e) h
shown_now (hidden x y) h = absurd (x h)
shown_now (passed one two x y) h = two

shown_before : {r r' : Role} → RoleStays r r' → IsShown r' → IsShown r
shown_before (same e) h = subst IsShown e h
shown_before (hidden x y) h = absurd (y h)
shown_before (passed one two x y) h = one

public_now : {r r' : Role} → RoleStays r r' → r ≡ Public → r' ≡ Public
public_now (same e) h = e ∙ h
public_now (hidden x y) h = absurd (x (subst IsShown (sym h) tt))
public_now (passed one two x y) h = absurd (x h)

public_before : {r r' : Role} → RoleStays r r' → r' ≡ Public → r ≡ Public
public_before (same e) h = sym e ∙ h
public_before (hidden x y) h = absurd (y (subst IsShown (sym h) tt))
public_before (passed one two x y) h = absurd (y h)

-- the roles, where one is changed so
roles_by : {f g : ℕ → Role} {b : ℕ} {r : Role} → Puts b r f g → RoleStays (f b) r → (a : ℕ) → RoleStays (f a) (g a)
roles_by {f} {g} {b} {r} puts stays a = by (cases_eq a b)
  where
    by : (a ≡ b) ⊎ (a ≢ b) → RoleStays (f a) (g a)
    by (inl e) = subst (λ (x : ℕ). RoleStays (f x) (g x)) (sym e) (subst (RoleStays (f b)) (sym puts.here) stays)
    by (inr ne) = same (puts.others a ne)

module _ {w w' : World} where
  covers_by : ((g : ℕ) → global_at w'.n g ≡ global_at w.n g) → ((a : ℕ) → IsShown (w.role a)
      → words_of w'.n a ≡ words_of w.n a)
      → ((a : ℕ) → IsShown (w.role a) → (allocation_at w'.n a).ty ≡ (allocation_at w.n a).ty)
      → ((a : ℕ) → RoleStays (w.role a) (w'.role a)) → Covers w w'
  covers_by globals words types roles = record {
    globals = globals;
    words = words;
    types = types;
    public = λ a. public_before (roles a);
    still = λ a. public_now (roles a);
    shown = λ a. shown_before (roles a);
    stays = λ a. shown_now (roles a);
  }

  pub by_look : Looks w w' → Covers w w'
  by_look looks =
      covers_by looks.globals (λ a h. ap (λ (xs : List Allocation).
      (get_or xs a no_allocation).words) looks.allocations)
      (λ a h. ap (λ (xs : List Allocation). (get_or xs a no_allocation).ty) looks.allocations)
      (λ a. same (looks.roles a))

  -- A caller stores in an object that it hasn't shared,
  pub by_own_write : {a i : ℕ} {v : Value} → Stores a i v w.n w'.n → (IsShown (w.role a) → ⊥)
      → ((b : ℕ) → w'.role b ≡ w.role b) → Covers w w'
  by_own_write {a} stores own roles =
      covers_by stores.globals (λ b h. stores.others b (λ e. own (subst (λ (x : ℕ). IsShown (w.role x)) e h)))
      (λ b h. stores.types b) (λ b. same (roles b))

  -- creates an object,
  pub by_grant : {k d ty : ℕ} → Creates k d ty w.n w'.n → Puts (length w.n.allocations) (Private k) w.role w'.role
      → w.role (length w.n.allocations) ≡ Unborn → Covers w w'
  by_grant {k} creates puts unborn =
      covers_by creates.globals (λ a h. ap (λ (x : Allocation). x.words) (creates.old a (old a h)))
      (λ a h. ap (λ (x : Allocation). x.ty) (creates.old a (old a h)))
      (roles_by puts (hidden (subst IsShown unborn) (λ h. h)))
    where
      old : (a : ℕ) → IsShown (w.role a) → a ≢ length w.n.allocations
      old a h e = subst IsShown unborn (subst (λ (x : ℕ). IsShown (w.role x)) e h)

  -- or frees one that it took.
  pub by_free : {k a : ℕ} → Frees w.n w'.n → Puts a Gone w.role w'.role → w.role a ≡ Taken k → Covers w w'
  by_free {k} {a} frees puts taken =
      covers_by frees.globals (λ b h. frees.words b) (λ b h. frees.types b) (roles_by puts (passed
      (subst IsShown (sym taken) tt) tt (λ e. (let x : Taken k ≡ Public = sym taken ∙ e in cc x)) (λ e. cc e)))
