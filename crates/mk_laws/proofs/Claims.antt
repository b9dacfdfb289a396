-- The claims of the allocations, by their numbers, and after a change of each.
use Rattle.mk_laws.proofs.Vocabulary.{Among, AreApart, Cell, Claim, Config, IsAtCell, IsOfOneCell, LeavesPlaces, List}
use Rattle.mk_laws.proofs.Vocabulary.{Option, PlacedAllocation, RunPages, ℕ, ap, arith, cases_Bool, cell_of_allocation}
use Rattle.mk_laws.proofs.Vocabulary.{changed_at, claim_of, claims_of, cond-false, cond-true, false, inl, inr, map}
use Rattle.mk_laws.proofs.Vocabulary.{placed_at, refl, subst, suc, true, true≢false, zero, [], ◌∙◌, ◌∷◌, ◌≡◌}

-- the unreleased allocation whose claim it is
pub record IsClaimOf (c : Config) (run : Option RunPages) (xs : List PlacedAllocation) (x : Claim) : Type 0 where
  pub number : ℕ
  pub unreleased : (placed_at xs number).released ≡ false
  pub is : x ≡ claim_of c run (placed_at xs number)

-- one allocation more at the front
pub front : (c : Config) (run : Option RunPages) (a : PlacedAllocation) (xs : List PlacedAllocation)
    → a.released ≡ false → claims_of c run (a ∷ xs) ≡ claim_of c run a ∷ claims_of c run xs
front c run a xs u = cond-false a.released _ _ u

pub gone_front : (c : Config) (run : Option RunPages) (a : PlacedAllocation) (xs : List PlacedAllocation)
    → a.released ≡ true → claims_of c run (a ∷ xs) ≡ claims_of c run xs
gone_front c run a xs r = cond-true a.released _ _ r

behind_front : {c : Config} {run : Option RunPages} (a : PlacedAllocation) {xs : List PlacedAllocation} {x : Claim}
    → IsClaimOf c run xs x → IsClaimOf c run (a ∷ xs) x
behind_front a h = record { number = suc h.number; unreleased = h.unreleased; is = h.is }

pub claim_is : (c : Config) (run : Option RunPages) (xs : List PlacedAllocation) (x : Claim)
    → Among x (claims_of c run xs) → IsClaimOf c run xs x
claim_is c run [] x i = absurd i
claim_is c run (a ∷ xs) x i = elim (cases_Bool a.released) [
  | inl r ↦ behind_front a (claim_is c run xs x (rw (gone_front c run a xs r) at i))
  | inr u ↦
      let j : Among x (claim_of c run a ∷ claims_of c run xs) = rw (front c run a xs u) at i in
      elim j [
        | inl e ↦ record { number = 0; unreleased = u; is = e }
        | inr k ↦ behind_front a (claim_is c run xs x k)
      ]
]

pub claim_among : (c : Config) (run : Option RunPages) (xs : List PlacedAllocation) (i : ℕ)
    → (placed_at xs i).released ≡ false → Among (claim_of c run (placed_at xs i)) (claims_of c run xs)
claim_among c run [] i u = absurd (true≢false u)
claim_among c run (a ∷ xs) zero u = rw (front c run a xs u) (inl refl)
claim_among c run (a ∷ xs) (suc i) u = elim (cases_Bool a.released) [
  | inl r ↦ rw (gone_front c run a xs r) (claim_among c run xs i u)
  | inr v ↦ rw (front c run a xs v) (inr (claim_among c run xs i u))
]

-- A change of each allocation that leaves it at its place and undoes no release.
pub record LeavesCells (g : PlacedAllocation → PlacedAllocation) : Type 0 where
  pub places : LeavesPlaces g
  pub released : (a : PlacedAllocation) → (g a).released ≡ false → a.released ≡ false

pub same_cell : (c : Config) (a b : PlacedAllocation) → b.base ≡ a.base → b.ty ≡ a.ty
    → cell_of_allocation c b ≡ cell_of_allocation c a
same_cell c a b base ty = rw base (rw ty)

pub one_cell : (c : Config) (old new : Option RunPages) (a b : PlacedAllocation) → b.base ≡ a.base → b.ty ≡ a.ty
    → IsOfOneCell (claim_of c new b) (claim_of c old a)
one_cell c old new a b base ty = (rw base, ap (λ (x : Cell). x.index) (same_cell c a b base ty))

-- A claim after it is that of an allocation that was unreleased.
pub record WasClaim (c : Config) (run : Option RunPages) (g : PlacedAllocation
    → PlacedAllocation) (xs : List PlacedAllocation) (y : Claim) : Type 0 where
  pub number : ℕ
  pub unreleased : (g (placed_at xs number)).released ≡ false
  pub was : (placed_at xs number).released ≡ false
  pub is : y ≡ claim_of c run (g (placed_at xs number))

pub was_claim : (c : Config) (run : Option RunPages) {g : PlacedAllocation
    → PlacedAllocation} (xs : List PlacedAllocation) (y : Claim) → LeavesCells g
    → Among y (claims_of c run (map g xs)) → WasClaim c run g xs y
was_claim c run xs y leaves i = grind (arith, claim_is, changed_at)

pub changed_among : (c : Config) (run : Option RunPages) {g : PlacedAllocation
    → PlacedAllocation} (xs : List PlacedAllocation) (i : ℕ) → LeavesCells g
    → (g (placed_at xs i)).released ≡ false → Among (claim_of c run (g (placed_at xs i))) (claims_of c run (map g xs))
changed_among c run {g = g} xs i leaves u =
    let at = changed_at g xs i leaves.places.none in
    subst (λ (a : PlacedAllocation). Among (claim_of c run a) (claims_of c run (map g xs))) at
    (claim_among c run (map g xs) i (ap (λ (a : PlacedAllocation). a.released) at ∙ u))

-- Claims apart: those of the rest are so, and none of them has the first one's cell.

pub rest_apart : (c : Config) (run : Option RunPages) (a : PlacedAllocation) (xs : List PlacedAllocation)
    → AreApart (claims_of c run (a ∷ xs)) → AreApart (claims_of c run xs)
rest_apart c run a xs apart = elim (cases_Bool a.released) [
  | inl r ↦ rw (gone_front c run a xs r) at apart
  | inr u ↦ let both : AreApart (claim_of c run a ∷ claims_of c run xs) = rw (front c run a xs u) at apart in both.1
]

pub first_apart : (c : Config) (run : Option RunPages) (a : PlacedAllocation) (xs : List PlacedAllocation)
    → a.released ≡ false → AreApart (claims_of c run (a ∷ xs)) → (i : ℕ) → (placed_at xs i).released ≡ false
    → IsOfOneCell (claim_of c run a) (claim_of c run (placed_at xs i)) → ⊥
first_apart c run a xs u apart i v same =
    let both : AreApart (claim_of c run a ∷ claims_of c run xs) = rw (front c run a xs u) at apart in
    both.0 _ (claim_among c run xs i v) same

-- Claims stay apart,
pub apart_behind : (c : Config) (old new : Option RunPages) {g : PlacedAllocation → PlacedAllocation}
    (xs : List PlacedAllocation) → LeavesCells g → AreApart (claims_of c old xs) → AreApart (claims_of c new (map g xs))
apart_behind c old new [] leaves apart = apart
apart_behind c old new {g = g} (a ∷ xs) leaves apart =
    let rest = apart_behind c old new xs leaves (rest_apart c old a xs apart) in
    elim (cases_Bool (g a).released) [
      | inl r ↦ rw (gone_front c new (g a) (map g xs) r) rest
      | inr u ↦ rw (front c new (g a) (map g xs) u) (
        λ y i same.
            let was = was_claim c new xs y leaves i in
            let b : PlacedAllocation = placed_at xs was.number in
            let of_b = one_cell c old new b (g b) (leaves.places.base b) (leaves.places.ty b) in
            let of_a = one_cell c old new a (g a) (leaves.places.base a) (leaves.places.ty a) in
            grind (arith, first_apart),
        rest,
      )
    ]

-- and allocations at their cells.
pub at_cell : {c : Config} {a : PlacedAllocation} (b : PlacedAllocation) → b.base ≡ a.base → b.ty ≡ a.ty
    → IsAtCell c a → IsAtCell c b
at_cell b base ty at = grind arith

pub cells_behind : (c : Config) {g : PlacedAllocation → PlacedAllocation} (xs : List PlacedAllocation) → LeavesCells g
    → ((i : ℕ) → (placed_at xs i).released ≡ false → IsAtCell c (placed_at xs i))
    → (i : ℕ) → (placed_at (map g xs) i).released ≡ false → IsAtCell c (placed_at (map g xs) i)
cells_behind c xs leaves cells i u = grind (arith, changed_at, at_cell)
