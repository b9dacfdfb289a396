-- `grant` on the terrain: what is granted is the claim of its place.
use Rattle.mk_laws.proofs.Vocabulary.{BeginsAtCell, Bool, Config, Granted, Ground, HasLayout, IsLaidOn, IsShown, List}
use Rattle.mk_laws.proofs.Vocabulary.{NoPlot, Option, Place, PlacedAllocation, RunPages, RunStands, Used, ℕ, append-nil}
use Rattle.mk_laws.proofs.Vocabulary.{arith, base_made, cell_of_allocation, claim_of, claims_of, cond-false, false}
use Rattle.mk_laws.proofs.Vocabulary.{if◌then◌else◌, inl, inr, layout_scene_of, length, object_placed, place_claim}
use Rattle.mk_laws.proofs.Vocabulary.{placed_at, refl, suc, sym, true, zero, [], ◌++◌, ◌/◌, ◌<◌, ◌∙◌, ◌∷◌, ◌≡◌, ◌≤◌}
use Rattle.mk_laws.proofs.{Vocabulary.◌⊎◌, Released.place_index, Serving.{among_back, among_front}}
use Rattle.mk_core.proofs.StandingAllocations.{made_begins}

-- An allocation after a `grant` is one from before, or the new one.
pub pushed_new : (xs : List PlacedAllocation) (a : PlacedAllocation) (i : ℕ)
    → (placed_at (xs ++ a ∷ []) i ≡ placed_at xs i) ⊎ ((placed_at (xs ++ a ∷ []) i ≡ a) × (length xs ≤ i))
pushed_new [] a zero = inr (refl, omega arith)
pushed_new [] a (suc i) = inl refl
pushed_new (x ∷ xs) a zero = inl refl
pushed_new (x ∷ xs) a (suc i) = elim (pushed_new xs a i) [ inl e ↦ inl e | inr e ↦ inr (e.0, omega (arith, e.1)) ]

pub pushed_any : (xs : List PlacedAllocation) (a : PlacedAllocation) (i : ℕ)
    → (placed_at (xs ++ a ∷ []) i ≡ placed_at xs i) ⊎ (placed_at (xs ++ a ∷ []) i ≡ a)
pushed_any xs a i = elim (pushed_new xs a i) [ inl e ↦ inl e | inr e ↦ inr e.0 ]

pub pushed_at : (xs : List PlacedAllocation) (a : PlacedAllocation) (i : ℕ) → (placed_at (xs ++ a ∷ []) i).released
    ≡ false → (((placed_at xs i).released ≡ false) × (placed_at (xs ++ a ∷ []) i ≡ placed_at xs i))
    ⊎ (placed_at (xs ++ a ∷ []) i ≡ a)
pushed_at xs a i u = elim (pushed_any xs a i) [ inl e ↦ inl (rw (← e) u, e) | inr e ↦ inr e ]

-- One that was there is.
pub still_at : (xs : List PlacedAllocation) (a : PlacedAllocation) (i : ℕ) → (placed_at xs i).released ≡ false
    → placed_at (xs ++ a ∷ []) i ≡ placed_at xs i
still_at (x ∷ xs) a (suc i) u = still_at xs a i u
still_at _ a _ u = cc

pub pushed_claims : (c : Config) (run : Option RunPages) (xs : List PlacedAllocation) (a : PlacedAllocation)
    → a.released ≡ false → claims_of c run (xs ++ a ∷ []) ≡ claims_of c run xs ++ claim_of c run a ∷ []
pushed_claims c run [] a u = cond-false a.released [] (claim_of c run a ∷ []) u
pushed_claims c run (x ∷ xs) a u = rw (pushed_claims c run xs a u) (by x.released)
  where
    by : (b : Bool) → (if b then claims_of c run xs ++ claim_of c run a ∷ []
        else claim_of c run x ∷ (claims_of c run xs ++ claim_of c run a ∷ []))
        ≡ (if b then claims_of c run xs else claim_of c run x ∷ claims_of c run xs) ++ claim_of c run a ∷ []
    by true = refl
    by false = refl

-- The new allocation has its place's base, and isn't freed or released.
pub record IsGrantedAt (c : Config) (a : PlacedAllocation) (place : Place) : Type 0 where
  pub typed : a.ty < length c.types
  pub base : a.base ≡ base_made (object_placed c a) place
  pub freed : a.freed ≡ false
  pub unreleased : a.released ≡ false

pub granted_terrain : (c : Config) (releasing : Bool) (marks : List ℕ) (t : Ground) (place : Place)
    (a : PlacedAllocation) → t.placing ≡ Used place → IsGrantedAt c a place
    → HasLayout c (object_placed c a) releasing marks t → HasLayout c (object_placed c a) releasing marks
    (record t { placing = Granted; allocations = t.allocations ++ a ∷ [] })
granted_terrain c releasing marks t place a used is st = record {
  scene = rw claims at was;
  gone = gone t.run st.gone;
  first = tt;
  cells = λ i u. elim (pushed_at t.allocations a i u) [
    | inl old ↦ rw old.1 (st.cells i old.0)
    | inr new ↦ rw new (record { typed = is.typed; begins = begins })
  ];
}
  where
    was : IsLaidOn (record (layout_scene_of c (object_placed c a) releasing marks t)
        { claims = claims_of c t.run t.allocations ++ place_claim (object_placed c a) place ∷ []; plot = NoPlot })
    was = rw used at st.scene

    shown : IsShown t.pages (place_claim (object_placed c a) place)
    shown = was.shown (place_claim (object_placed c a) place) (among_back (claims_of c t.run t.allocations) _
        _ (inl refl))

    begins : BeginsAtCell (object_placed c a) a.base
    begins = rw is.base (made_begins _ place shown.sized shown.known).0

    at : (a.base / 64 ≡ place.page) × ((cell_of_allocation c a).index ≡ place.index)
    at = place_index c a place shown.sized is.base shown.known

    claim : claim_of c t.run a ≡ place_claim (object_placed c a) place
    claim = rw at.0 (rw at.1 (rw is.freed))

    claims : claims_of c t.run t.allocations ++ place_claim (object_placed c a) place ∷ []
        ≡ claims_of c t.run (t.allocations ++ a ∷ []) ++ []
    claims = rw (← claim) (sym (pushed_claims c t.run t.allocations a is.unreleased) ∙ sym (append-nil _))

    gone : (r : Option RunPages) → RunStands (claims_of c t.run t.allocations) r
        → RunStands (claims_of c t.run (t.allocations ++ a ∷ [])) r
    gone x1 x = grind (arith, claim, pushed_claims, among_front)
