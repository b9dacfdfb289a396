-- An unreleased allocation keeps its place, and stays unreleased, up to a `release`.
use Rattle.mk_laws.proofs.Vocabulary.{Config, Event, List, PlacedAllocation, Seat, Step, World, ℕ, cell_of_allocation}
use Rattle.mk_laws.proofs.Vocabulary.{false, flight_of, is_release, left_from, list_any, or_parts, placed_at, refl}
use Rattle.mk_laws.proofs.{Vocabulary.{world_behind, [], ◌∙◌, ◌∷◌, ◌≡◌}, Ground.{allocation_step, goes_on, is_there}}
use Rattle.mk_laws.proofs.Basics.{WorldBehind, same_cell}

pub record StaysPut (a b : PlacedAllocation) : Type 0 where
  pub base : b.base ≡ a.base
  pub ty : b.ty ≡ a.ty
  pub unreleased : b.released ≡ false

-- so it keeps its cell
pub keeps_cell : (c : Config) (a b : PlacedAllocation) → StaysPut a b → cell_of_allocation c b ≡ cell_of_allocation c a
keeps_cell c a b put = same_cell c a b put.base put.ty

pub put_step : (c : Config) (w : World) (seat : Seat) (x : Step) (i : ℕ) → is_release x ≡ false
    → (placed_at w.allocations i).released ≡ false
    → StaysPut (placed_at w.allocations i) (placed_at (WorldBehind c w seat x).allocations i)
put_step c w seat x i out u =
    let step = allocation_step c w.now (flight_of w.now seat) x w.allocations in
    let on = goes_on w.allocations (WorldBehind c w seat x).allocations x i step (is_there w.allocations i u) in
    record { base = on.same.base; ty = on.same.ty; unreleased = on.stays out u }

pub stays_put : (c : Config) (w : World) (es : List Event) (i : ℕ)
    → list_any (λ (e : Event). is_release e.step) es ≡ false → (placed_at w.allocations i).released ≡ false
    → StaysPut (placed_at w.allocations i) (placed_at (left_from c w es).allocations i)
unfolding left_from
stays_put c w [] i none u = record { base = refl; ty = refl; unreleased = u }
stays_put c w (e ∷ es) i none u =
    let outs = or_parts _ (list_any (λ (x : Event). is_release x.step) es) none in
    let one = put_step c w e.seat e.step i outs.0 u in
    let rest = stays_put c (world_behind c w e) es i outs.1 one.unreleased in
    record { base = rest.base ∙ one.base; ty = rest.ty ∙ one.ty; unreleased = rest.unreleased }
