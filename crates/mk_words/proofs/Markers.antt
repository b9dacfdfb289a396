-- What a seat is at as a marker, after its own steps and those of others.
use Rattle.mk_laws.proofs.Vocabulary.{Caller, Config, Group, Host, Marker, MarkerState, Moment, Seat, Step, World, ℕ}
use Rattle.mk_laws.proofs.Vocabulary.{ap, arith, enabled_meets, found, get_or-set_same, group_of, is_open_to, length}
use Rattle.mk_laws.proofs.Vocabulary.{ltb-true, marker_at, marker_behind, marker_may, outside, seat_exists, subst, sym}
use Rattle.mk_laws.proofs.Vocabulary.{true, ◌<◌, ◌∙◌, ◌≡◌}
use Rattle.mk_core.specs.Effects.{moment_behind}
use Rattle.mk_words.{proofs.Made.{Made, made}, specs.Steps.{IsEnabledTo, Tells, found_by, moment_of}}
use Rattle.mk_words.specs.{Steps.{Marks, marker_in}, States.{PassState, event_of, now_of}}

-- a marker's step is a marker's

marker_steps : (seat : Seat) (g : Group) → g ≡ Group.Markers → is_open_to seat g ≡ true → (k : ℕ) × (seat ≡ Marker k)
marker_steps seat x1 m h = grind arith

behind_own : (c : Config) (m : Moment) (seat : Seat) (k : ℕ) (s : Step) → seat ≡ Marker k → k < length m.seats.markers
    → marker_at (moment_behind c m (record { seat = seat; step = s })) seat
    ≡ marker_behind c (found c m (record { seat = seat; step = s })) s (marker_at m seat)
behind_own c m (Marker j) k s is lt = let same : j ≡ k = cc in get_or-set_same m.seats.markers j _ outside (omega arith)
behind_own c m (Caller j) k s is lt = cc
behind_own c m Host k s is lt = cc

module _ (p : PassState) (s : Step) (n : ℕ) (q : PassState) (t : Tells p s n q) where
  d : Made p s q t.makes
  d = made p s q t.makes

  pub marks : group_of s ≡ Group.Markers → Marks p s n q
  marks kind =
      let c : Config = p.table.config in
      let k = marker_steps p.seat (group_of s) kind d.meets.kind in
      let lt : k.0 < 8 = ltb-true k.0 8 (subst (λ (x : Seat). seat_exists c x ≡ true) k.1 d.meets.seat) in
      let found_is : n ≡ found_by t.makes = grind arith in
      record {
        finds = record { makes = t.makes; finds = found_is };
        marker =
            ap (λ (x : Seat). marker_at (now_of q) x) d.seat ∙ ap (λ (w : World). marker_at w.now p.seat) d.world
            ∙ behind_own c (moment_of t.makes) p.seat k.0 s k.1 (subst (λ (i : ℕ). k.0 < i) (sym d.protocol.markers) lt)
            ∙ ap (λ (x : MarkerState). marker_behind c (found_by t.makes) s x) d.frame.own.marker
            ∙ ap (λ (i : ℕ). marker_behind c i s (marker_in p)) (sym found_is);
      }

-- what an enabled step of a marker's is asked of what the marker is at
pub own_met : (p : PassState) (s : Step) → IsEnabledTo p s → marker_may p.table.config (marker_in p) s ≡ true
own_met p s on = (enabled_meets p.table.config (now_of p) (event_of p s) on).marker
