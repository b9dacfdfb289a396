-- While no cell is released, words that aren't 0 lie on the pages of unreleased allocations; on all others they are 0.
use Rattle.mk_laws.proofs.Vocabulary.{Among, Claim, Config, HasZeros, IsClaimedRun, IsPlotShown, IsShown, MayHold}
use Rattle.mk_laws.proofs.Vocabulary.{Object, OfFreedRun, OfMapped, OfReleased, PlacedAllocation, RunStands, ShowsPart}
use Rattle.mk_laws.proofs.Vocabulary.{World, ℕ, and_parts, ap, arith, claim_of, claims_of, false, ground_of, head_on}
use Rattle.mk_laws.proofs.Vocabulary.{header_made, header_of, header_on, inl, inr, is_phase, leb-true, ltb-true}
use Rattle.mk_laws.proofs.Vocabulary.{made_shows, object_now, object_placed, pages_made, pages_some, part_head}
use Rattle.mk_laws.proofs.Vocabulary.{placed_at, refl, shows_on, slice_index, storage_words, subst, sym, used_on}
use Rattle.mk_laws.proofs.Vocabulary.{words_made, zero_scene_of, ◌+◌, ◌-◌, ◌/◌, ◌<◌, ◌∙◌, ◌≡◌, ◌≢◌, ◌≤◌}
use Rattle.mk_laws.proofs.Basics.{Laid, claim_among, claimed_some, ends_on_pages, mapped_stays, none_released, none_set}
use Rattle.mk_laws.proofs.{Basics.{own_claim, zero_unless}, LayoutReadings.claimed_head}

-- a world in order, whose phase isn't releasing
pub record Unreleasing (c : Config) (w : World) : Type 0 where
  pub off : is_phase w.now.words 4 ≡ false
  pub laid : Laid c (object_now c w.now) false w (ground_of w)
  pub zeros : HasZeros c w

-- The page is one of an allocation's claim.
pub record IsOnAllocation (c : Config) (w : World) (p : ℕ) : Type 0 where
  pub claim : Claim
  pub among : Among claim (claims_of c w.now.seats.holding.freed w.allocations)
  pub distance : ℕ
  pub near : distance < pages_made claim.object
  pub at : claim.page + distance ≡ p

pub shown_there : (c : Config) (w : World) (x : Claim) → Unreleasing c w
    → Among x (claims_of c w.now.seats.holding.freed w.allocations) → IsShown w.now.words.pages x
shown_there c w x q i = q.laid.scene.shown x (own_claim c _ (ground_of w) x i)

pub on_allocation : (c : Config) (w : World) (n : ℕ) → Unreleasing c w → slice_index w.now.words.heap n ≢ 0
    → IsOnAllocation c w (n / 64)
on_allocation c w n q some = by (q.zeros n some)
  where
    by : MayHold c (zero_scene_of w) n → IsOnAllocation c w (n / 64)
    by (OfMapped m) =
        let a : PlacedAllocation = placed_at w.allocations m.number in
        let u = mapped_stays c a m.mapped in
        let x : Claim = claim_of c w.now.seats.holding.freed a in
        let i = claim_among c w.now.seats.holding.freed w.allocations m.number u in
        let ends = ends_on_pages _ a.base (shown_there c w x q i).sized (q.laid.cells m.number u).begins in
        let words : storage_words c a ≡ words_made (object_placed c a) = refl in
        let from : a.base ≤ n = m.word.0 in
        let to : n < a.base + storage_words c a = m.word.1 in
        record { claim = x; among = i; distance = n / 64 - a.base / 64; near = omega arith; at = omega arith }
    by (OfReleased r) = absurd (none_released c (zero_scene_of w) n q.off r)
    by (OfFreedRun f) =
        let x : IsClaimedRun (claims_of c w.now.seats.holding.freed w.allocations) f.run =
        subst (RunStands (claims_of c w.now.seats.holding.freed w.allocations)) f.there q.laid.gone in
        let parts = and_parts _ _ f.word in
        let from = leb-true f.run.page (n / 64) parts.0 in
        let to = ltb-true _ f.run.count parts.1 in
        let page = x.page in
        let count = x.count in
        let d : ℕ = n / 64 - f.run.page in
        record { claim = x.claim; among = x.among; distance = d; near = omega arith; at = omega arith }

-- The words of a page are 0 that has no header,
pub bare_page : {c : Config} {w : World} (p n : ℕ) → Unreleasing c w → header_on w.now.words.pages p ≡ 0 → n / 64 ≡ p
    → slice_index w.now.words.heap n ≡ 0
bare_page {c} {w} p n q free at = zero_unless _ (λ some.
    let x = on_allocation c w n q some in
    claimed_some w.now.words.pages x.claim x.distance (shown_there c w x.claim q x.among) x.near
    (ap (λ i. header_on w.now.words.pages i) (x.at ∙ at) ∙ free))

-- and of one of a plot.
pub plot_page : {c : Config} {w : World} {first : ℕ} {o : Object} (distance n : ℕ) → Unreleasing c w
    → IsPlotShown w.now.words.pages first o
    → distance < pages_made o → n / 64 ≡ first + distance → slice_index w.now.words.heap n ≡ 0
plot_page {c} {w} {first} {o} distance n q plot lt at = elim (plot.headers distance lt) [
  | inl free ↦ bare_page (first + distance) n q free at
  | inr made ↦ zero_unless _ (λ some. no_claim made (on_allocation c w n q some))
]
  where
    no_claim : header_on w.now.words.pages (first + distance) ≡ header_made o distance → IsOnAllocation c w (n / 64) → ⊥
    no_claim made x =
        let shown = shown_there c w x.claim q x.among in
        let part : ShowsPart o distance (shows_on w.now.words.pages (first + distance)) =
        subst (λ h. ShowsPart o distance (header_of h)) (sym made) (made_shows o distance plot.sized lt) in
        let some = pages_some o plot.sized in
        let zero : first + 0 ≡ first = omega arith in
        let page : x.claim.page ≡ first = sym (claimed_head w.now.words.pages x.claim x.distance shown x.near)
        ∙ ap (head_on w.now.words.pages) (x.at ∙ at) ∙ part_head o distance first _ part in
        none_set _ _ (ap (used_on w.now.words.pages) (page ∙ sym zero) ∙ plot.used 0 (omega arith)) shown.used
