-- What the layout and the quarantine say of all histories.
use Rattle.mk_laws.proofs.Vocabulary.{Config, Event, IsHistory, LayoutPremisesFrom, List, OfHistories, World}
use Rattle.mk_laws.proofs.Vocabulary.{append_assoc, earlier_part_is_history, histories_keep_lengths, left, left_from}
use Rattle.mk_laws.proofs.Vocabulary.{left_in_parts, subst, sym, [], ◌++◌, ◌∷◌, ◌≡◌}
use Rattle.mk_laws.proofs.InvariantHistories.{histories_keep_the_invariant, told_to_layout}
use Rattle.mk_laws.proofs.{Basics.known_world, CycleSnapshots.snapshots_are_of_cycles, ResidentPages.resident_few}
use Rattle.mk_laws.specs.Theorems.{FewPagesAreResident}
use Rattle.mk_laws.proofs.InvariantLaws.{PagesHaveHeaderWords, SnapshotIsTheCycles}

pub pages_have_header_words : OfHistories PagesHaveHeaderWords
pages_have_header_words c es h = (histories_keep_the_invariant c es h).order.words

pub few_pages_are_resident : OfHistories FewPagesAreResident
few_pages_are_resident c es h =
    resident_few c (left c es) (histories_keep_lengths c es).pages (histories_keep_the_invariant c es h).order.room

-- The layout is told what it asks along a history.
told_from : (c : Config) (done es : List Event) → IsHistory c (done ++ es) → LayoutPremisesFrom c (left c done) es
unfolding LayoutPremisesFrom left_from
told_from c done [] h = tt
told_from c done (e ∷ es) h =
    let here = earlier_part_is_history c done (e ∷ es) h in
    let split : done ++ e ∷ es ≡ (done ++ e ∷ []) ++ es = sym (append_assoc done (e ∷ []) es) in (
      told_to_layout c (left c done) _ (known_world c done here.within_limits here.enabled)
          (histories_keep_the_invariant c done here),
      subst (λ (w : World). LayoutPremisesFrom c w es) (left_in_parts c done (e ∷ []))
          (told_from c (done ++ e ∷ []) es (subst (IsHistory c) split h)),
    )

pub snapshot_is_the_cycles : OfHistories SnapshotIsTheCycles
unfolding left_from
snapshot_is_the_cycles c es h = snapshots_are_of_cycles c es h.within_limits h.enabled (told_from c [] es h)

pub ruleset pages_are_in_order_facts = (pages_have_header_words, few_pages_are_resident)
