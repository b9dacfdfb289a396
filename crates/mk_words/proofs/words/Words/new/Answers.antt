use Rattle.std.proofs.Common.{All, replicate}
use Rattle.mk_laws.proofs.Vocabulary.{List, ℕ, ap, arith, free_page, length, refl, [], ◌∙◌, ◌∷◌, ◌≡◌}
use Rattle.mk_core.specs.Below.Books.KnownPages.{KnownPages, Shows}
use Rattle.mk_laws.proofs.OrderlyLists.{at_first}
use Rattle.mk_words.proofs.Owed.{first_call, first_in_order}
use Rattle.mk_words.proofs.words.Words.new.Goals as goal

-- the only one of a list
only_one : (P : KnownPages → Type 0) (slots : List KnownPages) → length slots ≡ 1 → All P slots
    → (map : KnownPages) × (slots ≡ map ∷ []) × P map
only_one P [] one all = absurd (omega arith)
only_one P (map ∷ []) one all = (map, refl, all 0 map (omega arith))
only_one P (map ∷ next ∷ more) one all = absurd (omega arith)

pub new-requires : goal.new-requires
new-requires c =
    let pages = c.args.config.now.pages in
    let home = only_one (λ m. Shows m (replicate pages free_page) (replicate pages 0)) c.in_ok-slots.slots.items
    c.in_ok-slots.ensures.one c.in_ok-slots.ensures.shows in
    first_call c.args.config.now c.zeros-zeros.result.now c.in_ok-slots.slots.items home.0 c.requires
    (c.zeros-zeros.ensures ∙ ap (λ (n : ℕ). replicate {A = ℕ} n 0) c.count_of_words.ensures.exact) home.1 (record {
      words = home.2;
      unmarked = λ page bare cleaned. record { unmarked = at_first pages page 0; unscanned = at_first pages page 0 };
    })

pub invariant_of-result : goal.invariant_of-result
invariant_of-result c = grind (arith, first_in_order)
