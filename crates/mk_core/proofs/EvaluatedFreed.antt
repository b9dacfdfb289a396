-- What headers and freed bits tell after a small history: the one freed bit is that of the third object.
use Rattle.std.proofs.{Common.ap₂, lemmas.Nat.Bits.{bit_at-pow_other, bit_at-zero}}
use Rattle.mk_core.proofs.Vocabulary.{Bool, Cell, Later, Some, World, ℕ, all_below, ap, arith, cases_eq, cells_under}
use Rattle.mk_core.proofs.Vocabulary.{eqb-false, eqb-true, false, false≢true, first_moment, header_at, header_in, inl}
use Rattle.mk_core.proofs.Vocabulary.{inr, left, left_from, ltb-true, placed_at, pointed_cell, refl, stands_in, subst}
use Rattle.mk_core.proofs.Vocabulary.{suc, sym, true, zero, zero_words_of, [], ◌<◌, ◌==◌, ◌∙◌, ◌∷◌, ◌≡◌}
use Rattle.mk_geom.specs.Addresses.{IsHeaderWord}
use Rattle.mk_core.proofs.SmallCycles.{small, three_objects}
use Rattle.mk_core.specs.{Cells.is_freed, Readings.{IsTaken, WordsTellWhatStands}}

abbrev pub second_cell : Cell
second_cell = record { page = 0; index = 1 }

abbrev pub third_cell : Cell
third_cell = record { page = 0; index = 2 }

pub third_is_taken : IsTaken (left small three_objects) third_cell
unfolding left_from all_below pointed_cell three_objects
third_is_taken = record { number = 2; in_range = ltb-true 2 32 refl; stands = refl }

pub third_is_freed : is_freed (left small three_objects).now.words third_cell ≡ true
unfolding left_from all_below pointed_cell three_objects
third_is_freed = refl

pub second_is_not_freed : is_freed (left small three_objects).now.words second_cell ≡ false
unfolding left_from all_below pointed_cell three_objects
second_is_not_freed = refl

headers : (p : ℕ) → IsHeaderWord (header_at (left small three_objects).now.words p)
unfolding left_from all_below pointed_cell three_objects
headers zero = refl
headers (suc p) = refl

only_third : (page index : ℕ) → is_freed (left small three_objects).now.words (record { page = page; index = index })
    ≡ true → (page ≡ 0) × (index ≡ 2)
unfolding left_from all_below pointed_cell three_objects
only_third zero index h = elim (cases_eq index 2) [
  | inl e ↦ (refl, e)
  | inr ne ↦ absurd (false≢true (sym (ap (λ b. b == 1) (bit_at-pow_other 2 index ne)) ∙ h))
]
only_third (suc page) index h = absurd (false≢true (sym (ap (λ b. b == 1) (bit_at-zero index)) ∙ h))

freed_number : (number : ℕ) → (placed_at (left small three_objects).allocations number).freed ≡ true → number ≡ 2
unfolding left_from all_below pointed_cell three_objects
freed_number x0 h = grind arith

cell_of_third : (page index : ℕ) → index < cells_under (header_in (left small three_objects).now.words page)
    → stands_in (left small three_objects).now.words (record { page = page; index = index })
    (placed_at (left small three_objects).allocations 2) ≡ true
    → is_freed (left small three_objects).now.words (record { page = page; index = index }) ≡ true
unfolding left_from all_below pointed_cell three_objects
cell_of_third x0 index lt h = grind (arith, eqb-true)

no_later : (p distance : ℕ) (mapped : Bool)
    → header_in (left small three_objects).now.words p ≡ Some (Later distance mapped) → ⊥
unfolding left_from all_below pointed_cell three_objects
no_later zero distance mapped h = cc
no_later (suc p) distance mapped h = cc

third_was_freed : (placed_at (left small three_objects).allocations third_is_taken.number).freed ≡ true
unfolding left_from all_below pointed_cell three_objects third_is_taken
third_was_freed = refl

pub words_tell_what_stands : WordsTellWhatStands (left small three_objects)
words_tell_what_stands =
    let w = left small three_objects in
    record {
      headers = headers;
      later = λ settled p distance mapped h. absurd (no_later p distance mapped h);
      freed = λ settled cell h. subst (λ x. (a : IsTaken w x) × ((placed_at w.allocations a.number).freed ≡ true))
          (sym (ap₂ (λ (p i : ℕ). record { page = p; index = i }) (only_third cell.page cell.index h).0
          (only_third cell.page cell.index h).1)) (third_is_taken, third_was_freed);
      quarantined = λ cell a h. cell_of_third cell.page cell.index a.in_range (subst
          (λ i. stands_in w.now.words cell (placed_at w.allocations i) ≡ true) (freed_number a.number h) a.stands);
    }

-- what no history leaves: a freed bit where there is no object
abbrev pub bare : World
bare = record {
  now = record (first_moment small) { words = record (zero_words_of 1) { freed = 4 ∷ [] } };
  allocations = [];
}

bare_tells_wrong : WordsTellWhatStands bare → ⊥
bare_tells_wrong tells = false≢true (tells.freed (eqb-false 0 4 refl) third_cell refl).0.stands
