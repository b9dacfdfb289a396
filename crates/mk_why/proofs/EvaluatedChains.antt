-- Why objects are kept at the closes of two small cycles: by a register, by a chain of one link, and by no chain.
use Rattle.mk_why.proofs.Vocabulary.{Config, IsWhy, Register, Root, World, word_of_root}
use Rattle.mk_sweep.proofs.Below.Laws.Vocabulary.{Bool, List, None, Some, ℕ, arith, false, false≢true, leb-true}
use Rattle.mk_sweep.proofs.Below.Laws.Vocabulary.{ltb-true, refl, small, subst, true, zero, [], ◌∷◌, ◌≡◌, length, ◌≤◌}
use Rattle.mk_core.proofs.{ListTests.{list_all-at, numbered_all}, Schedules.{by, c0, host, pointer_page}}
use Rattle.mk_core.proofs.{SmallCycles.{begun_in_stop, marked_in_stop, three_objects}, MoreSchedules.exchanged}
use Rattle.mk_core.proofs.TouchedTests.{is_into_members, points_into}
use Rattle.mk_core.specs.{Words.all_below, Cells.pointed_cell, History.left_from}
use Rattle.mk_sweep.proofs.EvaluatedSwept.{all_into, stopped, swept_in_stop, two_unreached, unreached}
use Rattle.mk_why.specs.Chains.{IsChain}

-- Where what roots point into are members of a set, so is what each chain begins with.
module _ (c : Config) (w : World) (S : ℕ → Bool) (registers : all_into c w S w.now.words.registers ≡ true)
    (globals : all_into c w S w.now.words.globals ≡ true) where
  begins_in : (root : Root) (links : List ℕ) (b : ℕ) (chain : IsChain c w root links b) → S chain.first ≡ true
  begins_in root links b chain =
      points_into c w S (word_of_root w.now.words root) chain.first (
      grind (arith, list_all-at, is_into_members)) chain.points

-- A register holds the first of three objects, and a word of the first points to the second.

abbrev is_first : ℕ → Bool
is_first zero = true
is_first _ = false

registers_into_first : all_into small stopped is_first stopped.now.words.registers ≡ true
unfolding left_from all_below pointed_cell numbered_all begun_in_stop three_objects marked_in_stop
registers_into_first = refl

globals_into_first : all_into small stopped is_first stopped.now.words.globals ≡ true
unfolding left_from all_below pointed_cell numbered_all begun_in_stop three_objects marked_in_stop
globals_into_first = refl

pub chain_to_first : IsChain small stopped (Register 0 0) [] 0
unfolding left_from all_below pointed_cell begun_in_stop three_objects marked_in_stop
chain_to_first = grind (arith, ltb-true, leb-true)

chain_to_second : IsChain small stopped (Register 0 0) (65536 ∷ []) 1
unfolding left_from all_below pointed_cell begun_in_stop three_objects marked_in_stop
chain_to_second = grind (arith, ltb-true, leb-true)

-- No root's word points into the second.
none_is_shorter : (root : Root) (links : List ℕ) → IsChain small stopped root links 1 → 1 ≤ length links
none_is_shorter root [] chain =
    let begins = begins_in small stopped is_first registers_into_first globals_into_first root [] 1 chain in
    absurd (false≢true (subst (λ (first : ℕ). is_first first ≡ true) chain.leads begins))
none_is_shorter root (link ∷ links) chain = omega arith

pub why_second_is_kept : IsWhy small stopped 1 (Some (Register 0 0)) (65536 ∷ [])
why_second_is_kept = (chain_to_second, none_is_shorter)

-- No root leads anywhere, so no chain leads to the second of two objects, which a sweep keeps for a word of the first.

abbrev nothing : ℕ → Bool
nothing _ = false

registers_into_nothing : all_into pointer_page unreached nothing unreached.now.words.registers ≡ true
unfolding left_from by c0 host all_below pointed_cell numbered_all pointer_page exchanged two_unreached swept_in_stop
registers_into_nothing = refl

globals_into_nothing : all_into pointer_page unreached nothing unreached.now.words.globals ≡ true
unfolding left_from by c0 host all_below pointed_cell numbered_all pointer_page exchanged two_unreached swept_in_stop
globals_into_nothing = refl

pub why_second_floats : IsWhy pointer_page unreached 1 None []
why_second_floats = (
  refl,
  λ root links chain. false≢true
      (begins_in pointer_page unreached nothing registers_into_nothing globals_into_nothing root links 1 chain),
)
