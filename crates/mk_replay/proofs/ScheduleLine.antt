-- The first line whose only word is `schedule`, and the lines before it and after it.
use Rattle.mk_replay.proofs.Vocabulary.{is_schedule_line, position_from}
use Rattle.mk_laws.proofs.Vocabulary.{Bool, List, None, Some, ℕ, arith, cond, false, refl, subst, suc, sym, true, []}
use Rattle.mk_laws.proofs.Vocabulary.{◌+◌, ◌∷◌, ◌≡◌}
use Rattle.mk_replay.specs.Schedules.{HasNone, StandsAt, schedule_lines, script_lines}

-- where it is found, counted from a number on
record IsFound (lines : List (List ℕ)) (from found : ℕ) : Type 0 where
  place : ℕ
  counts : found ≡ from + place
  first : StandsAt lines place

here : (line : List ℕ) (lines : List (List ℕ)) → is_schedule_line line ≡ true → StandsAt (line ∷ lines) 0
unfolding script_lines schedule_lines
here line lines is = record { inside = omega arith; before = rw is refl; behind = rw is refl }

later : (line : List ℕ) {lines : List (List ℕ)} {place : ℕ} → is_schedule_line line ≡ false → StandsAt lines place
    → StandsAt (line ∷ lines) (suc place)
unfolding script_lines schedule_lines
later line {lines} {place} is first = grind arith

found_by : (line : List ℕ) (lines : List (List ℕ)) (from found : ℕ) (is : Bool) → is_schedule_line line ≡ is
    → (position_from is_schedule_line (from + 1) lines ≡ Some found → IsFound lines (from + 1) found) → cond is
    (Some from) (position_from is_schedule_line (from + 1) lines) ≡ Some found → IsFound (line ∷ lines) from found
found_by line lines from found true is behind e =
    let same : found ≡ from = cc in
    record { place = 0; counts = omega arith; first = here line lines is }
found_by line lines from found false is behind e =
    let rest = behind e in
    record { place = suc rest.place; counts = omega (arith, rest.counts); first = later line is rest.first }

found_from : (lines : List (List ℕ)) (from found : ℕ) → position_from is_schedule_line from lines ≡ Some found
    → IsFound lines from found
found_from [] from found e = absurd cc
found_from (line ∷ lines) from found e =
    found_by line lines from found (is_schedule_line line) refl (found_from lines (from + 1) found) e

pub found_first : (lines : List (List ℕ)) (place : ℕ) → Some place ≡ position_from is_schedule_line 0 lines
    → StandsAt lines place
found_first lines place e =
    let found = found_from lines 0 place (sym e) in
    let same : found.place ≡ place = omega (arith, found.counts) in
    subst (StandsAt lines) same found.first

none_by : (line : List ℕ) (lines : List (List ℕ)) (from : ℕ) (is : Bool) → is_schedule_line line ≡ is
    → (position_from is_schedule_line (from + 1) lines ≡ None → HasNone lines)
    → cond is (Some from) (position_from is_schedule_line (from + 1) lines) ≡ None → HasNone (line ∷ lines)
unfolding script_lines schedule_lines
none_by line lines from x3 is behind e = grind arith

none_from : (lines : List (List ℕ)) (from : ℕ) → position_from is_schedule_line from lines ≡ None → HasNone lines
unfolding script_lines schedule_lines
none_from [] from e = record { before = refl; behind = refl }
none_from (line ∷ lines) from e = none_by line lines from (is_schedule_line line) refl (none_from lines (from + 1)) e

pub found_none : (lines : List (List ℕ)) → None ≡ position_from is_schedule_line 0 lines → HasNone lines
found_none lines e = none_from lines 0 (sym e)
