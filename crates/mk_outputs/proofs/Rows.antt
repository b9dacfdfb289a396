-- What the matches of clap hold, row by row.
use Rattle.std.proofs.Common.{Bool, List, None, Option, Some, ap, append-nil, false, find, is_some, option_and_then}
use Rattle.std.{proofs.Common.{option_map, refl, slice_get, true, [], ◌++◌, ◌∙◌, ◌∷◌, ◌≡◌}, specs.Str.{bytes_eq}}
use Rattle.clap.specs.{Values.read_as, Walk.{Row, Text, at_row, first_of, has_row, more_values, one_of, with_values}}
use Rattle.clap.specs.{Walk.without, declared.builder.value_parser.Reading.Reading}
use Rattle.clap.specs.declared.parser.matches.ValueSource.{ValueSource}

-- the values of an id, and how they are read
abbrev pub entry : Text → List Row → Option (List Text × Reading)
entry id rows = option_map (λ r. (r.values, r.reading)) (find (λ r. bytes_eq r.id id) rows)

abbrev pub row : Text → Reading → ValueSource → List Text → Row
row id how source values = record { id = id; values = values; count = None; source = Some source; reading = how }

pub has_entry : (id : Text) (rows : List Row) → has_row id rows ≡ is_some (entry id rows)
has_entry id [] = refl
has_entry id (r ∷ rows) = by_test (bytes_eq r.id id) refl (has_entry id rows)
  where
    by_test : (t : Bool) → bytes_eq r.id id ≡ t → has_row id rows ≡ is_some (entry id rows)
        → has_row id (r ∷ rows) ≡ is_some (entry id (r ∷ rows))
    by_test true e more = rw e refl
    by_test false e more = rw e more

at_end : (id : Text) (change : Row → List Row) (missing rows : List Row) → has_row id rows ≡ false
    → at_row id change missing rows ≡ rows ++ missing
at_end id change missing [] e = refl
at_end id change missing (r ∷ rows) e = by_test (bytes_eq r.id id) refl e (at_end id change missing rows)
  where
    by_test : (t : Bool) → bytes_eq r.id id ≡ t → has_row id (r ∷ rows) ≡ false → (has_row id rows ≡ false
        → at_row id change missing rows ≡ rows ++ missing) → at_row id change missing (r ∷ rows) ≡ r ∷ (rows ++ missing)
    by_test true t e more = let no : true ≡ false = rw t at e in cc
    by_test false t e more = let left : has_row id rows ≡ false = rw t at e in rw t (ap (λ l. r ∷ l) (more left))

-- the values of an id that has none yet
pub values_added : (id : Text) (how : Reading) (source : ValueSource) (values : List Text) (rows : List Row)
    → has_row id rows ≡ false → with_values id how source values rows ≡ rows ++ row id how source values ∷ []
values_added id how source values rows e = at_end id (more_values source values) (row id how source values ∷ []) rows e

pub values_set : (id : Text) (how : Reading) (source : ValueSource) (values : List Text) (rows : List Row)
    → has_row id rows ≡ false
    → with_values id how source values (without id rows) ≡ rows ++ row id how source values ∷ []
values_set id how source values rows e =
    let kept : without id rows ≡ rows = at_end id (λ r. []) [] rows e ∙ append-nil rows in
    ap (with_values id how source values) kept ∙ values_added id how source values rows e

pub entry_other : (id : Text) (r : Row) (rows : List Row) → bytes_eq r.id id ≡ false
    → entry id (rows ++ r ∷ []) ≡ entry id rows
entry_other id r [] e = rw e refl
entry_other id r (x ∷ rows) e = by_test (bytes_eq x.id id) refl (entry_other id r rows e)
  where
    by_test : (t : Bool) → bytes_eq x.id id ≡ t → entry id (rows ++ r ∷ []) ≡ entry id rows
        → entry id (x ∷ (rows ++ r ∷ [])) ≡ entry id (x ∷ rows)
    by_test true t more = rw t refl
    by_test false t more = rw t more

pub entry_same : (id : Text) (r : Row) (rows : List Row) → bytes_eq r.id id ≡ true → entry id rows ≡ None
    → entry id (rows ++ r ∷ []) ≡ Some (r.values, r.reading)
entry_same id r [] e none = rw e refl
entry_same id r (x ∷ rows) e none = by_test (bytes_eq x.id id) refl none (entry_same id r rows e)
  where
    by_test : (t : Bool) → bytes_eq x.id id ≡ t → entry id (x ∷ rows) ≡ None
        → (entry id rows ≡ None → entry id (rows ++ r ∷ []) ≡ Some (r.values, r.reading))
        → entry id (x ∷ (rows ++ r ∷ [])) ≡ Some (r.values, r.reading)
    by_test true t was more = let bad : Some (x.values, x.reading) ≡ None = rw t at was in cc
    by_test false t was more = let left : entry id rows ≡ None = rw t at was in rw t (more left)

-- what is found of a row's values and how they are read
of_found : {C : Type 0} (f : List Text × Reading → Option C) (o : Option Row) → option_and_then
    (λ (r : Row). f (r.values, r.reading)) o ≡ option_and_then f (option_map (λ (r : Row). (r.values, r.reading)) o)
of_found f None = refl
of_found f (Some r) = refl

pub first_of_entry : (id : Text) (rows : List Row)
    → first_of id rows ≡ option_and_then (λ (p : List Text × Reading). slice_get p.0 0) (entry id rows)
first_of_entry id rows = of_found (λ p. slice_get p.0 0) (find (λ r. bytes_eq r.id id) rows)

pub one_of_entry : (id : Text) (rows : List Row) → one_of id rows ≡ option_and_then
    (λ (p : List Text × Reading). option_map (read_as p.1) (slice_get p.0 0)) (entry id rows)
one_of_entry id rows = of_found (λ p. option_map (read_as p.1) (slice_get p.0 0)) (find (λ r. bytes_eq r.id id) rows)
