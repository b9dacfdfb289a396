-- What contracts see of a table that writes to its memory only as far as entries were set.
use Rattle.std.specs.Prelude.{ℕ, ◌-◌, List, ◌++◌, length, replicate}

-- The entries, and what those have that were never set.
pub record TableState (A : Type 0) : Type 0 where
  pub items : List A
  pub rest : A

-- these entries, and after them the rest, up to a size
abbrev pub completed : {A : Type 0} → List A → A → ℕ → List A
completed entries rest size = entries ++ replicate (size - length entries) rest
