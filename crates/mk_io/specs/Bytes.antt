-- The bytes that a source has left, and those that a sink has taken. `None` stands for one that
-- does not tell them: of it these words claim nothing.
use Rattle.std.specs.Prelude.{◌≡◌, ℕ, Bool, true, ◌+◌, ◌<◌, ◌≤◌, List, [], ◌++◌, length, take, drop, Some, IfSome}
use Rattle.std.specs.{Prelude.{None, if◌then◌else◌}, declared.option.Option.Option}

-- how many bytes an input may have: one MiB
abbrev pub longest_input : ℕ
longest_input = 1048576

-- a source had these bytes at the front of what was left, and has now what comes after them
abbrev pub Takes : Option (List ℕ) → Option (List ℕ) → List ℕ → Type 0
Takes old new bytes =
    IfSome old (λ left.
    (take (length bytes) left ≡ bytes) × (new ≡ Some (drop (length bytes) left)))

-- a source had at least this many bytes left, and has now what comes after them
abbrev pub TakesCount : Option (List ℕ) → Option (List ℕ) → ℕ → Type 0
TakesCount old new count =
    IfSome old (λ left. (count ≤ length left) × (new ≡ Some (drop count left)))

-- a source had some number of bytes left, up to a limit, and has now what comes after them
abbrev pub TakesAtMost : Option (List ℕ) → Option (List ℕ) → ℕ → Type 0
TakesAtMost old new limit = (count : ℕ) × (count ≤ limit) × TakesCount old new count

-- a source had exactly these bytes left, and has none now
abbrev pub TakesAll : Option (List ℕ) → Option (List ℕ) → List ℕ → Type 0
TakesAll old new bytes = IfSome old (λ left. (bytes ≡ left) × (new ≡ Some []))

-- a source has no byte left
abbrev pub IsAtEnd : Option (List ℕ) → Type 0
IsAtEnd told = IfSome told (λ left. left ≡ [])

-- a sink has now what it had taken, with these bytes at the end
abbrev pub Appends : Option (List ℕ) → Option (List ℕ) → List ℕ → Type 0
Appends old new bytes = IfSome old (λ taken. new ≡ Some (taken ++ bytes))

-- a sink has now what it had taken, with some of these bytes at the end, from the front and not all
abbrev pub AppendsPart : Option (List ℕ) → Option (List ℕ) → List ℕ → Type 0
AppendsPart old new bytes = (n : ℕ) × (n < length bytes) × Appends old new (take n bytes)

-- a sink that had room for more than these bytes has room for the rest
abbrev pub KeepsRoom : (ℕ → Bool) → (ℕ → Bool) → ℕ → Type 0
KeepsRoom old new n = (more : ℕ) → old (n + more) ≡ true → new more ≡ true

-- The bytes that the reader has left or that the writer holds, if it says so, whether the stream tells them, and how
-- many calls failed, which stops at 2^64 - 1.
pub record Stream : Type 0 where
  pub known : Option (List ℕ)
  pub tells : Bool
  pub faults : ℕ

-- a stream before its first call, which tells what its reader or writer does, or nothing
abbrev pub new_stream : Bool → Option (List ℕ) → Stream
new_stream tells known = record { known = known; tells = tells; faults = 0 }

-- the bytes that a stream tells
abbrev pub told : Stream → Option (List ℕ)
told s = if s.tells then s.known else None
