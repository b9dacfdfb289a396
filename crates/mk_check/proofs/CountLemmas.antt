-- Counts of parts, as a script is read from its end.
use Rattle.std.proofs.{lemmas.List.{length-reverse, reverse-append, reverse-reverse, set_at}, Common.set}
use Rattle.std.proofs.lemmas.Grind.{reverse_onto}
use Rattle.mk_check.proofs.Vocabulary.{Bool, Item, List, Part, PartCount, ℕ, ap, arith, branch, cases_lt, counts_of}
use Rattle.mk_check.proofs.Vocabulary.{get_or, get_or_at, if◌then◌else◌, length, length-append, max, refl, reverse}
use Rattle.mk_check.proofs.Vocabulary.{suc, sym, with_item, zero, [], ◌*◌, ◌++◌, ◌+◌, ◌-◌, ◌<◌, ◌∙◌, ◌∷◌, ◌≡◌}
use Rattle.mk_check.specs.Blocks.{innermost_count, length_of, no_count, outer_counts, saturated_count, with_innermost}
use Rattle.mk_script.specs.{Scopes.is_instruction, declared.items.Item.TheVariants.{Else, End, If, Repeat}}

-- as many instructions before the innermost part
abbrev pub with_count : ℕ → List PartCount → List PartCount
with_count n counts = with_innermost (λ count. record count { lines = saturated_count (count.lines + n) }) counts

-- the innermost part was a second branch
abbrev pub with_second : List PartCount → List PartCount
with_second counts = with_innermost (λ count. record { lines = 0; second = count.lines }) counts

-- what an `if` of these branches counts, and a `repeat` of this body
abbrev pub if_count : PartCount → ℕ
if_count branches = saturated_count (1 + max branches.lines branches.second)

-- the instructions that a `repeat` executes
abbrev pub repeat_count : ℕ → PartCount → ℕ
repeat_count rounds body = saturated_count (1 + rounds * (1 + body.lines))

-- the counts with an item before them
abbrev pub counts_with : Item → List PartCount → List PartCount
counts_with (Repeat rounds) counts = with_count (repeat_count rounds (innermost_count counts)) (outer_counts counts)
counts_with (If number) counts = with_count (if_count (innermost_count counts)) (outer_counts counts)
counts_with Else counts = with_second counts
counts_with End counts = no_count ∷ counts
counts_with item counts = if is_instruction item then with_count 1 counts else counts

saturated_count-rounds : (rounds body : ℕ)
    → saturated_count (1 + rounds * (1 + body)) ≡ saturated_count (1 + rounds * (1 + saturated_count body))
saturated_count-rounds zero body = omega arith
saturated_count-rounds (suc rounds) body = grind (arith, cases_lt)

saturated_count-repeat : (rounds body rest : ℕ) → saturated_count (1 + rounds * (1 + body) + rest)
    ≡ saturated_count (saturated_count rest + saturated_count (1 + rounds * (1 + saturated_count body)))
saturated_count-repeat rounds body rest = omega (arith, saturated_count-rounds rounds body)

with_lines : Part → List Part → ℕ → List PartCount
with_lines part parts n = record { lines = n; second = saturated_count (length_of (branch part.second)) }
    ∷ counts_of parts

counts-with_line : (instruction : Bool) (part : Part) (parts : List Part)
    → with_lines part parts (saturated_count ((if instruction then 1 else 0) + length_of part.blocks))
    ≡ (if instruction then with_count 1 (counts_of (part ∷ parts)) else counts_of (part ∷ parts))
unfolding with_lines
counts-with_line x0 part parts = grind (arith, with_lines)

-- what is kept of the open parts is what is kept of them with an item before
pub counts-with_item : (line : ℕ) (item : Item) (parts : List Part)
    → counts_of (with_item line item parts) ≡ counts_with item (counts_of parts)
unfolding with_lines
counts-with_item line item parts = grind (arith, with_lines, saturated_count-repeat, counts-with_line)

-- So what is kept follows an item that is read.
pub read_item : (line : ℕ) (item : Item) (parts : List Part) {old new : List PartCount} → old ≡ counts_of parts
    → new ≡ counts_with item old → new ≡ counts_of (with_item line item parts)
read_item line item parts of is = is ∙ ap (counts_with item) of ∙ sym (counts-with_item line item parts)

-- The innermost part is the last in memory.

reverse-set_last : {X : Type 0} (f : X → X) (front : List X) (last x : X) (xs : List X) (n : ℕ)
    → xs ≡ front ++ last ∷ [] → length front ≡ n → x ≡ get_or xs n x → reverse (set xs n (f x)) ≡ f last ∷ reverse front
reverse-set_last f front last x xs n is ends read =
    let same : x ≡ last = (rw is at read) ∙ get_or_at front last [] x n ends in
    rw (is, set_at front last [] (f x) n ends, reverse-append front (f x ∷ []), same) refl

at_end : (f : PartCount → PartCount) (counts xs : List PartCount) (n : ℕ) (x : PartCount) → reverse xs ≡ counts
    → n ≡ length xs → 0 < n → x ≡ get_or xs (n - 1) x → reverse (set xs (n - 1) (f x)) ≡ with_innermost f counts
at_end f [] xs n x is counted some read = absurd (omega (arith, length-reverse xs, ap length is))
at_end f (count ∷ counts) xs n x is counted some read =
    let front : xs ≡ reverse counts ++ count ∷ [] = cc (reverse-reverse xs, is, reverse_onto counts count []) in
    reverse-set_last f (reverse counts) count x xs (n - 1) front (omega (
      arith,
      ap length front,
      length-append
          (reverse counts) (count ∷ []),
    )) read ∙ ap (λ rest. f count ∷ rest) (reverse-reverse counts)

-- n counts the parts
pub reverse-set : (f : PartCount → PartCount) (xs : List PartCount) (n : ℕ) (x : PartCount) → n ≡ length xs → 0 < n
    → x ≡ get_or xs (n - 1) x → reverse (set xs (n - 1) (f x)) ≡ with_innermost f (reverse xs)
reverse-set f xs n x counted some read = at_end f (reverse xs) xs n x refl counted some read

pub reverse-none : (f : PartCount → PartCount) (xs : List PartCount) (n : ℕ) → n ≡ length xs → n ≡ 0
    → reverse xs ≡ with_innermost f (reverse xs)
reverse-none f [] n counted none = refl
reverse-none f (x ∷ xs) n counted none = absurd (omega arith)
