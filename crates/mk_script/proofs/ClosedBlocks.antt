-- The lines of a text's program close the blocks that they open. Of each open block it is said here whether it may have
-- an `else`.
use Rattle.std.proofs.lemmas.List.Sums.{fold_push}
use Rattle.mk_script.proofs.Vocabulary.{Bool, IsOfSomeText, Item, List, ap, append-nil, append_assoc, arith}
use Rattle.mk_script.proofs.Vocabulary.{ends_rightly, false, has_none, map, open_behind, open_blocks, subst, sym, true}
use Rattle.mk_script.proofs.{Vocabulary.{[], ◌++◌, ◌∙◌, ◌∷◌, ◌≡◌}, PassedLines.{ArePassed, is_whole}}
use Rattle.mk_script.specs.{declared.items.Item.TheVariants.{Else, End, If, Repeat, Script}, Scopes.{InFirst, InRepeat}}
use Rattle.mk_script.specs.Scopes.{InSecond, OpenBlock}

-- After these open blocks no line ends one that isn't open, and at the end none is.
abbrev pub Closes : List Bool → List Item → Type 0
Closes blocks [] = blocks ≡ []
Closes blocks (Repeat rounds ∷ items) = Closes (false ∷ blocks) items
Closes blocks (If number ∷ items) = Closes (true ∷ blocks) items
Closes [] (Else ∷ items) = ⊥
Closes (true ∷ blocks) (Else ∷ items) = Closes (false ∷ blocks) items
Closes (false ∷ blocks) (Else ∷ items) = ⊥
Closes [] (End ∷ items) = ⊥
Closes (block ∷ blocks) (End ∷ items) = Closes blocks items
Closes [] (Script name ∷ items) = Closes [] items
Closes (block ∷ blocks) (Script name ∷ items) = ⊥
Closes blocks (item ∷ items) = Closes blocks items

may_have_else : OpenBlock → Bool
may_have_else InRepeat = false
may_have_else InFirst = true
may_have_else InSecond = false

one_more : (blocks : List OpenBlock) (item : Item) (items : List Item) → ends_rightly blocks item ≡ true
    → Closes (map may_have_else (open_behind blocks item)) items → Closes (map may_have_else blocks) (item ∷ items)
unfolding may_have_else
one_more blocks x1 items right h = grind arith

none_open : (blocks : List OpenBlock) → has_none blocks ≡ true → map may_have_else blocks ≡ []
none_open x0 h = grind arith

closes_behind : (before items : List Item) → ArePassed before items → has_none (open_blocks (before ++ items)) ≡ true
    → Closes (map may_have_else (open_blocks before)) items
closes_behind before [] passed closed =
    none_open (open_blocks before) (ap (λ (xs : List Item). has_none (open_blocks xs)) (sym (append-nil before))
    ∙ closed)
closes_behind before (item ∷ items) passed closed =
    one_more (open_blocks before) item items passed.0.ends (subst (λ (bs : List OpenBlock). Closes
    (map may_have_else bs) items) (fold_push open_behind [] before item) (closes_behind (before ++ item ∷ []) items
    passed.1 (ap (λ (xs : List Item). has_none (open_blocks xs)) (append_assoc before (item ∷ []) items) ∙ closed)))

pub program_closes : (program : List Item) → IsOfSomeText program → Closes [] program
program_closes program text =
    let whole = is_whole program text in
    closes_behind [] program whole.lines whole.closed
