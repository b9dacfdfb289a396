-- How a text ends, by its blocks and its scripts.
use Rattle.mk_script.proofs.Vocabulary.{Bool, Err, Item, List, Ok, ℕ, arith, at_end, false, has_none, has_script}
use Rattle.mk_script.proofs.Vocabulary.{length, not, open_blocks, refl, sym, true, ◌∙◌, ◌≡◌}
use Rattle.mk_script.specs.declared.faults.TextStop.TheVariants.{Limit, Text}
use Rattle.mk_script.specs.{declared.faults.TextKind.TheVariants.End, declared.faults.Which.TheVariants.Scripts}

closed_is : (b closed : Bool) → b ≡ not closed → b ≡ false → closed ≡ true
closed_is b x1 e f = grind arith

open_is : (b closed : Bool) → b ≡ not closed → b ≡ true → closed ≡ false
open_is b x1 e f = grind arith

pub ends_open : (items : List Item) (some : Bool) (line : ℕ) → some ≡ not (has_none (open_blocks items)) → some ≡ true
    → line ≡ length items → at_end items ≡ Err (Text line End)
ends_open items some line e t l = rw (open_is some (has_none (open_blocks items)) e t, l) refl

pub ends_without : (items : List Item) (some script : Bool) (line : ℕ) → some ≡ not (has_none (open_blocks items))
    → some ≡ false
    → script ≡ has_script items → script ≡ false → line ≡ length items → at_end items ≡ Err (Limit line Scripts 0)
ends_without items some script line e t s f l = rw (
  closed_is some (has_none (open_blocks items)) e t,
  sym s ∙ f,
  l,
) refl

pub ends_well : (items : List Item) (some script : Bool) → some ≡ not (has_none (open_blocks items)) → some ≡ false
    → script ≡ has_script items → script ≡ true → at_end items ≡ Ok items
ends_well items some script e t s f = rw (closed_is some (has_none (open_blocks items)) e t, sym s ∙ f) refl
