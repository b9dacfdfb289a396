-- The header words and the headers that are in range are the same.
use Rattle.std.proofs.{Common.{Some, ℕ, arith, false, true, ◌≡◌}, lemmas.Grind.common_steps}
use Rattle.mk_geom.specs.declared.headers.Header.TheVariants.{Block, Free, Later, LeafBlock, LeafRun, Run}
use Rattle.mk_geom.specs.{Addresses.{IsInRange, header_of, word_of}, declared.headers.Header.Header}

pub header_of-word_of : (h : Header) → IsInRange h → header_of (word_of h) ≡ Some h
header_of-word_of Free in_range = grind (arith, common_steps)
header_of-word_of (Block class) in_range = grind (arith, common_steps)
header_of-word_of (Run pages true) in_range = grind (arith, common_steps)
header_of-word_of (Run pages false) in_range = grind (arith, common_steps)
header_of-word_of (Later distance true) in_range = grind (arith, common_steps)
header_of-word_of (Later distance false) in_range = grind (arith, common_steps)
header_of-word_of (LeafBlock class) in_range = grind (arith, common_steps)
header_of-word_of (LeafRun pages) in_range = grind (arith, common_steps)

pub word_of-header_of : (word : ℕ) (h : Header) → header_of word ≡ Some h → IsInRange h × (word_of h ≡ word)
word_of-header_of word x1 is = grind (arith, common_steps)
