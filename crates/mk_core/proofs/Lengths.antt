-- Each region of the words keeps its length.
use Rattle.std.proofs.Common.{length-set}
use Rattle.mk_core.proofs.Vocabulary.{Access, Config, Event, List, Load, Named, Page, Store, TableWord, Turn, Word}
use Rattle.mk_core.proofs.Vocabulary.{Words, World, ℕ, arith, first_world, left, left_from, length-replicate, refl}
use Rattle.mk_core.proofs.Vocabulary.{world_behind, zero_words_of, [], ◌*◌, ◌+◌, ◌∷◌}
use Rattle.mk_geom.specs.Storages.{free_page}
use Rattle.mk_core.specs.Words.{accessed, becomes, with_named, with_word_in, word_in}
use Rattle.mk_core.specs.declared.accesses.Access.TheVariants.{Add, Exchange, Or, Sub}
use Rattle.mk_core.specs.{Accesses.access, Accesses.word_accessed, Layout.AreOfPages}

pub zero_lengths : (count : ℕ) → AreOfPages count (zero_words_of count)
zero_lengths count = record {
  gates = refl;
  registers = refl;
  globals = refl;
  pages = length-replicate count free_page;
  freed = length-replicate count 0;
  snapshot = length-replicate count 0;
  marks = length-replicate count 0;
  blacks = length-replicate count 0;
  dirty = length-replicate count 0;
  heap = length-replicate (64 * count) 0;
}

named_lengths : {count : ℕ} {w : Words} (x : Word) (v : ℕ) → AreOfPages count w → AreOfPages count (with_named w x v)
named_lengths {w} (Word.Gate j) v h = omega (arith, length-set w.gates j v)
named_lengths {w} (Word.Reg c r) v h = omega (arith, length-set w.registers (8 * c + r) v)
named_lengths {w} (Word.Global g) v h = omega (arith, length-set w.globals g v)
named_lengths (Word.Head p) v h = omega (arith, length-set {A = Page})
named_lengths (Word.Used p) v h = omega (arith, length-set {A = Page})
named_lengths (Word.Quar p) v h = omega (arith, length-set {A = ℕ})
named_lengths {w} (Word.Mark p) v h = omega (arith, length-set w.marks p v)
named_lengths {w} (Word.Black p) v h = omega (arith, length-set w.blacks p v)
named_lengths {w} (Word.Dirty p) v h = omega (arith, length-set w.dirty p v)
named_lengths {w} (Word.Heap n) v h = omega (arith, length-set w.heap n v)
named_lengths _ v h = omega arith

word_lengths : {count : ℕ} {w : Words} (x : TableWord) (v : ℕ) → AreOfPages count w
    → AreOfPages count (with_word_in w x v)
word_lengths Turn v h = omega arith
word_lengths {count} {w} (Named x) v h = named_lengths x v h

pub accessed_lengths : (count : ℕ) (w : Words) (x : TableWord) (a : Access) → AreOfPages count w
    → AreOfPages count (accessed w x a)
accessed_lengths count w x Load h = h
accessed_lengths count w x (Store v) h = word_lengths x v h
accessed_lengths count w x (Exchange old new) h = word_lengths x (becomes (Exchange old new) (word_in w x)) h
accessed_lengths count w x (Or bits) h = word_lengths x (becomes (Or bits) (word_in w x)) h
accessed_lengths count w x (Add n) h = word_lengths x (becomes (Add n) (word_in w x)) h
accessed_lengths count w x (Sub n) h = word_lengths x (becomes (Sub n) (word_in w x)) h

left_lengths : (c : Config) (w : World) (es : List Event) → AreOfPages c.pages w.now.words
    → AreOfPages c.pages (left_from c w es).now.words
unfolding left_from
left_lengths c w [] h = h
left_lengths c w (e ∷ es) h = left_lengths c (world_behind c w e) es
    (accessed_lengths c.pages w.now.words (word_accessed c w.now e) (access c w.now e) h)

pub histories_keep_lengths : (c : Config) (es : List Event) → AreOfPages c.pages (left c es).now.words
histories_keep_lengths c es = left_lengths c (first_world c) es (zero_lengths c.pages)
