-- The words of the shared table: their contents, by region, their bits, and what each name names.
use Rattle.std.specs.Prelude.{ℕ, ◌-◌, ◌%◌, ◌^◌, Bool, ◌==◌, bit_and, zero, suc, true, false, ◌&&◌, Option, Some, None}
use Rattle.std.specs.Prelude.{◌+◌, ◌*◌, ◌/◌, List, replicate, slice_index, slice_index_or, slice_set, bit_or}
use Rattle.std.specs.Int.{bit_at}
use Rattle.mk_geom.specs.{declared.pages.Page.Page, Storages.free_page}
use Rattle.mk_core.specs.declared.{phases.Phase.Phase, gates.Gate.Gate, events.Word.Word}
use Rattle.mk_core.specs.declared.accesses.TableWord.{TableWord, TheVariants.{Turn, Named}}
use Rattle.mk_core.specs.declared.accesses.Access.{Access, TheVariants.{Load, Store, Exchange}}
use Rattle.mk_core.specs.declared.accesses.Access.TheVariants.{Or, Add, Sub}
use prog.Atomic.{either}

-- bit k of the word is 1
abbrev pub has_bit : ℕ → ℕ → Bool
has_bit word k = bit_at word k == 1

-- the bit that stands for a cell; a word has none for an index of 64 or more
abbrev pub bit_for : ℕ → ℕ
bit_for k = 2 ^ k % 2 ^ 64

-- the bits of a word that another hasn't
abbrev pub without : ℕ → ℕ → ℕ
without word other = word - bit_and word other

-- the test holds of each number below n
unfoldable pub all_below : ℕ → (ℕ → Bool) → Bool
all_below zero test = true
all_below (suc n) test = all_below n test && test n

-- It is there, and the test holds of it.
abbrev pub is_some_and : {A : Type 0} → (A → Bool) → Option A → Bool
is_some_and test (Some x) = test x
is_some_and test None = false

-- If there is a value, the test holds of it.
abbrev pub is_none_or : {A : Type 0} → (A → Bool) → Option A → Bool
is_none_or test (Some x) = test x
is_none_or test None = true

-- the number that the phase word has, without the markers that are in
abbrev pub phase_number : Phase → ℕ
phase_number Phase.None = 0
phase_number Phase.Marking = 1
phase_number Phase.Wanted = 2
phase_number Phase.Closed = 3
phase_number Phase.Releasing = 4
phase_number Phase.Over = 5

-- the number that a gate's word has
abbrev pub gate_number : Gate → ℕ
gate_number Gate.Open = 0
gate_number Gate.InCall = 1
gate_number Gate.Held = 2

-- The headers and used words stand page by page. A page's quarantine word has its freed cells in the low half and the
-- snapshot in the high half.
pub record Words : Type 0 where
  pub phase : ℕ
  pub turn : ℕ
  pub held : ℕ
  pub fresh : ℕ
  pub cycles : ℕ
  pub released : ℕ
  pub full : ℕ
  pub gates : List ℕ
  pub registers : List ℕ  -- eight for each caller
  pub globals : List ℕ
  pub pages : List Page
  pub freed : List ℕ
  pub snapshot : List ℕ
  pub marks : List ℕ
  pub blacks : List ℕ
  pub dirty : List ℕ
  pub heap : List ℕ

-- a heap of this many pages, all words 0
abbrev pub zero_words_of : ℕ → Words
zero_words_of pages =
    record {
      phase = 0;
      turn = 0;
      held = 0;
      fresh = 0;
      cycles = 0;
      released = 0;
      full = 0;
      gates = replicate 16 0;
      registers = replicate 128 0;
      globals = replicate 64 0;
      pages = replicate pages free_page;
      freed = replicate pages 0;
      snapshot = replicate pages 0;
      marks = replicate pages 0;
      blacks = replicate pages 0;
      dirty = replicate pages 0;
      heap = replicate (64 * pages) 0;
    }

-- page p, free if there is none
abbrev pub page_of : Words → ℕ → Page
page_of w p = slice_index_or w.pages p free_page

-- its header word
abbrev pub header_at : Words → ℕ → ℕ
header_at w p = (page_of w p).header

-- its used bits
abbrev pub used_at : Words → ℕ → ℕ
used_at w p = (page_of w p).used

-- the word with these freed and snapshot bits
abbrev pub quarantine_word : ℕ → ℕ → ℕ
quarantine_word freed snapshot = freed + 2 ^ 32 * snapshot

-- register r of the caller
abbrev pub register_word : Words → ℕ → ℕ → ℕ
register_word w caller r = slice_index w.registers (8 * caller + r)

-- the word of this name
abbrev pub named_word : Words → Word → ℕ
named_word w Word.Phase = w.phase
named_word w (Word.Gate caller) = slice_index w.gates caller
named_word w (Word.Reg caller r) = register_word w caller r
named_word w (Word.Global g) = slice_index w.globals g
named_word w (Word.Head p) = header_at w p
named_word w (Word.Used p) = used_at w p
named_word w (Word.Quar p) = quarantine_word (slice_index w.freed p) (slice_index w.snapshot p)
named_word w (Word.Mark p) = slice_index w.marks p
named_word w (Word.Black p) = slice_index w.blacks p
named_word w (Word.Dirty p) = slice_index w.dirty p
named_word w (Word.Heap n) = slice_index w.heap n
named_word w Word.Held = w.held
named_word w Word.Fresh = w.fresh
named_word w Word.Cycles = w.cycles
named_word w Word.Released = w.released
named_word w Word.Full = w.full

-- the word of the table
abbrev pub word_in : Words → TableWord → ℕ
word_in w Turn = w.turn
word_in w (Named name) = named_word w name

-- the words, with this word changed
abbrev pub with_named : Words → Word → ℕ → Words
with_named w Word.Phase value = record w { phase = value }
with_named w (Word.Gate caller) value = record w { gates = slice_set w.gates caller value }
with_named w (Word.Reg caller r) value = record w { registers = slice_set w.registers (8 * caller + r) value }
with_named w (Word.Global g) value = record w { globals = slice_set w.globals g value }
with_named w (Word.Head p) value =
    record w { pages = slice_set w.pages p (record { header = value; used = used_at w p }) }
with_named w (Word.Used p) value =
    record w { pages = slice_set w.pages p (record { header = header_at w p; used = value }) }
with_named w (Word.Quar p) value =
    record w { freed = slice_set w.freed p (value % 2 ^ 32); snapshot = slice_set w.snapshot p (value / 2 ^ 32) }
with_named w (Word.Mark p) value = record w { marks = slice_set w.marks p value }
with_named w (Word.Black p) value = record w { blacks = slice_set w.blacks p value }
with_named w (Word.Dirty p) value = record w { dirty = slice_set w.dirty p value }
with_named w (Word.Heap n) value = record w { heap = slice_set w.heap n value }
with_named w Word.Held value = record w { held = value }
with_named w Word.Fresh value = record w { fresh = value }
with_named w Word.Cycles value = record w { cycles = value }
with_named w Word.Released value = record w { released = value }
with_named w Word.Full value = record w { full = value }

-- the same of each word of the table
abbrev pub with_word_in : Words → TableWord → ℕ → Words
with_word_in w Turn value = record w { turn = value }
with_word_in w (Named name) value = with_named w name value

-- what an access makes of the word that it finds
abbrev pub becomes : Access → ℕ → ℕ
becomes Load found = found
becomes (Store value) found = value
becomes (Exchange old new) found = either (found == old) new found
becomes (Or bits) found = bit_or found bits
becomes (Add n) found = (found + n) % 2 ^ 64
becomes (Sub n) found = (found + (2 ^ 64 - n)) % 2 ^ 64

-- the words after an access to one of them
abbrev pub accessed : Words → TableWord → Access → Words
accessed w name Load = w
accessed w name (Store value) = with_word_in w name value
accessed w name (Exchange old new) = with_word_in w name (becomes (Exchange old new) (word_in w name))
accessed w name (Or bits) = with_word_in w name (becomes (Or bits) (word_in w name))
accessed w name (Add n) = with_word_in w name (becomes (Add n) (word_in w name))
accessed w name (Sub n) = with_word_in w name (becomes (Sub n) (word_in w name))

-- The phase word has the phase in its low three bits, and the markers that are in above them.
abbrev pub phase_of : Words → ℕ
phase_of w = w.phase % 8
