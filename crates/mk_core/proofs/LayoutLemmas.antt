-- Each word of the table has an index of its own, and words of two line groups stand eight words apart.
use Rattle.std.{proofs.lemmas.Bool.{cases_order}, specs.Prelude.{⊤}}
use Rattle.mk_core.proofs.Vocabulary.{Named, TableWord, Turn, Word, ℕ, ap, arith, refl, sym, ◌*◌, ◌+◌, ◌<◌, ◌∙◌, ◌≡◌}
use Rattle.mk_core.{proofs.Vocabulary.{◌≤◌}, specs.Layout.{index_of_named, line_group}}
use Rattle.mk_core.specs.Layout.{IsOfTable, LineGroup, LineGroupsAreApart, NamesWord, OfGate, OfGlobals, OfHeaders}
use Rattle.mk_core.specs.Layout.{OfPage, OfPhase, OfRegisters, OfTallies, OfTurn, count_of_words, index_of}

same_register : (c r d s : ℕ) → r < 8 → s < 8 → 304 + 16 * c + r ≡ 304 + 16 * d + s → Word.Reg c r ≡ Word.Reg d s
same_register c r d s lr ls e =
    let same_caller : c ≡ d = omega arith in
    let same_place : r ≡ s = omega arith in
    ap (λ n. Word.Reg n r) same_caller ∙ ap (λ n. Word.Reg d n) same_place

not_turn : (pages : ℕ) (x : Word) → NamesWord pages x → index_of_named pages x ≡ 16 → ⊥
not_turn pages (Word.Reg c r) h e = omega arith
not_turn pages x h e = omega arith

pub names_apart : (pages : ℕ) (x y : TableWord) → IsOfTable pages x → IsOfTable pages y
    → index_of pages x ≡ index_of pages y → x ≡ y
names_apart pages Turn Turn hx hy e = refl
names_apart pages Turn (Named y) hx hy e = absurd (not_turn pages y hy (sym e))
names_apart pages (Named x) Turn hx hy e = absurd (not_turn pages x hx e)
names_apart pages (Named x) (Named y) hx hy e = grind (arith, same_register)

pub indexes_within : (pages : ℕ) (x : TableWord) → IsOfTable pages x → index_of pages x < count_of_words pages
indexes_within pages Turn h = omega arith
indexes_within pages (Named x) h = grind arith

-- the place of a group in their order, and the indexes between which its words stand
record Lines : Type 0 where
  rank : ℕ
  first : ℕ
  last : ℕ

abbrev lines : ℕ → LineGroup → Lines
lines pages OfPhase = record { rank = 0; first = 0; last = 0 }
lines pages OfTurn = record { rank = 1; first = 16; last = 16 }
lines pages OfTallies = record { rank = 2; first = 32; last = 36 }
lines pages (OfGate caller) = record { rank = 3 + caller; first = 48 + 16 * caller; last = 48 + 16 * caller }
lines pages (OfRegisters caller) = record { rank = 19 + caller; first = 304 + 16 * caller; last = 311 + 16 * caller }
lines pages OfGlobals = record { rank = 35; first = 560; last = 623 }
lines pages OfHeaders = record { rank = 36; first = 640; last = 640 + 5 * pages }
lines pages (OfPage page) =
    record { rank = 37 + page; first = 656 + 5 * pages + 72 * page; last = 720 + 5 * pages + 72 * page }

abbrev IsGroup : LineGroup → Type 0
IsGroup (OfGate caller) = caller < 16
IsGroup (OfRegisters caller) = caller < 16
IsGroup _ = ⊤

-- a word of a group
record StandsIn (pages : ℕ) (group : LineGroup) (place : ℕ) : Type 0 where
  within : IsGroup group
  first : (lines pages group).first ≤ place
  last : place ≤ (lines pages group).last

stands_in : (pages : ℕ) (x : TableWord) → IsOfTable pages x → StandsIn pages (line_group x) (index_of pages x)
stands_in pages Turn h = record { within = tt; first = omega arith; last = omega arith }
stands_in pages (Named x) h = grind arith

in_turn : {pages : ℕ} {g h : LineGroup} {i j : ℕ} → StandsIn pages g i → StandsIn pages h j
    → (lines pages g).rank < (lines pages h).rank → i + 8 ≤ j
in_turn {pages} {g} {h} sg sh lt = grind arith

pub groups_apart : LineGroupsAreApart
groups_apart pages x y hx hy ne = grind (arith, stands_in, cases_order, lines, in_turn, OfGate, OfRegisters, OfPage)
