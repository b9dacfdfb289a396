-- The canonical text of a text's program has the same program.
use Rattle.std.{proofs.Common.{leb-true}, specs.Option.{option_or}}
use Rattle.mk_script.proofs.Vocabulary.{Bool, Err, IsOfSomeText, Item, Keyword, LineFault, List, None, Ok, Option}
use Rattle.mk_script.proofs.Vocabulary.{Result, Some, ℕ, and_from, and_parts, ap, append-nil, append_assoc, arith}
use Rattle.mk_script.proofs.Vocabulary.{at_end, bytes_eq, canonical_text, codes, cond, cond-true, has_word_count}
use Rattle.mk_script.proofs.Vocabulary.{have_form, is_placed, item_from, items_behind, items_of_lines, joined_words}
use Rattle.mk_script.proofs.Vocabulary.{keyword_of, le-leb, length, line_of, refl, subst, sym, true, words_of_item}
use Rattle.mk_script.{proofs.Vocabulary.{words_of_line, [], ◌&&◌, ◌++◌, ◌∙◌, ◌∷◌, ◌≡◌, ◌≤◌}, specs.Grammar.{program_of}}
use Rattle.mk_script.proofs.CanonicalLines.{HaveWords, lines_of-canonical_text, lines_of_items}
use Rattle.mk_script.proofs.{LineWords.{AreWords, is_word-decimal, words_of-joined}, PassedLines.{ArePassed, IsWhole}}
use Rattle.mk_script.proofs.{PassedLines.{is_whole, passed}, PrintedForms.{IsShort, Printed, no_item, read_number}}
use Rattle.mk_script.proofs.{PrintedForms.said, Said.{is_this, then_again, with_number}}
use Rattle.mk_script.specs.Lines.{checked_item, heap_line, limit_fault, line_item, other_line, placed_item}

-- The line that said an item is said again by the item's own words.

-- a line's item again, from words that are words of a line
pub record IsAgain (before : List Item) (line : Item) : Type 0 where
  pub reads : line_item before (words_of_item line) ≡ Ok line
  pub apart : AreWords (words_of_item line)

pub cond_ok : {A E : Type 0} (b : Bool) (r : Result A E) (fault : E) (x : A) → cond b r (Err fault) ≡ Ok x
    → (b ≡ true) × (r ≡ Ok x)
cond_ok x0 r fault x e = grind arith

cond_none : {A : Type 0} (b : Bool) (x : A) → cond b None (Some x) ≡ None → b ≡ true
cond_none x0 x e = grind arith

-- line 1

heap_again : (line : Item) (operands : List (List ℕ)) → item_from Keyword.Heap operands ≡ Ok line → IsAgain [] line
unfolding item_from
heap_again line (a ∷ b ∷ []) e =
    with_number a e (λ pages p e. with_number b e (λ resident q e. is_this e (IsAgain []) (record {
      reads = read_number pages p _ (read_number resident q _ refl);
      apart = (refl, (is_word-decimal pages p, (is_word-decimal resident q, tt)));
    })))
heap_again line operands e = no_item e

first_again : (words : List (List ℕ)) (line : Item) → heap_line words ≡ Ok line → IsAgain [] line
first_again (word ∷ pages ∷ resident ∷ []) line e =
    heap_again line (pages ∷ resident ∷ []) (cond_ok (bytes_eq word (codes "heap")) _ _ line e).1
first_again words line e = no_item e

-- other lines

placed_was : (before : List Item) (form : Option Keyword) (operands : List (List ℕ)) (line : Item) → IsShort line
    → placed_item before form operands ≡ Ok line → (k : Keyword) × Printed k line × (is_placed before k ≡ true)
placed_was before None operands line short e = no_item e
placed_was before (Some k) operands line short e =
    let was = cond_ok (has_word_count k (length operands) && have_form k operands && is_placed before k) _ _ line e in
    let fits = and_parts _ _ was.0 in
    let forms = and_parts _ _ fits.0 in
    (k, said k operands line short forms.0 forms.1 was.1, fits.1)

other_was : (before : List Item) (words : List (List ℕ)) (line : Item) → IsShort line
    → other_line before words ≡ Ok line → (k : Keyword) × Printed k line × (is_placed before k ≡ true)
other_was before [] line short e = no_item e
other_was before (word ∷ operands) line short e = placed_was before (keyword_of word) operands line short e

item_again : (before : List Item) (words : List (List ℕ)) (line : Item) → IsShort line
    → line_item before words ≡ Ok line → IsAgain before line
item_again [] words line short e = first_again words line e
item_again (first ∷ before) words line short e =
    let was = other_was (first ∷ before) words line short e in
    record {
      reads = ap (λ ws. other_line (first ∷ before) ws) was.1.words
          ∙ ap (λ form. placed_item (first ∷ before) form was.1.operands) was.1.keyword
          ∙ cond-true _ _ _ (and_from _ _ (and_from _ _ was.1.count was.1.formed) was.2) ∙ was.1.reads;
      apart = subst AreWords (sym was.1.words) was.1.apart;
    }

option_or_was : (first second : Option LineFault) → option_or first second ≡ None → second ≡ None
option_or_was x0 second e = grind arith

is_short : (before : List Item) (line : Item) → limit_fault before line ≡ None → IsShort line
is_short before line e = grind (arith, leb-true, cond_none, option_or_was)

pub line_again : (before : List Item) (words : List (List ℕ)) (line : Item) → line_of before words ≡ Ok line
    → (line_of before (words_of_item line) ≡ Ok line) × AreWords (words_of_item line)
line_again before words line e =
    let p = passed before words line e in
    let again = item_again before p.words line (is_short before line p.within) p.says in (
      then_again (line_item before (words_of_item line)) (checked_item before) line (Ok line) again.reads
          (rw (p.fresh, p.within, p.ends) refl),
      again.apart,
    )

-- each item is said again by its own words, after the ones before it
pub record IsSaidAgain (before : List Item) (line : Item) : Type 0 where
  pub reads : line_of before (words_of_item line) ≡ Ok line
  pub apart : AreWords (words_of_item line)

abbrev pub AreSaidAgain : List Item → List Item → Type 0
AreSaidAgain before [] = Unit {0}
AreSaidAgain before (line ∷ lines) = IsSaidAgain before line × AreSaidAgain (before ++ line ∷ []) lines

said_again : (before rest : List Item) → ArePassed before rest → AreSaidAgain before rest
said_again before [] passed = tt
said_again before (line ∷ rest) passed =
    let again = line_again before passed.0.words line passed.0.reads in
    (record { reads = again.0; apart = again.1 }, said_again (before ++ line ∷ []) rest passed.1)

items_again : (rest before items : List Item) → AreSaidAgain before rest → before ++ rest ≡ items
    → at_end items ≡ Ok items → items_behind (lines_of_items rest) before ≡ Ok items
items_again [] before items again whole end =
    let same : before ≡ items = sym (append-nil before) ∙ whole in
    subst (λ b. at_end b ≡ Ok items) (sym same) end
items_again (line ∷ rest) before items again whole end =
    let reads : line_of before (words_of_line (joined_words (words_of_item line))) ≡ Ok line =
    ap (λ ws. line_of before ws) (words_of-joined (words_of_item line) again.0.apart) ∙ again.0.reads in
    cc (reads, items_again rest (before ++ line ∷ []) items again.1 (append_assoc before (line ∷ []) rest ∙ whole) end)

have_words : (rest before : List Item) → AreSaidAgain before rest → HaveWords rest
have_words [] before again = tt
have_words (line ∷ rest) before again = (again.0.apart, have_words rest (before ++ line ∷ []) again.1)

lines_again : (items : List Item) → IsWhole items → items_of_lines (lines_of_items items) ≡ Ok items
lines_again [] is = absurd (let none = is.script in cc)
lines_again (line ∷ items) is =
    items_again (line ∷ items) [] (line ∷ items) (said_again [] (line ∷ items) is.lines) refl
    (rw (is.closed, is.script) refl)

pub program_of-canonical_text : (items : List Item) → IsOfSomeText items → length (canonical_text items) ≤ 1048576
    → program_of (canonical_text items) ≡ Ok items
program_of-canonical_text items text small =
    let is = is_whole items text in
    cond-true _ _ _ (le-leb _ _ small) ∙ ap items_of_lines
    (lines_of-canonical_text items (have_words items [] (said_again [] items is.lines))) ∙ lines_again items is
