-- The words of a text's first line, read byte by byte.
use Rattle.std.proofs.Common.{ne_eqb}
use Rattle.std.proofs.lemmas.List.{drop-append-le, drop-take, drop_all, get_or-take, length-take-le, take_more}
use Rattle.std.proofs.lemmas.List.Elements.{All-nil, All-push, filter-append}
use Rattle.std.proofs.lemmas.List.{Splits.{slice_split_at, slice_split_none}, Sums.position_or_len_is}
use Rattle.std.specs.List.{All, slice_split}
use Rattle.mk_script.proofs.Vocabulary.{List, ℕ, ap, append-nil, append_assoc, arith, drop, false, filter, get_or}
use Rattle.mk_script.proofs.Vocabulary.{is_empty, length, length-append, not, refl, subst, sym, take, true}
use Rattle.mk_script.proofs.Vocabulary.{words_of_line}
use Rattle.mk_script.proofs.Vocabulary.{[], ◌++◌, ◌+◌, ◌-◌, ◌<◌, ◌==◌, ◌∙◌, ◌∷◌, ◌≡◌, ◌≢◌, ◌≤◌}
use Rattle.mk_script.specs.Grammar.{first_line, kept_word, newline_or_end}

-- what was read of a line: its words so far, and the word in which it ends
pub record IsCut (line : List ℕ) (words : List (List ℕ)) (piece : List ℕ) : Type 0 where
  pub words_are : (more : List ℕ) → words_of_line (line ++ more) ≡ words ++ words_of_line (piece ++ more)
  pub unspaced : All (λ byte. (byte == 32) ≡ false) piece
  pub within : All (λ byte. (byte == 10) ≡ false) line

pub nothing_read : IsCut [] [] []
nothing_read = record {
  words_are = λ more. refl;
  unspaced = All-nil (λ byte. (byte == 32) ≡ false);
  within = All-nil (λ byte. (byte == 10) ≡ false);
}

-- one byte more of the last word
one_byte : (byte : ℕ) {line : List ℕ} {words : List (List ℕ)} {piece : List ℕ} → IsCut line words piece
    → (byte == 32) ≡ false → (byte == 10) ≡ false → IsCut (line ++ byte ∷ []) words (piece ++ byte ∷ [])
one_byte byte {line} {words} {piece} cut no_space no_newline = record {
  words_are = λ more. ap words_of_line (append_assoc line (byte ∷ []) more) ∙ cut.words_are (byte ∷ more)
      ∙ ap (λ (t : List ℕ). words ++ words_of_line t) (sym (append_assoc piece (byte ∷ []) more));
  unspaced = All-push (λ b. (b == 32) ≡ false) piece byte cut.unspaced no_space;
  within = All-push (λ b. (b == 10) ≡ false) line byte cut.within no_newline;
}

-- what stands before a space is a word, unless it is empty
before_space : (piece more : List ℕ) → All (λ byte. (byte == 32) ≡ false) piece
    → words_of_line (piece ++ 32 ∷ more) ≡ kept_word piece ++ words_of_line more
before_space piece more unspaced =
    ap (filter (λ word. not (is_empty word))) (slice_split_at (λ byte. byte == 32) piece 32 more unspaced refl)
    ∙ filter-append (λ word. not (is_empty word)) (piece ∷ []) (slice_split (λ byte. byte == 32) more)

-- a space ends the last word
one_space : {line : List ℕ} {words : List (List ℕ)} {piece : List ℕ} → IsCut line words piece
    → IsCut (line ++ 32 ∷ []) (words ++ kept_word piece) []
one_space {line} {words} {piece} cut = record {
  words_are = λ more. ap words_of_line (append_assoc line (32 ∷ []) more) ∙ cut.words_are (32 ∷ more)
      ∙ ap (λ (ws : List (List ℕ)). words ++ ws) (before_space piece more cut.unspaced)
      ∙ sym (append_assoc words (kept_word piece) (words_of_line more));
  unspaced = All-nil (λ byte. (byte == 32) ≡ false);
  within = All-push (λ b. (b == 10) ≡ false) line 32 cut.within refl;
}

-- the end of the line ends it as well
ended : {line : List ℕ} {words : List (List ℕ)} {piece : List ℕ} → IsCut line words piece
    → words ++ kept_word piece ≡ words_of_line line
ended {line} {words} {piece} cut =
    let alone : words_of_line piece ≡ kept_word piece = ap (filter (λ word. not (is_empty word)))
    (slice_split_none (λ byte. byte == 32) piece cut.unspaced) in
    ap (λ (ws : List (List ℕ)). words ++ ws) (sym alone)
    ∙ ap (λ (t : List ℕ). words ++ words_of_line t) (sym (append-nil piece)) ∙ sym (cut.words_are [])
    ∙ ap words_of_line (append-nil line)

-- the same along a text, in which the last word begins at `start`

abbrev pub IsCutAt : List ℕ → ℕ → ℕ → List (List ℕ) → Type 0
IsCutAt text start place words = IsCut (take place text) words (drop start (take place text))

pub byte_read : (text : List ℕ) (start place : ℕ) {words : List (List ℕ)} → place < length text → start ≤ place
    → IsCutAt text start place words → get_or text place 0 ≢ 32 → get_or text place 0 ≢ 10
    → IsCutAt text start (place + 1) words
byte_read text start place {words} inside begun cut no_space no_newline =
    let byte = get_or text place 0 in
    let piece = drop-append-le start (take place text) (byte ∷ []) (omega (
      arith,
      length-take-le place text
          (omega arith),
    )) in
    subst (λ (line : List ℕ). IsCut line words (drop start line)) (sym (take_more text place 0 inside))
    (subst (λ (last : List ℕ). IsCut (take place text ++ byte ∷ []) words last) (sym piece)
    (one_byte byte cut (ne_eqb byte 32 no_space) (ne_eqb byte 10 no_newline)))

-- a slice of the text is a part of what was read
pub slice_is : (text : List ℕ) (start place : ℕ) → start ≤ place
    → take (place - start) (drop start text) ≡ drop start (take place text)
slice_is text start place begun =
    let whole : start + (place - start) ≡ place = omega arith in
    sym (drop-take start (place - start) text) ∙ ap (λ n. drop start (take n text)) whole

pub space_read : (text : List ℕ) (start place : ℕ) {words : List (List ℕ)} → place < length text → start ≤ place
    → IsCutAt text start place words → get_or text place 0 ≡ 32
    → IsCutAt text (place + 1) (place + 1) (words ++ kept_word (take (place - start) (drop start text)))
space_read text start place {words} inside begun cut space =
    let line = take place text ++ 32 ∷ [] in
    let long = length-append (take place text) (32 ∷ []) in
    let none : drop (place + 1) line ≡ [] = drop_all (place + 1) line
    (omega (arith, long, length-take-le place text (omega arith))) in
    let word = take (place - start) (drop start text) in
    let is : take (place + 1) text ≡ line = take_more text place 0 inside
    ∙ ap (λ byte. take place text ++ byte ∷ []) space in
    subst (λ (now : List ℕ). IsCut now (words ++ kept_word word) (drop (place + 1) now)) (sym is)
    (subst (λ (last : List ℕ). IsCut line (words ++ kept_word word) last) (sym none)
    (subst (λ (w : List ℕ). IsCut line (words ++ kept_word w) []) (sym (slice_is text start place begun))
    (one_space cut)))

-- where the line ends

pub first_newline : (text : List ℕ) (start place : ℕ) {words : List (List ℕ)} → place ≤ length text
    → IsCutAt text start place words → (place < length text → (get_or text place 0 == 10) ≡ true)
    → newline_or_end text ≡ place
first_newline text start place fits cut newline = position_or_len_is (λ byte. byte == 10) text place 0 fits
    (λ k below. ap (λ byte. byte == 10) (sym (get_or-take place text k 0 below))
    ∙ cut.within k 0 (omega (arith, length-take-le place text fits))) newline

pub ends_at : (text : List ℕ) (start place : ℕ) {words : List (List ℕ)} → place < length text
    → IsCutAt text start place words → get_or text place 0 ≡ 10 → newline_or_end text ≡ place
ends_at text start place inside cut newline =
    first_newline text start place (omega arith) cut (λ _. ap (λ byte. byte == 10) newline)

pub ends_past : (text : List ℕ) (start place : ℕ) {words : List (List ℕ)} → length text ≤ place → place ≤ length text
    → IsCutAt text start place words → newline_or_end text ≡ place
ends_past text start place past fits cut = first_newline text start place fits cut (λ inside. absurd (omega arith))

pub line_read : (text : List ℕ) (start place : ℕ) {words : List (List ℕ)} → start ≤ place
    → IsCutAt text start place words → newline_or_end text ≡ place
    → words ++ kept_word (take (place - start) (drop start text)) ≡ words_of_line (first_line text)
line_read text start place {words} begun cut at =
    ap (λ (word : List ℕ). words ++ kept_word word) (slice_is text start place begun) ∙ ended cut
    ∙ ap (λ n. words_of_line (take n text)) (sym at)
