-- Words of a line: they are not empty, and have neither a space nor a newline.
use Rattle.std.{proofs.lemmas.List.Elements.{All-append, All-cons, All-nil, All-weaker}, specs.List.{All, slice_split}}
use Rattle.std.proofs.{lemmas.List.Splits.{slice_split_at, slice_split_none}, Common.{ltb-true, nat_lt, true≢false}}
use Rattle.std.proofs.lemmas.{Fmt.decimal_nonempty, List.Folds.list_all-append}
use Rattle.std.proofs.lemmas.List.Sums.{AllPass-from_list_all}
use Rattle.mk_script.proofs.Vocabulary.{Bool, List, ℕ, all_ascii_digits, and_from, and_parts, ap, append-nil, arith}
use Rattle.mk_script.proofs.Vocabulary.{cond-true, decimal, false, filter, is_empty, joined_words, length}
use Rattle.mk_script.proofs.Vocabulary.{length-append, list_all, lt-ltb, nat_eq, nat_tests, not, refl, spaced_words}
use Rattle.mk_script.proofs.Vocabulary.{suc, sym, true, words_of_line, [], ◌&&◌, ◌++◌, ◌<◌, ◌^◌, ◌∙◌, ◌∷◌, ◌≡◌}
use Rattle.mk_script.{proofs.PrintedNumbers.{all_ascii_digits-decimal}, specs.Operands.{is_name_byte}}

-- whether each byte is above the space
abbrev pub is_solid : List ℕ → Bool
is_solid word = list_all (λ byte. nat_lt 32 byte) word

abbrev pub is_word : List ℕ → Bool
is_word word = nat_lt 0 (length word) && is_solid word

pub is_solid-append : (a b : List ℕ) → is_solid a ≡ true → is_solid b ≡ true → is_solid (a ++ b) ≡ true
is_solid-append a b p q = list_all-append (λ byte. nat_lt 32 byte) a b ∙ and_from _ _ p q

pub is_solid-from_is_word : (a : List ℕ) → is_word a ≡ true → is_solid a ≡ true
is_solid-from_is_word a p = (and_parts _ _ p).1

pub is_word-append : (a b : List ℕ) → is_word a ≡ true → is_solid b ≡ true → is_word (a ++ b) ≡ true
is_word-append a b p q =
    let parts = and_parts _ _ p in
    let some : 0 < length a = ltb-true _ _ parts.0 in
    and_from _ _ (lt-ltb _ _ (omega (arith, length-append a b))) (is_solid-append a b parts.1 q)

pub is_solid-names : (name : List ℕ) → list_all is_name_byte name ≡ true → is_solid name ≡ true
is_solid-names [] p = refl
is_solid-names (byte ∷ name) p =
    let parts = and_parts _ _ p in
    and_from _ _ (grind (arith, nat_tests)) (is_solid-names name parts.1)

pub is_solid-digits : (digits : List ℕ) → all_ascii_digits digits ≡ true → is_solid digits ≡ true
is_solid-digits [] p = refl
is_solid-digits (byte ∷ digits) p =
    let parts = and_parts _ _ p in
    and_from _ _ (grind (arith, nat_tests)) (is_solid-digits digits parts.1)

pub is_solid-decimal : (n : ℕ) → n < 2 ^ 64 → is_solid (decimal n) ≡ true
is_solid-decimal n small = is_solid-digits (decimal n) (all_ascii_digits-decimal n small)

pub is_word-decimal : (n : ℕ) → n < 2 ^ 64 → is_word (decimal n) ≡ true
is_word-decimal n small = and_from _ _ (lt-ltb _ _ (decimal_nonempty n small)) (is_solid-decimal n small)

pub without : (low : ℕ) (text : List ℕ) → low < 33 → is_solid text ≡ true → All (λ byte. nat_eq byte low ≡ false) text
without low text l p = All-weaker (λ byte. nat_lt 32 byte ≡ true) (λ byte. nat_eq byte low ≡ false)
    (λ byte. λ p. grind (arith, nat_tests)) text (AllPass-from_list_all (λ byte. nat_lt 32 byte) text p)

-- words of a line
abbrev pub AreWords : List (List ℕ) → Type 0
AreWords [] = Unit {0}
AreWords (word ∷ words) = (is_word word ≡ true) × AreWords words

pub split_spaced : (word : List ℕ) (words : List (List ℕ)) → is_word word ≡ true → AreWords words
    → slice_split (λ byte. nat_eq byte 32) (word ++ spaced_words words) ≡ word ∷ words
split_spaced word [] p ws = grind (arith, append-nil, slice_split_none, without, is_solid-from_is_word)
split_spaced word (next ∷ words) p ws =
    slice_split_at (λ byte. nat_eq byte 32) word 32 (next ++ spaced_words words) (without 32 word (omega arith)
    (is_solid-from_is_word word p)) refl ∙ ap (λ rest. word ∷ rest) (split_spaced next words ws.0 ws.1)

not_zero : (n : ℕ) → not (nat_eq (suc n) 0) ≡ true
not_zero n = grind (arith, nat_tests)

keeps_words : (words : List (List ℕ)) → AreWords words → filter (λ word. not (is_empty word)) words ≡ words
keeps_words [] ws = refl
keeps_words ([] ∷ words) ws = absurd (true≢false (sym ws.0))
keeps_words ((byte ∷ word) ∷ words) ws = cond-true _ _ _ (not_zero (length word))
    ∙ ap (λ rest. (byte ∷ word) ∷ rest) (keeps_words words ws.1)

-- the words of words with spaces between them
pub words_of-joined : (words : List (List ℕ)) → AreWords words → words_of_line (joined_words words) ≡ words
words_of-joined [] ws = refl
words_of-joined (word ∷ words) ws = cc (split_spaced word words ws.0 ws.1, keeps_words (word ∷ words) ws)

newline_apart : (words : List (List ℕ)) → AreWords words → All (λ byte. nat_eq byte 10 ≡ false) (spaced_words words)
newline_apart [] ws = All-nil (λ byte. nat_eq byte 10 ≡ false)
newline_apart (word ∷ words) ws =
    All-cons (λ byte. nat_eq byte 10 ≡ false) 32 (word ++ spaced_words words) refl
    (All-append (λ byte. nat_eq byte 10 ≡ false) word (spaced_words words)
    (without 10 word (omega arith) (is_solid-from_is_word word ws.0)) (newline_apart words ws.1))

-- such a line has no newline
pub without_newline : (words : List (List ℕ)) → AreWords words
    → All (λ byte. nat_eq byte 10 ≡ false) (joined_words words)
without_newline [] ws = All-nil (λ byte. nat_eq byte 10 ≡ false)
without_newline (word ∷ words) ws = All-append (λ byte. nat_eq byte 10 ≡ false) word (spaced_words words)
    (without 10 word (omega arith) (is_solid-from_is_word word ws.0)) (newline_apart words ws.1)
