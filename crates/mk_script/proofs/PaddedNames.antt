-- Names of one length that are padded with zeros are the same where all their bytes are.
use Rattle.std.proofs.{Common.{drop_at, get_or, set, take-append-drop}, lemmas.Slice.Eq.bytes_eq-Decides}
use Rattle.std.proofs.lemmas.List.{drop_all, drop_more, length-take, set_at, take_at, take_more}
use Rattle.std.proofs.lemmas.Bool.{leb-true, ltb-true}
use Rattle.mk_script.specs.Operands.{begins_name, is_name_byte, name_of}
use Rattle.mk_script.proofs.Vocabulary.{Some, and_parts, list_all}
use Rattle.mk_script.proofs.Vocabulary.{Bool, List, ℕ, ap, arith, bytes_eq, drop, length, replicate, sym, take, true}
use Rattle.mk_script.proofs.Vocabulary.{append_assoc, refl, suc, take_all, [], ◌++◌, ◌+◌, ◌-◌, ◌<◌, ◌∙◌, ◌∷◌, ◌≡◌, ◌≤◌}

same_test : (r s : Bool) → (r ≡ true → s ≡ true) → (s ≡ true → r ≡ true) → r ≡ s
same_test x0 x1 there back = grind arith

-- the rest is the same
with_rest : (n : ℕ) (xs ys : List ℕ) → drop n xs ≡ drop n ys → bytes_eq xs ys ≡ bytes_eq (take n xs) (take n ys)
with_rest n xs ys rest = same_test _ _ (λ same. (bytes_eq-Decides (take n xs) (take n ys)).1 (ap (take n)
    ((bytes_eq-Decides xs ys).0 same))) (λ same. (bytes_eq-Decides xs ys).1 (sym (take-append-drop n xs) ∙ ap (λ front.
    front ++ drop n xs) ((bytes_eq-Decides (take n xs) (take n ys)).0 same) ∙ ap (λ behind. take n ys ++ behind) rest ∙
    take-append-drop n ys))

pub of_one_length : (n m : ℕ) (xs ys : List ℕ) → n ≡ m → drop n xs ≡ replicate (16 - n) 0
    → drop m ys ≡ replicate (16 - m) 0 → bytes_eq xs ys ≡ bytes_eq (take n xs) (take m ys)
of_one_length n m xs ys one zeros zeros' =
    cc (with_rest n xs ys (zeros ∙ ap (λ k. replicate (16 - k) 0) one ∙ sym zeros' ∙ ap (λ k. drop k ys) (sym one)))

-- one byte more of a word is put before zeros
pub one_byte_put : (word : List ℕ) (bytes : List ℕ) (place : ℕ) → place < length word → length word ≤ 16
    → bytes ≡ take place word ++ replicate (16 - place) 0
    → set bytes place (get_or word place 0) ≡ take (place + 1) word ++ replicate (16 - (place + 1)) 0
one_byte_put word bytes place within short is =
    let more : 16 - place ≡ suc (16 - (place + 1)) = omega arith in
    ap (λ (b : List ℕ). set b place (get_or word place 0)) (is ∙ ap (λ n. take place word ++ replicate n 0) more)
    ∙ set_at (take place word) 0 (replicate (16 - (place + 1)) 0) (get_or word place 0) place
    (omega (arith, length-take place word))
    ∙ sym (ap (λ (t : List ℕ). t ++ replicate (16 - (place + 1)) 0) (take_more word place 0 within)
    ∙ append_assoc (take place word) (get_or word place 0 ∷ []) (replicate (16 - (place + 1)) 0))

-- the word that is put whole
pub whole_word : (word : List ℕ) (bytes : List ℕ) (place : ℕ) → length word ≤ place
    → bytes ≡ take place word ++ replicate (16 - place) 0 → place ≤ length word
    → bytes ≡ word ++ replicate (16 - length word) 0
whole_word word bytes place end is within =
    let at : place ≡ length word = omega arith in
    is ∙ ap (λ n. take n word ++ replicate (16 - n) 0) at ∙ ap (λ (t : List ℕ). t ++ replicate (16 - length word) 0)
    (take_all (length word) word (omega arith))

-- the zeros after it
pub zeros_after : (word : List ℕ) (bytes : List ℕ) → bytes ≡ word ++ replicate (16 - length word) 0
    → drop (length word) bytes ≡ replicate (16 - length word) 0
zeros_after word bytes is =
    ap (drop (length word)) is ∙ drop_at word (replicate (16 - length word) 0) (length word) refl

-- what stands before them
pub before_zeros : (word : List ℕ) (bytes : List ℕ) → bytes ≡ word ++ replicate (16 - length word) 0
    → take (length word) bytes ≡ word
before_zeros word bytes is =
    ap (take (length word)) is ∙ take_at word (replicate (16 - length word) 0) (length word) refl

-- the first of these tests says that a word is short
pub short_word : (word : List ℕ) → begins_name word ≡ true → length word ≤ 16
short_word word begins = leb-true (length word) 16 (and_parts _ _ (and_parts _ _ begins).0).1

-- and that it has a byte
pub some_byte : (word : List ℕ) → begins_name word ≡ true → 1 ≤ length word
some_byte word begins = ltb-true 0 (length word) (and_parts _ _ (and_parts _ _ begins).0).0

-- all tests of a name are passed where no byte is left
pub named : (word : List ℕ) (place : ℕ) → begins_name word ≡ true → length word ≤ place
    → list_all is_name_byte word ≡ list_all is_name_byte (drop place word) → Some word ≡ name_of word
named word place begins end left =
    rw (begins, left, drop_all place word end) refl

-- a byte that passes its test leaves those of the others
pub passed : (word : List ℕ) (place : ℕ) → place < length word → is_name_byte (get_or word place 0) ≡ true
    → list_all is_name_byte (drop place word) ≡ list_all is_name_byte (drop (place + 1) word)
passed word place within passes =
    ap (list_all is_name_byte) (drop_more word place 0 within) ∙ rw passes refl
