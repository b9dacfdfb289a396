-- Groups of words with gaps between them: their length, the word r of group i, and a change of it.
use Rattle.std.proofs.Common.{drop-set-lt, get_or-append-add, get_or-drop, get_or-take, length-append, length-drop}
use Rattle.std.proofs.{Common.length-take-le, lemmas.List.{drop-set-add, set-append_left, set-append_right}}
use Rattle.std.proofs.{lemmas.List.take-set-le, Math.Seq.take-set-lt}
use Rattle.mk_core.proofs.Vocabulary.{List, ℕ, ap, arith, drop, get_or_append_left, length, length-replicate, refl}
use Rattle.mk_core.proofs.Vocabulary.{slice_index, slice_set, suc, sym, take, zero, ◌*◌, ◌++◌, ◌+◌, ◌<◌, ◌∙◌, ◌≡◌}
use Rattle.mk_core.specs.Layout.{gap, spread}

-- a change after the first words
pub set_later : (xs ys : List ℕ) (n v : ℕ) → slice_set (xs ++ ys) (length xs + n) v ≡ xs ++ slice_set ys n v
set_later xs ys n v = set-append_right xs ys (length xs) (length xs + n) v refl (omega arith)
    ∙ ap (λ k. xs ++ slice_set ys k v) (omega arith)

pub length_spread : (n size between : ℕ) (xs : List ℕ) → length xs ≡ n * size
    → length (spread n size between xs) ≡ n * (size + between)
unfolding spread
length_spread zero size between xs e = omega arith
length_spread (suc n) size between xs e =
    let here : length (take size xs) ≡ size = length-take-le size xs (omega arith) in
    let left : length (drop size xs) ≡ n * size = omega (arith, length-drop size xs) in
    let rest = length_spread n size between (drop size xs) left in
    simp (length-append, length-replicate) (omega arith)

pub spread_at : (n size between : ℕ) (xs : List ℕ) (i r : ℕ) → length xs ≡ n * size → i < n → r < size
    → slice_index (spread n size between xs) ((size + between) * i + r) ≡ slice_index xs (size * i + r)
unfolding spread
spread_at zero size between xs i r e li lr = absurd (omega arith)
spread_at (suc n) size between xs zero r e li lr =
    let here : length (take size xs) ≡ size = length-take-le size xs (omega arith) in
    ap (λ k. slice_index (spread (suc n) size between xs) k) (omega arith)
    ∙ get_or_append_left (take size xs) (gap between ++ spread n size between (drop size xs)) 0 r (omega arith)
    ∙ get_or-take size xs r 0 lr ∙ ap (λ k. slice_index xs k) (omega arith)
spread_at (suc n) size between xs (suc i) r e li lr =
    let here : length (take size xs) ≡ size = length-take-le size xs (omega arith) in
    let empty : length (gap between) ≡ between = length-replicate between 0 in
    let left : length (drop size xs) ≡ n * size = omega (arith, length-drop size xs) in
    let k = (size + between) * i + r in
    ap (λ m. slice_index (spread (suc n) size between xs) m) (omega arith) ∙ get_or-append-add (take size xs)
    (gap between ++ spread n size between (drop size xs)) (length (gap between) + k) 0 ∙ get_or-append-add (gap between)
    (spread n size between (drop size xs)) k 0 ∙ spread_at n size between (drop size xs) i r left (omega arith) lr
    ∙ get_or-drop size xs (size * i + r) 0 ∙ ap (λ m. slice_index xs m) (omega arith)

pub spread_set : (n size between : ℕ) (xs : List ℕ) (i r v : ℕ) → length xs ≡ n * size → i < n → r < size → slice_set
    (spread n size between xs) ((size + between) * i + r) v ≡ spread n size between (slice_set xs (size * i + r) v)
unfolding spread
spread_set zero size between xs i r v e li lr = absurd (omega arith)
spread_set (suc n) size between xs zero r v e li lr =
    let here : length (take size xs) ≡ size = length-take-le size xs (omega arith) in
    let rest = λ (ys : List ℕ). gap between ++ spread n size between ys in
    ap (λ k. slice_set (spread (suc n) size between xs) k v) (omega arith) ∙ set-append_left (take size xs)
    (rest (drop size xs)) r v (omega arith) ∙ ap (λ ys. ys ++ rest (drop size xs)) (sym (take-set-lt size xs r v lr))
    ∙ ap (λ ys. take size (slice_set xs r v) ++ rest ys) (sym (drop-set-lt size xs r v lr))
    ∙ ap (λ k. spread (suc n) size between (slice_set xs k v)) (omega arith)
spread_set (suc n) size between xs (suc i) r v e li lr =
    let here : length (take size xs) ≡ size = length-take-le size xs (omega arith) in
    let empty : length (gap between) ≡ between = length-replicate between 0 in
    let left : length (drop size xs) ≡ n * size = omega (arith, length-drop size xs) in
    let k = (size + between) * i + r in
    let place = size * i + r in
    ap (λ m. slice_set (spread (suc n) size between xs) m v) (omega arith)
    ∙ set_later (take size xs) (gap between ++ spread n size between (drop size xs)) (length (gap between) + k) v
    ∙ ap (λ ys. take size xs ++ ys) (set_later (gap between) (spread n size between (drop size xs)) k v)
    ∙ ap (λ ys. take size xs ++ (gap between ++ ys)) (spread_set n size between _ i r v left (omega arith) lr)
    ∙ ap (λ ys. take size xs ++ (gap between ++ spread n size between ys)) (sym (drop-set-add size xs place v)) ∙ ap
    (λ ys. ys ++ (gap between ++ spread n size between (drop size (slice_set xs (size + place) v)))) (sym (take-set-le
    size xs (size + place) v (omega arith))) ∙ ap (λ m. spread (suc n) size between (slice_set xs m v)) (omega arith)

-- words apart from each other, each with a gap of 15 after it

pub word_at : (n : ℕ) (xs : List ℕ) (j : ℕ) → length xs ≡ n → j < n
    → slice_index (spread n 1 15 xs) (16 * j) ≡ slice_index xs j
word_at n xs j e lt = ap (λ k. slice_index (spread n 1 15 xs) k) (omega arith)
    ∙ spread_at n 1 15 xs j 0 (omega arith) lt (omega arith) ∙ ap (λ k. slice_index xs k) (omega arith)

pub word_set : (n : ℕ) (xs : List ℕ) (j v : ℕ) → length xs ≡ n → j < n
    → spread n 1 15 (slice_set xs j v) ≡ slice_set (spread n 1 15 xs) (16 * j) v
word_set n xs j v e lt = ap (λ k. spread n 1 15 (slice_set xs k v)) (omega arith) ∙ sym (spread_set n 1 15 xs j 0 v
    (omega arith) lt (omega arith)) ∙ ap (λ k. slice_set (spread n 1 15 xs) k v) (omega arith)
