-- The lines of a text are the pieces between its newlines, without an empty last piece.
use Rattle.std.proofs.{Common.Bor, lemmas.List.map-append, lemmas.List.take_more}
use Rattle.mk_script.proofs.Vocabulary.{List, ℕ, ap, arith, false, get_or, length, refl, take, take_all, texts_of, true}
use Rattle.mk_script.proofs.Vocabulary.{without_empty_last, [], ◌++◌, ◌+◌, ◌-◌, ◌<◌, ◌==◌, ◌∙◌, ◌∷◌, ◌≡◌}

last_empty : (front : List (List ℕ)) (last : List ℕ) → (length last == 0) ≡ true
    → without_empty_last (front ++ last ∷ []) ≡ front
last_empty [] last empty = rw empty refl
last_empty (a ∷ []) last empty = ap (λ rest. a ∷ rest) (last_empty [] last empty)
last_empty (a ∷ b ∷ front) last empty = ap (λ rest. a ∷ rest) (last_empty (b ∷ front) last empty)

last_full : (front : List (List ℕ)) (last : List ℕ) → (length last == 0) ≡ false
    → without_empty_last (front ++ last ∷ []) ≡ front ++ last ∷ []
last_full [] last full = rw full refl
last_full (a ∷ []) last full = ap (λ rest. a ∷ rest) (last_full [] last full)
last_full (a ∷ b ∷ front) last full = ap (λ rest. a ∷ rest) (last_full (b ∷ front) last full)

-- front and last of a list that isn't empty
split : (pieces : List (Bor (List ℕ))) (last : Bor (List ℕ)) → 0 < length pieces → last ≡ get_or pieces
    (length pieces - 1) last → texts_of pieces ≡ texts_of (take (length pieces - 1) pieces) ++ last.now ∷ []
split pieces last inside is_last =
    let i = length pieces - 1 in
    let below : i < length pieces = omega arith in
    let whole : take (i + 1) pieces ≡ pieces = take_all (i + 1) pieces (omega arith) in
    let more = take_more pieces i last below in
    let parts : pieces ≡ take i pieces ++ last ∷ [] = cc in
    ap texts_of parts ∙ map-append (λ piece. piece.now) (take i pieces) (last ∷ [])

pub without_last : (pieces : List (Bor (List ℕ))) (last : Bor (List ℕ)) → 0 < length pieces
    → last ≡ get_or pieces (length pieces - 1) last → (length last.now == 0) ≡ true
    → texts_of (take (length pieces - 1) pieces) ≡ without_empty_last (texts_of pieces)
without_last pieces last inside is_last empty =
    cc (split pieces last inside is_last, last_empty (texts_of (take (length pieces - 1) pieces)) last.now empty)

pub with_last : (pieces : List (Bor (List ℕ))) (last : Bor (List ℕ)) → 0 < length pieces → last ≡ get_or pieces
    (length pieces - 1) last → (length last.now == 0) ≡ false → texts_of pieces ≡ without_empty_last (texts_of pieces)
with_last pieces last inside is_last full =
    cc (split pieces last inside is_last, last_full (texts_of (take (length pieces - 1) pieces)) last.now full)
