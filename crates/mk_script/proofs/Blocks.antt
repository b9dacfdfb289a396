-- Bytes that are put into a block, of which the first count.
use Rattle.std.proofs.Common.{get_or, set, take-add}
use Rattle.std.proofs.lemmas.List.{drop_at, length-set, length-take-le, take-take, take_at, take_more_set}
use Rattle.mk_script.proofs.Vocabulary.{List, ℕ, ap, append_assoc, arith, codes, drop, length, sym, take, [], ◌++◌}
use Rattle.mk_script.proofs.Vocabulary.{◌+◌, ◌<◌, ◌∙◌, ◌∷◌, ◌≡◌, ◌≤◌}

-- the first of the bytes that were put after others
pub kept : (front bytes after : List ℕ) (place count : ℕ) → length front ≡ place → count ≤ length bytes
    → take (place + length bytes) after ≡ front ++ bytes → take (place + count) after ≡ front ++ take count bytes
kept front bytes after place count long few put =
    let fewer : place + count ≤ place + length bytes = omega arith in
    let shorter = take-take (place + count) (place + length bytes) after fewer in
    let parts = take-add place count (front ++ bytes) in
    sym shorter ∙ ap (take (place + count)) put ∙ parts
    ∙ cc (take_at front bytes place long, drop_at front bytes place long)

-- the same after what stands in the block
pub put_in : (text block bytes after : List ℕ) (place count : ℕ) → place ≤ length block → count ≤ length bytes
    → take (place + length bytes) after ≡ take place block ++ bytes
    → text ++ take (place + count) after ≡ (text ++ take place block) ++ take count bytes
put_in text block bytes after place count within few put =
    ap (λ (t : List ℕ). text ++ t)
    (kept (take place block) bytes after place count (length-take-le place block within) few put)
    ∙ sym (append_assoc text (take place block) (take count bytes))

-- the same after a space
pub put_behind_space : (text block bytes after : List ℕ) (place count : ℕ) → place < length block
    → count ≤ length bytes → take (place + 1 + length bytes) after ≡ take (place + 1) (set block place 32) ++ bytes
    → text ++ take (place + 1 + count) after ≡ (text ++ take place block) ++ (codes " " ++ take count bytes)
put_behind_space text block bytes after place count within few put =
    let long : place + 1 ≤ length (set block place 32) = simp length-set (omega arith) in
    put_in text (set block place 32) bytes after (place + 1) count long few put
    ∙ ap (λ (t : List ℕ). (text ++ t) ++ take count bytes) (take_more_set block place 32 within) ∙ simp append_assoc
