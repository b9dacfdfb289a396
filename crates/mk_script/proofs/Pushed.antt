-- What lines say, with others behind them.
use Rattle.std.proofs.{Common.set, Math.Seq.set-append_seam, lemmas.List.reverse-append, lemmas.List.take_more}
use Rattle.std.proofs.{lemmas.List.Elements.filter_map-append, lemmas.List.Sums.fold-append}
use Rattle.mk_script.proofs.Vocabulary.{Item, List, ℕ, ap, arith, get_or, if◌then◌else◌, is_script, length}
use Rattle.mk_script.proofs.Vocabulary.{length-append, open_behind, open_blocks, refl, reverse, take, take_all}
use Rattle.mk_script.proofs.Vocabulary.{this_script, [], ◌++◌, ◌+◌, ◌-◌, ◌<◌, ◌∙◌, ◌∷◌, ◌≡◌}
use Rattle.mk_script.specs.Scopes.{InSecond, OpenBlock, behind_else, declared_name, names_of}
use Rattle.mk_script.specs.declared.sorts.Sort.{Sort}

pub names_of-append : (sort : Sort) (items behind : List Item)
    → names_of sort (items ++ behind) ≡ names_of sort items ++ names_of sort behind
names_of-append sort items behind = filter_map-append (declared_name sort) items behind

pub this_script-push : (before : List Item) (item : Item)
    → this_script (before ++ item ∷ []) ≡ (if is_script item then [] else this_script before ++ item ∷ [])
this_script-push before item = fold-append (λ lines item. if is_script item then [] else lines ++ item ∷ []) [] before
    (item ∷ [])

pub open_blocks-push : (before : List Item) (item : Item)
    → open_blocks (before ++ item ∷ []) ≡ open_behind (open_blocks before) item
open_blocks-push before item = fold-append open_behind [] before (item ∷ [])

-- an `else` turns the last of the open blocks
turned : (front : List OpenBlock) (last : OpenBlock)
    → reverse (set (front ++ last ∷ []) (length front) InSecond) ≡ behind_else (reverse (front ++ last ∷ []))
turned front last =
    cc (set-append_seam front last [] InSecond, reverse-append front (InSecond ∷ []), reverse-append front (last ∷ []))

last_turned_of : (blocks : List OpenBlock) → 0 < length blocks
    → reverse (set blocks (length blocks - 1) InSecond) ≡ behind_else (reverse blocks)
last_turned_of blocks some =
    let i = length blocks - 1 in
    let last = get_or blocks i InSecond in
    let whole : take (i + 1) blocks ≡ blocks = take_all (i + 1) blocks (omega arith) in
    let inside : i < length blocks = omega arith in
    let more = take_more blocks i InSecond inside in
    let parts : blocks ≡ take i blocks ++ last ∷ [] = cc in
    let front_len : length (take i blocks) ≡ i =
    omega (arith, ap length parts, length-append (take i blocks) (last ∷ [])) in
    cc (parts, front_len, turned (take i blocks) last)

pub last_turned : (blocks : List OpenBlock) (count : ℕ) → count ≡ length blocks
    → reverse (set blocks (count - 1) InSecond) ≡ behind_else (reverse blocks)
last_turned [] count counts = refl
last_turned (block ∷ blocks) count counts =
    ap (λ n. reverse (set (block ∷ blocks) (n - 1) InSecond)) counts ∙ last_turned_of (block ∷ blocks) (omega arith)
