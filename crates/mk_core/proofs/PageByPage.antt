-- The words of the heap and the dirty words, page by page: their length, the place of each, and a change of one.
use Rattle.std.proofs.lemmas.List.{drop-replicate, drop-set-add, replicate-append-replicate, set-append_left}
use Rattle.std.proofs.{lemmas.List.{take-replicate, take-set-le}, Common.{drop-set-lt, get_or-append-add, get_or-drop}}
use Rattle.std.proofs.{Common.{get_or-take, length-append, length-drop, length-take-le}, Math.Seq.take-set-lt}
use Rattle.mk_core.proofs.Vocabulary.{List, ℕ, ap, arith, drop, get_or_append_left, length, length-replicate, refl}
use Rattle.mk_core.proofs.Vocabulary.{slice_index, slice_set, suc, sym, take, zero, [], ◌*◌, ◌++◌, ◌+◌, ◌<◌, ◌∙◌, ◌∷◌}
use Rattle.mk_core.{proofs.{Vocabulary.◌≡◌, Spread.set_later}, specs.Layout.{gap, page_by_page}}

pub length_pages : (ds heap : List ℕ) → length heap ≡ 64 * length ds → length (page_by_page ds heap) ≡ 72 * length ds
unfolding page_by_page
length_pages [] heap e = refl
length_pages (d ∷ ds) heap e =
    let here : length (take 64 heap) ≡ 64 = length-take-le 64 heap (omega arith) in
    let left : length (drop 64 heap) ≡ 64 * length ds = omega (arith, length-drop 64 heap) in
    let rest = length_pages ds (drop 64 heap) left in
    simp (length-append, length-replicate) (omega arith)

-- what stands after the first page, with its dirty word and gap
later : (d : ℕ) (ds heap : List ℕ) (k : ℕ) → length heap ≡ 64 * suc (length ds)
    → slice_index (page_by_page (d ∷ ds) heap) (72 + k) ≡ slice_index (page_by_page ds (drop 64 heap)) k
unfolding page_by_page
later d ds heap k e =
    let here : length (take 64 heap) ≡ 64 = length-take-le 64 heap (omega arith) in
    ap (λ m. slice_index (page_by_page (d ∷ ds) heap) m) (omega arith) ∙ get_or-append-add (take 64 heap) ((d ∷ gap 7)
    ++ page_by_page ds (drop 64 heap)) (8 + k) 0 ∙ get_or-append-add (d ∷ gap 7) (page_by_page ds (drop 64 heap)) k 0

-- a change there
later_set : (d : ℕ) (ds heap : List ℕ) (k v : ℕ) → length heap ≡ 64 * suc (length ds) → slice_set (page_by_page
    (d ∷ ds) heap) (72 + k) v ≡ take 64 heap ++ ((d ∷ gap 7) ++ slice_set (page_by_page ds (drop 64 heap)) k v)
unfolding page_by_page
later_set d ds heap k v e =
    let here : length (take 64 heap) ≡ 64 = length-take-le 64 heap (omega arith) in
    ap (λ m. slice_set (page_by_page (d ∷ ds) heap) m v) (omega arith)
    ∙ set_later (take 64 heap) ((d ∷ gap 7) ++ page_by_page ds (drop 64 heap)) (8 + k) v
    ∙ ap (λ ys. take 64 heap ++ ys) (set_later (d ∷ gap 7) (page_by_page ds (drop 64 heap)) k v)

pub heap_at : (ds heap : List ℕ) (i r : ℕ) → length heap ≡ 64 * length ds → i < length ds → r < 64
    → slice_index (page_by_page ds heap) (72 * i + r) ≡ slice_index heap (64 * i + r)
unfolding page_by_page
heap_at [] heap i r e li lr = absurd (omega arith)
heap_at (d ∷ ds) heap zero r e li lr =
    let here : length (take 64 heap) ≡ 64 = length-take-le 64 heap (omega arith) in
    ap (λ k. slice_index (page_by_page (d ∷ ds) heap) k) (omega arith)
    ∙ get_or_append_left (take 64 heap) ((d ∷ gap 7) ++ page_by_page ds (drop 64 heap)) 0 r (omega arith)
    ∙ get_or-take 64 heap r 0 lr ∙ ap (λ k. slice_index heap k) (omega arith)
heap_at (d ∷ ds) heap (suc i) r e li lr =
    let left : length (drop 64 heap) ≡ 64 * length ds = omega (arith, length-drop 64 heap) in
    ap (λ k. slice_index (page_by_page (d ∷ ds) heap) k) (omega arith) ∙ later d ds heap (72 * i + r) e
    ∙ heap_at ds (drop 64 heap) i r left (omega arith) lr
    ∙ get_or-drop 64 heap (64 * i + r) 0 ∙ ap (λ k. slice_index heap k) (omega arith)

pub dirty_at : (ds heap : List ℕ) (i : ℕ) → length heap ≡ 64 * length ds → i < length ds
    → slice_index (page_by_page ds heap) (72 * i + 64) ≡ slice_index ds i
unfolding page_by_page
dirty_at [] heap i e li = absurd (omega arith)
dirty_at (d ∷ ds) heap zero e li =
    let here : length (take 64 heap) ≡ 64 = length-take-le 64 heap (omega arith) in
    ap (λ k. slice_index (page_by_page (d ∷ ds) heap) k) (omega arith)
    ∙ get_or-append-add (take 64 heap) ((d ∷ gap 7) ++ page_by_page ds (drop 64 heap)) 0 0
dirty_at (d ∷ ds) heap (suc i) e li =
    let left : length (drop 64 heap) ≡ 64 * length ds = omega (arith, length-drop 64 heap) in
    ap (λ k. slice_index (page_by_page (d ∷ ds) heap) k) (omega arith) ∙ later d ds heap (72 * i + 64) e
    ∙ dirty_at ds (drop 64 heap) i left (omega arith)

pub heap_set : (ds heap : List ℕ) (i r v : ℕ) → length heap ≡ 64 * length ds → i < length ds → r < 64
    → slice_set (page_by_page ds heap) (72 * i + r) v ≡ page_by_page ds (slice_set heap (64 * i + r) v)
unfolding page_by_page
heap_set [] heap i r v e li lr = absurd (omega arith)
heap_set (d ∷ ds) heap zero r v e li lr =
    let here : length (take 64 heap) ≡ 64 = length-take-le 64 heap (omega arith) in
    let rest = λ (ys : List ℕ). (d ∷ gap 7) ++ page_by_page ds ys in
    ap (λ k. slice_set (page_by_page (d ∷ ds) heap) k v) (omega arith) ∙ set-append_left (take 64 heap)
    (rest (drop 64 heap)) r v (omega arith) ∙ ap (λ ys. ys ++ rest (drop 64 heap)) (sym (take-set-lt 64 heap r v lr))
    ∙ ap (λ ys. take 64 (slice_set heap r v) ++ rest ys) (sym (drop-set-lt 64 heap r v lr))
    ∙ ap (λ k. page_by_page (d ∷ ds) (slice_set heap k v)) (omega arith)
heap_set (d ∷ ds) heap (suc i) r v e li lr =
    let place = 64 * i + r in
    ap (λ k. slice_set (page_by_page (d ∷ ds) heap) k v) (omega arith) ∙ later_set d ds heap (72 * i + r) v e ∙ ap
    (λ ys. take 64 heap ++ ((d ∷ gap 7) ++ ys)) (heap_set ds (drop 64 heap) i r v (omega (arith, length-drop 64 heap))
    (omega arith) lr) ∙ ap (λ ys. take 64 heap ++ ((d ∷ gap 7) ++ page_by_page ds ys)) (sym (drop-set-add 64 heap place
    v)) ∙ ap (λ ys. ys ++ ((d ∷ gap 7) ++ page_by_page ds (drop 64 (slice_set heap (64 + place) v)))) (sym (take-set-le
    64 heap (64 + place) v (omega arith))) ∙ ap (λ k. page_by_page (d ∷ ds) (slice_set heap k v)) (omega arith)

pub dirty_set : (ds heap : List ℕ) (i v : ℕ) → length heap ≡ 64 * length ds → i < length ds
    → slice_set (page_by_page ds heap) (72 * i + 64) v ≡ page_by_page (slice_set ds i v) heap
unfolding page_by_page
dirty_set [] heap i v e li = absurd (omega arith)
dirty_set (d ∷ ds) heap zero v e li =
    let here : length (take 64 heap) ≡ 64 = length-take-le 64 heap (omega arith) in
    ap (λ k. slice_set (page_by_page (d ∷ ds) heap) k v) (omega arith)
    ∙ set_later (take 64 heap) ((d ∷ gap 7) ++ page_by_page ds (drop 64 heap)) 0 v
dirty_set (d ∷ ds) heap (suc i) v e li =
    let left : length (drop 64 heap) ≡ 64 * length ds = omega (arith, length-drop 64 heap) in
    ap (λ k. slice_set (page_by_page (d ∷ ds) heap) k v) (omega arith) ∙ later_set d ds heap (72 * i + 64) v e
    ∙ ap (λ ys. take 64 heap ++ ((d ∷ gap 7) ++ ys)) (dirty_set ds (drop 64 heap) i v left (omega arith))

pub zeros : (n : ℕ) → page_by_page (gap n) (gap (64 * n)) ≡ gap (72 * n)
unfolding page_by_page
zeros zero = refl
zeros (suc n) =
    let front : take 64 (gap (64 * suc n)) ≡ gap 64 = take-replicate 64 (64 * suc n) 0 (omega arith) in
    ap (λ (xs : List ℕ). xs ++ ((0 ∷ gap 7) ++ page_by_page (gap n) (drop 64 (gap (64 * suc n))))) front
    ∙ ap (λ (xs : List ℕ). gap 64 ++ ((0 ∷ gap 7) ++ page_by_page (gap n) xs)) (drop-replicate {X = ℕ} 64 (64 * suc n) 0
    ∙ ap gap (omega arith)) ∙ ap (λ (xs : List ℕ). gap 64 ++ ((0 ∷ gap 7) ++ xs)) (zeros n)
    ∙ ap (λ (xs : List ℕ). gap 64 ++ xs) (replicate-append-replicate {A = ℕ} 8 (72 * n) 0)
    ∙ replicate-append-replicate {A = ℕ} 64 (8 + 72 * n) 0 ∙ ap gap (omega arith)
