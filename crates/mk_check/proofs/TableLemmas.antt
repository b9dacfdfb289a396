-- Names that are found by a key.
use Rattle.std.proofs.Common.{min, set, ◌≢◌}
use Rattle.std.{proofs.{lemmas.Bool.cases_eq, lemmas.List.{get_or-set_other, get_or-set_same}}, specs.Borrow.Bor}
use Rattle.mk_check.proofs.Vocabulary.{Bool, List, ap, arith, bytes_eq, bytes_eq-Decides, cases_lt, drop, drop_more}
use Rattle.mk_check.proofs.Vocabulary.{false, get_or, get_or_append_left, get_or_at, if◌then◌else◌, length, length_push}
use Rattle.mk_check.proofs.Vocabulary.{number_of_name, refl, subst, suc, sym, true, zero, ℕ, [], ⊎_elim, ◌++◌, ◌+◌}
use Rattle.mk_check.proofs.Vocabulary.{◌<◌, ◌∙◌, ◌∷◌, ◌≡◌, ◌≤◌}
use Rattle.mk_check.specs.{Declarations.{IsIndex, key_of}, Feed.referred_names}

none_before : (n : ℕ) → 0 + n ≡ n
none_before n = omega arith

-- a name that none of the first is stands among the others
pub skipped : (name : List ℕ) (names : List (List ℕ)) (start : ℕ) → start ≤ length names
    → ((k : ℕ) → k < start → get_or names k [] ≢ name)
    → start + number_of_name name (drop start names) ≡ number_of_name name names
skipped name names zero h others = none_before (number_of_name name names)
skipped name [] (suc start) h others = absurd (omega arith)
skipped name (other ∷ names) (suc start) h others =
    by_test (bytes_eq name other) refl
    (skipped name names start (omega arith) (λ k below. others (suc k) (omega arith)))
  where
    by_test : (same : Bool) → bytes_eq name other ≡ same
        → start + number_of_name name (drop start names) ≡ number_of_name name names
        → suc start + number_of_name name (drop start names)
        ≡ (if same then 0 else number_of_name name names + 1)
    by_test true is rest = absurd (others 0 (omega arith) (sym ((bytes_eq-Decides name other).0 is)))
    by_test false is rest = omega (arith, rest)

-- names before the start of a name's key are others
pub others_before : (starts : List ℕ) (names : List (List ℕ)) (name : List ℕ) → IsIndex starts names → (k : ℕ)
    → k < length names → k < get_or starts (key_of name) 0 → get_or names k [] ≢ name
others_before starts names name index k within before same =
    omega (arith, index k within, before, ap (λ n. get_or starts (key_of n) 0) same)

lower : (starts : List ℕ) (key place j i : ℕ) → key < length starts → get_or starts j 0 ≤ i
    → get_or (set starts key (min (get_or starts key 0) place)) j 0 ≤ i
lower starts key place j i within h =
    ⊎_elim (λ (same : j ≡ key). rw (same, get_or-set_same starts key (min (get_or starts key 0) place) 0 within)
    (omega (arith, h, ap (λ k. get_or starts k 0) same))) (λ (other : j ≢ key).
    rw (get_or-set_other starts key j (min (get_or starts key 0) place) 0 other) h) (cases_eq j key)

lowest : (starts : List ℕ) (key place : ℕ) → key < length starts
    → get_or (set starts key (min (get_or starts key 0) place)) key 0 ≤ place
lowest starts key place within =
    rw (get_or-set_same starts key (min (get_or starts key 0) place) 0 within) (omega arith)

-- the starts, with one name more
pub index-added : (starts : List ℕ) (names : List (List ℕ)) (name : List ℕ) (key place : ℕ) → IsIndex starts names
    → key ≡ key_of name → key < length starts → place ≡ length names
    → IsIndex (set starts key (min (get_or starts key 0) place)) (names ++ name ∷ [])
index-added starts names name key place index is within at i h =
    let now = set starts key (min (get_or starts key 0) place) in
    ⊎_elim (λ (below : i < length names).
    subst (λ (n : List ℕ). get_or now (key_of n) 0 ≤ i) (sym (get_or_append_left names (name ∷ []) [] i below))
    (lower starts key place (key_of (get_or names i [])) i within (index i below)))
    (λ (last : length names ≤ i).
    let here : length names ≡ i = omega (arith, length_push names name) in
    let least : get_or now key 0 ≤ i = omega (arith, lowest starts key place within) in
    subst (λ (n : List ℕ). get_or now (key_of n) 0 ≤ i) (sym (get_or_at names name [] [] i here))
    (subst (λ (k : ℕ). get_or now k 0 ≤ i) is least))
    (cases_lt i (length names))

-- the name at a place of a list of references
pub name_at : (names : List (Bor (List ℕ))) (place : ℕ) (name : Bor (List ℕ)) → place < length names
    → name ≡ get_or names place name → get_or (referred_names names) place [] ≡ name.now
name_at [] place name within is = absurd (omega arith)
name_at (first ∷ names) zero name within is = ap (λ (n : Bor (List ℕ)). n.now) (sym is)
name_at (first ∷ names) (suc place) name within is = name_at names place name (omega arith) is

-- the test of a name with the one at a place
pub test_at : (names : List (Bor (List ℕ))) (seen : List (List ℕ)) (place : ℕ) (one : Bor (List ℕ)) (name : List ℕ)
    → referred_names names ≡ seen → place < length names → one ≡ get_or names place one
    → bytes_eq name (get_or seen place []) ≡ bytes_eq name one.now
test_at names seen place one name is within here =
    ap (λ (ns : List (List ℕ)). bytes_eq name (get_or ns place [])) (sym is)
    ∙ ap (bytes_eq name) (name_at names place one within here)

-- a name that stands at a place, where none before it is it
pub found : (name : List ℕ) (names : List (List ℕ)) (place : ℕ) → place < length names
    → bytes_eq name (get_or names place []) ≡ true
    → place + number_of_name name (drop place names) ≡ number_of_name name names → place ≡ number_of_name name names
found name names place within same whole =
    let here : number_of_name name (drop place names) ≡ 0 =
    ap (number_of_name name) (drop_more names place [] within) ∙ rw same refl in
    omega (arith, here, whole)

-- one that doesn't stand there
pub missed : (name : List ℕ) (names : List (List ℕ)) (place : ℕ) → place < length names
    → bytes_eq name (get_or names place []) ≡ false
    → place + number_of_name name (drop place names) ≡ number_of_name name names
    → (place + 1) + number_of_name name (drop (place + 1) names) ≡ number_of_name name names
missed name names place within other whole =
    let here : number_of_name name (drop place names) ≡ number_of_name name (drop (place + 1) names) + 1 =
    ap (number_of_name name) (drop_more names place [] within) ∙ rw other refl in
    omega (arith, here, whole)
