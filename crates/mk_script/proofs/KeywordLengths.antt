-- A word is looked for among the keywords of its length alone.
use Rattle.std.proofs.{Common.{eq-eqb, ⊎_elim}, lemmas.Bool.{cases_Bool, false≢true}, lemmas.Slice.Eq.bytes_eq-Decides}
use Rattle.mk_script.proofs.Vocabulary.{Bool, Keyword, List, Option, ℕ, ap, arith, bytes_eq, false, filter}
use Rattle.mk_script.proofs.Vocabulary.{if◌then◌else◌, keyword_of, length, refl, sym, true, [], ◌==◌, ◌∙◌, ◌∷◌, ◌≡◌}
use Rattle.mk_script.specs.Keywords.{keyword_among, keywords}

-- words of different lengths differ
differ : (word other : List ℕ) → (length other == length word) ≡ false → bytes_eq word other ≡ false
differ word other apart = ⊎_elim (λ (same : bytes_eq word other ≡ true). absurd (false≢true
    (sym apart ∙ eq-eqb (length other) (length word) (sym (ap length ((bytes_eq-Decides word other).0 same))))))
    (λ (is : bytes_eq word other ≡ false). is) (cases_Bool (bytes_eq word other))

kept_or_not : (word : List ℕ) (entry : List ℕ × Keyword) (kept all : List (List ℕ × Keyword)) (same : Bool)
    → (length entry.0 == length word) ≡ same → keyword_among kept word ≡ keyword_among all word
    → keyword_among (if same then entry ∷ kept else kept) word ≡ keyword_among (entry ∷ all) word
kept_or_not word entry kept all x4 is others = grind (arith, differ)

same_length : (word : List ℕ) (all : List (List ℕ × Keyword))
    → keyword_among (filter (λ entry. length entry.0 == length word) all) word ≡ keyword_among all word
same_length word [] = refl
same_length word (entry ∷ all) =
    kept_or_not word entry (filter (λ other. length other.0 == length word) all) all (length entry.0 == length word)
    refl (same_length word all)

pub of_length : (word : List ℕ) {found : Option Keyword} {table : List (List ℕ × Keyword)} (count : ℕ)
    → filter (λ entry. length entry.0 == count) keywords ≡ table → found ≡ keyword_among table word
    → length word ≡ count → found ≡ keyword_of word
of_length word count are says is =
    says ∙ ap (λ entries. keyword_among entries word) (sym are)
    ∙ ap (λ n. keyword_among (filter (λ entry. length entry.0 == n) keywords) word) (sym is) ∙ same_length word keywords
