-- What a step of a caller needs of the state before: images tell values apart.
use Rattle.mk_laws.proofs.Vocabulary.{Answer, Bool, ImageScene, IsSafe, IsSafeSet, IsSound, IsTyped, List, NeverState}
use Rattle.mk_laws.proofs.Vocabulary.{Null, Op, Option, Progress, Ptr, Some, Value, ℕ, after_calls, answer_of, answered}
use Rattle.mk_laws.proofs.Vocabulary.{answers_of, ap, arith, asked, bases_of, bit, cases_Bool, cases_eq, entry_of}
use Rattle.mk_laws.proofs.Vocabulary.{eq-eqb, false, flagged, if◌then◌else◌, image_of, inl, inr, is_same, kinds_of}
use Rattle.mk_laws.proofs.Vocabulary.{length, ne_eqb, one_if, placed_at, refl, replies_of, slice_set, sym, true}
use Rattle.mk_laws.proofs.Vocabulary.{words_of, [], ◌++◌, ◌+◌, ◌<◌, ◌==◌, ◌^◌, ◌∙◌, ◌∷◌, ◌≡◌}
use Rattle.mk_laws.proofs.{ImagesKept.{AreApart, AreSmall, base_at}, ImagesMoves.Move, Images.AreImages}
use Rattle.mk_never.proofs.{Sameness.{equal_from_same, same_from_equal}, Soundness.place_is_inside}
use Rattle.mk_never.specs.NeverHeap.{reply_of}

pub record Ready (listed : List ℕ) (safe : ℕ → Bool) (s : ImageScene) (n : NeverState) : Type 0 where
  pub images : AreImages s n
  pub typed : IsTyped listed n
  pub set : IsSafeSet safe s.allocations n
  pub count : length s.allocations ≡ length n.allocations
  pub apart : AreApart s.allocations n
  pub small : AreSmall s.flights
  pub bound : (a i : ℕ) → (placed_at s.allocations a).released ≡ false → i < length (words_of n a)
      → (placed_at s.allocations a).base + i < length s.heap
  pub room : length s.heap < 2 ^ 32
  pub full : (ty : ℕ) → ty < length n.types → 0 < length (kinds_of n.types ty)

-- a sound pointer points to one of the words
pub pointed_word : (listed : List ℕ) (safe : ℕ → Bool) (s : ImageScene) (n : NeverState) → Ready listed safe s n
    → (a t o : ℕ) → IsSound n (Ptr a t o) → o < length (words_of n a)
pointed_word listed safe s n h a t o sound = grind (arith, place_is_inside)

pub image_zero : (n : NeverState) (bs : List ℕ) (v : Value) → IsSound n v → image_of bs v ≡ 0 → v ≡ Null
image_zero n bs v s e = grind arith

pub image_same : {listed : List ℕ} {safe : ℕ → Bool} {s : ImageScene} {n : NeverState} → Ready listed safe s n
    → (u v : Value) → IsSound n u → IsSound n v → IsSafe safe u → IsSafe safe v
    → image_of (bases_of s.allocations) u ≡ image_of (bases_of s.allocations) v → u ≡ v
image_same {listed} {safe} {s} {n} h (Ptr a t o) (Ptr b u i) su sv fu fv e =
    let ea = base_at s.allocations a in
    let eb = base_at s.allocations b in
    elim (cases_eq a b) [
      | inl ab ↦ grind arith
      | inr ne ↦ absurd (h.apart a b o i (h.set.unreleased a fu) (h.set.unreleased b fv)
          (pointed_word listed safe s n h a t o su) (pointed_word listed safe s n h b u i sv) ne (omega arith))
    ]
image_same h u v su sv fu fv e = grind (arith, image_zero)

pub image_test : {listed : List ℕ} {safe : ℕ → Bool} {s : ImageScene} {n : NeverState} → Ready listed safe s n
    → (u v : Value) → IsSound n u → IsSound n v → IsSafe safe u → IsSafe safe v
    → (image_of (bases_of s.allocations) u == image_of (bases_of s.allocations) v) ≡ is_same u v
image_test {s = s} h u v su sv fu fv = elim (cases_Bool (is_same u v)) [
  | inl e ↦ eq-eqb _ _ (ap (image_of (bases_of s.allocations)) (equal_from_same u v e)) ∙ sym e
  | inr e ↦ grind (arith, ne_eqb, same_from_equal, image_same)
]

pub bit_is : (b : Bool) → one_if b ≡ bit b
bit_is b = grind arith

-- what an event leads to, and that the answer that it decides is right
abbrev pub Leads : (ℕ → Bool) → ImageScene → NeverState → ℕ → Op → ImageScene → Option Answer → Type 0
Leads safe s n k o t a = Move safe s n t (after_calls n (asked (entry_of k o a))) × ((more : List ℕ)
    → answered (entry_of k o a) ≡ answers_of (bases_of t.allocations ++ more) (replies_of n (asked (entry_of k o a))))

abbrev pub LeadsBy : (ℕ → Bool) → ImageScene → NeverState → ℕ → Op → ImageScene → Progress → Type 0
LeadsBy safe s n k o t p = Leads safe s n k o (record t { flights = slice_set s.flights k p.flight }) p.answer

pub either_leads : (safe : ℕ → Bool) (s : ImageScene) (n : NeverState) (k : ℕ) (o : Op) (t : ImageScene) (b : Bool)
    (p q : Progress) → (b ≡ true → LeadsBy safe s n k o t p) → (b ≡ false → LeadsBy safe s n k o t q)
    → LeadsBy safe s n k o t (if b then p else q)
either_leads safe s n k o t true p q hp hq = hp refl
either_leads safe s n k o t false p q hp hq = hq refl

-- one decided call
pub one_right : (bs : List ℕ) (a : Answer) (n : NeverState) (k : ℕ) (o : Op)
    → a ≡ answer_of bs (reply_of n k (flagged o a))
    → answered (entry_of k o (Some a)) ≡ answers_of bs (replies_of n (asked (entry_of k o (Some a))))
one_right bs a n k o e = ap (λ x. x ∷ []) e
