-- The word that an access reaches: one of a mapped allocation.
use Rattle.mk_laws.proofs.Vocabulary.{Bool, ImageScene, IsMet, IsNumber, IsSafe, IsSound, IsTypedAllocation, Kind, List}
use Rattle.mk_laws.proofs.Vocabulary.{Meets, NeverState, Null, Num, PlacedAllocation, Ptr, Suits, Unmapped, Value}
use Rattle.mk_laws.proofs.Vocabulary.{WordOf, ℕ, allocation_at, ap, arith, bases_of, false, header_of, image_of}
use Rattle.mk_laws.proofs.Vocabulary.{is_unmapped, is_unmapped_header, kind_in, length, length-map, number_of}
use Rattle.mk_laws.proofs.Vocabulary.{placed_at, sym, target_of, true, word_at, words_of, ◌++◌, ◌+◌, ◌-◌, ◌/◌, ◌<◌, ◌∙◌}
use Rattle.mk_laws.proofs.{Vocabulary.{◌≡◌, ◌≢◌}, ImagesKept.base_at, Pairs.image_more, Ready.Ready}

-- the access through the value, i words on, whose address is in q
pub record Reaches (safe : ℕ → Bool) (s : ImageScene) (n : NeverState) (v : Value) (q i : ℕ) (P : Kind
    → Type 0) : Type 0 where
  pub number : ℕ
  pub place : ℕ
  pub target : target_of n v i ≡ WordOf number place
  pub word : (q - 65536) / 8 + i ≡ (placed_at s.allocations number).base + place
  pub inside : place < length (words_of n number)
  pub exists : number < length n.allocations
  pub unreleased : (placed_at s.allocations number).released ≡ false
  pub mapped : is_unmapped (allocation_at n number) ≡ false
  pub of_set : safe number ≡ true
  pub kind : P (kind_in n (allocation_at n number) place)

-- if a header of a page says that it is unmapped
abbrev pub PagesShow : (ℕ → ℕ) → ImageScene → NeverState → Type 0
PagesShow header s n = (a i : ℕ) → (placed_at s.allocations a).released ≡ false → i < length (words_of n a)
    → is_unmapped_header (header_of (header (((placed_at s.allocations a).base + i) / 64)))
    ≡ is_unmapped (allocation_at n a)

module _ (listed : List ℕ) (safe : ℕ → Bool) (s : ImageScene) (n : NeverState) (h : Ready listed safe s n) where
  word_is : (a t o q i : ℕ) → q ≡ image_of (bases_of s.allocations) (Ptr a t o)
      → (q - 65536) / 8 + i ≡ (placed_at s.allocations a).base + (o + i)
  word_is a t o q i e = let b = base_at s.allocations a in omega arith

  pub reaches : (v : Value) (q i : ℕ) (P : Kind → Type 0) → q ≡ image_of (bases_of s.allocations) v → q ≢ 0
      → IsSound n v → IsSafe safe v → IsMet n v i → Meets n v i P → Reaches safe s n v q i P
  reaches Null q i P e ne sound is met meets = absurd (ne e)
  reaches (Num m) q i P e ne sound is met meets = absurd sound
  reaches (Ptr a t o) q i P e ne sound is met meets =
      let mapped = met meets.0 in
      record {
        number = a;
        place = o + i;
        target = rw mapped;
        word = word_is a t o q i e;
        inside = meets.0;
        exists = sound.0;
        unreleased = h.set.unreleased a is;
        mapped = mapped;
        of_set = is;
        kind = meets.1;
      }

  -- what `probe` says
  pub unmapped_target : (header : ℕ → ℕ) → PagesShow header s n → (v : Value) (q i : ℕ) (P : Kind → Type 0)
      → q ≡ image_of (bases_of s.allocations) v → q ≢ 0 → IsSound n v → IsSafe safe v → Meets n v i P
      → is_unmapped_header (header_of (header (((q - 65536) / 8 + i) / 64))) ≡ true → target_of n v i ≡ Unmapped
  unmapped_target header show Null q i P e ne sound is meets u = absurd (ne e)
  unmapped_target header show (Num m) q i P e ne sound is meets u = absurd sound
  unmapped_target header show (Ptr a t o) q i P e ne sound is meets u =
      let un : is_unmapped (allocation_at n a) ≡ true =
      sym (show a (o + i) (h.set.unreleased a is) meets.0) ∙ rw (← (word_is a t o q i e)) u in
      rw un

  pub mapped_met : (header : ℕ → ℕ) → PagesShow header s n → (v : Value) (q i : ℕ)
      → q ≡ image_of (bases_of s.allocations) v → q ≢ 0 → IsSound n v → IsSafe safe v
      → is_unmapped_header (header_of (header (((q - 65536) / 8 + i) / 64))) ≡ false → IsMet n v i
  mapped_met header show (Ptr a t o) q i e ne sound is u = λ inside. sym (show a (o + i) (h.set.unreleased a is) inside)
      ∙ ap (λ x. is_unmapped_header (header_of (header (x / 64)))) (sym (word_is a t o q i e)) ∙ u
  mapped_met header show _ q i e ne sound is u = tt

  -- a word of a mapped allocation
  pub suits : (a i : ℕ) → a < length n.allocations → i < length (words_of n a)
      → Suits n (word_at n a i) (kind_in n (allocation_at n a) i)
  suits a i la li = let t : IsTypedAllocation n (allocation_at n a) = h.typed.allocations a la in t.words i li

  pub sound_more : (v : Value) (more : List ℕ) → IsSound n v
      → image_of (bases_of s.allocations) v ≡ image_of (bases_of s.allocations ++ more) v
  sound_more v more sound =
      sym (image_more n _ more v (length-map s.allocations (λ (x : PlacedAllocation). x.base) ∙ h.count) sound)

pub of_number : (n : NeverState) (bs : List ℕ) (v : Value) (kind : Kind) → IsNumber kind → Suits n v kind
    → image_of bs v ≡ number_of v
of_number n bs v kind is su = grind arith
