-- What each move leaves of the heap that never reuses storage and of the list of allocations, and that it keeps the
-- images.
use Rattle.std.proofs.Common.{length-append, set}
use Rattle.mk_laws.proofs.Vocabulary.{Bool, Carries, CarriesOwn, Flight, ImageScene, IsMet, IsSound, IsTyped}
use Rattle.mk_laws.proofs.Vocabulary.{IsTypedAllocation, Kind, List, NeverAllocation, NeverState, Null}
use Rattle.mk_laws.proofs.Vocabulary.{PlacedAllocation, ProbedOwn, Ptr, Suits, Value, ℕ, address_of, allocation_at}
use Rattle.mk_laws.proofs.Vocabulary.{and_right, ap, arith, at_rest, bases_of, cases_Bool, cases_eq, cases_lt, d_of}
use Rattle.mk_laws.proofs.Vocabulary.{false, flight_among, get_or, get_or-set_other, get_or-set_same}
use Rattle.mk_laws.proofs.Vocabulary.{get_or_append_left, get_or_past, image_of, inl, inr, is_large, is_past_probe}
use Rattle.mk_laws.proofs.Vocabulary.{is_put, is_unmapped, kind_in, kinds_of, length, length-map, length-set, map}
use Rattle.mk_laws.proofs.Vocabulary.{map-append, never_granted, no_allocation, p_of, placed_at, q_of, r_of, refl}
use Rattle.mk_laws.proofs.Vocabulary.{register_at, set_by, shown, slice_index, slice_index_or, slice_set, subst, suc}
use Rattle.mk_laws.proofs.Vocabulary.{sym, true, with_freed, with_global, with_new, with_register, with_word, word_at}
use Rattle.mk_laws.proofs.Vocabulary.{words_of, [], ◌%◌, ◌*◌, ◌++◌, ◌+◌, ◌/◌, ◌<◌, ◌∙◌, ◌∷◌, ◌≡◌, ◌≢◌}
use Rattle.mk_laws.proofs.ImagesMoves.{Decides, Flies, Frees, Grants, Move, Owes, Pays, Releases, Renews, Rests, Shares}
use Rattle.mk_laws.proofs.{ImagesMoves.{Stores, Wipes, Writes}, Pairs.{bare_carries, bare_owes_nothing, bare_unprobed}}
use Rattle.mk_laws.proofs.Pairs.{carries_same, image_more, met_same, put_carries, set_both, shows_other, shows_owed}
use Rattle.mk_laws.proofs.{Pairs.shows_plain, Images.AreImages}
use Rattle.mk_never.{proofs.{Edits.exists, Stores.this_word}, specs.Types.{zero_of, zero_words}}
use Rattle.mk_core.proofs.ChangedAllocations.{granted_at}
use Rattle.std.proofs.{Math.ListN.get_or-map as get_or-map-default, lemmas.List.get_or_at}

-- each allocation keeps its length, and whether it is unmapped
abbrev pub AreAlike : NeverState → NeverState → Type 0
AreAlike n m = (a : ℕ) → (length (words_of m a) ≡ length (words_of n a))
    × (is_unmapped (allocation_at m a) ≡ is_unmapped (allocation_at n a))

-- a store to a word
pub written_alike : (n : NeverState) (a i : ℕ) (v : Value) → AreAlike n (with_word n a i v)
written_alike n a i v b = set_by (λ (x : NeverAllocation). (length x.words ≡ length (words_of n b))
    × (is_unmapped x ≡ is_unmapped (allocation_at n b))) n.allocations a b
    (record (allocation_at n a) { words = slice_set (words_of n a) i v }) no_allocation (λ e. (
      length-set (words_of n a) i v ∙ rw (← e),
      rw (length-set (words_of n a) i v) (rw (← e)),
    )) (refl, refl)

pub word_other : (n : NeverState) (a i j : ℕ) (v : Value) → i < length (words_of n a) → j ≢ i
    → word_at (with_word n a i v) a j ≡ word_at n a j
word_other n a i j v lt ne = ap (λ (x : NeverAllocation). slice_index_or x.words j Null)
    (get_or-set_same n.allocations a (record (allocation_at n a) { words = slice_set (words_of n a) i v })
    no_allocation (exists n a i lt)) ∙ get_or-set_other (words_of n a) i j v Null ne

pub word_elsewhere : (n : NeverState) (a i b j : ℕ) (v : Value) → b ≢ a
    → word_at (with_word n a i v) b j ≡ word_at n b j
word_elsewhere n a i b j v ne = ap (λ (x : NeverAllocation). slice_index_or x.words j Null)
    (get_or-set_other n.allocations a b (record (allocation_at n a) { words = slice_set (words_of n a) i v })
    no_allocation ne)

-- the allocations change, and their places don't
pub base_at : (xs : List PlacedAllocation) (a : ℕ) → slice_index (bases_of xs) a ≡ (placed_at xs a).base
base_at xs a = get_or-map-default (λ (x : PlacedAllocation). x.base) xs a never_granted

pub same_base : (xs ys : List PlacedAllocation) → bases_of ys ≡ bases_of xs → (a : ℕ)
    → (placed_at ys a).base ≡ (placed_at xs a).base
same_base xs ys e a = sym (base_at ys a) ∙ rw e (base_at xs a)

-- an allocation is freed
pub freed_words : (n : NeverState) (a b : ℕ) → words_of (with_freed n a) b ≡ words_of n b
freed_words n a b = set_by (λ (x : NeverAllocation). x.words ≡ words_of n b) n.allocations a b
    (record (allocation_at n a) { freed = true }) no_allocation (λ e. rw (← e)) refl

pub freed_was : (n : NeverState) (a b : ℕ) → is_unmapped (allocation_at (with_freed n a) b) ≡ false
    → is_unmapped (allocation_at n b) ≡ false
freed_was n a b = set_by (λ (x : NeverAllocation). is_unmapped x ≡ false
    → is_unmapped (allocation_at n b) ≡ false) n.allocations a b (record (allocation_at n a) { freed = true })
    no_allocation (λ e u. rw e (and_right _ (is_large (words_of n a)) u)) (λ u. u)

pub freed_is : (n : NeverState) (a b : ℕ) → is_unmapped (record (allocation_at n a) { freed = true }) ≡ false
    → is_unmapped (allocation_at n b) ≡ false → is_unmapped (allocation_at (with_freed n a) b) ≡ false
freed_is n a b s u = set_by (λ (x : NeverAllocation). is_unmapped x ≡ false) n.allocations a b
    (record (allocation_at n a) { freed = true }) no_allocation (λ e. s) u

-- a new allocation
pub image_grown : (n : NeverState) (xs : List PlacedAllocation) (y : PlacedAllocation) (v : Value)
    → length xs ≡ length n.allocations → IsSound n v → image_of (bases_of (xs ++ y ∷ [])) v ≡ image_of (bases_of xs) v
image_grown n xs y v e s = rw (map-append (λ (x : PlacedAllocation). x.base) xs (y ∷ []))
    (image_more n (bases_of xs) (y.base ∷ []) v (length-map xs (λ (x : PlacedAllocation). x.base) ∙ e) s)

pub suits_grown : (n : NeverState) (xs : List PlacedAllocation) (y : PlacedAllocation) (v : Value) (kind : Kind)
    → length xs ≡ length n.allocations → Suits n v kind
    → image_of (bases_of (xs ++ y ∷ [])) v ≡ image_of (bases_of xs) v
suits_grown n xs y v x5 e s = grind (arith, image_grown)

pub new_image : (xs : List PlacedAllocation) (y : PlacedAllocation) (m ty : ℕ) → length xs ≡ m
    → image_of (bases_of (xs ++ y ∷ [])) (Ptr m ty 0) ≡ address_of y.base
new_image xs y m ty e =
    let at : slice_index (bases_of (xs ++ y ∷ [])) m ≡ y.base =
    rw (map-append (λ (x : PlacedAllocation). x.base) xs (y ∷ []))
    (get_or_at (bases_of xs) y.base [] 0 m (length-map xs (λ (x : PlacedAllocation). x.base) ∙ e)) in
    ap (λ b. address_of (b + 0)) at ∙ (omega arith)

pub zero_image : (bs : List ℕ) (kinds : List Kind) (i : ℕ) → image_of bs (get_or (map zero_of kinds) i Null) ≡ 0
zero_image bs (kind ∷ kinds) (suc i) = zero_image bs kinds i
zero_image bs x2 i = grind arith

abbrev pub fresh_one : ℕ → ℕ → PlacedAllocation
fresh_one base ty = record { base = base; ty = ty; freed = false; fresh = false; released = false }

abbrev pub new_words : NeverState → ℕ → NeverAllocation
new_words n ty = record { ty = ty; words = zero_words (kinds_of n.types ty); freed = false }

-- what isn't the new one
pushed_other : {A : Type 0} (xs : List A) (y d : A) (b : ℕ) → b ≢ length xs → get_or (xs ++ y ∷ []) b d ≡ get_or xs b d
pushed_other xs y d b ne = elim (cases_lt b (length xs)) [
  | inl lt ↦ get_or_append_left xs (y ∷ []) d b lt
  | inr le ↦ get_or_past (xs ++ y ∷ []) b d (omega (arith, length-append xs (y ∷ []))) ∙ sym (get_or_past xs b d le)
]

pub old_never : (n : NeverState) (ty b : ℕ) → b ≢ length n.allocations
    → allocation_at (with_new n ty) b ≡ allocation_at n b
old_never n ty b ne = pushed_other n.allocations (new_words n ty) no_allocation b ne

pub new_never : (n : NeverState) (ty : ℕ) → allocation_at (with_new n ty) (length n.allocations) ≡ new_words n ty
new_never n ty = get_or_at n.allocations _ [] no_allocation (length n.allocations) refl

pub old_placed : (xs : List PlacedAllocation) (y : PlacedAllocation) (b : ℕ) → b ≢ length xs
    → placed_at (xs ++ y ∷ []) b ≡ placed_at xs b
old_placed xs y b ne = pushed_other xs y never_granted b ne

pub meets_new : (n : NeverState) (ty : ℕ) (v : Value) (i : ℕ) → IsMet n v i → IsMet (with_new n ty) v i
meets_new n ty (Ptr a t o) i h = grind (arith, new_never, old_never)
meets_new n ty _ i h = tt

-- a word of what is granted, and of what was
pub exists_placed : (xs : List PlacedAllocation) (a : ℕ) → (placed_at xs a).released ≡ false → a < length xs
exists_placed xs a h = grind (arith, cases_lt, get_or_past)

-- the registers that calls name are of the eight
abbrev pub AreSmall : List Flight → Type 0
AreSmall fs = (j : ℕ) → (q_of (flight_among fs j).op < 8) × (p_of (flight_among fs j).op < 8)
    × (r_of (flight_among fs j).op < 8) × (d_of (flight_among fs j).op < 8)

-- words of two mapped allocations are apart
abbrev pub AreApart : List PlacedAllocation → NeverState → Type 0
AreApart xs n = (a b i j : ℕ) → (placed_at xs a).released ≡ false → (placed_at xs b).released ≡ false → i < length
    (words_of n a) → j < length (words_of n b) → a ≢ b → (placed_at xs a).base + i ≢ (placed_at xs b).base + j

-- a caller's own register
own_shown : {s : ImageScene} {n : NeverState} → AreImages s n → (k r : ℕ) → r < 8 → shown (flight_among s.flights k) r
    (slice_index s.registers (8 * k + r)) ≡ image_of (bases_of s.allocations) (register_at n k r)
own_shown h k r lt =
    let a : (8 * k + r) / 8 ≡ k = omega arith in
    let b : (8 * k + r) % 8 ≡ r = omega arith in
    rw a at (rw b at (h.registers (8 * k + r)))

pub own_plain : {s : ImageScene} {n : NeverState} → AreImages s n → (k r : ℕ) → r < 8
    → is_put (flight_among s.flights k).stage ≡ false
    → slice_index s.registers (8 * k + r) ≡ image_of (bases_of s.allocations) (register_at n k r)
own_plain h k r lt was = grind (arith, shows_plain, own_shown)

-- an index of another caller's registers
outside : {A : Type 0} (xs : List A) (k d i : ℕ) (v e : A) → d < 8 → i / 8 ≢ k
    → get_or (set xs (8 * k + d) v) i e ≡ get_or xs i e
outside xs k d i v e ld ne = get_or-set_other xs (8 * k + d) i v e (λ is. absurd (ne (omega arith)))

-- A caller's flight and registers change. It carries nothing then and has probed nothing. The others' stay.
own_changed : {s : ImageScene} {n : NeverState} → AreImages s n → AreSmall s.flights → (k : ℕ) (f : Flight) (ys : List
    ℕ) (vs : List Value) → k < length s.flights → ((a b d : Value) → Carries (bases_of s.allocations) f a b d)
    → is_past_probe f.stage ≡ false → ((i : ℕ) → i / 8 ≢ k → slice_index ys i ≡ slice_index s.registers i)
    → ((i : ℕ) → i / 8 ≢ k → slice_index_or vs i Null ≡ slice_index_or n.registers i Null) → ((r : ℕ) → r < 8
    → shown f r (slice_index ys (8 * k + r)) ≡ image_of (bases_of s.allocations) (slice_index_or vs (8 * k + r) Null))
    → AreImages (record s { flights = slice_set s.flights k f; registers = ys }) (record n { registers = vs })
own_changed {s} {n} h small k f ys vs there carries unprobed same_words same_values own = record {
  registers = λ i. elim (cases_eq (i / 8) k) [
    | inl e ↦
        let is : 8 * k + i % 8 ≡ i = omega arith in rw (at_own (i / 8) e) (rw is at (own (i % 8) (omega arith)))
    | inr ne ↦ rw (get_or-set_other s.flights k (i / 8) f at_rest ne, same_words i ne, same_values i ne)
        (h.registers i)
  ];
  globals = h.globals;
  heap = h.heap;
  carried = λ j. elim (cases_eq j k) [
    | inl e ↦ rw (at_own j e) (carries _ _ _)
    | inr ne ↦ rw (get_or-set_other s.flights k j f at_rest ne) (rw (same j _ ne (small j).0)
        (rw (same j _ ne (small j).1) (rw (same j _ ne (small j).2) (h.carried j))))
  ];
  probed = λ j. elim (cases_eq j k) [
    | inl e ↦ rw (at_own j e) (λ past. let x : false ≡ true = sym unprobed ∙ past in cc)
    | inr ne ↦ rw (get_or-set_other s.flights k j f at_rest ne) (λ past. rw (same j _ ne (small j).0)
        (met_same n (record n { registers = vs }) _ _ (λ a. refl) (λ a u. u) (h.probed j past)))
  ];
}
  where
    at_own : (j : ℕ) → j ≡ k → flight_among (slice_set s.flights k f) j ≡ f
    at_own j e = ap (flight_among (slice_set s.flights k f)) e ∙ get_or-set_same s.flights k f at_rest there

    same : (j r : ℕ) → j ≢ k → r < 8 → slice_index_or vs (8 * j + r) Null ≡ register_at n j r
    same j r ne lr = same_values (8 * j + r) (λ e. absurd (ne (omega arith)))

pub rebased : (s : ImageScene) (n : NeverState) → AreImages s n → (xs : List PlacedAllocation)
    → bases_of xs ≡ bases_of s.allocations → ((a : ℕ) → (placed_at xs a).released ≡ false
    → (placed_at s.allocations a).released ≡ false) → AreImages (record s { allocations = xs }) n
rebased s n h xs e u = grind (arith, same_base)

-- a register gets a value and its image
stored : {s : ImageScene} {n : NeverState} → AreImages s n → AreSmall s.flights → (k d x : ℕ) (f : Flight) (v : Value)
    → Decides s n k f → 8 * k + 7 < length s.registers → d < 8 → x ≡ image_of (bases_of s.allocations) v
    → AreImages (record s { flights = slice_set s.flights k f; registers = slice_set s.registers (8 * k + d) x })
    (with_register n k d v)
stored {s} {n} h small k d x f v at long ld is =
    own_changed h small k f (slice_set s.registers (8 * k + d) x) (slice_set n.registers (8 * k + d) v) at.there
    (λ a b e. bare_carries _ f a b e at.bare) (bare_unprobed f.stage at.bare) (λ i ne. outside _ k d i x 0 ld ne)
    (λ i ne. outside _ k d i v Null ld ne) (λ r lr. shows_plain f _ _ (bare_owes_nothing f.stage at.bare)
    ∙ set_both (λ y u. y ≡ image_of (bases_of s.allocations) u) s.registers n.registers (8 * k + d) (8 * k + r) x 0 v
    Null (omega arith) (omega arith) (λ e. is) (λ ne. own_plain h k r lr at.was))

-- a caller's flight becomes another
flown : {s : ImageScene} {n : NeverState} → AreImages s n → (k : ℕ) (f : Flight)
    → ((r x : ℕ) → shown f r x ≡ shown (flight_among s.flights k) r x) → CarriesOwn (bases_of s.allocations) n k f
    → ProbedOwn n k f → AreImages (record s { flights = slice_set s.flights k f }) n
flown {s} {n} h k f shows carries probes = record {
  registers = λ i. set_by (λ (x : Flight). shown x (i % 8) (slice_index s.registers i)
      ≡ image_of (bases_of s.allocations) (slice_index_or n.registers i Null)) s.flights k (i / 8) f at_rest
      (λ e. shows (i % 8) _ ∙ rw (← e) (h.registers i)) (h.registers i);
  globals = h.globals;
  heap = h.heap;
  carried = λ j. set_by (CarriesOwn (bases_of s.allocations) n j) s.flights k j f at_rest (λ e. rw e carries)
      (h.carried j);
  probed = λ j. set_by (ProbedOwn n j) s.flights k j f at_rest (λ e. rw e probes) (h.probed j);
}

-- a decided call, after which nothing is owed
decided : (s t : ImageScene) (n m : NeverState) → AreImages t m → (k : ℕ) (f : Flight) → Decides s n k f
    → t.flights ≡ s.flights → AreImages (record t { flights = slice_set t.flights k f }) m
decided s t n m h k f at same = flown h k f (λ r x. shows_plain f r x (bare_owes_nothing f.stage at.bare) ∙ sym
    (shows_plain (flight_among t.flights k) r x (rw same at.was))) (bare_carries _ f _ _ _ at.bare)
    (λ past. let x : false ≡ true = sym (bare_unprobed f.stage at.bare) ∙ past in cc)

-- each move
module _ {globals : List ℕ} {s : ImageScene} {n : NeverState} (h : AreImages s n) (small : AreSmall s.flights)
    (typed : IsTyped globals n) (same : length s.allocations ≡ length n.allocations) (safe : ℕ → Bool) where
  abbrev bases : List ℕ
  bases = bases_of s.allocations

  pub images_kept : {t : ImageScene} {m : NeverState} → AreApart s.allocations n → Move safe s n t m → AreImages t m
  images_kept apart Rests = h
  images_kept apart (Flies k f shows carries probes) = flown h k f shows carries probes
  images_kept apart (Owes k f v there long was put ld is safely) =
      own_changed h small k f s.registers (slice_set n.registers (8 * k + d_of f.op) v) there
      (λ a b d. put_carries _ f a b d put) (ap is_past_probe put) (λ i ne. refl)
      (λ i ne. outside _ k (d_of f.op) i v Null ld ne) (λ r lr. elim (cases_eq r (d_of f.op)) [
        | inl e ↦ rw e (shows_owed f _ put ∙ is ∙ ap (image_of bases)
            (sym (get_or-set_same n.registers (8 * k + d_of f.op) v Null (omega arith))))
        | inr ne ↦ shows_other f r _ put (λ e. ne (sym e)) ∙ own_plain h k r lr was ∙ ap (image_of bases)
            (sym (get_or-set_other n.registers (8 * k + d_of f.op) (8 * k + r) v Null (λ e. absurd (ne (omega arith)))))
      ])
  images_kept apart (Pays k f there long put ld bare) =
      let old = flight_among s.flights k in
      own_changed h small k f (slice_set s.registers (8 * k + d_of old.op) old.loaded) n.registers there (λ a b
      d. bare_carries _ f a b d bare) (bare_unprobed f.stage bare) (λ i ne. outside _ k (d_of old.op) i old.loaded 0 ld
      ne) (λ i ne. refl) (λ r lr. shows_plain f _ _ (bare_owes_nothing f.stage bare) ∙ elim (cases_eq r (d_of old.op)) [
        | inl e ↦ rw e (get_or-set_same s.registers (8 * k + d_of old.op) old.loaded 0 (omega arith)
            ∙ sym (shows_owed old _ put) ∙ own_shown h k (d_of old.op) ld)
        | inr ne ↦ get_or-set_other s.registers (8 * k + d_of old.op) (8 * k + r) old.loaded 0
            (λ e. absurd (ne (omega arith))) ∙ sym (shows_other old r _ put (λ e. ne (sym e))) ∙ own_shown h k r lr
      ])
  images_kept apart (Stores k d x f v at long ld is safely) = stored h small k d x f v at long ld is
  images_kept apart (Shares k g x f v at lg ln is safely) = decided s _ n _ (record {
    registers = h.registers;
    globals = λ i. set_both (λ y u. y ≡ image_of bases u) s.globals n.globals g i x 0 v Null lg ln (λ e. is)
        (λ ne. h.globals i);
    heap = h.heap;
    carried = h.carried;
    probed = λ j past. met_same n (with_global n g v) _ _ (λ a. refl) (λ a u. u) (h.probed j past);
  }) k f at refl
  images_kept apart (Writes k a i x f v at ua mapped li inside is safely) =
      let alike = written_alike n a i v in
      decided s _ n _ (record {
        registers = h.registers;
        globals = h.globals;
        heap = λ b j ub mb lj.
            let lj' : j < length (words_of n b) = (let e = (alike b).0 in omega (arith, e)) in
            let mb' : is_unmapped (allocation_at n b) ≡ false = sym (alike b).1 ∙ mb in
            elim (cases_eq b a) [
              | inl e ↦ elim (cases_eq j i) [
                | inl e2 ↦ rw (e, e2) (get_or-set_same s.heap ((placed_at s.allocations a).base + i) x 0 inside ∙ is
                    ∙ ap (image_of bases) (sym (this_word n a i v li)))
                | inr ne2 ↦ get_or-set_other s.heap ((placed_at s.allocations a).base + i)
                    ((placed_at s.allocations b).base + j) x 0 (λ z. let y = ap (λ y. (placed_at s.allocations y).base)
                    e in absurd (ne2 (omega (arith, y, z)))) ∙ h.heap b j ub mb' lj' ∙ ap (image_of bases) (let
                    w : word_at (with_word n a i v) b j ≡ word_at n b j = rw e (word_other n a i j v li ne2) in sym w)
              ]
              | inr ne ↦
                  get_or-set_other s.heap ((placed_at s.allocations a).base + i) ((placed_at s.allocations b).base + j)
                  x 0 (apart b a j i ub ua lj' li ne)
                  ∙ h.heap b j ub mb' lj' ∙ ap (image_of bases) (sym (word_elsewhere n a i b j v ne))
            ];
        carried = h.carried;
        probed = λ j past. met_same n (with_word n a i v) _ _ (λ b. (alike b).0) (λ b u. (alike b).1 ∙ u)
            (h.probed j past);
      }) k f at refl
  images_kept {m} apart (Wipes x out) = record {
    registers = h.registers;
    globals = h.globals;
    heap = λ a i u m lt. get_or-set_other s.heap x _ 0 0 (out a i u m lt) ∙ h.heap a i u m lt;
    carried = h.carried;
    probed = h.probed;
  }
  images_kept apart (Grants k d base ty f at long ld zero_there) =
      stored (let y = fresh_one base ty in
      let bs = bases_of (s.allocations ++ y ∷ []) in
      let grown : (w : Value) → IsSound n w → image_of bs w ≡ image_of bases w =
      λ w sound. image_grown n s.allocations y w same sound in
      record {
        registers = λ i. h.registers i ∙ sym (grown _ (typed.registers i));
        globals = λ g. h.globals g ∙ sym (grown _ (typed.globals g));
        heap = λ b j u m lj. elim (cases_eq b (length n.allocations)) [
          | inl e ↦
              let na : allocation_at (with_new n ty) b ≡ new_words n ty = cc (e, new_never n ty) in
              let ga : placed_at (s.allocations ++ y ∷ []) b ≡ y = cc (e, same, granted_at s.allocations y) in
              let lj' : j < length (zero_words (kinds_of n.types ty)) =
              subst (λ (x : NeverAllocation). j < length x.words) na lj in
              rw ga (zero_there j (omega (arith, length-map (kinds_of n.types ty) zero_of))
              ∙ sym (zero_image bs (kinds_of n.types ty) j)
              ∙ ap (λ (x : NeverAllocation). image_of bs (slice_index_or x.words j Null)) (sym na))
          | inr ne ↦
              let na = old_never n ty b ne in
              let ga = old_placed s.allocations y b (λ e. ne (e ∙ same)) in
              let u' : (placed_at s.allocations b).released ≡ false = sym (rw ga) ∙ u in
              let lj' : j < length (words_of n b) = subst (λ (x : NeverAllocation). j < length x.words) na lj in
              let t : IsTypedAllocation n (allocation_at n b) = typed.allocations b (exists n b j lj') in
              rw ga (h.heap b j u' (sym (rw na) ∙ m) lj'
              ∙ sym (suits_grown n s.allocations y (word_at n b j) (kind_in n (allocation_at n b) j) same
              (t.words j lj')) ∙ ap (λ (x : NeverAllocation). image_of bs (slice_index_or x.words j Null)) (sym na))
        ];
        carried = λ j. carries_same bs _ _ _ (grown _ (typed.registers _)) (grown _ (typed.registers _))
            (grown _ (typed.registers _)) (h.carried j);
        probed = λ j past. meets_new n ty _ _ (h.probed j past);
      }) small k d _ f _
      (record { there = at.there; registers = at.registers; was = at.was; bare = at.bare }) long ld
      (sym (new_image s.allocations (fresh_one base ty) (length n.allocations) ty same))
  images_kept {m} apart (Frees k a f xs at places released there others is quiet) =
      let flies = decided s s n n h k f at refl in
      rebased (record s { flights = slice_set s.flights k f }) (with_freed n a) (record {
        registers = flies.registers;
        globals = h.globals;
        heap = λ b j u m lt. h.heap b j u (freed_was n a b m) (rw (freed_words n a b) at lt)
            ∙ rw (← (freed_words n a b));
        carried = flies.carried;
        probed = λ j past. elim (cases_Bool (is_unmapped (record (allocation_at n a) { freed = true }))) [
          | inl e ↦ let x : false ≡ true = sym (elim (cases_eq j k) [
            | inl own ↦ rw own (rw (get_or-set_same s.flights k f at_rest at.there) (bare_unprobed f.stage at.bare))
            | inr ne ↦ rw (get_or-set_other s.flights k j f at_rest ne) (quiet e j ne)
          ]) ∙ past in cc
          | inr e ↦ met_same n (with_freed n a) _ _ (λ b. rw (freed_words n a b)) (λ b u. freed_is n a b e u)
              (flies.probed j past)
        ];
      }) xs places.bases (λ b u. sym (released b) ∙ u)
  images_kept apart (Renews xs places released freed) = rebased s n h xs places.bases (λ b u. sym (released b) ∙ u)
  images_kept apart (Releases xs places released freed kept cut) = rebased s n h xs places.bases released
