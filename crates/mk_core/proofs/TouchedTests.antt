-- A set is closed under pointers along a cycle: as a test of each of its moments.
use Rattle.std.proofs.{Math.Bool.or-true, lemmas.Bool.not_from_false}
use Rattle.mk_core.proofs.Vocabulary.{Bool, Config, Event, IsClosedAlong, List, Marking, NeverState, PlacedAllocation}
use Rattle.mk_core.proofs.Vocabulary.{Value, World, ℕ, and_from, and_parts, arith, le-leb, left, list_all, nat_le}
use Rattle.mk_core.proofs.Vocabulary.{never_behind, never_granted, not, placed_at, refl, slice_index, storage_of, true}
use Rattle.mk_core.proofs.{Vocabulary.{◌&&◌, ◌++◌, ◌||◌, ◌≡◌}, ListTests.{all_fronts, all_fronts-at, implied}}
use Rattle.mk_core.{proofs.ListTests.{list_all-at, numbered_all, numbered_all-at}, specs.History.{image_of}}
use Rattle.mk_core.proofs.MarkTests.{is_word_of, is_word_of_by}
use Rattle.mk_geom.specs.Addresses.{heap_word_at}
use Rattle.mk_core.specs.{Cycles.{IsWordOfAllocation, PointsIntoAllocation, through}, History.bases_of}

-- an address that points into the allocation points into a member
abbrev pub points_into_member : Config → (ℕ → Bool) → ℕ → ℕ → PlacedAllocation → Bool
points_into_member c S value b a = not (not a.released && is_word_of (storage_of c a) (heap_word_at value)) || S b

abbrev pub is_into_members : Config → World → (ℕ → Bool) → ℕ → Bool
is_into_members c w S value = not (nat_le 65536 value) || numbered_all (points_into_member c S value) w.allocations

-- a register's value of the never-reusing heap, if the allocations stand
abbrev pub register_is_into_members : Config → World → (ℕ → Bool) → Value → Bool
register_is_into_members c w S value = is_into_members c w S (image_of (bases_of w.allocations) value)

abbrev pub word_is_into_members : Config → World → (ℕ → Bool) → PlacedAllocation → ℕ → ℕ → Bool
word_is_into_members c w S a n value = not (is_word_of (storage_of c a) n) || is_into_members c w S value

-- So is each word of the allocation, if it is a member that has words to follow.
abbrev pub words_are_into_members : Config → World → (ℕ → Bool) → ℕ → PlacedAllocation → Bool
words_are_into_members c w S i a = not (not a.released && (not (storage_of c a).leaf && S i))
    || numbered_all (word_is_into_members c w S a) w.now.words.heap

abbrev pub is_closed_at : Config → World → NeverState → (ℕ → Bool) → Bool
is_closed_at c w n S =
    list_all (register_is_into_members c w S) n.registers && list_all (is_into_members c w S) w.now.words.globals
    && numbered_all (words_are_into_members c w S) w.allocations

abbrev pub is_closed_behind : Config → (ℕ → Bool) → List Event → Bool
is_closed_behind c S front = is_closed_at c (left c front) (never_behind c front) S

pub points_into : (c : Config) (w : World) (S : ℕ → Bool) (value b : ℕ)
    → is_into_members c w S value ≡ true → PointsIntoAllocation c w value b → S b ≡ true
points_into c w x2 value b h points =
    grind (arith, implied, le-leb, numbered_all-at, points_into_member, is_word_of_by, and_from, not_from_false)

pub word_points_into : (c : Config) (w : World) (S : ℕ → Bool) (a n b : ℕ)
    → numbered_all (words_are_into_members c w S) w.allocations ≡ true
    → S a ≡ true → IsWordOfAllocation c w n a → PointsIntoAllocation c w (slice_index w.now.words.heap n) b → S b ≡ true
word_points_into c w S a n b h member inside points =
    let x = placed_at w.allocations a in
    let each = numbered_all-at (words_are_into_members c w S) w.allocations never_granted h (λ i. refl) a in
    let follow = and_from _ _ (not_from_false _ inside.1) member in
    let all = implied _ _ each (and_from _ _ (not_from_false _ inside.0) follow) in
    let word = numbered_all-at (word_is_into_members c w S x) w.now.words.heap 0 all
    (λ i. or-true (not (is_word_of (storage_of c x) i))) n in
    points_into c w S _ b (implied _ _ word (is_word_of_by (storage_of c x) n inside.2)) points

pub closed_along_by_test : (c : Config) {es : List Event} (k : Marking es) (S : ℕ → Bool)
    → all_fronts (λ done. is_closed_behind c S (through k.begin ++ done)) k.close.at.before ≡ true
    → IsClosedAlong c k (λ b. S b ≡ true)
closed_along_by_test c k S h =
    grind (
      arith,
      points_into,
      list_all-at,
      register_is_into_members,
      is_into_members,
      word_points_into,
      is_closed_behind,
      all_fronts-at,
      numbered_all,
      words_are_into_members,
      and_parts,
    )
