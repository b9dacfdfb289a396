-- The words of fresh allocations, as a sum over all: after each kind of event the count of them that is kept beside the
-- table is that sum.
use Rattle.std.proofs.{Common.filter, Common.min, Common.sum_by, Math.Bool.and-false, lemmas.List.Sums.sum_by-cons}
use Rattle.mk_laws.proofs.Vocabulary.{Bool, Cell, Config, Header, List, None, Object, Option, PlacedAllocation, Seat}
use Rattle.mk_laws.proofs.Vocabulary.{ShowsPart, Some, StandsInOrder, Step, World, ℕ, and_parts, ap, arith, cases_lt}
use Rattle.mk_laws.proofs.Vocabulary.{cell_freed, changed_at, cond-true, false, false_from_ne_true, first_page_shows}
use Rattle.mk_laws.proofs.Vocabulary.{flight_of, freed_cell, freed_where_it_stands, fresh_words_of, get_or_past}
use Rattle.mk_laws.proofs.Vocabulary.{ground_of, header_in, heads_run, if◌then◌else◌, in_a_word, is_large, is_mapped}
use Rattle.mk_laws.proofs.Vocabulary.{is_phase, is_small_object, kinds_of, large_is_not_small, length, map}
use Rattle.mk_laws.proofs.Vocabulary.{no_longer_fresh, none_freed, not, not-true, object_now, object_placed, part_words}
use Rattle.mk_laws.proofs.Vocabulary.{placed_at, refl, released_leaves, small_heads_none, stands_in, storage_words}
use Rattle.mk_laws.proofs.Vocabulary.{subst, suc, sym, true, true≢false, with_released, words_made, words_under, zero}
use Rattle.mk_laws.proofs.Vocabulary.{[], ◌&&◌, ◌++◌, ◌+◌, ◌-◌, ◌<◌, ◌^◌, ◌||◌, ◌∙◌, ◌∷◌, ◌≡◌, ◌≢◌}
use Rattle.mk_core.{proofs.ObjectHeaders.part_heads_run, specs.Effects.words_freed}
use Rattle.mk_laws.proofs.Basics.{Before, Laid, Meets, WorldBehind, all_stand, apart_left}
use Rattle.mk_laws.proofs.QuarantineByKind.{frees_here, shown_at}
use Rattle.mk_laws.proofs.{ForImages.numbers_apart, QuarantineChanges.FreesHere, SnapshotKinds.snapshot_behind}

-- what one allocation counts
abbrev pub fresh_part : Config → PlacedAllocation → ℕ
fresh_part c a = if is_mapped c a && a.fresh then storage_words c a else 0

-- one that isn't fresh counts nothing

pub no_part : (mapped : Bool) (n : ℕ) → (if mapped && false then n else 0) ≡ 0
no_part mapped n = ap (λ b. if b then n else 0) (and-false mapped)

pub stale_part : (c : Config) (a : PlacedAllocation) → a.fresh ≡ false → fresh_part c a ≡ 0
stale_part c a stale = ap (λ b. if is_mapped c a && b then storage_words c a else 0) stale ∙ no_part (is_mapped c a) _

pub sum_filtered : (f : PlacedAllocation → ℕ) (p : PlacedAllocation → Bool) (xs : List PlacedAllocation)
    → sum_by f (filter p xs) ≡ sum_by (λ (a : PlacedAllocation). if p a then f a else 0) xs
sum_filtered f p [] = refl
sum_filtered f p (a ∷ xs) =
    cc (first (p a), sum_filtered f p xs, sum_by-cons (λ (b : PlacedAllocation). if p b then f b else 0) a xs)
  where
    first : (b : Bool) → sum_by f (if b then a ∷ filter p xs else filter p xs)
        ≡ (if b then f a else 0) + sum_by f (filter p xs)
    first true = sum_by-cons f a (filter p xs)
    first false = omega arith

pub fresh_sum : (c : Config) (xs : List PlacedAllocation) → fresh_words_of c xs ≡ sum_by (fresh_part c) xs
fresh_sum c xs = sum_filtered (storage_words c) (λ a. is_mapped c a && a.fresh) xs

fresh_cons : (c : Config) (a : PlacedAllocation) (xs : List PlacedAllocation)
    → fresh_words_of c (a ∷ xs) ≡ fresh_part c a + fresh_words_of c xs
fresh_cons c a xs = omega (arith, fresh_sum c (a ∷ xs), fresh_sum c xs, sum_by-cons (fresh_part c) a xs)

-- one more, which isn't fresh
pub fresh_pushed : (c : Config) (xs : List PlacedAllocation) (a : PlacedAllocation) → a.fresh ≡ false
    → fresh_words_of c (xs ++ a ∷ []) ≡ fresh_words_of c xs
fresh_pushed c [] a stale = fresh_cons c a [] ∙ ap (λ n. n + fresh_words_of c []) (stale_part c a stale)
fresh_pushed c (x ∷ xs) a stale =
    fresh_cons c x (xs ++ a ∷ []) ∙ ap (λ n. fresh_part c x + n) (fresh_pushed c xs a stale) ∙ sym (fresh_cons c x xs)

-- none is fresh
pub none_fresh : (c : Config) (xs : List PlacedAllocation) → fresh_words_of c (map no_longer_fresh xs) ≡ 0
none_fresh c [] = refl
none_fresh c (a ∷ xs) =
    let rest = none_fresh c xs in
    omega (arith, fresh_cons c (no_longer_fresh a) (map no_longer_fresh xs), stale_part c (no_longer_fresh a) refl)

module _ (c : Config) (change : PlacedAllocation → PlacedAllocation) where
  -- The allocation counts after the change what it did.
  abbrev pub CountsAsBefore : PlacedAllocation → Type 0
  CountsAsBefore a = fresh_part c (change a) ≡ fresh_part c a

  -- if each does
  pub fresh_kept : (xs : List PlacedAllocation) → ((i : ℕ) → CountsAsBefore (placed_at xs i))
      → fresh_words_of c (map change xs) ≡ fresh_words_of c xs
  fresh_kept [] same = refl
  fresh_kept (a ∷ xs) same =
      let was = fresh_cons c a xs in
      omega (arith, same 0, fresh_kept xs (λ i. same (suc i)), fresh_cons c (change a) (map change xs))

  -- if one of them counts so much more
  pub fresh_more : (xs : List PlacedAllocation) (j more : ℕ) → j < length xs
      → ((i : ℕ) → i ≢ j → CountsAsBefore (placed_at xs i)) → fresh_part c (change (placed_at xs j))
      ≡ fresh_part c (placed_at xs j) + more → fresh_words_of c (map change xs) ≡ fresh_words_of c xs + more
  fresh_more [] j more lt same one = absurd (omega arith)
  fresh_more (a ∷ xs) zero more lt same one =
      let rest = fresh_kept xs (λ i. same (suc i) (λ e. omega arith)) in
      omega (arith, fresh_cons c (change a) (map change xs), fresh_cons c a xs)
  fresh_more (a ∷ xs) (suc j) more lt same one =
      let rest = fresh_more xs j more (omega arith) (λ i ne. same (suc i) (λ e. ne (omega arith))) one in
      let first = same 0 (λ e. omega arith) in
      omega (arith, fresh_cons c (change a) (map change xs), fresh_cons c a xs)

-- The count is that of the allocations, as it stands in a word.
abbrev pub FreshTold : Config → World → Type 0
FreshTold c w = w.now.fresh_words ≡ in_a_word (fresh_words_of c w.allocations)

-- what a freed object adds: a small one's storage
words_of_part : {o : Object} {x : Option Header} → ShowsPart o 0 x → (small : Bool) → is_small_object o ≡ small
    → (if heads_run x then 0 else words_under x) ≡ (if small then words_made o else 0)
words_of_part part x4 is = grind (arith, small_heads_none, part_words, part_heads_run)

-- and what it counts from then on
counted_freed : (released large small : Bool) (n : ℕ) → released ≡ false → large ≡ not small
    → (if (not released && not (true && large)) && true then n else 0) ≡ (if small then n else 0)
counted_freed true large small n is l = absurd (true≢false is)
counted_freed x0 large small n is l = grind arith

abbrev freed_fresh : PlacedAllocation → PlacedAllocation
freed_fresh a = record a { freed = true; fresh = true }

-- `quar` (a): one allocation becomes fresh
module _ (c : Config) (w : World) (cell : Cell) (n : ℕ) (b : Before c w) (off : is_phase w.now.words 4 ≡ false)
    (order : StandsInOrder c w) (x : FreesHere c w cell n) where
  abbrev freed : PlacedAllocation → PlacedAllocation
  freed a = freed_where_it_stands w.now.words (Some cell) a

  abbrev own : PlacedAllocation
  own = placed_at w.allocations x.own.number

  -- the others stay
  others_count : (i : ℕ) → i ≢ x.own.number → (stand : Bool) → stands_in w.now.words cell (placed_at w.allocations i)
      ≡ stand → fresh_part c (if stand then freed_fresh (placed_at w.allocations i) else placed_at w.allocations i)
      ≡ fresh_part c (placed_at w.allocations i)
  others_count i ne false is = refl
  others_count i ne true is =
      let a : PlacedAllocation = placed_at w.allocations i in
      let u = not-true a.released (and_parts _ _ is).0 in
      grind (arith, apart_left, numbers_apart)

  part : ShowsPart (object_placed c own) 0 (header_in w.now.words cell.page)
  part =
      let laid : Laid c (object_now c w.now) false w (ground_of w) =
      subst (λ four. Laid c (object_now c w.now) four w (ground_of w)) off order.laid in
      let stands = all_stand c _ false w b.lengths.pages laid x.own.number x.own.unreleased in
      subst (λ p. ShowsPart (object_placed c own) 0 (header_in w.now.words p)) (ap (λ (y : Cell). y.page) x.own.is)
      (first_page_shows c w.now.words own (shown_at c w x.own.number order.laid x.own.unreleased).sized stands.headers)

  stale : own.fresh ≡ false
  stale = grind (arith, false_from_ne_true, own)

  own_counts : fresh_part c (freed own) ≡ fresh_part c own + words_freed w.now.words (Some cell)
  own_counts =
      let o : Object = object_placed c own in
      let small : Bool = is_small_object o in
      let becomes : freed own ≡ freed_fresh own = cond-true _ _ own x.stands in
      let large = large_is_not_small _ in
      let counted = counted_freed own.released _ small (words_made o) x.own.unreleased large in
      let now : fresh_part c (freed own) ≡ (if small then words_made o else 0) = ap (fresh_part c) becomes ∙ counted in
      let added = words_of_part part small refl in
      omega (arith, stale_part c own stale)

  within : x.own.number < length w.allocations
  within = grind (arith, cases_lt, get_or_past)

  fresh_freed : fresh_words_of c (map (freed_where_it_stands w.now.words (Some cell)) w.allocations)
      ≡ fresh_words_of c w.allocations + words_freed w.now.words (Some cell)
  fresh_freed = fresh_more c _ w.allocations x.own.number _ within (λ i ne. others_count i ne _ refl) own_counts

-- A sum stands still at the greatest number of a word.

-- each kind of event, whatever the seat
pub fresh_told_behind : {c : Config} {w : World} (seat : Seat) (x : Step) → Before c w → Meets c w.now seat x
    → StandsInOrder c w → FreshTold c w → FreshTold c (WorldBehind c w seat x)
fresh_told_behind {c} {w} seat (Step.Quar p n) b h order told =
    by (cell_freed c.pages w.now.words (flight_of w.now seat) p n) refl
  where
    by : (cell : Option Cell) → cell_freed c.pages w.now.words (flight_of w.now seat) p n ≡ cell
        → min (w.now.fresh_words + words_freed w.now.words cell) (2 ^ 64 - 1)
        ≡ in_a_word (fresh_words_of c (map (freed_where_it_stands w.now.words cell) w.allocations))
    by None is = grind (arith, none_freed)
    by (Some cell) is =
        let x = freed_cell c.pages w.now.words _ p n cell is in
        let sum = fresh_freed c w cell n b x.phase order (frees_here seat b h order.laid x) in
        omega arith
fresh_told_behind {c} {w} seat Step.Begin b h order told = ap in_a_word (sym (none_fresh c w.allocations))
fresh_told_behind {c} {w} seat Step.Grant b h order told =
    told ∙ ap in_a_word (sym (fresh_pushed c w.allocations _ refl))
fresh_told_behind {c} {w} seat Step.Release b h order told =
    told ∙ ap in_a_word (sym (fresh_kept c _ w.allocations same))
  where
    counted : (released left mapped fresh : Bool) (m : ℕ) → (fresh ≡ true → (released || left) ≡ released)
        → (if (not (released || left) && mapped) && fresh then m else 0)
        ≡ (if (not released && mapped) && fresh then m else 0)
    counted released left mapped true m stays = ap (λ b. if (not b && mapped) && true then m else 0) (stays refl)
    counted released left mapped false m stays = no_part _ m ∙ sym (no_part _ m)

    -- what is fresh stays
    same : (i : ℕ) → CountsAsBefore c (with_released c w.now.words) (placed_at w.allocations i)
    same i =
        let a : PlacedAllocation = placed_at w.allocations i in
        let at = changed_at _ w.allocations i (released_leaves c w.now.words).none in
        let now = snapshot_behind seat Step.Release b h order.laid order.quarantined order.snapshot in
        counted a.released _ (not (a.freed && is_large (kinds_of c.types a.ty))) a.fresh _ (λ f.
        let behind = now.fresh i (ap (λ (y : PlacedAllocation). y.fresh) at ∙ f) in
        ap (λ (y : PlacedAllocation). y.released) (sym at) ∙ behind.1 ∙ sym (order.snapshot.fresh i f).1)
fresh_told_behind seat _ b h order told = told
