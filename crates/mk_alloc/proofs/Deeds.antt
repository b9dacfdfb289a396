-- The deeds of a history leave its allocations, and give back what it gave back.
use Rattle.std.proofs.{lemmas.{List.map-id, Bool.{eqb-true, or_right}}, Common.{suc, zero}}
use Rattle.std.specs.Prelude.{filter, sum_by}
use Rattle.mk_alloc.proofs.Vocabulary.{allocations_by, asked, call_decided, eq-eqb, map, or_left, ◌==◌, and_from, cond}
use Rattle.mk_alloc.proofs.{Vocabulary.{freed_where_it_stands, or_cases, true≢false}, QuarantineVocabulary.{Bool, Cell}}
use Rattle.mk_alloc.proofs.QuarantineVocabulary.{Config, Event, Flight, List, None, Option, PlacedAllocation, Some}
use Rattle.mk_alloc.proofs.QuarantineVocabulary.{Step, World, and_parts, ap, arith, cases_Bool, cell_freed, false}
use Rattle.mk_alloc.proofs.QuarantineVocabulary.{first_world, flight_of, given_back_behind, if◌then◌else◌, inl, inr}
use Rattle.mk_alloc.proofs.QuarantineVocabulary.{is_mapped, is_some_and, length, list_any, not, placed_at, refl}
use Rattle.mk_alloc.proofs.QuarantineVocabulary.{storage_words, subst, sym, true, world_behind, ℕ, ◌&&◌, ◌++◌, ◌+◌, ◌<◌}
use Rattle.mk_alloc.proofs.QuarantineVocabulary.{◌||◌, ◌∙◌, ◌∷◌, ◌≡◌, [], false_from_ne_true, with_released}
use Rattle.mk_core.specs.{History.left_from, Cells.{is_left_unmarked, pointed_cell}, Words.Words}
use Rattle.mk_never.specs.NeverHeap.{Call}
use Rattle.mk_geom.specs.Addresses.{address_of}
use Rattle.mk_alloc.specs.Deeds.{Deed, after_deed, back_after, back_from, begins_at_one, storage_from, DeedsGiveBack}
use Rattle.mk_alloc.specs.Deeds.{DeedsLeaveTheStorage, bases_released, deeds_by, deeds_from, done_by, frees_at}
use Rattle.mk_alloc.specs.Bounds.{given_back_from}

-- Deeds one after the other.

pub storage_append : (xs : List PlacedAllocation) (ds es : List Deed)
    → storage_from xs (ds ++ es) ≡ storage_from (storage_from xs ds) es
unfolding storage_from
storage_append xs [] es = refl
storage_append xs (d ∷ ds) es = storage_append (after_deed d xs) ds es

back_append : (c : Config) (xs : List PlacedAllocation) (n : ℕ) (ds es : List Deed)
    → back_from c xs n (ds ++ es) ≡ back_from c (storage_from xs ds) (back_from c xs n ds) es
unfolding storage_from back_from
back_append c xs n [] es = refl
back_append c xs n (d ∷ ds) es = back_append c (after_deed d xs) (back_after c xs n d) ds es

-- what is asked changes nothing

asked_leaves : (xs : List PlacedAllocation) (calls : List Call) (ds : List Deed)
    → storage_from xs (map Deed.Asked calls ++ ds) ≡ storage_from xs ds
unfolding storage_from
asked_leaves xs [] ds = refl
asked_leaves xs (x ∷ calls) ds = asked_leaves xs calls ds

asked_gives_none : (c : Config) (xs : List PlacedAllocation) (n : ℕ) (calls : List Call) (ds : List Deed)
    → back_from c xs n (map Deed.Asked calls ++ ds) ≡ back_from c xs n ds
unfolding back_from
asked_gives_none c xs n [] ds = refl
asked_gives_none c xs n (x ∷ calls) ds = asked_gives_none c xs n calls ds

-- Lists that are the same at each place.

same_maps : (f g : PlacedAllocation → PlacedAllocation) (xs : List PlacedAllocation)
    → ((i : ℕ) → i < length xs → f (placed_at xs i) ≡ g (placed_at xs i)) → map f xs ≡ map g xs
same_maps f g [] same = refl
same_maps f g (x ∷ xs) same =
    let tail = same_maps f g xs (λ i lt. same (suc i) (omega arith)) in
    let head = same 0 (omega arith) in
    cc

same_filters : (p q : PlacedAllocation → Bool) (xs : List PlacedAllocation)
    → ((i : ℕ) → i < length xs → p (placed_at xs i) ≡ q (placed_at xs i)) → filter p xs ≡ filter q xs
same_filters p q [] same = refl
same_filters p q (x ∷ xs) same =
    let tail = same_filters p q xs (λ i lt. same (suc i) (omega arith)) in
    let head = same 0 (omega arith) in
    rw head (rw tail)

-- The bases of unreleased allocations that pass a test of the base alone.

abbrev passes : (ℕ → Bool) → PlacedAllocation → Bool
passes q a = not a.released && (a.released || q a.base)

abbrev bases_passing : (ℕ → Bool) → List PlacedAllocation → List ℕ
bases_passing q xs = map (λ (a : PlacedAllocation). a.base) (filter (passes q) xs)

any_more : (b : Bool) (f : ℕ → Bool) (x : PlacedAllocation) (xs : List PlacedAllocation)
    → list_any f (map (λ (a : PlacedAllocation). a.base) (cond b (x ∷ xs) xs))
    ≡ ((b && f x.base) || list_any f (map (λ (a : PlacedAllocation). a.base) xs))
any_more true f x xs = refl
any_more false f x xs = refl

passed : (q : ℕ → Bool) (a : PlacedAllocation) → passes q a ≡ true → q a.base ≡ true
passed q a h = passed_at a.released (q a.base) h
  where
    passed_at : (r b : Bool) → (not r && (r || b)) ≡ true → b ≡ true
    passed_at false b h = h
    passed_at true b h = cc

pass : (q : ℕ → Bool) (a : PlacedAllocation) → a.released ≡ false → q a.base ≡ true → passes q a ≡ true
pass q a off on = rw off on

listed : (q : ℕ → Bool) (xs : List PlacedAllocation) (b : ℕ) → list_any (λ n. b == n) (bases_passing q xs) ≡ true
    → q b ≡ true
listed q [] b h = cc
listed q (x ∷ xs) b h = elim (or_cases _ _ (sym (any_more (passes q x) (λ n. b == n) x (filter (passes q) xs)) ∙ h)) [
  | inl one ↦ let parts = and_parts (passes q x) _ one in
      subst (λ n. q n ≡ true) (sym (eqb-true b x.base parts.1)) (passed q x parts.0)
  | inr later ↦ listed q xs b later
]

is_listed : (q : ℕ → Bool) (xs : List PlacedAllocation) (i : ℕ) → i < length xs → (placed_at xs i).released ≡ false
    → q (placed_at xs i).base ≡ true → list_any (λ n. (placed_at xs i).base == n) (bases_passing q xs) ≡ true
is_listed q [] i lt off on = absurd (omega arith)
is_listed q (x ∷ xs) zero lt off on =
    any_more (passes q x) (λ n. x.base == n) x (filter (passes q) xs)
    ∙ or_left _ _ (and_from _ _ (pass q x off on) (eq-eqb x.base x.base refl))
is_listed q (x ∷ xs) (suc i) lt off on =
    any_more (passes q x) (λ n. (placed_at xs i).base == n) x (filter (passes q) xs)
    ∙ or_right _ _ (is_listed q xs i (omega arith) off on)

lists_test : (q : ℕ → Bool) (xs : List PlacedAllocation) (i : ℕ) → i < length xs → (placed_at xs i).released ≡ false
    → list_any (λ n. (placed_at xs i).base == n) (bases_passing q xs) ≡ q (placed_at xs i).base
lists_test q xs i lt off = elim (cases_Bool (q (placed_at xs i).base)) [
  | inl on ↦ is_listed q xs i lt off on ∙ sym on
  | inr out ↦ false_from_ne_true _ (λ one. true≢false (sym (listed q xs _ one) ∙ out)) ∙ sym out
]

-- What a `release` does to one allocation is what the deed does.

abbrev placed : ℕ → ℕ → Bool → Bool → Bool → PlacedAllocation
placed base ty freed fresh released =
    record { base = base; ty = ty; freed = freed; fresh = fresh; released = released }

released_at : (base ty : ℕ) (freed fresh was at q : Bool) → (was ≡ false → at ≡ q)
    → (if not was && at then placed base ty freed fresh true else placed base ty freed fresh was)
    ≡ placed base ty freed fresh (was || q)
released_at base ty freed fresh true at q same = refl
released_at base ty freed fresh false at true same = rw (same refl) refl
released_at base ty freed fresh false at false same = rw (same refl) refl

given_at : (was mapped at q : Bool) → (was ≡ false → at ≡ q)
    → ((not was && mapped) && (not was && at)) ≡ ((not was && mapped) && (was || q))
given_at true mapped at q same = refl
given_at false mapped at q same = rw (same refl) refl

-- What an event does

abbrev left_unmarked : Config → Words → ℕ → Bool
left_unmarked c w base = is_some_and (is_left_unmarked w) (pointed_cell c.pages w.pages (address_of base))

done_leaves : (c : Config) (w : World) (f : Flight) (x : Step)
    → storage_from w.allocations (done_by c w f x) ≡ allocations_by c w.now f x w.allocations
unfolding storage_from
done_leaves c w f Step.Grant = refl
done_leaves c w f (Step.Quar p v) = frees (cell_freed c.pages w.now.words f p v)
  where
    frees : (cell : Option Cell) → storage_from w.allocations (frees_at w.now.words cell)
        ≡ map (freed_where_it_stands w.now.words cell) w.allocations
    frees None = sym (map-id w.allocations)
    frees (Some cell) = refl
done_leaves c w f Step.Begin = refl
done_leaves c w f Step.Release = same_maps _ _ w.allocations (λ i lt. let a = placed_at w.allocations i in
    released_at a.base a.ty a.freed a.fresh a.released _ _
    (lists_test (left_unmarked c w.now.words) w.allocations i lt))
done_leaves c w f Step.End = refl
done_leaves c w f Step.Give = refl
done_leaves c w f _ = refl

pub event_leaves : (c : Config) (w : World) (e : Event)
    → storage_from w.allocations (deeds_by c w e) ≡ (world_behind c w e).allocations
event_leaves c w e = asked_leaves w.allocations (asked (call_decided c w.now e)) _
    ∙ done_leaves c w (flight_of w.now e.seat) e.step

pub deeds_leave : (c : Config) (w : World) (es : List Event)
    → storage_from w.allocations (deeds_from c w es) ≡ (left_from c w es).allocations
unfolding deeds_from storage_from left_from
deeds_leave c w [] = refl
deeds_leave c w (e ∷ es) =
    storage_append w.allocations (deeds_by c w e) (deeds_from c (world_behind c w e) es)
    ∙ ap (λ (xs : List PlacedAllocation). storage_from xs (deeds_from c (world_behind c w e) es)) (event_leaves c w e)
    ∙ deeds_leave c (world_behind c w e) es

pub deeds_leave_the_storage : DeedsLeaveTheStorage
deeds_leave_the_storage c es = deeds_leave c (first_world c) es

-- and what it gives back.

given_one : (c : Config) (w : World) (i : ℕ) → i < length w.allocations
    → (is_mapped c (placed_at w.allocations i) && begins_at_one (bases_released c w) (placed_at w.allocations i))
    ≡ (is_mapped c (placed_at w.allocations i) && (with_released c w.now.words (placed_at w.allocations i)).released)
given_one c w i lt =
    given_at (placed_at w.allocations i).released _ _ _ (lists_test (left_unmarked c w.now.words) w.allocations i lt)

done_gives_back : (c : Config) (w : World) (f : Flight) (n : ℕ) (x : Step)
    → back_from c w.allocations n (done_by c w f x) ≡ given_back_behind c w x n
unfolding back_from
done_gives_back c w f n Step.Grant = refl
done_gives_back c w f n (Step.Quar p v) = frees (cell_freed c.pages w.now.words f p v)
  where
    frees : (cell : Option Cell) → back_from c w.allocations n (frees_at w.now.words cell) ≡ n
    frees None = refl
    frees (Some cell) = refl
done_gives_back c w f n Step.Begin = refl
done_gives_back c w f n Step.Release =
    ap (λ (xs : List PlacedAllocation). n + sum_by (storage_words c) xs)
    (same_filters _ _ w.allocations (λ i lt. given_one c w i lt))
done_gives_back c w f n Step.End = refl
done_gives_back c w f n Step.Give = refl
done_gives_back c w f n _ = refl

event_gives_back : (c : Config) (w : World) (e : Event) (n : ℕ)
    → back_from c w.allocations n (deeds_by c w e) ≡ given_back_behind c w e.step n
event_gives_back c w e n = asked_gives_none c w.allocations n (asked (call_decided c w.now e)) _
    ∙ done_gives_back c w (flight_of w.now e.seat) n e.step

deeds_back : (c : Config) (w : World) (n : ℕ) (es : List Event)
    → back_from c w.allocations n (deeds_from c w es) ≡ given_back_from c w n es
unfolding deeds_from back_from given_back_from
deeds_back c w n [] = refl
deeds_back c w n (e ∷ es) =
    back_append c w.allocations n (deeds_by c w e) (deeds_from c (world_behind c w e) es)
    ∙ ap (λ (xs : List PlacedAllocation). back_from c xs (back_from c w.allocations n (deeds_by c w e))
    (deeds_from c (world_behind c w e) es)) (event_leaves c w e)
    ∙ ap (λ m. back_from c (world_behind c w e).allocations m (deeds_from c (world_behind c w e) es))
    (event_gives_back c w e n)
    ∙ deeds_back c (world_behind c w e) (given_back_behind c w e.step n) es

pub deeds_give_back : DeedsGiveBack
deeds_give_back c es = deeds_back c (first_world c) 0 es

pub ruleset deeds_are_the_historys_facts = (deeds_leave_the_storage, deeds_give_back)
