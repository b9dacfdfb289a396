-- How many pages are resident or in a plot, if few change.
use Rattle.std.{proofs.{Common.min, lemmas.List.Recursion.is_count_by}, specs.List.count_by}
use Rattle.mk_laws.proofs.Vocabulary.{Bool, Config, Header, List, NoPlot, Object, Option, Page, Placing, Plot, World, ℕ}
use Rattle.mk_laws.proofs.Vocabulary.{arith, cond, count_below, false, free_page, get_or-set_other, header_of}
use Rattle.mk_laws.proofs.Vocabulary.{if◌then◌else◌, inl, inr, is_resident_page, is_unmapped_header, leb-true, length}
use Rattle.mk_laws.proofs.Vocabulary.{ltb-true, nat_le, nat_lt, object_now, or_cases, or_left, or_right, plot_of, refl}
use Rattle.mk_laws.proofs.Vocabulary.{resident_pages, set_by, shows_on, slice_index_or, suc, sym, true, true≢false}
use Rattle.mk_laws.proofs.Vocabulary.{use_under, used_on, uses_of_pages, zero, ◌&&◌, ◌+◌, ◌-◌, ◌<◌, ◌||◌, ◌∙◌, ◌∷◌, ◌≡◌}
use Rattle.mk_laws.proofs.{Vocabulary.{◌≢◌, ◌≤◌}, Basics.{with_header_on, with_used_on}}
use Rattle.mk_geom.specs.{PageUses.use_of_page, Storages.page_in}
use Rattle.mk_core.proofs.Below.Books.PlaceLemmas.{count_by-map}
use Rattle.mk_laws.proofs.Room.{HasRoom, in_plot, is_taken_page}

-- Counts of the numbers below one that pass a test.

-- if fewer pass
pub count_fewer : (n : ℕ) (test other : ℕ → Bool) → ((p : ℕ) → p < n → test p ≡ true → other p ≡ true)
    → count_below n test ≤ count_below n other
unfolding count_below
count_fewer zero test other fewer = omega arith
count_fewer (suc n) test other fewer =
    let rest = count_fewer n test other (λ p lt. fewer p (omega arith)) in
    grind arith
  where
    by : (a b : Bool) → (a ≡ true → b ≡ true) → (if a then 1 else 0) ≤ (if b then 1 else 0)
    by a b h = grind arith

-- if none passes
pub count_none : (n : ℕ) (test : ℕ → Bool) → ((p : ℕ) → test p ≡ false) → count_below n test ≡ 0
unfolding count_below
count_none zero test none = refl
count_none (suc n) test none =
    let last : cond {A = ℕ} (test n) 1 0 ≡ 0 = rw (none n) in
    omega (arith, count_none n test none)

-- with the numbers of a range besides
in_range : (n first size : ℕ) (test : ℕ → Bool)
    → count_below n (λ p. test p || (nat_le first p && nat_lt p (first + size))) ≤ count_below n test
    + min (n - first) size
unfolding count_below
in_range zero first size test = omega arith
in_range (suc n) first size test =
    let last = by (test n) (nat_le first n) (nat_lt n (first + size)) (leb-true first n) (ltb-true n (first + size)) in
    omega (arith, in_range n first size test)
  where
    by : (t a b : Bool) → (a ≡ true → first ≤ n) → (b ≡ true → n < first + size)
        → (if t || (a && b) then 1 else 0) + min (n - first) size ≤ (if t then 1 else 0) + min (suc n - first) size
    by t a b low high = grind arith

pub count_range : (n first size : ℕ) (test : ℕ → Bool)
    → count_below n (λ p. test p || (nat_le first p && nat_lt p (first + size))) ≤ count_below n test + size
count_range n first size test = let r = in_range n first size test in omega arith

no_numbers : (test : ℕ → Bool) → count_below 0 test ≡ 0
unfolding count_below
no_numbers test = refl

-- only the first number
count_front : (n : ℕ) (test : ℕ → Bool)
    → count_below (suc n) test ≡ (if test 0 then 1 else 0) + count_below n (λ p. test (suc p))
unfolding count_below
count_front zero test = omega arith
count_front (suc n) test = let rest = count_front n test in omega arith

-- the count of the elements of a list that pass
pub count_list : {A : Type 0} (xs : List A) (d : A) (test : A → Bool)
    → count_below (length xs) (λ p. test (slice_index_or xs p d)) ≡ count_by test xs
count_list xs d test =
    let none : count_below 0 (λ p. test d) ≡ 0 = no_numbers (λ p. test d) in
    is_count_by (λ ys. count_below (length ys) (λ p. test (slice_index_or ys p d))) test none
    (λ x ys. count_front (length ys) (λ p. test (slice_index_or (x ∷ ys) p d))
    ∙ by (test x) (count_below (length ys) (λ p. test (slice_index_or ys p d)))) xs
  where
    by : (b : Bool) (n : ℕ) → (if b then 1 else 0) + n ≡ cond b (1 + n) n
    by b n = grind arith

abbrev pub RoomOn : Config → Object → List Page → Placing → Type 0
RoomOn c o pages placing = count_below c.pages (is_taken_page pages (plot_of o placing)) ≤ c.resident

abbrev pub is_resident : List Page → ℕ → Bool
is_resident pages p = is_resident_page (use_of_page (page_in pages p))

-- as few pages are taken as before
pub room_fewer : (c : Config) (o u : Object) (pages others : List Page) (placing other : Placing)
    → ((q : ℕ) → q < c.pages → is_taken_page others (plot_of u other) q ≡ true
    → is_taken_page pages (plot_of o placing) q ≡ true) → RoomOn c o pages placing → RoomOn c u others other
room_fewer c o u pages others placing other fewer room = omega (arith, count_fewer c.pages _ _ fewer)

-- without a plot fewer are
pub room_unplaced : (c : Config) (o u : Object) (pages others : List Page) (placing other : Placing)
    → plot_of u other ≡ NoPlot → ((q : ℕ) → q < c.pages → is_resident others q ≡ true → is_resident pages q ≡ true)
    → RoomOn c o pages placing → RoomOn c u others other
room_unplaced c o u pages others placing other none fewer room = grind (arith, room_fewer, or_left, or_cases)

-- with this plot, if fewer pages are resident
pub room_same : (c : Config) (o : Object) (pages others : List Page) (placing : Placing)
    → ((q : ℕ) → q < c.pages → is_resident others q ≡ true → is_taken_page pages (plot_of o placing) q ≡ true)
    → RoomOn c o pages placing → RoomOn c o others placing
room_same c o pages others placing fewer room = room_fewer c o o pages others placing placing
    (λ q lt t. elim (or_cases _ _ t) [ inl r ↦ fewer q lt r | inr i ↦ or_right _ _ i ]) room

-- whether a page is resident is said by its header
pub resident_use : (x : Option Header) (u v : ℕ) → is_resident_page (use_under x u) ≡ is_resident_page (use_under x v)
resident_use x u v = grind arith

pub unmapped_use : (x : Option Header) (u : ℕ) → is_unmapped_header x ≡ true → is_resident_page (use_under x u) ≡ false
unmapped_use x u h = grind arith

pub resident_used : (pages : List Page) (p n q : ℕ) → is_resident (with_used_on pages p n) q ≡ true
    → is_resident pages q ≡ true
resident_used pages p n q =
    set_by (λ (x : Page). is_resident_page (use_of_page x) ≡ true → is_resident pages q ≡ true) pages p q _ free_page
    (λ e h. rw e (resident_use (shows_on pages p) (used_on pages p) n ∙ h)) (λ h. h)

-- another page than the one whose header changes
pub resident_other : (pages : List Page) (p n q : ℕ) → q ≢ p → is_resident (with_header_on pages p n) q ≡ true
    → is_resident pages q ≡ true
resident_other pages p n q ne h =
    rw (← (get_or-set_other pages p q (record { header = n; used = used_on pages p }) free_page ne)) h

-- if the header that it gets isn't that of a resident page
pub resident_gone : (pages : List Page) (p n q : ℕ) → p < length pages
    → is_resident_page (use_under (header_of n) (used_on pages p)) ≡ false
    → is_resident (with_header_on pages p n) q ≡ true → is_resident pages q ≡ true
resident_gone pages p n q lt out =
    set_by (λ (x : Page). is_resident_page (use_of_page x) ≡ true → is_resident pages q ≡ true) pages p q _ free_page
    (λ e h. absurd (true≢false (sym h ∙ out))) (λ h. h)

pub resident_count : (pages : List Page)
    → count_below (length pages) (is_resident pages) ≡ resident_pages (uses_of_pages pages)
resident_count pages = count_list pages free_page (λ (x : Page). is_resident_page (use_of_page x))
    ∙ sym (count_by-map is_resident_page use_of_page pages)

-- Fewer are resident than are taken.
pub resident_few : (c : Config) (w : World) → length w.now.words.pages ≡ c.pages → HasRoom c w
    → resident_pages (uses_of_pages w.now.words.pages) ≤ c.resident
resident_few c w len room =
    let pages : List Page = w.now.words.pages in
    let plot : Plot = plot_of (object_now c w.now) w.now.seats.holding.placing in
    let less = count_fewer c.pages (is_resident pages) (is_taken_page pages plot)
    (λ q lt r. or_left (is_resident pages q) (in_plot plot q) r) in
    grind (arith, is_resident, resident_count)
