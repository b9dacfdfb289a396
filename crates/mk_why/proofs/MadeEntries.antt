-- Chains followed back, and the entries of the kept allocations.
use Rattle.std.{proofs.lemmas.List.{length-reverse, reverse-append}, specs.List.Sorted.{IsStrictlyIncreasing}}
use Rattle.std.proofs.lemmas.List.Elements.{Contains-append_left, Contains-push, Contains-push_cases}
use Rattle.std.proofs.{Common.{length-append, reverse}, Math.{ListN.get_or-append, Seq.get_or-append_seam}}
use Rattle.mk_why.proofs.Vocabulary.{AreEntriesBelow, AreWays, BeginApart, Config, Found, IsTold, IsWay}
use Rattle.mk_why.proofs.Vocabulary.{IsWhy, Link, LinksLead, Root, Start, Storage, View, base_at, entry_at, is_kept}
use Rattle.mk_why.proofs.Vocabulary.{placed_at, world_in}
use Rattle.mk_sweep.proofs.Below.Laws.Vocabulary.{List, None, Option, Some, ℕ, and_parts, ap, arith, cases_lt, false}
use Rattle.mk_sweep.proofs.Below.Laws.Vocabulary.{inl, inr, length, length-map, lt-ltb, map, map-append, not-true, refl}
use Rattle.mk_sweep.proofs.Below.Laws.Vocabulary.{slice_index, subst, sym, true, [], ◌*◌, ◌++◌, ◌+◌, ◌<◌, ◌∙◌, ◌∷◌, ◌≡◌}
use Rattle.mk_sweep.proofs.Below.Laws.{Vocabulary.◌≤◌, MappedWords.mapped_stays}
use Rattle.mk_why.specs.Searching.{IsLed, IsMadeOf, IsOneMore, IsToldWhy, IsWayOf, back_to, root_of, step_back}
use Rattle.mk_why.specs.{Chains.IsEntryOf, Searching.IsKeptAt, declared.{found.Way.Way, kept.Kept.Kept}}

-- One step back.

some_back : (link links : ℕ) (o : Option Found) (before : Found) → o ≡ Some before → before.links < links
    → back_to link links o ≡ Some (link, before)
some_back link links o before is less = grind (arith, lt-ltb)

-- what a pair has

first_of_pair : Option (ℕ × Found) → ℕ
first_of_pair None = 0
first_of_pair (Some p) = p.0

second_of_pair : Found → Option (ℕ × Found) → Found
second_of_pair f None = f
second_of_pair f (Some p) = p.1

pair_is : (a : ℕ) (x : Found) (b : ℕ) (y : Found) (p : Option (ℕ × Found)) → p ≡ Some (a, x) → p ≡ Some (b, y)
    → (a ≡ b) × (x ≡ y)
unfolding first_of_pair second_of_pair
pair_is a x b y p one two = (ap first_of_pair (sym one ∙ two), ap (second_of_pair x) (sym one ∙ two))

-- Links, the last one first, lead from an allocation that was found so, and have this many in all with those before it.
pub record IsLedBack (c : Config) (v : View) (found : List (Option Found)) (f : Found) (links : List ℕ) (b count : ℕ)
    : Type 0 where
  pub number : ℕ
  pub way : IsWay c v found f.way f.links number
  pub leads : LinksLead c (world_in v) number (reverse links) b
  pub sum : length links + f.links ≡ count

pub led_first : (c : Config) (v : View) (found : List (Option Found)) (f : Found) (b : ℕ)
    → IsWay c v found f.way f.links b → IsLedBack c v found f [] b f.links
led_first c v found f b way = record { number = b; way = way; leads = refl; sum = omega arith }

module _ (c : Config) (v : View) (found : List (Option Found)) (ways : AreWays c v found) (apart : BeginApart v) where
  led_by : (way : Way) (links : ℕ) (pushed : List ℕ) (b count x : ℕ) → IsWay c v found way links x
      → LinksLead c (world_in v) x (reverse pushed) b → length pushed + links ≡ count → (link : ℕ) (before : Found)
      → step_back found (record { way = way; links = links }) ≡ Some (link, before)
      → IsLedBack c v found before (pushed ++ link ∷ []) b count
  led_by (Start root) links pushed b count x way leads sum link before is = absurd cc
  led_by (Link to from) links pushed b count x on leads sum link before is =
      let less : on.before.links < links = let more = on.one_more in omega arith in
      let same = pair_is to on.before link before (back_to to links (entry_at found from))
      (some_back to links (entry_at found from) on.before on.there less) is in
      let size = length-append pushed (link ∷ []) in
      let more = on.one_more in
      subst (λ (f : Found). IsLedBack c v found f (pushed ++ link ∷ []) b count) same.1
      (subst (λ n. IsLedBack c v found on.before (pushed ++ n ∷ []) b count) same.0 (record {
        number = on.number;
        way = let y = ways from on.before on.there in
            let same : y.number ≡ on.number = grind (arith, mapped_stays, and_parts) in
            subst (λ n. IsWay c v found on.before.way on.before.links n) same y.way;
        leads = subst (λ ls. LinksLead c (world_in v) on.number ls b) (sym (reverse-append pushed (to ∷ [])))
            (x, on.onward, leads);
        sum = let long = length-append pushed (to ∷ []) in omega arith;
      }))

  pub led_more : {f : Found} {pushed : List ℕ} {b count : ℕ} → IsLedBack c v found f pushed b count
      → (link : ℕ) (before : Found) → step_back found f ≡ Some (link, before)
      → IsLedBack c v found before (pushed ++ link ∷ []) b count
  led_more led link before is = grind (arith, led_by)

  ends_by : (way : Way) (links : ℕ) (pushed : List ℕ) (b count x : ℕ) → IsWay c v found way links x
      → LinksLead c (world_in v) x (reverse pushed) b → length pushed + links ≡ count
      → step_back found (record { way = way; links = links }) ≡ None → IsLed c v b count (root_of way) (reverse pushed)
  ends_by (Start root) links pushed b count x way leads sum is = record {
    start = root;
    is = refl;
    chain = record { first = x; there = way.1; points = way.2; leads = leads };
    as_many = let none = way.0 in let size = length-reverse pushed in omega arith;
  }
  ends_by (Link to from) links pushed b count x on leads sum is = grind (arith, some_back)

  pub led_to_root : {f : Found} {pushed : List ℕ} {b count : ℕ} → IsLedBack c v found f pushed b count
      → step_back found f ≡ None → IsLed c v b count (root_of f.way) (reverse pushed)
  led_to_root {f} {pushed} {b} {count} led is =
      ends_by f.way f.links pushed b count led.number led.way led.leads led.sum is

-- Numbers that rise go on rising after a greater one.

pushed_at : (xs : List ℕ) (x i : ℕ) → i ≡ length xs → slice_index (xs ++ x ∷ []) i ≡ x
pushed_at xs x i e = ap (slice_index (xs ++ x ∷ [])) e ∙ get_or-append_seam xs x [] 0

rising_more : (xs : List ℕ) (x : ℕ) → IsStrictlyIncreasing xs → ((i : ℕ) → i < length xs → slice_index xs i < x)
    → IsStrictlyIncreasing (xs ++ x ∷ [])
rising_more xs x rising below k lt =
    let size = length-append xs (x ∷ []) in
    elim (cases_lt (k + 1) (length xs)) [
      | inl before ↦
          let low = rising k before in
          let one = get_or-append xs (x ∷ []) 0 k (omega arith) in
          let two = get_or-append xs (x ∷ []) 0 (k + 1) before in
          omega arith
      | inr past ↦
          let low = below k (omega arith) in
          let one = get_or-append xs (x ∷ []) 0 k (omega arith) in
          let two = pushed_at xs x (k + 1) (omega arith) in
          omega arith
    ]

below_pushed : (xs : List ℕ) (x n : ℕ) → x < n → ((i : ℕ) → i < length xs → slice_index xs i < n) → (i : ℕ)
    → i < length xs + 1 → slice_index (xs ++ x ∷ []) i < n
below_pushed xs x n small below i lt = grind (arith, cases_lt, get_or-append, pushed_at)

-- What an entry tells is why.
module _ {c : Config} {v : View} {found : List (Option Found)} {kept : List (Option Storage)}
    (told : IsTold c found kept v) where
  unreleased_kept : (b : ℕ) → is_kept c (world_in v) b ≡ true → (placed_at v.allocations b).released ≡ false
  unreleased_kept b kept_here = grind (arith, and_parts, not-true)

  why_by : (b : ℕ) (o : Option Found) → entry_at found (base_at v b) ≡ o → (root : Option Root) (links : List ℕ)
      → IsToldWhy c v b o root links → IsWhy c (world_in v) b root links
  why_by b None is root links why =
      subst (λ (r : Option Root). IsWhy c (world_in v) b r links) (sym why.0) (
        why.1,
        λ r ls chain.
            let x = told.explored.near r ls b chain in
            let both : Some x.entry ≡ None = sym x.there ∙ is in
            cc,
      )
  why_by b (Some f) is root links why =
      subst (λ (r : Option Root). IsWhy c (world_in v) b r links) (sym why.is) (
        why.chain,
        λ r ls chain.
            let x = told.explored.near r ls b chain in
            let both : Some x.entry ≡ Some f = sym x.there ∙ is in
            let same : x.entry ≡ f = cc in
            let few : x.entry.links ≡ f.links = ap (λ (y : Found). y.links) same in
            let low = x.near in
            let size = why.as_many in
            omega arith,
      )

  way_by : (b : ℕ) → (placed_at v.allocations b).released ≡ false → (o : Option Found)
      → entry_at found (base_at v b) ≡ o → IsWayOf c v found b o
  way_by b u None is = tt
  way_by b u (Some f) is =
      let x = told.explored.ways (base_at v b) f is in
      subst (λ n. IsWay c v found f.way f.links n) (told.apart x.number b x.unreleased u x.is) x.way

  -- the entry that is made of what the tables have
  made_entry : {base : ℕ} {s : Storage} → (k : IsKeptAt c v base s) → {entry : Kept}
      → IsMadeOf found s (entry_at found base) entry → IsEntryOf c (world_in v) entry k.number
  made_entry k made = grind (arith, unreleased_kept, why_by, way_by)

  pub entries_none : {base : ℕ} {es : List Kept} → entry_at kept base ≡ None → AreEntriesBelow c v base es
      → AreEntriesBelow c v (base + 1) es
  entries_none {base} none x = record {
    ascending = x.ascending;
    below = λ i lt. let low = x.below i lt in omega arith;
    of_one = x.of_one;
    each = λ b kept_here lt. elim (cases_lt (base_at v b) base) [
      | inl low ↦ x.each b kept_here low
      | inr high ↦
          let y = told.each b kept_here in
          let e : base_at v b ≡ base = omega arith in
          let both : Some y.storage ≡ None = sym y.there ∙ ap (entry_at kept) e ∙ none in
          absurd cc
    ];
  }

  pub entries_some : {base : ℕ} {es fs : List Kept} {s : Storage} → entry_at kept base ≡ Some s
      → IsOneMore found s (entry_at found base) es fs → AreEntriesBelow c v base es → AreEntriesBelow c v (base + 1) fs
  entries_some {base} {es} {s} is more x =
      subst (AreEntriesBelow c v (base + 1)) (sym more.is) (record {
        ascending = subst IsStrictlyIncreasing (sym mapped)
            (rising_more (map address es) more.entry.address x.ascending (λ i lt.
            let low : slice_index (map address es) i < 65536 + 8 * base =
            x.below i (let size = length-map es address in omega arith) in
            let e = at_base in
            omega arith));
        below = λ i lt. subst (λ (ns : List ℕ). slice_index ns i < 65536 + 8 * (base + 1)) (sym mapped) (below_pushed
            (map address es) more.entry.address (65536 + 8 * (base + 1)) (let e = at_base in omega arith) (λ j few.
            let low : slice_index (map address es) j < 65536 + 8 * base =
            x.below j (let size = length-map es address in omega arith) in
            omega arith) i
            (let size = length-map es address in let both = length-append es (more.entry ∷ []) in omega arith));
        of_one = λ y inside. elim (Contains-push_cases es more.entry y inside) [
          | inl before ↦ x.of_one y before
          | inr same ↦ (k.number, subst (λ (z : Kept). IsEntryOf c (world_in v) z k.number) same entry)
        ];
        each = λ b kept_here lt. elim (cases_lt (base_at v b) base) [
          | inl low ↦
              let y = x.each b kept_here low in
              (y.0, Contains-append_left es (more.entry ∷ []) y.0 y.1, y.2)
          | inr high ↦
              let e : base_at v b ≡ base = omega arith in
              let same : k.number ≡ b = grind (arith, unreleased_kept) in
              (more.entry, Contains-push es more.entry, subst (λ n. IsEntryOf c (world_in v) more.entry n) same entry)
        ];
      })
    where
      address : Kept → ℕ
      address entry = entry.address

      k : IsKeptAt c v base s
      k = told.of_kept base s is

      entry : IsEntryOf c (world_in v) more.entry k.number
      entry = made_entry k more.made

      at_base : more.entry.address ≡ 65536 + 8 * base
      at_base = entry.address ∙ ap (λ n. 65536 + 8 * n) k.is

      mapped : map address (es ++ more.entry ∷ []) ≡ map address es ++ more.entry.address ∷ []
      mapped = map-append address es (more.entry ∷ [])

  -- The table has nothing from the heap word on.
  pub entries_end : {base : ℕ} {es : List Kept} → base ≤ length kept
      → ((place : ℕ) → base ≤ place → entry_at kept place ≡ None) → AreEntriesBelow c v base es
      → AreEntriesBelow c v (length kept) es
  entries_end {base} few none x = record {
    ascending = x.ascending;
    below = λ i lt. let low = x.below i lt in omega arith;
    of_one = x.of_one;
    each = λ b kept_here lt. elim (cases_lt (base_at v b) base) [
      | inl low ↦ x.each b kept_here low
      | inr high ↦
          let y = told.each b kept_here in
          let both : Some y.storage ≡ None = sym y.there ∙ none (base_at v b) (omega arith) in
          absurd cc
    ];
  }

pub no_entries : (c : Config) (v : View) → AreEntriesBelow c v 0 []
no_entries c v = grind arith

pub entries_more : {c : Config} {v : View} {found : List (Option Found)} {kept : List (Option Storage)}
    → IsTold c found kept v → {base : ℕ} {es : List Kept} (fs : List Kept) → (entry_at kept base ≡ None → fs ≡ es)
    → ((s : Storage) → entry_at kept base ≡ Some s → IsOneMore found s (entry_at found base) es fs)
    → AreEntriesBelow c v base es → AreEntriesBelow c v (base + 1) fs
entries_more {c} {v} {found} {kept} told {base} {es} fs same more x = by (entry_at kept base) refl
  where
    by : (o : Option Storage) → entry_at kept base ≡ o → AreEntriesBelow c v (base + 1) fs
    by None is = subst (AreEntriesBelow c v (base + 1)) (sym (same is)) (entries_none told is x)
    by (Some s) is = entries_some told is (more s is) x
