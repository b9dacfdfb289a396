-- A search breadth first: ways from roots, and what chains lead to.
use Rattle.std.proofs.Common.{below_more}
use Rattle.mk_why.proofs.Vocabulary.{AreWays, Config, FindsMore, Found, Global, IsFound, IsFoundThrough, IsNoted}
use Rattle.mk_why.proofs.Vocabulary.{IsSearch, IsSearched, IsWay, LinksLead, PointsIntoAllocation, Register, Root}
use Rattle.mk_why.proofs.Vocabulary.{Tables, View, Words, base_at, entry_at, is_scanned_allocation, is_still_word}
use Rattle.mk_why.proofs.Vocabulary.{is_word, links_in, links_of, named_word, placed_at, storage_of, word_of_root}
use Rattle.mk_why.proofs.{Vocabulary.world_in, Searches.{Stays, links_stay, noted_stays, same_links}}
use Rattle.mk_sweep.proofs.Below.Laws.Vocabulary.{IsWordOf, List, Option, ℕ, and_from, ap, arith, length, lt-ltb, refl}
use Rattle.mk_sweep.proofs.Below.Laws.Vocabulary.{slice_index, subst, sym, true, [], ◌*◌, ◌+◌, ◌<◌, ◌∷◌, ◌≡◌, ◌≤◌}
use Rattle.mk_why.specs.{Chains.IsRoot, Searching.{IsExplored, IsFoundAt, IsFoundWithin, IsOnward, PointsAtBase}}
use Rattle.mk_why.specs.Searching.{root_numbered, root_word}

-- Ways to what values point into.

-- a scanned word of an allocation that begins there
abbrev pub HasScanned : Config → View → ℕ → ℕ → Type 0
HasScanned c v base n =
    (a : ℕ) × (base_at v a ≡ base) × (is_scanned_allocation c (placed_at v.allocations a) ≡ true)
    × IsWordOf (storage_of c (placed_at v.allocations a)) n

pub onward_way : (c : Config) (v : View) {found : List (Option Found)} {base : ℕ} (n : ℕ) {links : ℕ} (b : ℕ)
    → HasScanned c v base n → IsFoundThrough found base links → (value : ℕ) → value ≡ slice_index v.words.heap n
    → PointsIntoAllocation c (world_in v) value b → IsOnward c v found (65536 + 8 * n) base (links + 1) b
onward_way c v n b x through value is points = grind arith

-- A way to whatever a value points into leads to what begins at the base.
pub found_by : {c : Config} {v : View} (found : List (Option Found)) {value base : ℕ} (f : Found)
    → PointsAtBase c v value base → ((b : ℕ) → PointsIntoAllocation c (world_in v) value b
    → IsWay c v found f.way f.links b) → IsFoundAt c v found base f
found_by found f x way = grind arith

-- Where that was found, so was whatever the value points into.
pub noted_by : {c : Config} {v : View} {found : List (Option Found)} {value base limit : ℕ}
    → PointsAtBase c v value base → IsFoundWithin found base limit → IsNoted c v found value limit
noted_by {v} {found} {limit} x within b points = grind arith

-- Roots as words that are looked at.

pub root_is_word : (c : Config) (root : Root) → IsRoot c root → is_word c (root_word root) ≡ true
root_is_word c x1 is = grind (arith, and_from, lt-ltb)

-- each root has a number
pub root_at : (c : Config) (root : Root) → IsRoot c root
    → (n : ℕ) × (n < 8 * c.callers + 64) × (root_numbered c.callers n ≡ root)
root_at c (Register caller register) is = (8 * caller + register, omega arith, grind arith)
root_at c (Global global) is = (8 * c.callers + global, omega arith, grind arith)

pub numbered_root : (c : Config) (n : ℕ) → n < 8 * c.callers + 64 → IsRoot c (root_numbered c.callers n)
numbered_root c n low = grind arith

pub root_is_still : (root : Root) → is_still_word (root_word root) ≡ true
root_is_still x0 = grind arith

pub root_named : (w : Words) (root : Root) → named_word w (root_word root) ≡ word_of_root w root
root_named w x1 = grind arith

-- A search breadth first finds what chains lead to, through no more links than theirs.

-- What is done stays so.
done_stays : (c : Config) (v : View) (found more : List (Option Found)) → Stays found more → (base : ℕ)
    → IsFound found base → IsSearched c v found base → IsSearched c v more base
done_stays c v found more stays base x done a n begins scanned word =
    subst (λ k. IsNoted c v more (slice_index v.words.heap n) (k + 1)) (sym (same_links more stays x)) (noted_stays c v
    found more stays (slice_index v.words.heap n) (links_in (entry_at found base) + 1) (done a n begins scanned word))

-- The search went on from one place of the queue.
module _ {c : Config} {v : View} {r s : Tables} (place : ℕ) {limit : ℕ} (known : place < r.count)
    (search : IsSearch c v r limit) (behind : IsSearch c v s (links_of r place + 1)) (grows : FindsMore r s) where
  pub done_more : ((i : ℕ) → i < place → IsSearched c v r.found.items (slice_index r.queue.items i))
      → IsSearched c v s.found.items (slice_index r.queue.items place)
      → (i : ℕ) → i < place + 1 → IsSearched c v s.found.items (slice_index s.queue.items i)
  done_more before here i lt =
      subst (λ n. IsSearched c v s.found.items n) (sym (grows.same i (omega arith)))
      (below_more (λ k. IsSearched c v s.found.items (slice_index r.queue.items k)) place
      (λ k few. done_stays c v r.found.items s.found.items grows.stays (slice_index r.queue.items k)
      (search.entries k (omega arith)) (before k few)) here i lt)

  pub near_next : place + 1 < s.count → (i : ℕ) → i < s.count → links_of s i ≤ links_of s (place + 1) + 1
  near_next next i few =
      let same = links_stay grows place known (search.entries place known) in
      let up = behind.rising place (place + 1) (omega arith) next in
      let low = behind.below i few in
      omega arith

pub all_done : {c : Config} {v : View} {r : Tables} {limit : ℕ} (place : ℕ) → IsSearch c v r limit → r.count ≤ place
    → ((i : ℕ) → i < place → IsSearched c v r.found.items (slice_index r.queue.items i))
    → (base : ℕ) → IsFound r.found.items base → IsSearched c v r.found.items base
all_done {c} {v} {r} place search past done base x =
    let q = search.queued base x in
    subst (λ n. IsSearched c v r.found.items n) q.is (done q.place (let low = q.known in omega arith))

-- Then chains lead to what was found.
module _ (c : Config) (v : View) (found : List (Option Found))
    (done : (base : ℕ) → IsFound found base → IsSearched c v found base) where
  leads_within : (links : List ℕ) (a b n : ℕ) → IsFoundWithin found (base_at v a) n → LinksLead c (world_in v) a links b
      → IsFoundWithin found (base_at v b) (n + length links)
  leads_within [] a b n x leads = grind arith
  leads_within (link ∷ links) a b n x leads =
      let next = leads.0 in
      let y = done (base_at v a) (record { entry = x.entry; there = x.there }) a leads.1.word refl leads.1.scanned
      leads.1.of_the_one next leads.1.to_the_other in
      let few : links_in (entry_at found (base_at v a)) ≡ x.entry.links = ap links_in x.there in
      let z = leads_within links next b (n + 1) (record
      { entry = y.entry; there = y.there; near = let low = y.near in let near = x.near in omega arith }) leads.2 in
      record { entry = z.entry; there = z.there; near = let low = z.near in omega arith }

  pub explored : AreWays c v found
      → ((root : Root) → IsRoot c root → IsNoted c v found (word_of_root v.words root) 0) → IsExplored c v found
  explored ways roots = record {
    ways = ways;
    near = λ root links b chain.
        let first = roots root chain.there chain.first chain.points in
        let x = leads_within links chain.first b 0 first chain.leads in
        record { entry = x.entry; there = x.there; near = let low = x.near in omega arith };
  }
