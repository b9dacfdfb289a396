-- What scans find, and that what is said of a view is said of its world.
use Rattle.mk_why.proofs.Vocabulary.{AreEntriesBelow, Config, Found, IsFirstWord, IsFoundThrough, IsNoted, IsSearch}
use Rattle.mk_why.proofs.Vocabulary.{IsSearched, IsTold, IsWhy, LinksLead, Root, Storage, Tables, View, Words, World}
use Rattle.mk_why.proofs.Vocabulary.{base_at, entry_at, is_scanned_allocation, links_in, links_of, placed_at}
use Rattle.mk_why.proofs.Vocabulary.{storage_words, view_of, word_of_root, world_in}
use Rattle.mk_sweep.proofs.Below.Laws.Vocabulary.{List, None, Option, Some, ℕ, ap, arith, cases_lt, get_or_past, length}
use Rattle.mk_sweep.proofs.Below.Laws.Vocabulary.{slice_index, slice_index_or, subst, sym, true, [], ◌+◌, ◌-◌, ◌<◌, ◌∙◌}
use Rattle.mk_sweep.proofs.Below.Laws.Vocabulary.{◌∷◌, ◌≡◌, ◌≤◌}
use Rattle.mk_why.specs.{Chains.AreKept, Chains.IsChain, Chains.IsEntryOf, declared.kept.Kept.Kept}

-- What is done after the scan of an allocation's words.

-- What a table has stands in it.
pub within_table : {A : Type 0} → (xs : List (Option A)) (i : ℕ) (x : A) → slice_index_or xs i None ≡ Some x
    → i < length xs
within_table {A} xs i x is = grind (arith, cases_lt, get_or_past)

pub done_from : (c : Config) (v : View) {found : List (Option Found)} {base : ℕ} (size : ℕ) {links : ℕ}
    → IsFoundThrough found base links
    → ((b : ℕ) → base_at v b ≡ base → is_scanned_allocation c (placed_at v.allocations b) ≡ true
    → size ≡ storage_words c (placed_at v.allocations b))
    → ((i : ℕ) → i < size → IsNoted c v found (slice_index v.words.heap (base + i)) (links + 1))
    → IsSearched c v found base
done_from c v {found} {base} size {links} through whole noted a n begins scanned word =
    let here : base + (n - base) ≡ n = omega arith in
    let few : n - base < size = omega arith in
    let same : links_in (entry_at found base) ≡ links = ap links_in through.there ∙ through.through in
    subst (λ k. IsNoted c v found (slice_index v.words.heap n) (k + 1)) (sym same)
    (subst (λ j. IsNoted c v found (slice_index v.words.heap j) (links + 1)) here (noted (n - base) few))

module _ {c : Config} {v : View} {r : Tables} (place : ℕ) {limit : ℕ} (search : IsSearch c v r limit)
    (known : place < r.count) where
  pub queued_base : IsFirstWord v (slice_index r.queue.items place)
  queued_base =
      let x = search.entries place known in
      let y = search.ways (slice_index r.queue.items place) x.entry x.there in
      record { number = y.number; unreleased = y.unreleased; is = y.is }

  module _ (base : ℕ) (is : base ≡ slice_index r.queue.items place) (f : Found)
      (there : entry_at r.found.items base ≡ Some f) where
    pub links_there : links_of r place ≡ f.links
    links_there = ap (λ n. links_in (entry_at r.found.items n)) (sym is) ∙ ap links_in there

    pub one_more_fits : f.links + 1 ≤ r.count
    one_more_fits = let few = search.shallow place known in let same = links_there in omega arith

-- What is said of a view is said of its world.

same_root : (w : Words) (root : Root) → word_of_root (record w { phase = 0 }) root ≡ word_of_root w root
same_root w x1 = grind arith

module _ (c : Config) (w : World) where
  leads_out : (links : List ℕ) (a b : ℕ) → LinksLead c (world_in (view_of w)) a links b → LinksLead c w a links b
  leads_out [] a b x = x
  leads_out (link ∷ links) a b x = (x.0, grind arith, leads_out links x.0 b x.2)

  leads_in : (links : List ℕ) (a b : ℕ) → LinksLead c w a links b → LinksLead c (world_in (view_of w)) a links b
  leads_in [] a b x = x
  leads_in (link ∷ links) a b x = (x.0, grind arith, leads_in links x.0 b x.2)

  chain_in : {root : Root} {links : List ℕ} {b : ℕ} → IsChain c w root links b
      → IsChain c (world_in (view_of w)) root links b
  chain_in x = grind (arith, same_root, leads_in)

  why_out : (b : ℕ) (o : Option Root) (links : List ℕ) → IsWhy c (world_in (view_of w)) b o links → IsWhy c w b o links
  why_out b (Some root) links x = (grind (arith, same_root, leads_out), λ r ls chain. x.1 r ls (chain_in chain))
  why_out b None links x = (x.0, λ r ls chain. x.1 r ls (chain_in chain))

  entry_out : {entry : Kept} {b : ℕ} → IsEntryOf c (world_in (view_of w)) entry b → IsEntryOf c w entry b
  entry_out x = grind (arith, why_out)

  pub kept_of : {found : List (Option Found)} {kept : List (Option Storage)} {entries : List Kept}
      → IsTold c found kept (view_of w) → AreEntriesBelow c (view_of w) (length kept) entries → AreKept c w entries
  kept_of {kept} told x = record {
    ascending = x.ascending;
    of_one = λ entry inside. let y = x.of_one entry inside in (y.0, entry_out y.1);
    each = λ b kept_here.
        let listed = told.each b kept_here in
        let y = x.each b kept_here (within_table kept (base_at (view_of w) b) listed.storage listed.there) in
        (y.0, y.1, entry_out y.2);
  }
