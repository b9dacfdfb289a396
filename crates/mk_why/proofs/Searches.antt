-- The search, one note after the other: what was found stays, and the queue rises.
use Rattle.std.proofs.Common.{below_more}
use Rattle.mk_why.proofs.Vocabulary.{AreWays, Config, FindsMore, Found, IsFound, IsFoundThrough, IsNoted, IsSearch}
use Rattle.mk_why.proofs.Vocabulary.{IsStill, IsWay, LooksWhileStill, Root, SearchesOn, Tables, TurnState, View}
use Rattle.mk_why.proofs.Vocabulary.{entry_at, links_in, links_of, view_by, word_of_root}
use Rattle.mk_sweep.proofs.Below.Laws.Vocabulary.{List, None, Option, Some, ℕ, ap, arith, cases_Bool, cases_eq}
use Rattle.mk_sweep.proofs.Below.Laws.Vocabulary.{cases_lt, false, get_or-set_other, get_or-set_same, inl, inr, is_some}
use Rattle.mk_sweep.proofs.Below.Laws.Vocabulary.{length, length-set, refl, slice_index, slice_set, subst, sym, true}
use Rattle.mk_sweep.proofs.Below.Laws.Vocabulary.{true≢false, ◌*◌, ◌+◌, ◌<◌, ◌∙◌, ◌≡◌, ◌≢◌, ◌≤◌, ◌⊎◌}
use Rattle.mk_why.proofs.Looks.{looks_at_nothing, looks_then}
use Rattle.mk_why.specs.{Searching.IsFoundAt, Searching.IsFoundWithin, Searching.IsQueued, declared.found.Way.Way}

abbrev pub Stays : List (Option Found) → List (Option Found) → Type 0
Stays found more = (base : ℕ) (f : Found) → entry_at found base ≡ Some f → entry_at more base ≡ Some f

-- What was found stays so.

way_stays : (c : Config) (v : View) (found more : List (Option Found)) → Stays found more
    → (way : Way) (links b : ℕ) → IsWay c v found way links b → IsWay c v more way links b
way_stays c v found more stays x5 links b way = grind arith

found_stays : (c : Config) (v : View) (found more : List (Option Found)) → Stays found more → (base : ℕ) (f : Found)
    → IsFoundAt c v found base f → IsFoundAt c v more base f
found_stays c v found more stays base f x = grind (arith, way_stays)

pub noted_stays : (c : Config) (v : View) (found more : List (Option Found)) → Stays found more → (value limit : ℕ)
    → IsNoted c v found value limit → IsNoted c v more value limit
noted_stays c v found more stays value limit x b points = grind arith

pub through_stays : (found more : List (Option Found)) → Stays found more → (base links : ℕ)
    → IsFoundThrough found base links → IsFoundThrough more base links
through_stays found more stays base links x = grind arith

pub same_links : {found : List (Option Found)} (more : List (Option Found)) → Stays found more → {base : ℕ}
    → IsFound found base → links_in (entry_at more base) ≡ links_in (entry_at found base)
same_links more stays {base} x = ap links_in (stays base x.entry x.there) ∙ sym (ap links_in x.there)

pub links_stay : {r s : Tables} → FindsMore r s → (i : ℕ) → i < r.count
    → IsFound r.found.items (slice_index r.queue.items i) → links_of s i ≡ links_of r i
links_stay {s} g i lt x = grind (arith, same_links)

-- It grows by nothing, and by one part after another.

pub grows_nothing : (r : Tables) → FindsMore r r
grows_nothing r = record { stays = λ base f h. h; same = λ i lt. refl; further = omega arith }

pub grows_then : {r s x : Tables} → FindsMore r s → FindsMore s x → FindsMore r x
grows_then one two = grind arith

pub searches_nothing : {c : Config} (t : TurnState) {r : Tables} {limit : ℕ} → IsStill t.pass
    → IsSearch c (view_by t.pass) r limit → SearchesOn c t t r r limit
searches_nothing t {r} still search = grind (arith, looks_at_nothing, grows_nothing)

pub searches_then : {c : Config} {t u v : TurnState} {r s x : Tables} {limit : ℕ} → SearchesOn c t u r s limit
    → SearchesOn c u v s x limit → SearchesOn c t v r x limit
searches_then one two = grind (arith, looks_then, grows_then)

-- Looks before a part leave it.
pub looks_search : {c : Config} {t u v : TurnState} {r s : Tables} {limit : ℕ} → LooksWhileStill t u
    → SearchesOn c u v r s limit → SearchesOn c t v r s limit
looks_search {c} {s} {limit} on two = grind (arith, looks_then)

pub view_search : {c : Config} {t u : TurnState} {r : Tables} {limit : ℕ} → LooksWhileStill t u
    → IsSearch c (view_by t.pass) r limit → IsSearch c (view_by u.pass) r limit
view_search {c} {r} {limit} on search = subst (λ (y : View). IsSearch c y r limit) (sym on.view) search

pub part_noted : (c : Config) {t u : TurnState} (found : List (Option Found)) (value : View → ℕ) (limit : ℕ)
    → LooksWhileStill t u → IsNoted c (view_by u.pass) found (value (view_by u.pass)) limit
    → IsNoted c (view_by t.pass) found (value (view_by t.pass)) limit
part_noted c found value limit on noted = subst (λ (y : View). IsNoted c y found (value y) limit) on.view noted

-- what values point into, one value more
pub more_noted : (c : Config) (v : View) (found more : List (Option Found)) → Stays found more → (value : ℕ → ℕ)
    (limit i : ℕ) → ((k : ℕ) → k < i → IsNoted c v found (value k) limit) → IsNoted c v more (value i) limit
    → (k : ℕ) → k < i + 1 → IsNoted c v more (value k) limit
more_noted c v found more stays value limit i before here =
    below_more (λ k. IsNoted c v more (value k) limit) i
    (λ k lt. noted_stays c v found more stays (value k) limit (before k lt)) here

-- what roots point into, one root more
pub root_noted : {c : Config} {t u w : TurnState} {r s x : Tables} (root : ℕ → Root) (i : ℕ) → SearchesOn c t u r s 0
    → ((k : ℕ) → k < i → IsNoted c (view_by t.pass) s.found.items (word_of_root (view_by t.pass).words (root k)) 0)
    → SearchesOn c u w s x 0 → IsNoted c (view_by u.pass) x.found.items (word_of_root (view_by u.pass).words (root i)) 0
    → (k : ℕ) → k < i + 1 → IsNoted c (view_by t.pass) x.found.items (word_of_root (view_by t.pass).words (root k)) 0
root_noted {c} {t} {s} {x} root i before so_far one here =
    more_noted c (view_by t.pass) s.found.items x.found.items one.grows.stays
    (λ k. word_of_root (view_by t.pass).words (root k)) 0 i so_far
    (part_noted c x.found.items (λ v. word_of_root v.words (root i)) 0 before.on here)

-- Another limit.
pub limit_of : {c : Config} {v : View} {r : Tables} {limit : ℕ} (more : ℕ) → IsSearch c v r limit
    → ((i : ℕ) → i < r.count → links_of r i ≤ more) → IsSearch c v r more
limit_of more search below = grind arith

-- One note more.
module _ (c : Config) (v : View) (r s : Tables) (base : ℕ) (f : Found) (search : IsSearch c v r f.links)
    (lt : base < length r.found.items) (none : is_some (entry_at r.found.items base) ≡ false)
    (found : s.found.items ≡ slice_set r.found.items base (Some f))
    (queue : s.queue.items ≡ slice_set r.queue.items r.count base) (count : s.count ≡ r.count + 1)
    (room : s.count ≤ length s.queue.items) where
  pub there : entry_at s.found.items base ≡ Some f
  there = ap (λ (xs : List (Option Found)). entry_at xs base) found
      ∙ get_or-set_same r.found.items base (Some f) None lt

  elsewhere : (k : ℕ) → k ≢ base → entry_at s.found.items k ≡ entry_at r.found.items k
  elsewhere k ne =
      ap (λ (xs : List (Option Found)). entry_at xs k) found ∙ get_or-set_other r.found.items base k (Some f) None ne

  last : slice_index s.queue.items r.count ≡ base
  last =
      ap (λ (xs : List ℕ). slice_index xs r.count) queue ∙ get_or-set_same r.queue.items r.count base 0
      (let size = ap length queue ∙ length-set r.queue.items r.count base in omega arith)

  earlier : (i : ℕ) → i < r.count → slice_index s.queue.items i ≡ slice_index r.queue.items i
  earlier i few =
      ap (λ (xs : List ℕ). slice_index xs i) queue
      ∙ get_or-set_other r.queue.items r.count i base 0 (λ e. absurd (omega arith))

  pub note_grows : FindsMore r s
  note_grows = grind (arith, elsewhere, earlier)

  links_before : (i : ℕ) → i < r.count → links_of s i ≡ links_of r i
  links_before i few = links_stay note_grows i few (search.entries i few)

  in_queue : (i : ℕ) → i < s.count → (i < r.count) ⊎ (i ≡ r.count)
  in_queue i few = grind (arith, cases_lt)

  links_there : (i : ℕ) → i < s.count
      → ((i < r.count) × (links_of s i ≡ links_of r i)) ⊎ ((i ≡ r.count) × (links_of s i ≡ f.links))
  links_there i few = grind (arith, in_queue, links_before, last, there)

  note_search : f.links ≤ r.count → IsFoundAt c v r.found.items base f → IsSearch c v s f.links
  note_search shallow way =
      record {
        size = ap length found ∙ (length-set r.found.items base (Some f)) ∙ search.size;
        ways = ways;
        entries = entries;
        queued = queued;
        rising = rising;
        below = below;
        shallow = at_most;
      }
    where
      ways : AreWays c v s.found.items
      ways k g h = elim (cases_eq k base) [
        | inl e ↦
            let both : Some g ≡ Some f = sym h ∙ ap (λ n. entry_at s.found.items n) e ∙ there in
            let same : g ≡ f = cc in
            subst (IsFoundAt c v s.found.items k) (sym same) (subst (λ n. IsFoundAt c v s.found.items n f) (sym e)
            (found_stays c v r.found.items s.found.items note_grows.stays base f way))
        | inr ne ↦ found_stays c v r.found.items s.found.items note_grows.stays k g
            (search.ways k g (sym (elsewhere k ne) ∙ h))
      ]

      entries : (i : ℕ) → i < s.count → IsFound s.found.items (slice_index s.queue.items i)
      entries i few = elim (in_queue i few) [
        | inl before ↦
            let x = search.entries i before in
            record {
              entry = x.entry;
              there = ap (λ n. entry_at s.found.items n) (earlier i before)
                  ∙ note_grows.stays (slice_index r.queue.items i) x.entry x.there;
            }
        | inr e ↦
            record {
              entry = f;
              there = ap (λ n. entry_at s.found.items (slice_index s.queue.items n)) e
                  ∙ ap (λ n. entry_at s.found.items n) last ∙ there;
            }
      ]

      queued : (k : ℕ) → IsFound s.found.items k → IsQueued s k
      queued k x = elim (cases_eq k base) [
        | inl e ↦ record { place = r.count; known = omega arith; is = last ∙ sym e }
        | inr ne ↦
            let q = search.queued k (record { entry = x.entry; there = sym (elsewhere k ne) ∙ x.there }) in
            record { place = q.place; known = let low = q.known in omega arith; is = earlier q.place q.known ∙ q.is }
      ]

      rising : (i j : ℕ) → i ≤ j → j < s.count → links_of s i ≤ links_of s j
      rising i j le few = grind (arith, links_there, links_before)

      below : (i : ℕ) → i < s.count → links_of s i ≤ f.links
      below i few = grind (arith, links_there)

      at_most : (i : ℕ) → i < s.count → links_of s i ≤ i
      at_most i few = grind (arith, links_there)

-- What a note leaves, whether the allocation was found before or not.
pub record Notes (c : Config) (v : View) (r s : Tables) (base limit : ℕ) : Type 0 where
  pub search : IsSearch c v s limit
  pub grows : FindsMore r s
  pub within : IsFoundWithin s.found.items base limit

pub notes : {c : Config} {v : View} {r : Tables} (s : Tables) {base : ℕ} {f : Found} → IsSearch c v r f.links
    → base < length r.found.items → (is_some (entry_at r.found.items base) ≡ true → s ≡ r)
    → (is_some (entry_at r.found.items base) ≡ false → s.found.items ≡ slice_set r.found.items base (Some f))
    → (is_some (entry_at r.found.items base) ≡ false → s.queue.items ≡ slice_set r.queue.items r.count base)
    → (is_some (entry_at r.found.items base) ≡ false → s.count ≡ r.count + 1) → s.count ≤ length s.queue.items
    → f.links ≤ r.count → IsFoundAt c v r.found.items base f → Notes c v r s base f.links
notes {c} {v} {r} s {base} {f} search lt known noted last more room shallow way =
    elim (cases_Bool (is_some (entry_at r.found.items base))) [
      | inl there ↦ subst (λ (x : Tables). Notes c v r x base f.links) (sym (known there)) (record {
        search = search;
        grows = grows_nothing r;
        within = before (entry_at r.found.items base) refl there;
      })
      | inr none ↦
          let new = there c v r s base f search lt none (noted none) (last none) (more none) room in
          record {
            search = note_search c v r s base f search lt none (noted none) (last none) (more none) room shallow way;
            grows = note_grows c v r s base f search lt none (noted none) (last none) (more none) room;
            within = record { entry = f; there = new; near = omega arith };
          }
    ]
  where
    before : (x : Option Found) → entry_at r.found.items base ≡ x → is_some x ≡ true
        → IsFoundWithin r.found.items base f.links
    before None e h = absurd (true≢false (sym h))
    before (Some g) e h =
        let q = search.queued base (record { entry = g; there = e }) in
        let low = search.below q.place q.known in
        let same : links_of r q.place ≡ g.links = ap (λ n. links_in (entry_at r.found.items n)) q.is ∙ ap links_in e in
        record { entry = g; there = e; near = omega arith }

-- Before the first note.
pub empty_search : (c : Config) (v : View) (r : Tables) → length r.found.items ≡ 64 * c.pages
    → ((base : ℕ) → entry_at r.found.items base ≡ None) → r.count ≡ 0 → IsSearch c v r 0
empty_search c v r size none empty = grind arith
