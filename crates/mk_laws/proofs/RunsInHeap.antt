-- A mapped run that a header shows lies in the heap.
use Rattle.std.proofs.Common.{unwrap_or}
use Rattle.mk_laws.proofs.Vocabulary.{Bool, Config, Flight, Ground, List, None, Object, Option, Page, Place, Run}
use Rattle.mk_laws.proofs.Vocabulary.{RunPages, Some, Words, World, ℕ, and_parts, arith, carves, eqb-true, false}
use Rattle.mk_laws.proofs.Vocabulary.{free_page, header_made, header_of, is_next_header, is_small_object, leb-true}
use Rattle.mk_laws.proofs.Vocabulary.{object_made, pages_made, place_now, refl, run_header, run_pages_of, set_by}
use Rattle.mk_laws.proofs.Vocabulary.{slice_index_or, slice_set, true, unmapped_header, unmaps, word_of, ◌*◌, ◌+◌, ◌-◌}
use Rattle.mk_laws.proofs.{Vocabulary.{◌<◌, ◌∙◌, ◌≡◌, ◌≤◌}, Ground.{Carves, Empties, GivesBack, GroundStep, TakesCell}}
use Rattle.mk_laws.proofs.{Ground.Unmaps, HeaderSteps.used_set, NewPlace.PlaceFits}
use Rattle.mk_geom.{proofs.{ClassTable.class_for-some, HeaderLemmas.word_of-header_of}, specs.Addresses.{class_for}}

-- what a header word at a page shows ends in the heap
abbrev pub RunFits : Config → ℕ → ℕ → Type 0
RunFits c page header = (count : ℕ) → header_of header ≡ Some (Run count true) → page + count ≤ c.pages

abbrev pub RunsFit : Config → List Page → Type 0
RunsFit c pages = (p : ℕ) → RunFits c p (slice_index_or pages p free_page).header

-- the word of a mapped run
shown_word : (word count : ℕ) → header_of word ≡ Some (Run count true) → 9 + 16 * count ≡ word
shown_word word count h = (word_of-header_of word (Run count true) h).1

-- of the headers that are stored, only the head of a mapped run shows one

class_small : (words : ℕ) → unwrap_or (class_for words) 0 < 8
class_small words = grind (arith, class_for-some)

run_shown : (pages count distance : ℕ) (mapped leaf : Bool) → 9 + 16 * count ≡ word_of
    (run_header pages mapped leaf distance) → (mapped ≡ true) × (distance ≡ 0) × (count ≡ pages)
run_shown pages count distance mapped leaf e = grind arith

made_shown : (o : Object) (distance count : ℕ) → 9 + 16 * count ≡ header_made o distance
    → (is_small_object o ≡ false) × (distance ≡ 0) × (count ≡ run_pages_of o.words)
made_shown o distance count e = grind (arith, class_small, run_shown)

-- the header that is stored next, and its page
pub record Next (first page value : ℕ) (wanted : ℕ → ℕ) : Type 0 where
  pub behind : first ≤ page
  pub is : value ≡ wanted (page - first)

pub next_is : (w : Words) (first count : ℕ) (wanted : ℕ → ℕ) (page value : ℕ)
    → is_next_header w first count wanted page value ≡ true → Next first page value wanted
next_is w first count wanted page value h = grind (arith, and_parts, leb-true, eqb-true)

carved_fits : (c : Config) (w : Words) (f : Flight) (place : Option Place) (p n : ℕ) → ((x : Place) → place ≡ Some x
    → PlaceFits c f.op x) → carves w (object_made c f.op) place p n ≡ true → RunFits c p n
carved_fits c w f None p n fits h = cc
carved_fits c w f (Some x) p n fits h = λ count shows.
    let o = object_made c f.op in
    let next = next_is w x.page (pages_made o) (header_made o) p n (and_parts _ _ h).0 in
    let made = made_shown o (p - x.page) count (shown_word n count shows ∙ next.is) in
    omega (arith, made.1, made.2, fits x refl made.0, next.behind)

unmapped_fits : (c : Config) (w : Words) (run : Option RunPages) (p n : ℕ) → unmaps w run p n ≡ true → RunFits c p n
unmapped_fits c w None p n h = cc
unmapped_fits c w (Some run) p n h = λ count shows.
    let next = next_is w run.page run.count (unmapped_header run.count) p n h in
    let made = run_shown run.count count (p - run.page) false false (shown_word n count shows ∙ next.is) in
    cc

-- one page's header is set, or none

header_set : (c : Config) (ps : List Page) (p n u : ℕ) → RunFits c p n → RunsFit c ps
    → RunsFit c (slice_set ps p (record { header = n; used = u }))
header_set c ps p n u fits all q =
    set_by (λ (x : Page). RunFits c q x.header) ps p q _ free_page (λ e count shows. rw e (fits count shows)) (all q)

pub runs_behind : {c : Config} {w : World} {f : Flight} {g : Ground} → ((x : Place) → place_now c w.now f ≡ Some x
    → PlaceFits c f.op x) → RunsFit c w.now.words.pages → GroundStep c w f g → RunsFit c g.pages
runs_behind {c} {w} {f} fits all (Carves p n own at) = header_set c w.now.words.pages p n _
    (carved_fits c w.now.words f _ p n fits own) all
runs_behind {c} {w} fits all (Unmaps p n own at) = header_set c w.now.words.pages p n _
    (unmapped_fits c w.now.words w.now.seats.holding.freed p n own) all
runs_behind {c} {w} fits all (Empties p n own at) =
    header_set c w.now.words.pages p n _ (grind (arith, eqb-true, shown_word, and_parts)) all
runs_behind {c} {w} fits all (TakesCell p n once own at) = λ q. used_set w.now.words p q n (λ y. RunFits c q y) (all q)
runs_behind {c} {w} fits all (GivesBack p n own at) = λ q. used_set w.now.words p q n (λ y. RunFits c q y) (all q)
runs_behind fits all _ = all
