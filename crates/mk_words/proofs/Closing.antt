-- What is known of a table that has ended.
use Rattle.std.proofs.{Common.count_ones, Math.Nat.add-mul-mod_self_left}
use Rattle.mk_laws.proofs.Vocabulary.{AreOfPages, Config, Event, List, Named, Word, Words, ℕ, ap, arith}
use Rattle.mk_laws.proofs.Vocabulary.{histories_keep_lengths, left, refl, slice_index, subst, suc, sym, zero, [], ◌%◌}
use Rattle.mk_laws.proofs.Vocabulary.{◌+◌, ◌<◌, ◌^◌, ◌∙◌, ◌∷◌, ◌≡◌, ◌≤◌}
use Rattle.mk_core.{proofs.RegionLemmas.words_stand, specs.Layout.{in_order, index_of_named}}
use Rattle.mk_words.specs.{States.{HasTallies, freed_cells}, declared.finals.Final.Final}
use mathlib.Core.Option.{some, some-injective, some-ne-none}
use lib.ListN.{get_elem?}

pub found_at : (l : List ℕ) (i n : ℕ) → get_elem? l i ≡ some n → n ≡ slice_index l i
found_at [] i n e = absurd (some-ne-none n (sym e))
found_at (x ∷ l) zero n e = sym (some-injective x n e)
found_at (x ∷ l) (suc i) n e = found_at l i n e

-- the quarantine words of a list
abbrev pub quarantine_word : List ℕ → ℕ → ℕ → ℕ
quarantine_word ws pages page = slice_index ws (index_of_named pages (Word.Quar page))

pub one_page_more : (ws : List ℕ) (pages page freed found : ℕ) → freed ≡ freed_cells (quarantine_word ws pages) page
    → found ≡ quarantine_word ws pages page
    → freed + count_ones (found % 2 ^ 32) ≡ freed_cells (quarantine_word ws pages) (page + 1)
one_page_more ws pages page freed found counted is = grind arith

-- the freed bits by the list, and by the words

freed_are : (pages : ℕ) (w : Words) (n : ℕ) → AreOfPages pages w → n ≤ pages
    → freed_cells (quarantine_word (in_order w) pages) n ≡ freed_cells (slice_index w.freed) n
freed_are pages w zero of le = refl
freed_are pages w (suc n) of le =
    let lt : n < pages = omega arith in
    let at = words_stand pages w (Named (Word.Quar n)) of lt in
    ap (λ (k : ℕ). k + count_ones (quarantine_word (in_order w) pages n % 2 ^ 32))
    (freed_are pages w n of (omega arith))
    ∙ ap (λ (k : ℕ). freed_cells (slice_index w.freed) n + count_ones (k % 2 ^ 32)) at
    ∙ ap (λ (k : ℕ). freed_cells (slice_index w.freed) n + count_ones k)
    (add-mul-mod_self_left (slice_index w.freed n) (2 ^ 32) (slice_index w.snapshot n))

-- a tally, of which every table has one at the same index
abbrev last_of : List ℕ → Word → ℕ
last_of ws tally = slice_index ws (index_of_named 0 tally)

-- What was read of the words at the end.
pub record AreRead (ws : List ℕ) (pages : ℕ) (f : Final) : Type 0 where
  pub held : f.held ≡ last_of ws Word.Held
  pub fresh : f.fresh ≡ last_of ws Word.Fresh
  pub quarantined : f.quarantined ≡ freed_cells (quarantine_word ws pages) pages
  pub cycles : f.cycles ≡ last_of ws Word.Cycles
  pub released : f.released ≡ last_of ws Word.Released
  pub full : f.full ≡ last_of ws Word.Full

tallies_are : (c : Config) (es : List Event) (ws : List ℕ) (f : Final) → ws ≡ in_order (left c es).now.words
    → AreRead ws c.pages f → HasTallies (left c es).now.words c.pages f
tallies_are c es ws f is read = grind (arith, histories_keep_lengths, freed_are, words_stand)

-- The same, where a call names the configuration and the list in its own way.
pub tallies_told : {c of_pass of_words : Config} {es seen : List Event} {ws : List ℕ} {f : Final} → of_pass ≡ c
    → of_words ≡ c → seen ≡ es → ws ≡ in_order (left c es).now.words → AreRead ws c.pages f
    → HasTallies (left of_pass seen).now.words of_words.pages f
tallies_told {c} {of_pass} {of_words} {es} {seen} {ws} {f} pass_is words_is seen_is is read =
    subst (λ (x : Config). HasTallies (left x seen).now.words of_words.pages f) (sym pass_is)
    (subst (λ (x : Config). HasTallies (left c seen).now.words x.pages f) (sym words_is) (subst
    (λ (l : List Event). HasTallies (left c l).now.words c.pages f) (sym seen_is) (tallies_are c es ws f is read)))
