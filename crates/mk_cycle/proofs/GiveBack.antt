-- Giving back: the used bits, and then the quarantine bits.
use Rattle.mk_words.proofs.Below.Laws.Vocabulary.{List, Step, ℕ, and_parts, ap, arith, gives_back, has_bit, header_at}
use Rattle.mk_words.proofs.Below.Laws.Vocabulary.{header_in, quarantine_word, slice_index, sym, true, used_at, without}
use Rattle.mk_words.proofs.Below.Laws.Vocabulary.{words_under, ◌%◌, ◌*◌, ◌+◌, ◌-◌, ◌/◌, ◌<◌, ◌^◌, ◌∙◌, ◌≡◌}
use Rattle.mk_cycle.proofs.Vocabulary.{Acts, FreesPage, GivesNothingBack, IsTurn, IsTurnAt, IsZero, PageState}
use Rattle.mk_cycle.proofs.Vocabulary.{PassState, WordsState, and_le_l, bit_and, drops, left_unmarked, now_of}
use Rattle.mk_cycle.proofs.{Vocabulary.page_state, CellBits.{has_bit_and, high_part, low_part, none_in_both}}
use Rattle.mk_cycle.proofs.GivingSteps.{quar_frees, quar_state, used_frees, used_state}
use Rattle.mk_cycle.proofs.PageSteps.{drops_ok, gives_ok, none_is_left, page_at_once, page_then, same_header, same_left}
use Rattle.mk_cycle.proofs.{PageSteps.same_used, CleaningSteps.{Halves, halves}, FreeingSteps.freed_turn}
use Rattle.mk_cycle.specs.Freeing.{GivesBack, IsQuarantineWord}

-- Of the cells that are used and gone each is gone.
pub gone_too : (used gone k : ℕ) → has_bit (bit_and used gone) k ≡ true → has_bit gone k ≡ true
gone_too used gone k has = (and_parts (has_bit used k) (has_bit gone k) (sym (has_bit_and used gone k) ∙ has)).1

pub gives_here : {p b : PassState} (page used gone size : ℕ) → GivesNothingBack p b
    → used ≡ used_at (now_of p).words page → gone ≡ left_unmarked (now_of p).words page → size ≡ words_under
    (header_in (now_of p).words page) → ((k : ℕ) → k < 32 → (i : ℕ) → has_bit (bit_and used gone) k ≡ true → i < size
    → IsZero b (64 * page + k * size + i)) → gives_back (now_of b).words page (without used gone) ≡ true
gives_here page used gone size k is_used is_gone is_size zeros =
    grind (arith, gives_ok, same_used, same_left, same_header)

-- The cells of a page that are used and gone are given back, by its used word.
pub record GivesCells (w : WordsState) (p b d : PassState) (page used gone quarantine : ℕ) : Type 0 where
  pub begun : IsTurn p
  pub wiped : GivesNothingBack p b
  pub turn : IsTurnAt 4 w p
  pub within : page < w.config.pages
  pub is_used : used ≡ used_at (now_of p).words page
  pub is_gone : gone ≡ left_unmarked (now_of p).words page
  pub word : IsQuarantineWord p page quarantine
  pub gives : Acts b (Step.Used page (without used gone)) d

module _ {w : WordsState} {p b d : PassState} {page used gone quarantine : ℕ}
    (x : GivesCells w p b d page used gone quarantine) where
  turn_b : IsTurnAt 4 w b
  turn_b = freed_turn x.wiped.frees x.turn

  gives_page : FreesPage page b d
  gives_page = used_frees turn_b x.within x.gives

  pub turn_d : IsTurnAt 4 w d
  turn_d = freed_turn gives_page.frees turn_b

  state_d : page_state d page ≡ record
      (page_state p page) { page = record { header = header_at (now_of p).words page; used = without used gone } }
  state_d =
      used_state turn_b x.within x.gives ∙ ap (λ (y : PageState). record y
      { page = record { header = y.page.header; used = without used gone } }) (x.wiped.same page)

  half : Halves p page quarantine
  half = halves page quarantine x.begun x.word

  gone_there : gone ≡ without (quarantine / 2 ^ 32) (slice_index (now_of d).words.marks page)
  gone_there = grind (arith, half, gives_page)

  freed_small : without (quarantine % 2 ^ 32) gone < 2 ^ 32
  freed_small = let le = and_le_l (quarantine % 2 ^ 32) gone in omega arith

  abbrev dropped : ℕ
  dropped = quarantine_word (without (quarantine % 2 ^ 32) gone) (quarantine / 2 ^ 32 - gone)

  pub drops_here : drops (now_of d).words page (dropped % 2 ^ 32) (dropped / 2 ^ 32) ≡ true
  drops_here = grind (arith, low_part, freed_small, high_part, drops_ok, state_d, half, gone_there, none_in_both)

  pub gives_all : {q : PassState} → Acts d (Step.Quar page dropped) q → GivesBack page p q
  gives_all {q} a =
      let last = quar_frees turn_d x.within a in
      let state = quar_state turn_d x.within a in
      let marks : ℕ = slice_index (now_of q).words.marks page in
      record {
        frees = page_then (page_at_once page x.wiped) (page_then gives_page last);
        header = ap (λ (y : PageState). y.page.header) state ∙ ap (λ (y : PageState). y.page.header) state_d;
        none_left =
            ap (λ (y : PageState). without y.snapshot marks) state
            ∙ ap (λ (n : ℕ). without n marks) (high_part (without (quarantine % 2 ^ 32) gone) _ freed_small)
            ∙ ap (λ (ms : List ℕ). without (quarantine / 2 ^ 32 - gone) (slice_index ms page)) last.frees.marks
            ∙ none_is_left (quarantine / 2 ^ 32) _ gone gone_there;
      }
