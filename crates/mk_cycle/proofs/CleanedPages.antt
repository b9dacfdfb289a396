-- Pages are cleaned one by one, and others are passed over: what is known of those before goes on.
use Rattle.mk_words.proofs.Below.Laws.Vocabulary.{Steady, ℕ, ap, arith, cases_lt, false, header_at, inl, inr, subst}
use Rattle.mk_words.proofs.Below.Laws.Vocabulary.{sym, ◌+◌, ◌<◌, ◌∙◌}
use Rattle.mk_words.proofs.Below.Laws.{Vocabulary.{◌≡◌, ◌≤◌}, FreePages.free_pages_have_nothing}
use Rattle.mk_core.specs.Below.Books.KnownPages.{is_in_use, page_at}
use Rattle.mk_cycle.proofs.Vocabulary.{Cleans, IsClean, IsTurn, PassState, WordsState, below_more, now_of}
use Rattle.mk_cycle.proofs.CleaningSteps.{clean_stays, cleaned_table, cleans_nothing, cleans_then, halves}
use Rattle.mk_cycle.proofs.{PageByPage.no_header, Undirty.{undirty_earlier, undirty_later, undirty_now}}
use Rattle.mk_cycle.specs.{BeginCycle.{HasTakenSnapshot, IsReadyPage}, Freeing.IsQuarantineWord}
use Rattle.mk_words.specs.{PageMaps.HasNoMarks, States.TurnState}

-- The pages below one are looked through, before a cycle begins.
pub record CleansTo (pages : ℕ) (t u : TurnState) (from : ℕ) : Type 0 where
  pub begun : from ≤ pages
  pub cleans : Cleans t.pass u.pass

pub cleans_to_none : {pages : ℕ} {t : TurnState} → CleansTo pages t t 0
cleans_to_none = record { begun = omega arith; cleans = cleans_nothing _ }

-- The table stays, and its pages.
pub same_pages : {w : WordsState} {pages from : ℕ} {t u : TurnState} → t.pass.table ≡ w → CleansTo pages t u from
    → u.pass.table.config.pages ≡ w.config.pages
same_pages {w} {t = t} {u = u} is to = ap (λ (x : WordsState). x.config.pages) (cleaned_table w to.cleans is)

-- One of the pages, from there on, is cleaned.
pub cleans_past : {w : WordsState} {t u v : TurnState} {from n : ℕ} → t.pass.table ≡ w
    → CleansTo w.config.pages t u from → n < u.pass.table.config.pages → Cleans u.pass v.pass
    → CleansTo w.config.pages t v (n + 1)
cleans_past is to within cleans =
    let same = same_pages is to in
    record { begun = omega arith; cleans = cleans_then to.cleans cleans }

pub bare_stays : {p q : PassState} {page : ℕ} → Cleans p q → HasNoMarks (now_of p).words page
    → HasNoMarks (now_of q).words page
bare_stays k h = grind arith

-- A page without marks that has taken its snapshot is clean.
pub clean_bare : {p q : PassState} {page : ℕ} → Cleans p q → HasNoMarks (now_of p).words page
    → HasTakenSnapshot q page → IsClean q page
clean_bare k bare taken =
    let still = bare_stays k bare in
    record { unmarked = still.unmarked; unscanned = still.unscanned; snapshot = taken }

-- Where the quarantine word is 0, nothing is freed, and the snapshot is empty.
pub no_quarantine : {p : PassState} (page n : ℕ) → IsTurn p → IsQuarantineWord p page n → n ≡ 0
    → HasTakenSnapshot p page
no_quarantine page n t is none = let half = halves page n t is in grind arith

-- The headers stay.
same_header : {p q : PassState} (page : ℕ) → Cleans p q
    → header_at (now_of q).words page ≡ header_at (now_of p).words page
same_header page k = ap (λ (y : Steady). (page_at y.pages page).header) k.keeps.steady

-- Free pages below this one have no marks.
abbrev pub FreeAreBare : PassState → ℕ → Type 0
FreeAreBare p n = (page : ℕ) → page < n → header_at (now_of p).words page ≡ 0 → HasNoMarks (now_of p).words page

pub free_stay_bare : {p q : PassState} (n : ℕ) → Cleans p q → FreeAreBare p n → FreeAreBare q n
free_stay_bare {p} {q} n k h page lt bare = bare_stays k (h page lt (sym (same_header page k) ∙ bare))

pub free_bare_past : (p : PassState) (from n : ℕ) → FreeAreBare p from → ((page : ℕ) → from ≤ page → page < n
    → header_at (now_of p).words page ≡ 0 → HasNoMarks (now_of p).words page) → FreeAreBare p n
free_bare_past p from n before more page lt bare = grind (arith, cases_lt)

pub free_bare_more : {p q : PassState} {n : ℕ} → Cleans p q → FreeAreBare p n → HasNoMarks (now_of q).words n
    → FreeAreBare q (n + 1)
free_bare_more {p} {q} {n} k before here = below_more _ _ (free_stay_bare n k before) (λ bare. here)

-- Pages below this one are ready.
abbrev pub AreReady : PassState → PassState → ℕ → Type 0
AreReady o p n = (page : ℕ) → page < n → IsReadyPage page o p

pub ready_later : {o p q : PassState} {page : ℕ} → Cleans p q → IsReadyPage page o p → IsReadyPage page o q
ready_later k h = record { clean = clean_stays k h.clean; undirty = undirty_later h.undirty k }

pub ready_earlier : {o p q : PassState} {page : ℕ} → Cleans o p → IsReadyPage page p q → IsReadyPage page o q
ready_earlier k h = record { clean = h.clean; undirty = undirty_earlier k h.undirty }

-- A free page that has no marks is ready.
ready_free : {o p : PassState} {page : ℕ} → IsTurn p → Cleans o p → HasNoMarks (now_of p).words page
    → header_at (now_of p).words page ≡ 0 → IsReadyPage page o p
ready_free {o} {p} {page} t k bare free =
    let nothing = free_pages_have_nothing p.table.config p.seen t.history page free in
    record {
      clean = clean_bare (cleans_nothing p) bare (nothing.snapshot ∙ sym nothing.freed);
      undirty = undirty_now page k nothing.dirty;
    }

pub ready_past : {o p : PassState} (from n pages : ℕ) → IsTurn p → Cleans o p → FreeAreBare o pages → n ≤ pages
    → AreReady o p from
    → ((page : ℕ) → from ≤ page → page < n → is_in_use (now_of p).words.pages page ≡ false) → AreReady o p n
ready_past from n pages t k free few before more page lt =
    grind (arith, cases_lt, no_header, free_stay_bare, ready_free)

-- Pages from one on and below another are ready.
abbrev pub AreReadyFrom : PassState → PassState → ℕ → ℕ → Type 0
AreReadyFrom o p from n = (page : ℕ) → from ≤ page → page < n → IsReadyPage page o p

pub ready_from_more : {o p q : PassState} {from n : ℕ} → Cleans o p → Cleans p q → AreReadyFrom o p from n
    → IsReadyPage n p q → AreReadyFrom o q from (n + 1)
ready_from_more {o} {p} {q} {n = n} first k before here page low high = elim (cases_lt page n) [
  | inl below ↦ ready_later k (before page low below)
  | inr past ↦ subst (λ r. IsReadyPage r o q) (omega arith) (ready_earlier first here)
]

-- What is known up to the first of them is known up to their end.
pub ready_to_end : {o p q : PassState} {n end : ℕ} → Cleans o p → Cleans p q → AreReady o p n
    → AreReadyFrom p q n end → AreReady o q end
ready_to_end {n = n} first k before range page lt = elim (cases_lt page n) [
  | inl below ↦ ready_later k (before page below)
  | inr past ↦ ready_earlier first (range page past lt)
]
