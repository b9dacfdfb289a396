-- What a look finds, and what a value points into by the header that is found.
use Rattle.std.proofs.Common.{List, None, ℕ, ap, false, inl, inr, refl, subst, sym, ◌++◌, ◌∙◌, ◌≡◌}
use Rattle.std.proofs.lemmas.Bool.{cases_Bool}
use Rattle.mk_geom.specs.{Addresses.{cell_at, is_heap_address, page_at_address}, declared.pages.Page.Page}
use Rattle.mk_core.{proofs.Histories.{left_more}, specs.{declared.events.Step.Step, declared.events.Word.Word}}
use Rattle.mk_core.specs.{Cells.pointed_cell, History.{World, first_world}, Words.{Words, header_at, named_word}}
use Rattle.mk_words.specs.TurnSteps.{LooksForCell}
use Rattle.mk_words.specs.{States.{PassState, TurnState, event_of, now_of}, Steps.Finds, TurnSteps.Acts}

-- What a look found is there after it.
pub found_there : (p q : PassState) (x : Word) (n : ℕ) → Finds p (Step.Look x) n q → named_word (now_of q).words x ≡ n
found_there p q x n f =
    ap (λ (r : PassState). named_word (now_of r).words x) f.makes.is
    ∙ ap (λ (w : World). named_word w.now.words x) (left_more p.table.config (first_world p.table.config)
    (p.seen ++ f.makes.others) (event_of p (Step.Look x))) ∙ sym f.finds

-- what lies outside the heap points into nothing
pub outside_none : (pages : ℕ) (ps : List Page) (u : ℕ) → is_heap_address pages u ≡ false
    → pointed_cell pages ps u ≡ None
unfolding pointed_cell
outside_none pages ps u out = cc

-- A lookup by the header that is there finds the cell.
pub found_by_header : (pages : ℕ) (w : Words) (u : ℕ)
    → cell_at pages (header_at w (page_at_address u)) u ≡ pointed_cell pages w.pages u
unfolding pointed_cell
found_by_header pages w u = refl

-- What holds of the turn as it was, and after the one look, holds after looking for a cell.
pub looked_for : {value : ℕ} {t u : TurnState} (P : TurnState → Type 0) → LooksForCell value t u → P t
    → (Acts t.pass (Step.Look (Word.Head (page_at_address value))) u.pass → P u) → P u
looked_for {value} {t} P l same looked = elim (cases_Bool (is_heap_address t.pass.table.config.pages value)) [
  | inl inside ↦ looked (l.inside inside)
  | inr outside ↦ subst P (sym (l.outside outside)) same
]
