-- What is known if there is a place of a New, or a cell that a Free frees.
use Rattle.mk_core.proofs.Vocabulary.{Bool, Cell, Config, Flight, List, Moment, None, Object, Op, Option, Page, Place}
use Rattle.mk_core.proofs.Vocabulary.{Some, Words, ℕ, and_parts, ap, arith, eqb-true, false, if◌then◌else◌, inl, inr}
use Rattle.mk_core.proofs.Vocabulary.{is_phase, not, not-true, object_made, place_now, pointed_cell, quarantine_word}
use Rattle.mk_core.proofs.Vocabulary.{refl, slice_index, sym, true, ◌&&◌, ◌+◌, ◌^◌, ◌∙◌, ◌≡◌, ◌⊎◌}
use Rattle.mk_core.specs.NewPlaces.{is_free_at, is_undecided_free, is_undecided_new, place_by_placing, place_on_pages}
use Rattle.mk_core.specs.{NewPlaces.target, declared.seats.Placing.TheVariants.{Chosen, Unplaced, Used}, Cells.is_freed}
use Rattle.mk_core.specs.{Effects.{chosen, taken}, TurnConditions.{cell_freed, frees}, declared.seats.Placing.Placing}
use Rattle.mk_core.specs.declared.seats.Stage.{Stage}

-- what is there under a test, if something is
some_under : {A : Type 0} (b : Bool) (o : Option A) (x : A) → (if b then o else None) ≡ Some x
    → (b ≡ true) × (o ≡ Some x)
some_under true o x h = (refl, h)
some_under false o x h = cc

-- A New or a Free that isn't decided yet.

pub record NewAtTurn (s : Stage) (o : Op) : Type 0 where
  pub stage : s ≡ Stage.Turn
  pub d : ℕ
  pub ty : ℕ
  pub full : Bool
  pub op : o ≡ Op.New d ty full

pub record FreeAtTurn (s : Stage) (o : Op) : Type 0 where
  pub stage : s ≡ Stage.Turn
  pub p : ℕ
  pub op : o ≡ Op.Free p

free_at : (s : Stage) (o : Op) → is_free_at s o ≡ true → FreeAtTurn s o
free_at Stage.Turn (Op.Free p) h = record { stage = refl; p = p; op = refl }
free_at _ _ h = cc

pub undecided_new : (f : Flight) → is_undecided_new f ≡ true → NewAtTurn f.stage f.op
undecided_new f h = grind arith

pub undecided_free : (f : Flight) → is_undecided_free f ≡ true → FreeAtTurn f.stage f.op
undecided_free f h = free_at f.stage f.op h

-- The place of a New is the first fit, until a step has fixed it.
pub data IsPlaced (resident : ℕ) (pages : List Page) (o : Object) (place : Place) : Placing → Type 0 where
  ByFit : place_on_pages resident pages o ≡ Some place → IsPlaced resident pages o place Unplaced
  AsChosen : IsPlaced resident pages o place (Chosen place)
  AsUsed : IsPlaced resident pages o place (Used place)

pub record PlacedNow (c : Config) (m : Moment) (f : Flight) (place : Place) : Type 0 where
  pub new : is_undecided_new f ≡ true
  pub at : place_by_placing c.resident m.words.pages (object_made c f.op) m.seats.holding.placing ≡ Some place
  pub placed : IsPlaced c.resident m.words.pages (object_made c f.op) place m.seats.holding.placing

pub placed_now : (c : Config) (m : Moment) (f : Flight) (place : Place) → place_now c m f ≡ Some place
    → PlacedNow c m f place
placed_now c m f place h = grind (arith, some_under, ByFit, AsChosen, AsUsed)

pub chosen_used : (placing : Placing) (o : Option Place) (place : Place) → chosen placing o ≡ Used place
    → placing ≡ Used place
chosen_used x0 o place h = grind arith

pub taken_is : (placing : Placing) (o : Option Place) (place : Place) → taken placing o ≡ Used place
    → (o ≡ Some place) ⊎ ((o ≡ None) × (placing ≡ Used place))
taken_is placing (Some x) place h = inl cc
taken_is placing None place h = inr (refl, h)

-- The target of an undecided Free is what its register points into.
pub record IsTarget (pages : ℕ) (w : Words) (f : Flight) (cell : Cell) : Type 0 where
  pub free : is_undecided_free f ≡ true
  pub pointed : pointed_cell pages w.pages f.p ≡ Some cell

pub target_is : (pages : ℕ) (w : Words) (f : Flight) (cell : Cell) → target pages w f ≡ Some cell
    → IsTarget pages w f cell
target_is pages w f cell h =
    let parts = some_under (is_undecided_free f) (pointed_cell pages w.pages f.p) cell h in
    record { free = parts.0; pointed = parts.1 }

-- The cell that a `quar` frees: its freed bit wasn't set, and is what the value adds to the page's quarantine word.
pub record FreesCell (pages : ℕ) (w : Words) (f : Flight) (p v : ℕ) (cell : Cell) : Type 0 where
  pub phase : is_phase w 4 ≡ false
  pub at : target pages w f ≡ Some cell
  pub free : is_undecided_free f ≡ true
  pub pointed : pointed_cell pages w.pages f.p ≡ Some cell
  pub page : p ≡ cell.page
  pub unfreed : is_freed w cell ≡ false
  pub value : v ≡ quarantine_word (slice_index w.freed p + 2 ^ cell.index) (slice_index w.snapshot p)

pub freed_cell : (pages : ℕ) (w : Words) (f : Flight) (p v : ℕ) (cell : Cell) → cell_freed pages w f p v ≡ Some cell
    → FreesCell pages w f p v cell
freed_cell pages w f p v cell h =
    let under = some_under (not (is_phase w 4) && frees w (target pages w f) p v) (target pages w f) cell h in
    let tests = and_parts _ _ under.0 in
    let here : frees w (Some cell) p v ≡ true = ap (λ (x : Option Cell). frees w x p v) (sym under.1) ∙ tests.1 in
    let value = quarantine_word (slice_index w.freed p + 2 ^ cell.index) (slice_index w.snapshot p) in
    let a = and_parts _ _ here in
    let b = and_parts _ _ a.0 in
    let is = target_is pages w f cell under.1 in
    record {
      phase = not-true _ tests.0;
      at = under.1;
      free = is.free;
      pointed = is.pointed;
      page = eqb-true _ _ b.0;
      unfreed = not-true _ b.1;
      value = eqb-true _ _ a.1;
    }
