-- What the steps that serve a new object find and store.
use Rattle.mk_core.proofs.Vocabulary.{Bool, None, Object, Option, Place, Some, Words, ℕ, and_parts, eqb-false, eqb-true}
use Rattle.mk_core.proofs.Vocabulary.{false, has_bit, header_at, header_made, is_phase, leb-true, ltb-true, not-true}
use Rattle.mk_core.proofs.Vocabulary.{pages_made, refl, stands, true, ◌&&◌, ◌+◌, ◌-◌, ◌<◌, ◌^◌, ◌≡◌, ◌≢◌, ◌≤◌}
use Rattle.mk_core.{proofs.AllBelow.{all_below-at}, specs.{MarkingConditions.marks_place, Words.used_at}}
use Rattle.mk_core.specs.{TurnConditions.{carves, is_marked_first, takes_cell}, NewPlaces.{bits_made, is_next_header}}

-- four tests, each of which holds
pub four_hold : (a b c d : Bool) → (a && b && c && d) ≡ true → (a ≡ true) × (b ≡ true) × (c ≡ true) × (d ≡ true)
four_hold a b c d h =
    let x = and_parts _ d h in let y = and_parts _ c x.0 in let z = and_parts a b y.0 in (z.0, z.1, y.1, x.1)

-- the first page of this many that hasn't the header that is wanted there, and that header
pub record IsNextHeader (w : Words) (first count : ℕ) (wanted : ℕ → ℕ) (page value : ℕ) : Type 0 where
  pub from : first ≤ page
  pub near : page - first < count
  pub not_yet : header_at w page ≢ wanted (page - first)
  pub before : (e : ℕ) → e < page - first → header_at w (first + e) ≡ wanted e
  pub is : value ≡ wanted (page - first)

pub next_header : (w : Words) (first count : ℕ) (wanted : ℕ → ℕ) (page value : ℕ)
    → is_next_header w first count wanted page value ≡ true → IsNextHeader w first count wanted page value
next_header w first count wanted page value h =
    let a = and_parts _ _ h in
    let b = four_hold _ _ _ _ a.0 in
    record {
      from = leb-true _ _ b.0;
      near = ltb-true _ _ b.1;
      not_yet = eqb-false _ _ (not-true _ b.2);
      before = λ k lt. eqb-true _ _ (all_below-at (page - first) k (stands w first wanted) b.3 lt);
      is = eqb-true _ _ a.1;
    }

-- the place's cell, after all its headers, whose used bit isn't set, and the word with that bit
pub record IsCellTaken (w : Words) (o : Object) (place : Place) (page value : ℕ) : Type 0 where
  pub at : page ≡ place.page
  pub headers : (distance : ℕ) → distance < pages_made o → header_at w (place.page + distance) ≡ header_made o distance
  pub unused : has_bit (used_at w page) place.index ≡ false
  pub is : value ≡ used_at w page + 2 ^ place.index

-- the bits of the cells of the place's first page, which has no header yet
pub record IsPlaceMarked (w : Words) (o : Object) (place : Place) (page value : ℕ) : Type 0 where
  pub phase : is_phase w 1 ≡ true
  pub at : page ≡ place.page
  pub free : header_at w page ≡ 0
  pub is : value ≡ bits_made o

pub place_marked : (w : Words) (o : Object) (place : Place) (page value : ℕ)
    → marks_place w o (Some place) page value ≡ true → IsPlaceMarked w o place page value
place_marked w o place page value h =
    let a = four_hold _ _ _ _ h in
    record { phase = a.0; at = eqb-true _ _ a.1; free = eqb-true _ 0 a.2; is = eqb-true _ _ a.3 }

-- Each of these has a place.
pub record Carves (w : Words) (o : Object) (found : Option Place) (page value : ℕ) : Type 0 where
  pub place : Place
  pub there : found ≡ Some place
  pub next : IsNextHeader w place.page (pages_made o) (header_made o) page value
  pub marked : is_marked_first w o place ≡ true

pub carves_is : (w : Words) (o : Object) (found : Option Place) (page value : ℕ) → carves w o found page value ≡ true
    → Carves w o found page value
carves_is w o None page value h = cc
carves_is w o (Some place) page value h =
    let a = and_parts _ _ h in
    record {
      place = place;
      there = refl;
      next = next_header w place.page (pages_made o) (header_made o) page value a.0;
      marked = a.1;
    }

pub record TakesCell (w : Words) (o : Object) (found : Option Place) (page value : ℕ) : Type 0 where
  pub place : Place
  pub there : found ≡ Some place
  pub taken : IsCellTaken w o place page value

pub takes_is : (w : Words) (o : Object) (found : Option Place) (page value : ℕ) → takes_cell w o found page value ≡ true
    → TakesCell w o found page value
takes_is w o None page value h = cc
takes_is w o (Some place) page value h =
    record {
      place = place;
      there = refl;
      taken = (let a = four_hold _ _ _ _ h in
          record {
            at = eqb-true _ _ a.0;
            headers = λ k lt. eqb-true _ _ (all_below-at (pages_made o) k (stands w place.page (header_made o)) a.1 lt);
            unused = not-true _ a.2;
            is = eqb-true _ _ a.3;
          });
    }

pub record MarksPlace (w : Words) (o : Object) (found : Option Place) (page value : ℕ) : Type 0 where
  pub place : Place
  pub there : found ≡ Some place
  pub marked : IsPlaceMarked w o place page value

pub marks_is : (w : Words) (o : Object) (found : Option Place) (page value : ℕ)
    → marks_place w o found page value ≡ true → MarksPlace w o found page value
marks_is w o None page value h = cc
marks_is w o (Some place) page value h =
    record { place = place; there = refl; marked = place_marked w o place page value h }
