-- What is granted stands at its New's place.
use Rattle.mk_core.proofs.Vocabulary.{BeginsAtCell, Bool, Config, Flight, HasItsHeaders, IsSized, IsWithinLimits}
use Rattle.mk_core.proofs.Vocabulary.{Moment, Op, Place, PlacedAllocation, StandsOnHeap, Words, ℕ, and_parts, ap, arith}
use Rattle.mk_core.proofs.Vocabulary.{base_made, cell_ends, cells_made, cond-false, cond-true, eqb-true, false}
use Rattle.mk_core.proofs.Vocabulary.{header_at, header_made, inl, kinds_of, length, ltb-true, object_made}
use Rattle.mk_core.proofs.Vocabulary.{object_placed, pages_made, subst, sym, true, words_made, [], ◌*◌, ◌+◌, ◌/◌, ◌<◌}
use Rattle.mk_core.proofs.{Vocabulary.{◌∙◌, ◌≡◌, ◌≤◌}, Sizes.{large_words, small_cells, small_pages, small_words}}
use Rattle.mk_core.proofs.{AllBelow.all_below-at, PlacesNow.undecided_new, StandingAllocations.made_begins}
use Rattle.mk_core.specs.{NewPlaces.{is_undecided_new, object_of, place_stands}, Accesses.granted_base}
use Rattle.mk_core.specs.{Allocations.{granted, type_made}, Calls.has_operands, declared.seats.Placing.Placing}
use Rattle.mk_core.specs.declared.seats.Placing.TheVariants.{Used}

-- Its object is the one that the New makes,
made_is : (c : Config) (o : Op) (d ty : ℕ) (full : Bool) → o ≡ Op.New d ty full
    → object_of (kinds_of c.types (type_made o)) ≡ object_made c o
made_is c o d ty full is = cc

pub granted_object : (c : Config) (m : Moment) (f : Flight) → is_undecided_new f ≡ true
    → object_placed c (granted c m f) ≡ object_made c f.op
granted_object c m f new = let n = undecided_new f new in made_is c f.op n.d n.ty n.full n.op

-- whose type is there,
typed_by : (c : Config) (o : Op) (d ty : ℕ) (full : Bool) → o ≡ Op.New d ty full → has_operands c o ≡ true
    → type_made o < length c.types
typed_by c o d ty full is h = grind (arith, and_parts, ltb-true)

pub granted_type : (c : Config) (m : Moment) (f : Flight) → is_undecided_new f ≡ true → has_operands c f.op ≡ true
    → (granted c m f).ty < length c.types
granted_type c m f new h = let n = undecided_new f new in typed_by c f.op n.d n.ty n.full n.op h

-- so it has 1 to 4,096 words.
pub new_sized : (c : Config) (f : Flight) → IsWithinLimits c → is_undecided_new f ≡ true → has_operands c f.op ≡ true
    → IsSized (object_made c f.op)
new_sized c f limits new h = grind (arith, undecided_new, made_is, typed_by)

-- The object of a place, as an allocation of its type with its base, stands there,
pub placed_stands : (c : Config) (a : PlacedAllocation) (place : Place) → IsWithinLimits c → a.ty < length c.types
    → a.released ≡ false → a.base ≡ base_made (object_placed c a) place → place.index < cells_made (object_placed c a)
    → place.page + pages_made (object_placed c a) ≤ c.pages → StandsOnHeap c a
placed_stands c a place limits typed unreleased base known within =
    let sized : IsSized (object_placed c a) = (limits.types a.ty [] typed).0 in
    let begins = (made_begins (object_placed c a) place sized known).0 in
    let ends : base_made (object_placed c a) place + words_made
    (object_placed c a) ≤ 64 * (place.page + pages_made (object_placed c a)) = grind
    (arith, small_cells, cell_ends, small_words, small_pages, cond-true, large_words, cond-false) in
    let end : base_made (object_placed c a) place + words_made (object_placed c a) ≤ 64 * c.pages = omega arith in
    record {
      typed = typed;
      unreleased = unreleased;
      begins = subst (λ n. BeginsAtCell (object_placed c a) n) (sym base) begins;
      within = subst (λ n. n + words_made (object_placed c a) ≤ 64 * c.pages) (sym base) end;
    }

-- and has its headers, if these stand.
pub placed_headers : (c : Config) (w : Words) (a : PlacedAllocation) (place : Place) → IsWithinLimits c
    → a.ty < length c.types → a.base ≡ base_made (object_placed c a) place → place.index < cells_made
    (object_placed c a) → place_stands w (object_placed c a) place ≡ true → HasItsHeaders c w a
placed_headers c w a place limits typed base known h distance near =
    let sized : IsSized (object_placed c a) = (limits.types a.ty [] typed).0 in
    let page : a.base / 64 ≡ place.page = cc (base, (made_begins (object_placed c a) place sized known).2) in
    let at : header_at w (place.page + distance) ≡ header_made (object_placed c a) distance =
    eqb-true _ _ (all_below-at (pages_made (object_placed c a)) distance _ h near) in
    inl (ap (λ p. header_at w (p + distance)) page ∙ at)

-- A grant's base is that of the place whose cell is taken.
pub granted_base_is : (c : Config) (f : Flight) (placing : Placing) (place : Place) → placing ≡ Used place
    → granted_base c f placing ≡ base_made (object_made c f.op) place
granted_base_is c f placing place is = ap (λ (x : Placing). granted_base c f x) is
