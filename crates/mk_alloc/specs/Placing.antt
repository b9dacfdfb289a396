-- Placing the object of a New: what is asked, what comes of it, and what only the turn's holder changes meanwhile.
use Rattle.std.specs.Prelude.{Bool, true, false, ◌≡◌, ℕ, ◌<◌, ◌%◌, ◌^◌, ◌⊎◌, ◌==◌, ◌&&◌, List, [], ◌∷◌, ◌++◌, Option}
use Rattle.std.specs.Prelude.{Some, None, ◌+◌, ◌≤◌, length}
use Rattle.mk_never.specs.declared.operations.Op.{Op}
use Rattle.mk_geom.specs.{declared.pages.Place.Place, Addresses.address_of}
use Rattle.mk_core.specs.{Accesses.caller_number, Allocations.{PlacedAllocation, held_by_allocations, type_made}}
use Rattle.mk_core.specs.{Calls.{d_of, Decided, entry_of}, Frames.{OnlyGrow, steady_of, CountsAreLeft}}
use Rattle.mk_core.specs.{History.{World, left}, Moments.{flight_of, is_held, Moment}, NewPlaces.{base_made, bits_made}}
use Rattle.mk_core.specs.{NewPlaces.{is_undecided_new, object_made, header_made, pages_made}, Placement.place_after}
use Rattle.mk_core.specs.{TurnConditions.{place_now, is_marked_first, is_used_once}, Words.{register_word, phase_of}}
use Rattle.mk_core.specs.{Words.{header_at, used_at}, declared.{config.Config.Config, events.Answer.Answer}}
use Rattle.mk_core.specs.declared.events.{Seat.{Seat, TheVariants.Caller}, Step.Step}
use Rattle.mk_core.specs.declared.{events.Word.Word, seats.{Flight.Flight, Object.Object}}
use Rattle.mk_core.specs.declared.seats.{Placing.TheVariants.{Unplaced, Granted}, Stage.Stage}
use Rattle.mk_caller.specs.{Called.own_calls, Below.Words.States.{PassState, call_of, now_of, world_of, WordsState}}
use Rattle.mk_caller.specs.Below.Words.{Steps.Does, Sweeping.SweepsNothing}
use Rattle.mk_alloc.specs.declared.objects.{Request.Request, Grant.Grant, Shape.Shape}
use Rattle.mk_cycle.specs.TurnKeeps.{is_look}

-- a word that only the turn's holder changes
abbrev pub is_steady_word : Word → Bool
is_steady_word (Word.Head p) = true
is_steady_word (Word.Used p) = true
is_steady_word Word.Held = true
is_steady_word Word.Fresh = true
is_steady_word _ = false

-- A call under the turn, whose register is loaded where it is a Free.
abbrev pub is_acting : Stage → Bool
is_acting Stage.Turn = true
is_acting Stage.Give = true
is_acting _ = false

-- What the seat itself and the turn's holder change is as it was.
pub record IsAsLeft (s : Seat) (w v : World) : Type 0 where
  pub call : flight_of v.now s ≡ flight_of w.now s
  pub holding : v.now.seats.holding ≡ w.now.seats.holding
  pub steady : steady_of v ≡ steady_of w
  pub marks : OnlyGrow w.now.words.marks v.now.words.marks
  pub registers : (k r : ℕ) → s ≡ Caller k → r < 8 → register_word v.now.words k r ≡ register_word w.now.words k r
  pub gates : (j : ℕ) → is_held v.now.words j ≡ is_held w.now.words j

-- Between these worlds the New was served up to its cell: its call, and all but the pages, is as it was.
pub record Serving (c : Config) (s : Seat) (o : Object) (place : Place) (w v : World) : Type 0 where
  pub call : flight_of v.now s ≡ flight_of w.now s
  pub object : object_made c (flight_of v.now s).op ≡ o
  pub steady : steady_of v ≡ record (steady_of w) { pages = v.now.words.pages }
  pub placed : place_now c v.now (flight_of v.now s) ≡ Some place
  pub once : is_used_once v.now.seats.holding.placing ≡ false
  pub used : used_at v.now.words place.page ≡ used_at w.now.words place.page
  pub pages : length v.now.words.pages ≡ c.pages

-- This many of the place's pages have their headers, the others none.
pub record Carving (c : Config) (s : Seat) (o : Object) (place : Place) (w v : World) (n : ℕ) : Type 0 where
  pub serving : Serving c s o place w v
  pub stand : (d : ℕ) → d < n → header_at v.now.words (place.page + d) ≡ header_made o d
  pub free : (d : ℕ) → n ≤ d → d < pages_made o → header_at v.now.words (place.page + d) ≡ 0
  pub marked : is_marked_first v.now.words o place ≡ true

-- Once all have it, or where its page was a block already, its cell may be taken,
pub record IsCellReady (c : Config) (s : Seat) (o : Object) (place : Place) (w v : World) : Type 0 where
  pub serving : Serving c s o place w v
  pub stand : (d : ℕ) → d < pages_made o → header_at v.now.words (place.page + d) ≡ header_made o d

-- No cycle is on, or one whose cells are being marked.
abbrev pub IsOutOfStop : Moment → Type 0
IsOutOfStop m = (phase_of m.words ≡ 0) ⊎ (phase_of m.words ≡ 1)

-- The turn is for a New that isn't decided and has no place yet.
pub record IsUnplaced (p : PassState) : Type 0 where
  pub new : is_undecided_new (call_of p) ≡ true
  pub placing : (now_of p).seats.holding.placing ≡ Unplaced
  pub phase : IsOutOfStop (now_of p)

-- It is for a New that requests this.
pub record Requests (p : PassState) (request : Request) : Type 0 where
  pub full : Bool
  pub op : (call_of p).op ≡ Op.New request.register request.ty full

-- The tally of held words is that of the allocations.
abbrev pub HeldIsExact : PassState → Type 0
HeldIsExact p = (now_of p).words.held ≡ held_by_allocations p.table.config (world_of p).allocations

-- the object of the New that is under way
abbrev pub object_for : PassState → Object
object_for p = object_made p.table.config (call_of p).op

-- its first-fit place
abbrev pub place_now_for : PassState → Option Place
place_now_for p = place_after p.table.config p.seen (object_for p)

-- steps that place an object
abbrev pub is_placing : Step → Bool
is_placing (Step.Look x) = true
is_placing (Step.Mark p v) = true
is_placing (Step.Head p v) = true
is_placing (Step.Used p v) = true
is_placing Step.Grant = true
is_placing (Step.Tally n v) = true
is_placing _ = false

-- Those that serve an object at its place: what is marked there are the cells that its first page has then.
abbrev pub serves_at : Object → Place → Step → Bool
serves_at o place (Step.Mark page cells) = page == place.page && cells == bits_made o
serves_at o place s = is_placing s

-- The seat did only steps of these kinds, which added these entries to its calls, and came to a world of this sort.
pub record ComesTo (kinds : Step → Bool) (p : PassState) (sort : World
    → Type 0) (entries : List Decided) (q : PassState) : Type 0 where
  pub same : q ≡ record p { seen = q.seen }
  pub does : Does kinds p q
  pub calls : own_calls p q.seen ≡ own_calls p p.seen ++ entries
  pub world : sort (left p.table.config q.seen)
  pub counts : CountsAreLeft p.table.config p.seen q.seen

-- It only looked, and all that is the turn's holder's is as it was.
abbrev pub OnlyLooks : PassState → PassState → Type 0
OnlyLooks p q = ComesTo is_look p (IsAsLeft p.seat (world_of p)) [] q

-- the object that a grant at a place adds to the allocations
abbrev pub object_at_place : Config → Flight → Place → PlacedAllocation
object_at_place c f place = record {
  base = base_made (object_made c f.op) place;
  ty = type_made f.op;
  freed = false;
  fresh = false;
  released = false;
}

-- The New was granted its object at this place: its call is decided, the object is an allocation more, its address in
-- the register. All else that only the holder changes, but pages and the tally of held words, is as it was.
pub record IsGrantedAt (c : Config) (s : Seat) (place : Place) (w v : World) : Type 0 where
  pub call : flight_of v.now s ≡ record (flight_of w.now s) { stage = Stage.Give }
  pub placing : v.now.seats.holding.placing ≡ Granted
  pub steady : steady_of v
      ≡ record (steady_of w) {
        pages = v.now.words.pages;
        held = v.now.words.held;
        allocations = w.allocations ++ object_at_place c (flight_of w.now s) place ∷ [];
      }
  pub register : (k : ℕ) → s ≡ Caller k → register_word v.now.words k (d_of (flight_of w.now s).op)
      ≡ address_of (base_made (object_made c (flight_of w.now s).op) place) % 2 ^ 64

-- The entry of the pass's call, where it is answered so.
abbrev pub entry_for : PassState → Answer → List Decided
entry_for p a = entry_of (caller_number p.seat) (call_of p).op (Some a)

-- The object is granted at this place.
abbrev pub IsGranted : PassState → Place → PassState → Type 0
IsGranted p place q = ComesTo (serves_at (object_for p) place) p (IsGrantedAt p.table.config p.seat place (world_of p))
    (entry_for p Answer.Done) q

-- The object of the New was granted at its place, and the tally of held words is that of the allocations.
pub record IsPlaced (p q : PassState) : Type 0 where
  pub place : Place
  pub fits : place_now_for p ≡ Some place
  pub granted : IsGranted p place q
  pub held : HeldIsExact q

-- There is no place, and the pass only looked.
pub record FitsNowhere (p q : PassState) : Type 0 where
  pub nowhere : place_now_for p ≡ None
  pub looks : OnlyLooks p q

-- The New's object goes to this place.
pub record GoesTo (p : PassState) (place : Place) : Type 0 where
  pub unplaced : IsUnplaced p
  pub goes : place_now p.table.config (now_of p) (call_of p) ≡ Some place

-- The object was granted at the place, the tally of held words is that of the allocations, and nothing was swept.
pub record IsServed (p : PassState) (place : Place) (q : PassState) : Type 0 where
  pub granted : IsGranted p place q
  pub held : HeldIsExact q
  pub reached : SweepsNothing p q

-- So many pages of the place have their headers.
abbrev pub HasCarved : PassState → Place → ℕ → PassState → Type 0
HasCarved p place n q = ComesTo (serves_at (object_for p) place) p
    (λ w. Carving p.table.config p.seat (object_for p) place (world_of p) w n) [] q

-- The place's cell may be used now.
abbrev pub MayTake : PassState → Place → PassState → Type 0
MayTake p place q = ComesTo (serves_at (object_for p) place) p
    (IsCellReady p.table.config p.seat (object_for p) place (world_of p)) [] q

-- an object of this shape
abbrev pub object_shaped : Shape → Object
object_shaped s = record { words = s.words; leaf = s.leaf }

-- On these words the New's object, which has this shape, goes to this place.
pub record ShapeGoesTo (w : WordsState) (p : PassState) (shape : Shape) (place : Place) : Type 0 where
  pub one_table : p.table ≡ w
  pub shaped : object_shaped shape ≡ object_for p
  pub goes : GoesTo p place

-- It may be served: this is its register, and the used word of its place's page. The tally of held words is exact.
pub record MayServe (w : WordsState) (p : PassState) (grant : Grant) : Type 0 where
  pub object : ShapeGoesTo w p grant.shape grant.place
  pub register : grant.register ≡ d_of (call_of p).op
  pub used : grant.used ≡ used_at (now_of p).words grant.place.page
  pub header : grant.free ≡ (header_at (now_of p).words grant.place.page == 0)
  pub exact : HeldIsExact p
