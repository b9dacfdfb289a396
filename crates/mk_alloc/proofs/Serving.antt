-- A New while it is served: how far its pages are, step by step.
use Rattle.std.specs.Int.Bits.{and_self}
use Rattle.mk_caller.proofs.Below.Laws.Vocabulary.{Caller, Chosen, Config, Flight, IsSized, List, Moment, Object}
use Rattle.mk_caller.proofs.Below.Laws.Vocabulary.{Option, Page, Place, PlacedAllocation, Placing, Seat, Some, Stage}
use Rattle.mk_caller.proofs.Below.Laws.Vocabulary.{Steady, Step, Tally, Used, Words, World, ℕ, address_of, and_from, ap}
use Rattle.mk_caller.proofs.Below.Laws.Vocabulary.{arith, base_made, bit_or, carves, cases_eq, cases_lt, chosen, d_of}
use Rattle.mk_caller.proofs.Below.Laws.Vocabulary.{eq-eqb, false, flight_of, free_page, get_or-set_other}
use Rattle.mk_caller.proofs.Below.Laws.Vocabulary.{get_or-set_same, granted_base, has_bit, header_at, header_made, inl}
use Rattle.mk_caller.proofs.Below.Laws.Vocabulary.{inr, is_next_header, is_phase, is_undecided_new, is_used_once}
use Rattle.mk_caller.proofs.Below.Laws.Vocabulary.{le-leb, length, length-set, lt-ltb, made_shows, marks_place, ne_eqb}
use Rattle.mk_caller.proofs.Below.Laws.Vocabulary.{not, object_made, or_left, or_right, pages_made, part_not_free}
use Rattle.mk_caller.proofs.Below.Laws.Vocabulary.{phase_of, place_now, refl, set_past, slice_index, slice_index_or}
use Rattle.mk_caller.proofs.Below.Laws.Vocabulary.{slice_set, sym, taken, takes_cell, true, used_at, without}
use Rattle.mk_caller.proofs.Below.Laws.Vocabulary.{world_behind, [], ◌%◌, ◌*◌, ◌++◌, ◌+◌, ◌<◌, ◌==◌, ◌^◌, ◌∙◌, ◌∷◌, ◌≡◌}
use Rattle.mk_caller.proofs.{Below.Laws.Vocabulary.{◌≢◌, ◌≤◌}, Below.Laws.Tests.{or_on, without_on}}
use Rattle.mk_alloc.proofs.ObjectVocabulary.{Carving, HasCarved, IsAsLeft, IsCellReady, IsGrantedAt, IsOutOfStop}
use Rattle.mk_alloc.proofs.ObjectVocabulary.{Serving, TurnState, all_below_from, bits_made, object_at_place, steady_of}
use Rattle.mk_alloc.proofs.{MayAct.off_four, Unchanged.{HasCall, OfCaller, call_behind}}
use Rattle.mk_caller.specs.Below.Words.Sweeping.{SweepsNothing}
use Rattle.mk_core.{proofs.WordBits.{bits_added}, specs.Allocations.{type_made}}

-- The pages of a place on their way.

pub record IsCarvedTo (was now : TurnState) (place : Place) (n : ℕ) : Type 0 where
  pub carved : HasCarved was.pass place n now.pass
  pub reached : SweepsNothing was.pass now.pass

-- What others do leaves it so.

pub place_same : (c : Config) (u v : World) (f : Flight) → v.now.seats.holding ≡ u.now.seats.holding
    → v.now.words.pages ≡ u.now.words.pages → place_now c v.now f ≡ place_now c u.now f
place_same c u v f holding pages = grind arith

pub serving_left : {c : Config} {s : Seat} {o : Object} {place : Place} {w u v : World} → Serving c s o place w u
    → IsAsLeft s u v → Serving c s o place w v
serving_left at left = grind (arith, place_same)

pub carving_left : {c : Config} {s : Seat} {o : Object} {place : Place} {w u v : World} {n : ℕ}
    → Carving c s o place w u n → IsAsLeft s u v → Carving c s o place w v n
carving_left at left = grind (arith, serving_left, or_on, without_on)

-- The first step that serves fixes the place.

pub new_placed : (c : Config) (m : Moment) (f : Flight) (place : Place) → is_undecided_new f ≡ true
    → place_now c m f ≡ Some place
    → is_used_once m.seats.holding.placing ≡ false → chosen m.seats.holding.placing (place_now c m f) ≡ Chosen place
new_placed c m f place new placed once = grind arith

pub chosen_now : (c : Config) (m : Moment) (f : Flight) (place : Place) → is_undecided_new f ≡ true
    → m.seats.holding.placing ≡ Chosen place → place_now c m f ≡ Some place
chosen_now c m f place new is = rw (new, is) refl

-- A header is stored, and no other word of the pages changes.

pub header_set : (ps : List Page) (p q : ℕ) (x : Page) → q ≢ p
    → (slice_index_or (slice_set ps p x) q free_page).header ≡ (slice_index_or ps q free_page).header
header_set ps p q x ne = ap (λ (y : Page). y.header) (get_or-set_other ps p q x free_page ne)

pub header_here : (ps : List Page) (p : ℕ) (x : Page) → p < length ps
    → (slice_index_or (slice_set ps p x) p free_page).header ≡ x.header
header_here ps p x lt = ap (λ (y : Page). y.header) (get_or-set_same ps p x free_page lt)

used_kept : (ps : List Page) (p q h : ℕ) → (slice_index_or (slice_set ps p (record {
  header = h;
  used =
      (slice_index_or ps p free_page).used;
})) q free_page).used ≡ (slice_index_or ps q free_page).used
used_kept ps p q h = elim (cases_eq q p) [
  | inl e ↦ elim (cases_lt p (length ps)) [
    | inl lt ↦
        let x : Page = record { header = h; used = (slice_index_or ps p free_page).used } in
        ap (λ i. (slice_index_or (slice_set ps p x) i free_page).used) e ∙ ap (λ (y : Page). y.used)
        (get_or-set_same ps p x free_page lt) ∙ ap (λ i. (slice_index_or ps i free_page).used) (sym e)
    | inr past ↦ ap (λ (ys : List Page). (slice_index_or ys q free_page).used) (set_past ps p _ past)
  ]
  | inr ne ↦ ap (λ (y : Page). y.used) (get_or-set_other ps p q _ free_page ne)
]

-- the next page gets its header
pub carving_more : {c : Config} {s : Seat} {o : Object} {place : Place} {w v : World} {n : ℕ}
    → Carving c s o place w v n → HasCall c v.now s → is_undecided_new (flight_of v.now s) ≡ true → IsOutOfStop v.now
    → n < pages_made o → place.page + n < c.pages → Carving c s o place w
    (world_behind c v (record { seat = s; step = Step.Head (place.page + n) (header_made o n) })) (n + 1)
carving_more {c} {s} {o} {place} {v} {n} at (OfCaller k lt) new low within room =
    let p = place.page + n in
    let call = call_behind c v.now k (Step.Head p (header_made o n)) lt in
    let there : p < length v.now.words.pages = omega (arith, at.serving.pages) in
    let placing = new_placed c v.now (flight_of v.now s) place new at.serving.placed at.serving.once in
    let u : World = world_behind c v (record { seat = s; step = Step.Head p (header_made o n) }) in
    let fixed : u.now.seats.holding.placing ≡ Chosen place = rw (off_four v.now low) placing in
    record {
      serving = record {
        call = call ∙ at.serving.call;
        object = ap (λ (f : Flight). object_made c f.op) call ∙ at.serving.object;
        steady = ap (λ (x : Steady). record x { pages = u.now.words.pages }) at.serving.steady;
        placed = chosen_now c u.now (flight_of u.now s) place (ap is_undecided_new call ∙ new) fixed;
        once = ap is_used_once fixed;
        used = used_kept v.now.words.pages p place.page (header_made o n) ∙ at.serving.used;
        pages = length-set v.now.words.pages p _ ∙ at.serving.pages;
      };
      stand = λ d le. elim (cases_eq d n) [
        | inl e ↦ ap (λ i. header_at u.now.words (place.page + i)) e ∙ header_here v.now.words.pages p _ there
            ∙ ap (λ i. header_made o i) (sym e)
        | inr ne ↦ header_set v.now.words.pages p (place.page + d) _ (λ e. ne (omega arith)) ∙ at.stand d (omega arith)
      ];
      free = λ d le lt. header_set v.now.words.pages p (place.page + d) _ (λ e. absurd (omega arith))
          ∙ at.free d (omega arith) lt;
      marked = at.marked;
    }

-- so it may come next

pub next_is : (w : Words) (first count : ℕ) (wanted : ℕ → ℕ) (n : ℕ) → n < count → header_at w (first + n) ≢ wanted n
    → ((d : ℕ) → d < n → header_at w (first + d) ≡ wanted d)
    → is_next_header w first count wanted (first + n) (wanted n) ≡ true
next_is w first count wanted n near not_yet before =
    grind (arith, and_from, le-leb, lt-ltb, ne_eqb, all_below_from, eq-eqb)

pub carving_carves : {c : Config} {s : Seat} {o : Object} {place : Place} {w v : World} {n : ℕ} → IsSized o
    → Carving c s o place w v n → n < pages_made o → carves v.now.words (object_made c (flight_of v.now s).op)
    (place_now c v.now (flight_of v.now s)) (place.page + n) (header_made o n) ≡ true
carving_carves {c} {s} {o} {place} {v} {n} sized at within =
    ap (λ (x : Object). carves v.now.words x (place_now c v.now (flight_of v.now s)) (place.page + n) (header_made o n))
    at.serving.object ∙ ap (λ (x : Option Place). carves v.now.words o x (place.page + n) (header_made o n))
    at.serving.placed ∙ and_from _ _ (next_is v.now.words place.page (pages_made o) (header_made o) n within
    (λ e. part_not_free o n (header_made o n) (made_shows o n sized within) (sym e ∙ at.free n (omega arith) within))
    at.stand) at.marked

pub ready_left : {c : Config} {s : Seat} {o : Object} {place : Place} {w u v : World} → IsCellReady c s o place w u
    → IsAsLeft s u v → IsCellReady c s o place w v
ready_left at left = grind (arith, serving_left)

pub ready_carved : {c : Config} {s : Seat} {o : Object} {place : Place} {w v : World}
    → Carving c s o place w v (pages_made o) → IsCellReady c s o place w v
ready_carved at = record { serving = at.serving; stand = at.stand }

pub ready_takes : {c : Config} {s : Seat} {o : Object} {place : Place} {w v : World} {used : ℕ}
    → IsCellReady c s o place w v → used_at w.now.words place.page ≡ used → has_bit used place.index ≡ false
    → takes_cell v.now.words (object_made c (flight_of v.now s).op) (place_now c v.now (flight_of v.now s)) place.page
    (used + 2 ^ place.index) ≡ true
ready_takes at known unused = grind (arith, and_from, eq-eqb, all_below_from)

-- and then it is.
pub record IsTakenAt (c : Config) (s : Seat) (o : Object) (place : Place) (w v : World) : Type 0 where
  pub call : flight_of v.now s ≡ flight_of w.now s
  pub object : object_made c (flight_of v.now s).op ≡ o
  pub steady : steady_of v ≡ record (steady_of w) { pages = v.now.words.pages }
  pub placing : v.now.seats.holding.placing ≡ Used place

pub taken_left : {c : Config} {s : Seat} {o : Object} {place : Place} {w u v : World} → IsTakenAt c s o place w u
    → IsAsLeft s u v → IsTakenAt c s o place w v
taken_left at left = grind arith

pub taken_behind : {c : Config} {s : Seat} {o : Object} {place : Place} {w v : World} (p value : ℕ)
    → Serving c s o place w v → HasCall c v.now s
    → IsOutOfStop v.now → IsTakenAt c s o place w (world_behind c v (record { seat = s; step = Step.Used p value }))
taken_behind {c} {s} {place} {v} p value at (OfCaller k lt) low =
    let call = call_behind c v.now k (Step.Used p value) lt in
    let u : World = world_behind c v (record { seat = s; step = Step.Used p value }) in
    record {
      call = call ∙ at.call;
      object = ap (λ (f : Flight). object_made c f.op) call ∙ at.object;
      steady = ap (λ (x : Steady). record x { pages = u.now.words.pages }) at.steady;
      placing = let took : taken v.now.seats.holding.placing (place_now c v.now (flight_of v.now s)) ≡ Used place =
          ap (λ (x : Option Place). taken v.now.seats.holding.placing x) at.placed in rw (off_four v.now low) took;
    }

-- A New after its mark, its grant and its tally.

-- `mark` before the first header: all cells of the place's first page get their marks.

marks_first : (w : Words) (o : Object) (place : Place) → phase_of w ≡ 1 → header_at w place.page ≡ 0
    → marks_place w o (Some place) place.page (bits_made o) ≡ true
marks_first w o place one free = grind (arith, and_from, eq-eqb)

pub serving_marks : {c : Config} {s : Seat} {o : Object} {place : Place} {w v : World} → Serving c s o place w v
    → phase_of v.now.words ≡ 1 → header_at v.now.words place.page ≡ 0 → marks_place v.now.words
    (object_made c (flight_of v.now s).op) (place_now c v.now (flight_of v.now s)) place.page (bits_made o) ≡ true
serving_marks at one free = grind (arith, marks_first)

all_marked : (bits : ℕ) (xs : List ℕ) (p : ℕ) → p < length xs
    → (without bits (slice_index (slice_set xs p (bit_or (slice_index xs p) bits)) p) == 0) ≡ true
all_marked bits xs p lt =
    without_on bits bits (slice_index (slice_set xs p (bit_or (slice_index xs p) bits)) p)
    (λ k h. bits_added xs p bits k lt h) (eq-eqb (without bits bits) 0 (omega (arith, and_self bits)))

pub carving_marked : {c : Config} {s : Seat} {o : Object} {place : Place} {w v : World} → Serving c s o place w v
    → HasCall c v.now s → is_undecided_new (flight_of v.now s) ≡ true → phase_of v.now.words ≡ 1
    → ((d : ℕ) → d < pages_made o → header_at v.now.words (place.page + d) ≡ 0) → 1 ≤ pages_made o
    → place.page < length v.now.words.marks → Carving c s o place w
    (world_behind c v (record { seat = s; step = Step.Mark place.page (bits_made o) })) 0
carving_marked {c} {s} {o} {place} {v} at (OfCaller k lt) new one free some room =
    let x = Step.Mark place.page (bits_made o) in
    let call = call_behind c v.now k x lt in
    let u : World = world_behind c v (record { seat = s; step = x }) in
    let zero : place.page + 0 ≡ place.page = omega arith in
    let marks = serving_marks at one (sym (ap (λ p. header_at v.now.words p) zero) ∙ free 0 (omega arith)) in
    let fixed : u.now.seats.holding.placing ≡ Chosen place = grind (arith, new_placed) in
    record {
      serving = record {
        call = call ∙ at.call;
        object = ap (λ (f : Flight). object_made c f.op) call ∙ at.object;
        steady = at.steady;
        placed = chosen_now c u.now (flight_of u.now (Caller k)) place (ap is_undecided_new call ∙ new) fixed;
        once = ap is_used_once fixed;
        used = at.used;
        pages = at.pages;
      };
      stand = λ d lt. absurd (omega arith);
      free = λ d le lt. free d lt;
      marked = or_right (not (is_phase u.now.words 1)) _ (all_marked (bits_made o) v.now.words.marks place.page room);
    }

-- Outside of marking no mark is asked for.
pub carving_unmarked : {c : Config} {s : Seat} {o : Object} {place : Place} {w v : World} → Serving c s o place w v
    → phase_of v.now.words ≡ 0
    → ((d : ℕ) → d < pages_made o → header_at v.now.words (place.page + d) ≡ 0) → Carving c s o place w v 0
carving_unmarked at none free = grind (arith, or_left)

-- the grant, the tally, and what others do after them

pub granted_left : {c : Config} {s : Seat} {place : Place} {w u v : World} → d_of (flight_of w.now s).op < 8
    → IsGrantedAt c s place w u → IsAsLeft s u v → IsGrantedAt c s place w v
granted_left small at left = grind arith

pub granted_behind : {c : Config} {s : Seat} {o : Object} {place : Place} {w v : World} → IsTakenAt c s o place w v
    → HasCall c v.now s → ((k : ℕ) → s ≡ Caller k → 8 * k + d_of (flight_of w.now s).op < length v.now.words.registers)
    → IsGrantedAt c s place w (world_behind c v (record { seat = s; step = Step.Grant }))
granted_behind {c} {place} {w} {v} at (OfCaller k lt) room =
    let call = call_behind c v.now k Step.Grant lt in
    let f : Flight = flight_of w.now (Caller k) in
    let u : World = world_behind c v (record { seat = Caller k; step = Step.Grant }) in
    record {
      call = call ∙ ap (λ (g : Flight). record g { stage = Stage.Give }) at.call;
      placing = refl;
      steady =
          ap (λ (x : Steady). record x { allocations = u.allocations }) at.steady ∙ ap (λ n. record (steady_of w) {
            pages = v.now.words.pages;
            allocations = v.allocations ++
                record {
                  base = n;
                  ty = type_made (flight_of v.now (Caller k)).op;
                  freed = false;
                  fresh = false;
                  released = false;
                } ∷ [];
          }) (grind arith) ∙ ap (λ (g : Flight). record (steady_of w) {
            pages = v.now.words.pages;
            allocations = v.allocations ++ record {
              base = base_made (object_made c f.op) place;
              ty = type_made g.op;
              freed = false;
              fresh = false;
              released = false;
            } ∷ [];
          }) at.call ∙ ap (λ (xs : List PlacedAllocation). record (steady_of w) {
            pages = v.now.words.pages;
            allocations = xs ++ object_at_place c f place ∷ [];
          }) (ap (λ (x : Steady). x.allocations) at.steady) ∙ ap (λ n. record (steady_of w) {
            pages = v.now.words.pages;
            held = n;
            allocations = w.allocations ++ object_at_place c f place ∷ [];
          }) (sym (ap (λ (x : Steady). x.held) at.steady));
      register = λ j is. let same : k ≡ j = cc in
          let d : d_of (flight_of v.now (Caller k)).op ≡ d_of (flight_of w.now (Caller k)).op = grind arith in
          let value = address_of (granted_base c (flight_of v.now (Caller k)) v.now.seats.holding.placing) % 2 ^ 64 in
          ap (λ i. slice_index (slice_set v.now.words.registers (8 * k + d_of (flight_of v.now (Caller k)).op) value)
          (8 * i + d_of (flight_of w.now (Caller k)).op)) (sym same) ∙ ap (λ i. slice_index
          (slice_set v.now.words.registers (8 * k + i) value) (8 * k + d_of (flight_of w.now (Caller k)).op)) d
          ∙ get_or-set_same v.now.words.registers (8 * k + d_of (flight_of w.now (Caller k)).op) value 0 (room k refl)
          ∙ ap (λ n. address_of n % 2 ^ 64) (ap (λ (x : Placing). granted_base c (flight_of v.now (Caller k)) x)
          at.placing ∙ ap (λ (g : Flight). base_made (object_made c g.op) place) at.call);
    }

-- The tally of held words is set.
pub tallied_behind : {c : Config} {s : Seat} {place : Place} {w v : World} (n : ℕ) → IsGrantedAt c s place w v
    → HasCall c v.now s
    → IsGrantedAt c s place w (world_behind c v (record { seat = s; step = Step.Tally Tally.Held n }))
tallied_behind {c} {v} n at (OfCaller k lt) = record {
  call = call_behind c v.now k (Step.Tally Tally.Held n) lt ∙ at.call;
  placing = at.placing;
  steady = ap (λ (x : Steady). record x { held = n }) at.steady;
  register = at.register;
}
