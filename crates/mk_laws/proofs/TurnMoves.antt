-- Each step that the turn's holder takes leads to what the images allow.
use Rattle.mk_laws.proofs.Vocabulary.{Answer, Bool, Caller, CarriesOwn, Cell, Config, Flight, ImagePremises}
use Rattle.mk_laws.proofs.Vocabulary.{IsPlaceOfNone, Kind, List, Mirrors, NeverState, None, Op, Option}
use Rattle.mk_laws.proofs.Vocabulary.{PlacedAllocation, Placing, Ptr, Some, Stage, Step, Used, Word, Words, World, ℕ}
use Rattle.mk_laws.proofs.Vocabulary.{address_of, and_parts, answer_of, ap, arith, base_made, bases_of, cell_freed}
use Rattle.mk_laws.proofs.Vocabulary.{comes_next, d_of, decided, false, false≢true, flight_among, flight_of, freed_cell}
use Rattle.mk_laws.proofs.Vocabulary.{freed_where_it_stands, granted_base, granted_type, has_operands, image_scene_of}
use Rattle.mk_laws.proofs.Vocabulary.{is_freed, is_past_probe, is_put, is_run_cell, is_undecided_free, is_undecided_new}
use Rattle.mk_laws.proofs.Vocabulary.{is_used_once, kinds_of, length, map, none_freed, object_made, phase_of}
use Rattle.mk_laws.proofs.Vocabulary.{pointed_cell, progress_freed, refl, register_at, sees_double, slice_set, still}
use Rattle.mk_laws.proofs.Vocabulary.{storage_holds, subst, sym, target, true, with_new, with_register, [], ◌%◌, ◌*◌}
use Rattle.mk_laws.proofs.{Vocabulary.{◌++◌, ◌+◌, ◌<◌, ◌^◌, ◌∙◌, ◌∷◌, ◌≡◌, ◌≢◌}, Basics.{Grants, HoldsTurn, KnownWorld}}
use Rattle.mk_laws.proofs.Basics.{Leads, Move, Ready, Stands, either_leads, flight, goes_bare, operands_of, view_of}
use Rattle.mk_laws.proofs.{CallSorts.{own_registers, own_words, stays, there_is}, GrantMoves.{double_by, fills_cell}}
use Rattle.mk_laws.proofs.{GrantMoves.{free_by, place_is_zero}, FreedRuns.new_frees_none, ImagesKept.fresh_one}
use Rattle.mk_laws.proofs.Ready.{one_right}
use Rattle.mk_core.{proofs.PlacesNow.{target_is}, specs.{Allocations.type_made, Effects.progress_look}}

-- what a look at a cell that is freed already shows
record SeesFreed (w : Words) (t : Option Cell) : Type 0 where
  pub cell : Cell
  pub is : t ≡ Some cell
  pub freed : is_freed w cell ≡ true

sees_freed : (w : Words) (t : Option Cell) (x : Word) → sees_double w t x ≡ true → SeesFreed w t
sees_freed w t x h = grind (arith, and_parts)

module _ {c : Config} {w : World} {n : NeverState} (known : KnownWorld c w) (mirrors : Mirrors c w n)
    (others : ImagePremises c w) {safe : ℕ → Bool} (ready : Ready c.globals safe (image_scene_of w) n)
    (st : Stands c w.now.words w.allocations) (k : ℕ) (lt : k < c.callers) where
  pub grant_by : (s : Stage) (o : Op) (q p r l : ℕ) (placing : Placing) → flight_of w.now (Caller k) ≡ flight s o q p r
      l → comes_next s o Step.Grant ≡ true → is_used_once placing ≡ true → w.now.seats.holding.placing ≡ placing
      → HoldsTurn c (view_of w.now) (Caller k) → phase_of w.now.words ≢ 4 → has_operands c o ≡ true
      → Leads safe (image_scene_of w) n k o (record {
        registers = slice_set w.now.words.registers (8 * k + d_of o)
            (address_of (granted_base c (flight s o q p r l) placing) % 2 ^ 64);
        globals = w.now.words.globals;
        heap =
            w.now.words.heap;
        flights = slice_set w.now.seats.flights k (flight Stage.Give o q p r l);
        allocations =
            w.allocations ++ fresh_one (granted_base c (flight s o q p r l) placing) (type_made o) ∷ [];
      }) (Some Answer.Done)
  grant_by Stage.Turn (Op.New d ty full) q p r l (Used place) is next used placed hold phase operands =
      let o = object_made c (Op.New d ty full) in
      let f = flight Stage.Turn (Op.New d ty full) q p r l in
      let a = fresh_one (base_made o place) ty in
      let new : is_undecided_new (flight_of w.now (Caller k)) ≡ true = rw is in
      let typed : ty < length c.types = granted_type c w.now f refl operands in
      let taken : IsPlaceOfNone c w o place = rw is at (others.taken place k placed lt new) in
      let fills = fills_cell a known typed refl refl taken in
      let holds = (storage_holds c a known.limits typed).0 in
      let pages = known.limits.pages.1 in
      let word : address_of (base_made o place) ≡ address_of (base_made o place) % 2 ^ 64 = omega arith in
      let zero_there = place_is_zero c w n known mirrors others st
      (λ run. new_frees_none w.now k run known.now.orderly hold new) phase refl taken fills in (
        subst (λ x. Move safe (image_scene_of w) n (record {
          registers = slice_set w.now.words.registers (8 * k + d) x;
          globals = w.now.words.globals;
          heap = w.now.words.heap;
          flights = slice_set w.now.seats.flights k (flight Stage.Give (Op.New d ty full) q p r l);
          allocations = w.allocations ++ a ∷ [];
        }) (with_register (with_new n ty) k d (Ptr (length n.allocations) ty 0))) word
            (Grants k d (base_made o place) ty (flight Stage.Give (Op.New d ty full) q p r l) (record {
              there = there_is c w n known mirrors safe ready k lt;
              registers = own_registers c w n known mirrors safe ready k lt;
              was = rw is;
              bare = refl;
            }) (own_words c w n known mirrors safe ready k lt) (operands_of c (Op.New d ty full) operands).d
            (λ i li. zero_there i
            (omega (arith, subst (λ (types : List (List Kind)). i < length (kinds_of types ty)) mirrors.types li)))),
        λ more. refl,
      )
  grant_by _ _ q p r l _ is next used placed hold phase operands = cc

  pub full_by : (s : Stage) (o : Op) (q p r l : ℕ) → flight_among w.now.seats.flights k ≡ flight s o q p r l
      → comes_next s o Step.Full ≡ true → Leads safe (image_scene_of w) n k o (record
      (image_scene_of w) { flights = slice_set w.now.seats.flights k (flight Stage.Give o q p r l) }) (Some Answer.Full)
  full_by Stage.Turn (Op.New d ty full) q p r l is next = (goes_bare safe _ n k _ (rw is) refl, λ more. refl)
  full_by _ _ q p r l is next = absurd (false≢true next)

  freed_by : (s : Stage) (o : Op) (q p r l : ℕ) (cell : Cell) → flight_among w.now.seats.flights k ≡ flight s o q p r l
      → is_undecided_free (flight s o q p r l) ≡ true → pointed_cell c.pages w.now.words.pages p ≡ Some cell
      → is_freed w.now.words cell ≡ false → (is_run_cell w.now.words (Some cell) ≡ true → (j : ℕ) → j ≢ k
      → is_past_probe (flight_among w.now.seats.flights j).stage ≡ false)
      → CarriesOwn (bases_of w.allocations) n k (flight s o q p r l) → Leads safe (image_scene_of w) n k o
      (record (image_scene_of w) {
        flights = slice_set w.now.seats.flights k (flight Stage.Give o q p r l);
        allocations
            = map (freed_where_it_stands w.now.words (Some cell)) w.allocations;
      }) (Some Answer.Done)
  freed_by Stage.Turn (Op.Free p') q p r l cell is undecided points fresh quiet car =
      let f = flight Stage.Give (Op.Free p') q p r l in
      let free = free_by c w n known mirrors safe ready st others k (Op.Free p') f p cell (register_at n k p') (record {
        there = there_is c w n known mirrors safe ready k lt;
        registers = own_registers c w n known mirrors safe ready k lt;
        was = ap (λ (g : Flight). is_put g.stage) is;
        bare = refl;
      }) (mirrors.typed.registers (8 * k + p')) (ready.set.registers (8 * k + p')) (car.p refl) (car.some_p refl) points
      fresh quiet in (
        free.0,
        λ more. one_right (bases_of (map (freed_where_it_stands w.now.words (Some cell)) w.allocations) ++ more)
            Answer.Done n k (Op.Free p') (grind arith),
      )
  freed_by _ _ q p r l cell is undecided points fresh quiet car = absurd (false≢true undecided)

  twice_by : (s : Stage) (o : Op) (q p r l : ℕ) (cell : Cell) → flight_among w.now.seats.flights k ≡ flight s o q p r l
      → is_undecided_free (flight s o q p r l) ≡ true → pointed_cell c.pages w.now.words.pages p ≡ Some cell
      → is_freed w.now.words cell ≡ true → CarriesOwn (bases_of w.allocations) n k (flight s o q p r l)
      → Leads safe (image_scene_of w) n k o (record (image_scene_of w)
      { flights = slice_set w.now.seats.flights k (flight Stage.Give o q p r l) }) (Some Answer.Double)
  twice_by Stage.Turn (Op.Free p') q p r l cell is undecided points is_free car =
      let free = double_by c w n known mirrors safe ready st others k (flight Stage.Give (Op.Free p') q p r l) p cell
      (register_at n k p') (ap (λ (g : Flight). is_put g.stage) is) refl (mirrors.typed.registers (8 * k + p'))
      (ready.set.registers (8 * k + p')) (car.p refl) (car.some_p refl) points is_free in (
        free.0,
        λ more. one_right (bases_of w.allocations ++ more) Answer.Double n k (Op.Free p')
            (ap (answer_of (bases_of w.allocations ++ more)) (sym free.1)),
      )
  twice_by _ _ q p r l cell is undecided points is_free car = absurd (false≢true undecided)

  -- `quar`
  pub quar_by : (f : Flight) (p v : ℕ) (x : Option Cell) → flight_among w.now.seats.flights k ≡ f
      → cell_freed c.pages w.now.words f p v ≡ x → (is_run_cell w.now.words (target c.pages w.now.words f) ≡ true
      → (j : ℕ) → j ≢ k → is_past_probe (flight_among w.now.seats.flights j).stage ≡ false) → Leads safe
      (image_scene_of w) n k f.op (record (image_scene_of w) {
        flights = slice_set w.now.seats.flights k (progress_freed
            f x).flight;
        allocations = map (freed_where_it_stands w.now.words x) w.allocations;
      }) (progress_freed f x).answer
  quar_by f p v None is e quiet = subst (λ (xs : List PlacedAllocation). Leads safe (image_scene_of w) n k f.op
      (record (image_scene_of w) { flights = slice_set w.now.seats.flights k f; allocations = xs }) None)
      (sym (none_freed w.now.words w.allocations)) (subst (λ (g : Flight). Leads safe (image_scene_of w) n k g.op
      (record (image_scene_of w) { flights = slice_set w.now.seats.flights k g }) None) is
      (stays c w n known mirrors safe ready k (flight_among w.now.seats.flights k).op))
  quar_by f p v (Some cell) is e quiet =
      let freed = freed_cell c.pages w.now.words f p v cell e in
      freed_by f.stage f.op f.q f.p f.r f.loaded cell is freed.free freed.pointed freed.unfreed
      (λ r. quiet (ap (is_run_cell w.now.words) freed.at ∙ r))
      (subst (λ (g : Flight). CarriesOwn (bases_of w.allocations) n k g) is (ready.images.carried k))

  -- a look
  pub look_by : (f : Flight) (x : Word) → flight_among w.now.seats.flights k ≡ f
      → Leads safe (image_scene_of w) n k f.op (record (image_scene_of w) {
        flights = slice_set w.now.seats.flights k
            (progress_look c w.now.words f x).flight;
      }) (progress_look c w.now.words f x).answer
  look_by f x is = either_leads safe (image_scene_of w) n k f.op (image_scene_of w) (sees_double w.now.words
      (target c.pages w.now.words f) x) (decided f Answer.Double) (still f) (λ sees.
      let t = sees_freed w.now.words (target c.pages w.now.words f) x sees in
      let points = target_is c.pages w.now.words f t.cell t.is in
      twice_by f.stage f.op f.q f.p f.r f.loaded t.cell is points.free points.pointed t.freed
      (subst (λ (g : Flight). CarriesOwn (bases_of w.allocations) n k g) is (ready.images.carried k)))
      (λ sees. subst (λ (g : Flight). Leads safe (image_scene_of w) n k g.op
      (record (image_scene_of w) { flights = slice_set w.now.seats.flights k g }) None) is
      (stays c w n known mirrors safe ready k (flight_among w.now.seats.flights k).op))
