-- A `head` while a cycle marks, by what it finds: headers go on, and what points well goes on doing so.
use Rattle.std.proofs.{Common.option_and_then, Math.Bool.or-true, lemmas.Nat.Bits.bit_at_ones}
use Rattle.mk_laws.proofs.Vocabulary.{AreOfPages, Bool, Cell, Config, Flight, GuardPremises, Header, HeaderGoesOn}
use Rattle.mk_laws.proofs.Vocabulary.{HeadStep, IsGuarded, IsMarking, IsSized, IsWithinLimits, ItCarves, ItEmpties}
use Rattle.mk_laws.proofs.Vocabulary.{ItUnmaps, Moment, None, Object, OfBlock, OfLater, OfLeafBlock, OfLeafRun, OfRun}
use Rattle.mk_laws.proofs.Vocabulary.{Option, Page, Place, RunPages, Seat, ShowsPart, Some, Step, Words, World, ℕ}
use Rattle.mk_laws.proofs.Vocabulary.{and_parts, ap, arith, cases_Bool, cases_eq, cell_at, cell_ends, cells_made}
use Rattle.mk_laws.proofs.Vocabulary.{cells_of, cells_under, class_known, class_made, cond-false, cond-true, eq-eqb}
use Rattle.mk_laws.proofs.Vocabulary.{eqb-true, false, fewer_bits, flight_of, free_page, get_or-set_other}
use Rattle.mk_laws.proofs.Vocabulary.{get_or-set_same, has_bit, has_operands, head_step, header_at, header_in}
use Rattle.mk_laws.proofs.Vocabulary.{header_made, header_of, header_shows, if◌then◌else◌, inl, inr, is_heap_address}
use Rattle.mk_laws.proofs.Vocabulary.{is_marked, is_marked_first, is_phase, is_small_object, is_undecided_new}
use Rattle.mk_laws.proofs.Vocabulary.{is_unmapped_header, large_cells, large_count, large_words, later_cells, le-leb}
use Rattle.mk_laws.proofs.Vocabulary.{ltb-true, made_shows, nat_le, none-some, not-true, object_made, or_cases}
use Rattle.mk_laws.proofs.Vocabulary.{page_at_address, pages_made, part_cells, part_head, part_not_free, part_words}
use Rattle.mk_laws.proofs.Vocabulary.{phase_of, placed_now, refl, slice_index, slice_index_or, slice_set, small_cells}
use Rattle.mk_laws.proofs.Vocabulary.{small_pages, small_words, subst, sym, true, true≢false, undecided_new}
use Rattle.mk_laws.proofs.Vocabulary.{unmapped_header, unmapped_is_unmapped, used_at, words_made, words_under, ◌*◌, ◌+◌}
use Rattle.mk_laws.proofs.{Vocabulary.{◌-◌, ◌<◌, ◌∙◌, ◌≡◌, ◌≢◌}, Basics.{Behind, Known, Meets, either_phase}}
use Rattle.mk_laws.proofs.{Basics.{headers_kind, is_head, new_holds}, KeptGuard.{NewCellsAreGuarded, goes_same}}
use Rattle.mk_laws.proofs.{Wells.{IsWell, bare_guarded}, Kept.{PlaceIsBare, RunHasObject}}
use Rattle.mk_geom.{proofs.ClassTable.some_cells, specs.Addresses.{cell_under, word_at_address}}
use Rattle.mk_core.{proofs.{ObjectHeaders.{same_cells, same_words}, PageSteps.Unmaps}, specs.NewPlaces.bits_made}
use Rattle.mk_core.proofs.{PointedPages.{found_under, lies_under}, ServingSteps.Carves, WordBits.without_none}

-- It finds no header on its page, marked cells and words 0; or it unmaps, which shows what was shown.
pub data HeadFinds (pages : ℕ) (w : Words) (p header : ℕ) : Type 0 where
  Carved : header_at w p ≡ 0 → ((value : ℕ) (x : Cell) → page_at_address value ≡ p → cell_at pages header value ≡ Some x
      → is_marked w x ≡ true) → ((k i : ℕ) → k < cells_under (header_of header) → i < words_under (header_of header)
      → slice_index w.heap (64 * p + k * words_under (header_of header) + i) ≡ 0) → HeadFinds pages w p header
  Unmapped : header ≢ 0 → HeaderGoesOn pages (header_at w p) header
      → ((value : ℕ) (x : Cell) → page_at_address value ≡ p → cell_at pages header value ≡ Some x
      → cell_at pages (header_at w p) value ≡ Some x)
      → (cells_under (header_in w p) ≡ 0 → cells_under (header_of header) ≡ 0) → HeadFinds pages w p header

pub free_shows : (pages v : ℕ) (y : Cell) → cell_at pages 0 v ≡ Some y → ⊥
free_shows pages v y is = grind (arith, none-some)

pub record HeadKeeps (c : Config) (m n : Moment) : Type 0 where
  pub some : (p : ℕ) → header_at m.words p ≢ 0 → header_at n.words p ≢ 0
  pub wells : (value : ℕ) → IsWell c m.words value → IsWell c n.words value
  pub headers : (p : ℕ) → HeaderGoesOn c.pages (header_at m.words p) (header_at n.words p)
  pub new : NewCellsAreGuarded c m n

pub head_keeps : (c : Config) (m : Moment) (seat : Seat) (p n : ℕ) → AreOfPages c.pages m.words
    → Meets c m seat (Step.Head p n) → HeadFinds c.pages m.words p n → HeadKeeps c m (Behind c m seat (Step.Head p n))
head_keeps c m seat p n len h finds = record {
  some = λ q not_free. elim (cases_eq q p) [
    | inl e ↦ λ z. filled finds (subst (λ j. header_at m.words j ≢ 0) e not_free) (sym (here q e) ∙ z)
    | inr ne ↦ λ z. not_free (sym (other q ne) ∙ z)
  ];
  wells = λ v is y at. elim (cases_eq (page_at_address v) p) [
    | inl e ↦ well finds v e is y (subst (λ a. cell_at c.pages a v ≡ Some y) (here (page_at_address v) e) at)
    | inr ne ↦ is y (subst (λ a. cell_at c.pages a v ≡ Some y) (other (page_at_address v) ne) at)
  ];
  headers = λ q. elim (cases_eq q p) [
    | inl e ↦ subst (HeaderGoesOn c.pages (header_at m.words q)) (sym (here q e))
        (subst (λ j. HeaderGoesOn c.pages (header_at m.words j) n) (sym e) (goes finds))
    | inr ne ↦ subst (HeaderGoesOn c.pages (header_at m.words q)) (sym (other q ne)) (goes_same _ _)
  ];
  new = λ q k i none lt li. elim (cases_eq q p) [
    | inl e ↦ made finds q k i e (subst (λ j. cells_under (header_in m.words j) ≡ 0) e none)
        (subst (λ a. k < cells_under (header_of a)) (here q e) lt)
        (subst (λ a. i < words_under (header_of a)) (here q e) li)
    | inr ne ↦ let bad : k < 0 = subst (λ a. k < a) (ap (λ a. cells_under (header_of a)) (other q ne)
        ∙ none) lt in absurd (omega arith)
  ];
}
  where
    here : (q : ℕ) → q ≡ p → header_at (Behind c m seat (Step.Head p n)).words q ≡ n
    here q e = ap (λ j. (slice_index_or (slice_set m.words.pages p (record { header = n; used = used_at m.words p })) j
        free_page).header) e ∙ ap (λ (y : Page). y.header)
        (get_or-set_same m.words.pages p (record { header = n; used = used_at m.words p }) free_page
        (omega (arith, ltb-true p c.pages h.range, len.pages)))

    other : (q : ℕ) → q ≢ p → header_at (Behind c m seat (Step.Head p n)).words q ≡ header_at m.words q
    other q ne = ap (λ (y : Page). y.header)
        (get_or-set_other m.words.pages p q (record { header = n; used = used_at m.words p }) free_page ne)

    filled : HeadFinds c.pages m.words p n → header_at m.words p ≢ 0 → n ≢ 0
    filled (Carved free marked bare) not_free z = not_free free
    filled (Unmapped some on back still) not_free z = some z

    goes : HeadFinds c.pages m.words p n → HeaderGoesOn c.pages (header_at m.words p) n
    goes (Carved free marked bare) = grind (arith, free_shows)
    goes (Unmapped some on back still) = on

    well : HeadFinds c.pages m.words p n → (v : ℕ) → page_at_address v ≡ p → IsWell c m.words v → (y : Cell)
        → cell_at c.pages n v ≡ Some y → is_marked m.words y ≡ true
    well (Carved free marked bare) v e is y at = marked v y e at
    well (Unmapped some on back still) v e is y at =
        is y (subst (λ j. cell_at c.pages (header_at m.words j) v ≡ Some y) (sym e) (back v y e at))

    made : HeadFinds c.pages m.words p n → (q k i : ℕ) → q ≡ p → cells_under (header_in m.words p) ≡ 0
        → k < cells_under (header_of n) → i < words_under (header_of n) → IsGuarded c (Behind c m seat (Step.Head p n))
        (64 * q + k * words_under (header_in (Behind c m seat (Step.Head p n)).words q) + i)
    made (Carved free marked bare) q k i e none lt li =
        let first : 64 * q + k * words_under (header_in (Behind c m seat (Step.Head p n)).words q) + i
        ≡ 64 * p + k * words_under (header_of n) + i = cc (here q e, e) in
        bare_guarded c (Behind c m seat (Step.Head p n)) _ (ap (slice_index m.words.heap) first ∙ bare k i lt li)
    made (Unmapped some on back still) q k i e none lt li = let z = still none in absurd (omega arith)

-- no other kind makes cells
pub no_new_cells : (c : Config) (m : Moment) (seat : Seat) (x : Step) → is_head x ≡ false
    → NewCellsAreGuarded c m (Behind c m seat x)
no_new_cells c m seat x no_head p k i none lt li = grind (arith, headers_kind)

-- What an address on a page of a run points into: cell 0 of its first page.

abbrev run_cell : ℕ → ℕ → Option Cell
run_cell distance page = if nat_le distance page then Some (record { page = page - distance; index = 0 }) else None

first_cell : (distance page : ℕ) → distance ≡ 0 → Some (record { page = page; index = 0 }) ≡ run_cell distance page
first_cell distance page z = grind (arith, cond-true, le-leb)

run_cell_under : {o : Object} {distance : ℕ} (page word : ℕ) {x : Option Header} → ShowsPart o distance x
    → is_small_object o ≡ false → option_and_then (λ h. cell_under h page word) x ≡ run_cell distance page
run_cell_under page word (OfBlock z small leaf) large = absurd (true≢false (sym small ∙ large))
run_cell_under page word (OfLeafBlock z small leaf) large = absurd (true≢false (sym small ∙ large))
run_cell_under {distance} page word (OfRun mapped z l leaf) large = first_cell distance page z
run_cell_under {distance} page word (OfLeafRun z l leaf) large = first_cell distance page z
run_cell_under page word (OfLater mapped some l) large = refl

run_cell_at : (pages header value : ℕ) {distance : ℕ} {o : Object} → ShowsPart o distance (header_of header)
    → is_small_object o ≡ false → cell_at pages header value
    ≡ (if is_heap_address pages value then run_cell distance (page_at_address value) else None)
run_cell_at pages header value {distance = distance} {o = o} part large =
    ap (λ (x : Option Cell). if is_heap_address pages value then x else None) (run_cell_under _ _ part large)

-- Unmapping shows what was shown.

unmapped_goes : (pages before after : ℕ) {distance : ℕ} {o : Object} → is_small_object o ≡ false
    → ShowsPart o distance (header_of before) → ShowsPart o distance (header_of after)
    → is_unmapped_header (header_of after) ≡ true → HeaderGoesOn pages before after
unmapped_goes pages before after {distance = distance} {o = o} large b a unmapped = record {
  cell = λ v y is. run_cell_at pages after v a large ∙ sym (run_cell_at pages before v b large) ∙ is;
  count = λ some. same_cells o distance _ _ a b;
  words = λ some. same_words o distance _ _ a b;
  unscanned = λ some t. rw unmapped (or-true _);
}

unmaps_find : (c : Config) {w : Words} {freed : Option RunPages} {p n : ℕ}
    → ((run : RunPages) → freed ≡ Some run → RunHasObject w run) → Unmaps w freed p n → HeadFinds c.pages w p n
unmaps_find c {w = w} {p = p} {n = n} runs u =
    let o : RunHasObject w u.run = runs u.run u.there in
    let near : p - u.run.page < u.run.count = u.next.near in
    let within : p - u.run.page < pages_made o.object = rw o.count near in
    let here : u.run.page + (p - u.run.page) ≡ p = let le = u.next.from in omega arith in
    let before : ShowsPart o.object (p - u.run.page) (header_of (header_at w p)) =
    header_shows o.object _ (header_at w p) o.sized within (rw here at (o.headers _ near)) in
    let is : n ≡ unmapped_header (pages_made o.object) (p - u.run.page) =
    u.next.is ∙ ap (λ (k : ℕ). unmapped_header k (p - u.run.page)) (sym o.count) in
    let after : ShowsPart o.object (p - u.run.page) (header_of n) =
    header_shows o.object _ n o.sized within (inr (o.large, is)) in
    let unmapped : is_unmapped_header (header_of n) ≡ true =
    rw is (unmapped_is_unmapped _ _ (large_count o.object o.sized o.large) within) in
    let distance : ℕ = p - u.run.page in
    Unmapped (part_not_free o.object distance n after) (unmapped_goes c.pages (header_at w p) n o.large before after
    unmapped) (λ v y on is. run_cell_at c.pages (header_at w p) v before o.large ∙ sym (run_cell_at c.pages n v after
    o.large) ∙ is) (λ none. same_cells o.object distance (header_of n) (header_in w p) after before ∙ none)

-- Carving: the cells that the headers make are marked first.

made_bit : (o : Object) (k : ℕ) → k < cells_made o → has_bit (bits_made o) k ≡ true
made_bit o k lt = elim (cases_Bool (is_small_object o)) [
  | inl small ↦
      let cells = small_cells o small in
      ap (λ n. has_bit n k) (cond-true _ _ 1 small) ∙ rw (bit_at_ones (cells_of (class_made o)) k (omega arith))
  | inr large ↦
      let zero : k ≡ 0 = omega (arith, large_cells o large) in
      ap (λ n. has_bit n k) (cond-false _ _ 1 large) ∙ rw zero
]

-- The cell of a value on such a page is one of the first page's.
made_cell : (pages : ℕ) (o : Object) (first distance value : ℕ) (x : Cell) → IsSized o → distance < pages_made o
    → page_at_address value ≡ first + distance
    → cell_at pages (header_made o distance) value ≡ Some x → (x.page ≡ first) × (x.index < cells_made o)
made_cell pages o first distance value x sized lt on is = (page, index)
  where
    part : ShowsPart o distance (header_of (header_made o distance))
    part = made_shows o distance sized lt

    under : (h : Header) × (header_of (header_made o distance) ≡ Some h)
        × (cell_under h (page_at_address value) (word_at_address value) ≡ Some x)
    under = found_under pages (header_made o distance) value x is

    page : x.page ≡ first
    page =
        let lies = lies_under under.0 (page_at_address value) (word_at_address value) x under.2 in
        lies.head ∙ rw (← under.1) (rw on (part_head o distance first (header_of (header_made o distance)) part))

    small_index : is_small_object o ≡ true → x.index < cells_made o
    small_index small =
        let one = small_pages o small in
        let zero : distance ≡ 0 = omega arith in
        let cells = part_cells o (header_of (header_made o distance))
        (subst (λ d. ShowsPart o d (header_of (header_made o distance))) zero part) in
        let shown : cells_under (Some under.0) ≡ cells_made o = rw (← under.1) cells in
        let class = small_cells o small in
        let some = some_cells (class_made o) (class_known o sized small).0 in
        let lies = lies_under under.0 (page_at_address value) (word_at_address value) x under.2 in
        elim lies.known [ inl none ↦ absurd (omega arith) | inr known ↦ omega arith ]

    run_index : (b d : Bool) (p : ℕ)
        → (if b then if d then Some (record { page = p; index = 0 }) else None else None) ≡ Some x → x.index ≡ 0
    run_index true true p e =
        let same : record { page = p; index = 0 } ≡ x = cc in sym (ap (λ (y : Cell). y.index) same)
    run_index _ _ p e = cc

    index : x.index < cells_made o
    index = elim (cases_Bool (is_small_object o)) [
      | inl small ↦ small_index small
      | inr large ↦
          let zero = run_index (is_heap_address pages value) (nat_le distance (page_at_address value)) _
          (sym (run_cell_at pages (header_made o distance) value part large) ∙ is) in
          omega (arith, large_cells o large)
    ]

first_marked : (w : Words) (o : Object) (place : Place) (k : ℕ) → is_phase w 1 ≡ true → is_marked_first w o place ≡ true
    → k < cells_made o → has_bit (slice_index w.marks place.page) k ≡ true
first_marked w o place k one first lt = grind (arith, or_cases, not-true, fewer_bits, without_none, eqb-true, made_bit)

-- Its words are those of its pages.
word_within : (o : Object) (k i : ℕ) → IsSized o → k < cells_made o → i < words_made o
    → k * words_made o + i < 64 * pages_made o
word_within o k i sized lk li = elim (cases_Bool (is_small_object o)) [
  | inl small ↦ grind (arith, small_cells, small_words, small_pages, cell_ends)
  | inr large ↦
      let cells = large_cells o large in
      let words = large_words o large in
      let zero : k ≡ 0 = omega arith in
      let product : k * words_made o ≡ 0 * words_made o = rw zero in
      omega arith
]

carves_find : (c : Config) {w : Words} {o : Object} {found : Option Place} {p n : ℕ} → IsSized o → is_phase w 1 ≡ true
    → ((place : Place) → found ≡ Some place → PlaceIsBare w o place) → Carves w o found p n → HeadFinds c.pages w p n
carves_find c {w = w} {o = o} {p = p} {n = n} sized one bare k = Carved free (λ v x on is.
    let cell = made_cell c.pages o k.place.page (p - k.place.page) v x sized near (on
    ∙ sym here) (subst (λ a. cell_at c.pages a v ≡ Some x) k.next.is is) in
    subst (λ q. has_bit (slice_index w.marks q) x.index ≡ true) (sym cell.0)
    (first_marked w o k.place x.index one k.marked cell.1)) (λ j i lj li. words j i
    (subst (λ a. j < cells_under (header_of a)) k.next.is lj) (subst (λ a. i < words_under (header_of a)) k.next.is li))
  where
    b : PlaceIsBare w o k.place
    b = bare k.place k.there

    near : p - k.place.page < pages_made o
    near = k.next.near

    here : k.place.page + (p - k.place.page) ≡ p
    here = let le = k.next.from in omega arith

    free : header_at w p ≡ 0
    free = elim (b.headers (p - k.place.page) near) [
      | inl z ↦ subst (λ q. header_at w q ≡ 0) here z
      | inr made ↦ absurd (k.next.not_yet (subst (λ q. header_at w q ≡ header_made o (p - k.place.page)) here made))
    ]

    words : (j i : ℕ) → j < cells_under (header_of (header_made o (p - k.place.page)))
        → i < words_under (header_of (header_made o (p - k.place.page)))
        → slice_index w.heap (64 * p + j * words_under (header_of n) + i) ≡ 0
    words j i lj li = elim (cases_eq (p - k.place.page) 0) [
      | inr ne ↦
          let none = later_cells o (p - k.place.page) (header_of (header_made o (p - k.place.page)))
          (made_shows o (p - k.place.page) sized near) (omega arith) in
          absurd (omega arith)
      | inl z ↦
          let le = k.next.from in
          let at : p ≡ k.place.page = omega arith in
          let part = subst (λ d. ShowsPart o d (header_of (header_made o (p - k.place.page)))) z
          (made_shows o (p - k.place.page) sized near) in
          let cells = part_cells o (header_of (header_made o (p - k.place.page))) part in
          let size = part_words o (header_of (header_made o (p - k.place.page))) part in
          let shown : words_under (header_of n) ≡ words_made o = ap (λ a. words_under (header_of a)) k.next.is ∙ size in
          let within = word_within o j i sized (omega arith) (omega arith) in
          let product : j * words_under (header_of n) ≡ j * words_made o = ap (λ a. j * a) shown in
          let first : 64 * p + j * words_under (header_of n) + i ≡ 64 * k.place.page + (j * words_made o + i) =
          omega arith in
          ap (slice_index w.heap) first ∙ b.words (subst (λ q. header_at w q ≡ 0) at free) (j * words_made o + i) within
    ]

-- The object of an undecided New has 1 to 4,096 words.
new_sized : {c : Config} (f : Flight) → IsWithinLimits c → has_operands c f.op ≡ true → is_undecided_new f ≡ true
    → IsSized (object_made c f.op)
new_sized f limits operands new = grind (arith, undecided_new, ltb-true, and_parts)

pub head_finds : (c : Config) (w : World) (seat : Seat) (p n : ℕ) → IsWithinLimits c → Known c w.now
    → IsMarking w.now.words → GuardPremises c w → Meets c w.now seat (Step.Head p n) → HeadFinds c.pages w.now.words p n
head_finds c w seat p n limits known early say h = by (head_step c w.now (flight_of w.now seat) p n h.holder)
  where
    one : phase_of w.now.words ≡ 1
    one = grind (arith, or_cases, either_phase, eqb-true)

    by : HeadStep c w.now (flight_of w.now seat) p n → HeadFinds c.pages w.now.words p n
    by (ItCarves four k) =
        let new = (placed_now c w.now (flight_of w.now seat) k.place k.there).new in
        let own = new_holds c w.now seat (Step.Head p n) h new in
        let sized = new_sized (flight_of w.now seat) limits (rw own.2 (known.operands own.0)) new in
        carves_find c sized (eq-eqb _ 1 one) (say.place early seat) k
    by (ItUnmaps four u) = unmaps_find c (say.freed early) u
    by (ItEmpties four k) = let e = eqb-true _ 4 four in absurd (omega arith)
