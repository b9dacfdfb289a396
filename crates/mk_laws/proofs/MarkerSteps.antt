-- What a marker holds is touched, and what it scans has no leaf, after each step.
use Rattle.mk_laws.proofs.Vocabulary.{Bool, Caller, Cell, Config, Host, IsIdle, Marker, MarkerStands, MarkerState}
use Rattle.mk_laws.proofs.Vocabulary.{NeverState, None, Option, PlacedAllocation, Scan, ScanStands, Seat, SeenHeader}
use Rattle.mk_laws.proofs.Vocabulary.{Some, Step, Word, World, ℕ, and_parts, ap, arith, behind_mlook, cell_at}
use Rattle.mk_laws.proofs.Vocabulary.{cell_words, cells_under, eqb-true, false, first_word, found, has_bit}
use Rattle.mk_laws.proofs.Vocabulary.{has_next_word, has_no_pointers, has_seen_cell, header_at, header_in, header_of}
use Rattle.mk_laws.proofs.Vocabulary.{if◌then◌else◌, inl, inr, is_heap_address, is_marked, is_none, ltb-true}
use Rattle.mk_laws.proofs.Vocabulary.{marker_behind, marker_of, nat_lt, next_word, none-some, page_at_address}
use Rattle.mk_laws.proofs.Vocabulary.{placed_at, refl, same_Some, scan_begun, scan_claimed, scan_onward, slice_index}
use Rattle.mk_laws.proofs.Vocabulary.{storage_of, subst, sym, true, ◌&&◌, ◌+◌, ◌<◌, ◌==◌, ◌∙◌, ◌≡◌, ◌≢◌, ◌≤◌}
use Rattle.mk_laws.proofs.{NoLeaves.{no_leaf_behind, scanned_has_none}, Precise.{HasNoLeaf, IsPrecise, MarkerIsPrecise}}
use Rattle.mk_laws.proofs.{Precise.{PointsOnlyInto, PrecisionScene, Steps, precision_scene_of}, Worlds.{IsHeld, Told}}
use Rattle.mk_laws.proofs.{Worlds.{headers, held, stands}, Basics.{WorldBehind, marker_set}, CoveredWords.has_cell}
use Rattle.mk_laws.proofs.{MarkSteps.points_behind, Guard.{EndsItsCell, cell_scanned}}
use Rattle.mk_core.specs.Effects.{hand_behind_look, open_hand}

-- A marker that is in the middle of nothing holds and has seen nothing.
pub idle_is_precise : (c : Config) (s : PrecisionScene) (T : ℕ → Type 0) (x : MarkerState) → IsIdle x
    → MarkerIsPrecise c s T x
idle_is_precise c s T x idle = grind (arith, none-some)

-- what goes on after a step of another, or of its own
pub marker_kept : (c : Config) (w : World) (n : NeverState) (seat : Seat) (x : Step) (after : NeverState)
    (T : ℕ → Type 0) (y : MarkerState) → Steps c w n seat x after T → MarkerStands c w.now y
    → MarkerIsPrecise c (precision_scene_of w) T y → MarkerIsPrecise c (precision_scene_of (WorldBehind c w seat x)) T y
marker_kept c w n seat x after T y s stand precise = record {
  hand = λ v is. points_behind c w n seat x after T v s (precise.hand v is);
  scan = λ z is lt. no_leaf_behind s
      (λ none. let known = (stand.scan z is).index in absurd (omega arith)) (precise.scan z is lt);
  seen = λ z is some scanned. no_leaf_behind s (λ none. some (sym ((stand.seen z is).count some) ∙ none))
      (precise.seen z is some scanned);
}

looks : (c : Config) (w : World) (n : NeverState) (T : ℕ → Type 0) (y : MarkerState) (x : Word) (f : ℕ) → Told c w n
    → ((p : ℕ) → x ≡ Word.Head p → f ≡ header_at w.now.words p) → MarkerIsPrecise c (precision_scene_of w) T y
    → MarkerIsPrecise c (precision_scene_of w) T (behind_mlook c f x y)
looks c w n T y (Word.Head p) f t is m = record {
  hand = λ v at. m.hand v (kept y.hand v at);
  scan = m.scan;
  seen = λ z at some scanned.
      let e : record { page = p; header = f } ≡ z = same_Some _ _ at in
      let page : p ≡ z.page = ap (λ (q : SeenHeader). q.page) e in
      let header : f ≡ z.header = ap (λ (q : SeenHeader). q.header) e in
      scanned_has_none z.page t (ap (λ q. has_no_pointers (header_in w.now.words q)) (sym page)
      ∙ ap (λ h. has_no_pointers (header_of h)) (sym (is p refl) ∙ header) ∙ scanned);
}
  where
    kept : (hand : Option ℕ) (v : ℕ) → hand_behind_look c p f hand ≡ Some v → hand ≡ Some v
    kept None v at = at
    kept (Some u) v at = by ((p == page_at_address u) && is_none (cell_at c.pages f u)) at
      where
        by : (b : Bool) → (if b then None else Some u) ≡ Some v → Some u ≡ Some v
        by true at = absurd (none-some _ at)
        by false at = at
looks c w n T y _ f t is m = record { hand = m.hand; scan = m.scan; seen = λ s e. absurd (none-some _ e) }

-- `claim`: words are scanned only under a header that shows no leaf
claim_precise : (c : Config) (w : World) (T : ℕ → Type 0) (y : MarkerState) (p k marks : ℕ)
    → has_seen_cell y.seen p k ≡ true → MarkerIsPrecise c (precision_scene_of w) T y
    → MarkerIsPrecise c (precision_scene_of w) T (record y { scan = scan_claimed p k marks y.seen })
claim_precise c w T y p k marks own m =
    record { hand = m.hand; scan = λ s is lt. by y.seen own m.seen s is lt; seen = m.seen }
  where
    by : (seen : Option SeenHeader) → has_seen_cell seen p k ≡ true
        → ((z : SeenHeader) → seen ≡ Some z → cells_under (header_of z.header) ≢ 0
        → has_no_pointers (header_of z.header) ≡ false → HasNoLeaf c (precision_scene_of w) z.page)
        → (s : Scan) → scan_claimed p k marks seen ≡ Some s → s.next < s.end → HasNoLeaf c (precision_scene_of w) s.page
    by None own none s is lt = cc
    by (Some z) own none s is lt = marked (has_bit marks k) is
      where
        parts : ((z.page == p) ≡ true) × (nat_lt k (cells_under (header_of z.header)) ≡ true)
        parts = and_parts (z.page == p) _ own

        some : cells_under (header_of z.header) ≢ 0
        some e = let within = ltb-true k _ parts.1 in absurd (omega arith)

        scanned : (b : Bool) → has_no_pointers (header_of z.header) ≡ b
            → (scan_begun p k z.header).next < (scan_begun p k z.header).end
            → has_no_pointers (header_of z.header) ≡ false
        scanned true e less =
            let end : (scan_begun p k z.header).end ≡ (scan_begun p k z.header).next + 0 = rw e in
            absurd (omega arith)
        scanned false e less = e

        marked : (b : Bool) → (if b then Some (scan_begun p k z.header) else None) ≡ Some s
            → HasNoLeaf c (precision_scene_of w) s.page
        marked x1 is = grind (arith, none-some, same_Some, precision_scene_of, eqb-true, parts, some, scanned)

-- `mload`: a word of a marked cell that isn't leaf
loaded_points : (c : Config) (w : World) (n : NeverState) (seat : Seat) (x : Step) (after : NeverState)
    (T : ℕ → Type 0) (hand : Option ℕ) (z : Scan)
    → Steps c w n seat x after T → IsPrecise c w T → ScanStands c w.now hand z → z.next < z.end
    → HasNoLeaf c (precision_scene_of w) z.page → PointsOnlyInto c w.allocations T (slice_index w.now.words.heap z.next)
loaded_points c w n seat x after T hand z s precise st less none b points =
    let low : 65536 ≤ slice_index w.now.words.heap z.next = points.1.0 in
    let o : IsHeld c w z.next = held c w n s.before s.early z.next (λ e. absurd (omega arith)) in
    let a : PlacedAllocation = placed_at w.allocations o.number in
    let same = has_cell c w s.before.all.order.runs z.page z.index z.next st.index st.start (inside st.end)
    s.before.known.limits (stands c w n s.before o.number o.unreleased) (headers c w n s.before o.number o.unreleased)
    o.word in
    let touched : T o.number = precise.marked o.number o.unreleased
    (subst (λ (y : Cell). is_marked w.now.words y ≡ true) (sym same) st.marked) in
    let leaf : (storage_of c a).leaf ≡ false =
    none.allocations o.number o.unreleased (ap (λ (y : Cell). y.page) same) in
    s.here.words o.number z.next touched (o.unreleased, leaf, o.word) b points
  where
    inside : EndsItsCell w.now.words z
        → z.next < first_word w.now.words (cell_scanned z) + cell_words w.now.words (cell_scanned z)
    inside (inl e) = omega arith
    inside (inr e) = let start = st.start in let at = e.0 in absurd (omega arith)

load_precise : (c : Config) (w : World) (n : NeverState) (seat : Seat) (x : Step) (after : NeverState) (T : ℕ
    → Type 0) (y : MarkerState) → Steps c w n seat x after T → IsPrecise c w T → MarkerStands c w.now y
    → has_next_word y.scan ≡ true → MarkerIsPrecise c (precision_scene_of w) T y → MarkerIsPrecise c (precision_scene_of
    w) T (record y { scan = scan_onward y.scan; hand = open_hand c (slice_index w.now.words.heap (next_word y.scan)) })
load_precise c w n seat x after T y s precise stand more m = record {
  hand = λ v is. opened y.scan more stand.scan m.scan v is;
  scan = λ z is less. onward y.scan m.scan z is less;
  seen = m.seen;
}
  where
    opened : (scan : Option Scan) → has_next_word scan ≡ true
        → ((z : Scan) → scan ≡ Some z → ScanStands c w.now y.hand z)
        → ((z : Scan) → scan ≡ Some z → z.next < z.end → HasNoLeaf c (precision_scene_of w) z.page) → (v : ℕ)
        → open_hand c (slice_index w.now.words.heap (next_word scan)) ≡ Some v → PointsOnlyInto c w.allocations T v
    opened None more st none v is = cc
    opened (Some z) more st none v is = by (is_heap_address c.pages (slice_index w.now.words.heap z.next)) is
      where
        by : (b : Bool) → (if b then Some (slice_index w.now.words.heap z.next) else None) ≡ Some v
            → PointsOnlyInto c w.allocations T v
        by false is = absurd (none-some _ is)
        by true is =
            let e : slice_index w.now.words.heap z.next ≡ v = same_Some _ _ is in
            let less = ltb-true z.next z.end more in
            subst (λ u. PointsOnlyInto c w.allocations T u) e
            (loaded_points c w n seat x after T y.hand z s precise (st z refl) less (none z refl less))

    onward : (scan : Option Scan) → ((z : Scan) → scan ≡ Some z → z.next < z.end
        → HasNoLeaf c (precision_scene_of w) z.page)
        → (z : Scan) → scan_onward scan ≡ Some z → z.next < z.end → HasNoLeaf c (precision_scene_of w) z.page
    onward None none z is less = absurd (none-some _ is)
    onward (Some q) none z is less =
        let e : record q { next = q.next + 1 } ≡ z = same_Some _ _ is in
        let page : q.page ≡ z.page = ap (λ (k : Scan). k.page) e in
        let next : q.next + 1 ≡ z.next = ap (λ (k : Scan). k.next) e in
        let end : q.end ≡ z.end = ap (λ (k : Scan). k.end) e in
        subst (λ k. HasNoLeaf c (precision_scene_of w) k) page (none q refl (omega arith))

-- a marker's own step, seen from before it
own_marker : (c : Config) (w : World) (n : NeverState) (k : ℕ) (x : Step) (after : NeverState) (T : ℕ → Type 0)
    → Steps c w n (Marker k) x after T → IsPrecise c w T → MarkerStands c w.now (marker_of w.now k)
    → MarkerIsPrecise c (precision_scene_of (WorldBehind c w (Marker k) x)) T
    (marker_behind c (found c w.now (record { seat = Marker k; step = x })) x (marker_of w.now k))
own_marker c w n k Step.Attend after T s precise stand =
    idle_is_precise c _ T _ (record { scan = refl; hand = refl; seen = refl })
own_marker c w n k Step.Quit after T s precise stand =
    idle_is_precise c _ T _ (record { scan = refl; hand = refl; seen = refl })
own_marker c w n k (Step.Mlook x) after T s precise stand =
    looks c w n T _ x (found c w.now (record { seat = Marker k; step = Step.Mlook x })) s.before
    (λ p e. rw e) (precise.markers k)
own_marker c w n k (Step.Claim p i) after T s precise stand =
    claim_precise c w T _ p i _ (and_parts _ _ s.meets.marker).1 (precise.markers k)
own_marker c w n k Step.Mload after T s precise stand =
    let a = and_parts _ _ s.meets.marker in
    load_precise c w n (Marker k) Step.Mload after T _ s precise stand a.0 (precise.markers k)
own_marker c w n k Step.Mmark after T s precise stand =
    let m = precise.markers k in
    record { hand = λ v is. absurd (none-some _ is); scan = m.scan; seen = m.seen }
own_marker c w n k Step.Mblack after T s precise stand =
    let m = precise.markers k in
    record { hand = m.hand; scan = λ z is. absurd (none-some _ is); seen = m.seen }
own_marker c w n k _ after T s precise stand = let kind = s.meets.kind in cc

pub markers_behind : (c : Config) (w : World) (n : NeverState) (seat : Seat) (x : Step) (after : NeverState)
    (T : ℕ → Type 0) → Steps c w n seat x after T → IsPrecise c w T
    → ((j : ℕ) → MarkerStands c w.now (marker_of w.now j)) → (j : ℕ)
    → MarkerIsPrecise c (precision_scene_of (WorldBehind c w seat x)) T (marker_of (WorldBehind c w seat x).now j)
markers_behind c w n (Caller k) x after T s precise stand j =
    marker_kept c w n (Caller k) x after T _ s (stand j) (precise.markers j)
markers_behind c w n Host x after T s precise stand j =
    marker_kept c w n Host x after T _ s (stand j) (precise.markers j)
markers_behind c w n (Marker k) x after T s precise stand j = marker_set w.now.seats.markers k j
    (marker_behind c (found c w.now (record { seat = Marker k; step = x })) x (marker_of w.now k))
    (λ (y : MarkerState). MarkerIsPrecise c (precision_scene_of (WorldBehind c w (Marker k) x)) T y) (λ lt. own_marker c
    w n k x after T s precise (stand k)) (marker_kept c w n (Marker k) x after T _ s (stand j) (precise.markers j))
