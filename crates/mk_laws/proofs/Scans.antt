-- What a marker's own step makes of its scan, its hand and the header that it has seen, in the words as they are.
use Rattle.mk_laws.proofs.Vocabulary.{Bool, Cell, Config, HeaderGoesOn, IsGuarded, MarkerStands, MarkerState as Marker}
use Rattle.mk_laws.proofs.Vocabulary.{Moment, None, Option, Presence, Scan, ScanStands, SeenHeader, Some, Words, ℕ}
use Rattle.mk_laws.proofs.Vocabulary.{and_parts, ap, arith, cases_eq, cases_lt, cell_at, cell_seen, cells_under}
use Rattle.mk_laws.proofs.Vocabulary.{eqb-true, false, has_bit, has_next_word, has_no_pointers, has_seen_cell}
use Rattle.mk_laws.proofs.Vocabulary.{header_at, header_in, header_of, if◌then◌else◌, inl, inr, is_heap_address}
use Rattle.mk_laws.proofs.Vocabulary.{is_marked, is_scanned, lt-ltb, ltb-true, nat_lt, none-some, not, page_at_address}
use Rattle.mk_laws.proofs.Vocabulary.{refl, same_Some, scan_begun, scan_claimed, scan_onward, slice_index, subst, sym}
use Rattle.mk_laws.proofs.Vocabulary.{true, true≢false, words_under, ◌*◌, ◌+◌, ◌<◌, ◌==◌, ◌∙◌, ◌≡◌, ◌≢◌, ◌≤◌, ◌⊎◌}
use Rattle.mk_core.specs.Effects.{hand_behind_look, open_hand}
use Rattle.mk_laws.proofs.{KeptGuard.goes_same, Wells.IsWell, Wells.well_guarded}

-- outside the heap a value points into nothing
outside_well : (c : Config) (w : Words) (v : ℕ) → is_heap_address c.pages v ≡ false → IsWell c w v
outside_well c w v out y is = grind (arith, none-some)

-- the scan stays, with another hand
other_hand : {c : Config} {m : Moment} {hand : Option ℕ} (new : Option ℕ) {x : Scan} → ScanStands c m hand x
    → ((n : ℕ) → IsGuarded c m n ⊎ (hand ≡ Some (slice_index m.words.heap n))
    → IsGuarded c m n ⊎ (new ≡ Some (slice_index m.words.heap n))) → ScanStands c m new x
other_hand new h over = record {
  index = h.index;
  marked = h.marked;
  start = h.start;
  next = h.next;
  end = h.end;
  passed = λ f n le lt. over n (h.passed f n le lt);
}

-- `mlook` at a header: the hand that it closes points into nothing
look_passes : (c : Config) (m : Moment) (p : ℕ) (hand : Option ℕ) (n : ℕ)
    → IsGuarded c m n ⊎ (hand ≡ Some (slice_index m.words.heap n))
    → IsGuarded c m n ⊎ (hand_behind_look c p (header_at m.words p) hand ≡ Some (slice_index m.words.heap n))
look_passes c m p hand n (inl g) = inl g
look_passes c m p None n (inr e) = absurd (none-some _ e)
look_passes c m p (Some value) n (inr e) = by _ (cell_at c.pages (header_at m.words p) value) refl refl
  where
    by : (b : Bool) (x : Option Cell) → (p == page_at_address value) ≡ b
        → cell_at c.pages (header_at m.words p) value ≡ x → IsGuarded c m n
        ⊎ (hand_behind_look c p (header_at m.words p) (Some value) ≡ Some (slice_index m.words.heap n))
    by true None at none =
        let there = ap (λ q. cell_at c.pages (header_at m.words q) value) (eqb-true p _ at) in
        let nothing : IsWell c m.words value = λ y is. absurd (none-some _ (sym none ∙ there ∙ is)) in
        inl (well_guarded c m n (rw (same_Some _ _ e) at nothing))
    by false x at is = inr (grind arith)
    by true (Some y) at is =
        inr (let k : hand_behind_look c p (header_at m.words p) (Some value) ≡ Some value = rw (at, is) in k ∙ e)

pub look_stands : (c : Config) (m : Moment) (p : ℕ) (x : Marker) → MarkerStands c m x → MarkerStands c m (record x {
  hand = hand_behind_look c p (header_at m.words p) x.hand;
  seen = Some (record { page = p; header = header_at m.words p });
})
look_stands c m p x h = record {
  scan = λ s is. other_hand _ (h.scan s is) (look_passes c m p x.hand);
  seen = λ s is. subst (λ (z : SeenHeader). HeaderGoesOn c.pages z.header (header_at m.words z.page))
      (same_Some _ _ is) (goes_same c.pages _);
}

pub unseen_stands : {c : Config} {m : Moment} {x : Marker} → MarkerStands c m x
    → MarkerStands c m (record x { seen = None })
unseen_stands h = record { scan = h.scan; seen = λ s is. absurd (none-some _ is) }

pub unscanning_stands : {c : Config} {m : Moment} {x : Marker} → MarkerStands c m x
    → MarkerStands c m (record x { scan = None })
unscanning_stands h = record { scan = λ s is. absurd (none-some _ is); seen = h.seen }

pub idle_stands : (c : Config) (m : Moment) (at : Presence)
    → MarkerStands c m (record { presence = at; scan = None; hand = None; seen = None })
idle_stands c m at = record { scan = λ s is. absurd (none-some _ is); seen = λ s is. absurd (none-some _ is) }

-- `claim`: the header that was seen goes on
begun_stands : (c : Config) (m : Moment) (hand : Option ℕ) (p k header : ℕ) → k < cells_under (header_of header)
    → has_bit (slice_index m.words.marks p) k ≡ true
    → HeaderGoesOn c.pages header (header_at m.words p) → ScanStands c m hand (scan_begun p k header)
begun_stands c m hand p k header lt is go = record {
  index = rw (go.count some) lt;
  marked = is;
  start = rw first (omega arith);
  next = omega arith;
  end = grind (arith, first, some);
  passed = λ f n le l. (let low = rw first at le in absurd (omega arith));
}
  where
    some : cells_under (header_of header) ≢ 0
    some z = omega (arith, lt, z)

    first : 64 * p + k * words_under (header_in m.words p) ≡ 64 * p + k * words_under (header_of header)
    first = rw (go.words some)

pub claim_stands : {c : Config} {m : Moment} {x : Marker} (p k : ℕ) → has_seen_cell x.seen p k ≡ true
    → MarkerStands c m x → MarkerStands c m (record x { scan = scan_claimed p k (slice_index m.words.marks p) x.seen })
claim_stands {c} {m} {x} p k own h = record { scan = λ s is. by x.seen own h.seen s is; seen = h.seen }
  where
    by : (seen : Option SeenHeader) → has_seen_cell seen p k ≡ true
        → ((q : SeenHeader) → seen ≡ Some q → HeaderGoesOn c.pages q.header (header_at m.words q.page))
        → (s : Scan) → scan_claimed p k (slice_index m.words.marks p) seen ≡ Some s → ScanStands c m x.hand s
    by None own goes s is = cc
    by (Some seen) own goes s is = marked (has_bit (slice_index m.words.marks p) k) refl is
      where
        marked : (b : Bool) → has_bit (slice_index m.words.marks p) k ≡ b
            → (if b then Some (scan_begun p k seen.header) else None) ≡ Some s → ScanStands c m x.hand s
        marked false e is = absurd (none-some _ is)
        marked true e is =
            rw (same_Some _ _ is) at (begun_stands c m x.hand p k seen.header (ltb-true k _ (and_parts _ _ own).1) e
            (rw (eqb-true seen.page p (and_parts _ _ own).0) at (goes seen refl)))

-- `mload`: the word loaded is the hand, or points into nothing
pub load_stands : {c : Config} {m : Moment} {x : Marker} (next : ℕ) → has_next_word x.scan ≡ true → x.hand ≡ None
    → ((s : Scan) → x.scan ≡ Some s → s.next ≡ next) → MarkerStands c m x
    → MarkerStands c m (record x { scan = scan_onward x.scan; hand = open_hand c (slice_index m.words.heap next) })
load_stands {c} {m} {x} next more none at h = record { scan = λ s is. by x.scan more at h.scan s is; seen = h.seen }
  where
    loaded : (n : ℕ) (b : Bool) → is_heap_address c.pages (slice_index m.words.heap n) ≡ b → IsGuarded c m n
        ⊎ ((if b then Some (slice_index m.words.heap n) else None) ≡ Some (slice_index m.words.heap n))
    loaded n true e = inr refl
    loaded n false e = inl (well_guarded c m n (outside_well c m.words _ e))

    old : (n : ℕ) → IsGuarded c m n ⊎ (x.hand ≡ Some (slice_index m.words.heap n)) → IsGuarded c m n
    old n (inl g) = g
    old n (inr e) = absurd (none-some _ (sym none ∙ e))

    onward : (z : Scan) → ScanStands c m x.hand z → z.next < z.end → z.next ≡ next
        → ScanStands c m (open_hand c (slice_index m.words.heap next)) (record z { next = z.next + 1 })
    onward z st lt is = record {
      index = st.index;
      marked = st.marked;
      start = let le = st.start in omega arith;
      next = omega arith;
      end = st.end;
      passed = λ f n le l. elim (cases_eq n z.next) [
        | inl e ↦ rw (e ∙ is) (loaded next _ refl)
        | inr ne ↦ inl (old n (st.passed f n le (omega arith)))
      ];
    }

    by : (scan : Option Scan) → has_next_word scan ≡ true → ((s : Scan) → scan ≡ Some s → s.next ≡ next)
        → ((s : Scan) → scan ≡ Some s → ScanStands c m x.hand s)
        → (s : Scan) → scan_onward scan ≡ Some s → ScanStands c m (open_hand c (slice_index m.words.heap next)) s
    by None more at st s is = absurd (none-some _ is)
    by (Some z) more at st s is =
        rw (same_Some _ _ is) at (onward z (st z refl) (ltb-true z.next z.end more) (at z refl))

-- `mmark`: what the hand points into is marked, so the hand is closed
pub mark_stands : {c : Config} {m : Moment} {x : Marker} (value : ℕ) → x.hand ≡ Some value → IsWell c m.words value
    → MarkerStands c m x → MarkerStands c m (record x { hand = None })
mark_stands {c} {m} {x} value is well h =
    record { scan = λ s at. other_hand None (h.scan s at) (λ n g. inl (by n g)); seen = h.seen }
  where
    by : (n : ℕ) → IsGuarded c m n ⊎ (x.hand ≡ Some (slice_index m.words.heap n)) → IsGuarded c m n
    by n (inl g) = g
    by n (inr e) = well_guarded c m n (rw (same_Some _ _ (sym is ∙ e)) at well)

-- the cell that was seen is the one of now
pub seen_well : {c : Config} {m : Moment} {x : Marker} (cell : Cell) (value : ℕ) → x.hand ≡ Some value
    → cell_seen c x.seen x.hand ≡ Some cell
    → MarkerStands c m x → is_marked m.words cell ≡ true → IsWell c m.words value
seen_well {c} {m} {x} cell value is at h marked =
    by x.seen (subst (λ (u : Option ℕ). cell_seen c x.seen u ≡ Some cell) is at) h.seen
  where
    by : (seen : Option SeenHeader) → cell_seen c seen (Some value) ≡ Some cell → ((q : SeenHeader) → seen ≡ Some q
        → HeaderGoesOn c.pages q.header (header_at m.words q.page)) → IsWell c m.words value
    by None at goes = absurd (none-some _ at)
    by (Some seen) at goes = here (seen.page == page_at_address value) refl at
      where
        here : (b : Bool) → (seen.page == page_at_address value) ≡ b
            → (if b then cell_at c.pages seen.header value else None) ≡ Some cell → IsWell c m.words value
        here false e at = absurd (none-some _ at)
        here true e at =
            let there : cell_at c.pages (header_at m.words (page_at_address value)) value ≡ Some cell
            = rw (eqb-true seen.page _ e) at ((goes seen refl).cell value cell at) in
            λ y is. rw (same_Some _ _ (sym there ∙ is)) at marked

-- `mblack`: the scan is at its end, and no hand is open
pub scanned_guarded : (c : Config) (m : Moment) (x : Scan) → ScanStands c m None x → is_scanned (Some x) ≡ true
    → has_no_pointers (header_in m.words x.page) ≡ false → (i : ℕ) → i < words_under (header_in m.words x.page)
    → IsGuarded c m (64 * x.page + x.index * words_under (header_in m.words x.page) + i)
scanned_guarded c m x st done f i lt = elim st.end [
  | inr e ↦ absurd (true≢false (sym e.1 ∙ f))
  | inl e ↦
      by (64 * x.page + x.index * words_under (header_in m.words x.page) + i) (st.passed f _ (omega arith)
      (omega (arith, past _ refl done, st.next, e, lt)))
]
  where
    past : (b : Bool) → nat_lt x.next x.end ≡ b → not b ≡ true → x.end ≤ x.next
    past b e h = grind (arith, cases_lt, lt-ltb)

    by : (n : ℕ) → IsGuarded c m n ⊎ (None ≡ Some (slice_index m.words.heap n)) → IsGuarded c m n
    by n (inl g) = g
    by n (inr e) = absurd (none-some _ e)
