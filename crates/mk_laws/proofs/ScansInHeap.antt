-- What a marker scans lies in the heap.
use Rattle.mk_laws.proofs.Vocabulary.{SeenHeader, Some, Step, Word, ℕ, and_parts, arith, behind_mlook, cell_at}
use Rattle.mk_laws.proofs.Vocabulary.{cell_ends, cell_seen, cells_under, eqb-true, false, has_next_word}
use Rattle.mk_laws.proofs.Vocabulary.{has_no_pointers, has_seen_cell, header_of, if◌then◌else◌, is_scanned, is_some}
use Rattle.mk_laws.proofs.Vocabulary.{ltb-true, marker_behind, marker_may, next_word, page_at_address, refl, same_Some}
use Rattle.mk_laws.proofs.Vocabulary.{scan_begun, scan_claimed, scan_onward, scan_page, seen_page, subst, true}
use Rattle.mk_laws.proofs.{Vocabulary.{words_under, ◌*◌, ◌+◌, ◌<◌, ◌==◌, ◌≡◌, ◌≤◌}, RunsInHeap.RunFits}
use Rattle.mk_core.proofs.PointedPages.{cell_within}
use Rattle.mk_laws.proofs.Vocabulary.{Bool, Cell, Config, Header, MarkerState as Marker, None, Option, Run, Scan}

pub record MarkerFits (c : Config) (x : Marker) : Type 0 where
  pub seen : (s : SeenHeader) → x.seen ≡ Some s → RunFits c s.page s.header
  pub page : (s : Scan) → x.scan ≡ Some s → s.page < c.pages
  pub end : (s : Scan) → x.scan ≡ Some s → s.end ≤ 64 * c.pages

pub nothing_fits : (c : Config) (x : Marker) → x.seen ≡ None → x.scan ≡ None → MarkerFits c x
nothing_fits c x no_seen no_scan = grind arith

-- a scan that is begun under a header

scan_end : (c : Config) (p i : ℕ) (h : Option Header) → p < c.pages → i < cells_under h
    → ((count : ℕ) → h ≡ Some (Run count true) → p + count ≤ c.pages)
    → 64 * p + i * words_under h + (if has_no_pointers h then 0 else words_under h) ≤ 64 * c.pages
scan_end c p i (Some (Run count true)) lt li fits =
    let room = fits count refl in
    grind arith
scan_end c p i h lt li fits = grind (arith, cell_ends)

seen_cell : (x : Option SeenHeader) (p i : ℕ) → has_seen_cell x p i ≡ true → (s : SeenHeader) → x ≡ Some s
    → (s.page ≡ p) × (i < cells_under (header_of s.header))
seen_cell x p i h s e = grind (arith, and_parts, eqb-true, ltb-true)

claimed_is : (p i marks : ℕ) (x : Option SeenHeader) (s : Scan) → scan_claimed p i marks x ≡ Some s
    → (h : SeenHeader) × (x ≡ Some h) × (s ≡ scan_begun p i h.header)
claimed_is p i marks None s e = cc
claimed_is p i marks (Some h) s e = grind arith

claims : {c : Config} (p i marks : ℕ) {x : Marker} → p < c.pages → has_seen_cell x.seen p i ≡ true → MarkerFits c x
    → MarkerFits c (record x { scan = scan_claimed p i marks x.seen })
claims {c} p i marks {x = x} lt seen h = record {
  seen = h.seen;
  page = λ s e. let k = claimed_is p i marks x.seen s e in rw k.2 lt;
  end = λ s e.
      let k = claimed_is p i marks x.seen s e in
      let at = seen_cell x.seen p i seen k.0 k.1 in
      let fits : (count : ℕ) → header_of k.0.header ≡ Some (Run count true)
      → p + count ≤ c.pages = λ count shows. rw at.0 at (h.seen k.0 k.1 count shows) in
      rw k.2 (scan_end c p i _ lt at.1 fits);
}

onwards : (P : Scan → Type 0) (o : Option Scan) → ((t : Scan) → o ≡ Some t → P (record t { next = t.next + 1 }))
    → (s : Scan) → scan_onward o ≡ Some s → P s
onwards P o k s e = grind (arith, same_Some)

loads : {c : Config} (hand : Option ℕ) {x : Marker} → MarkerFits c x
    → MarkerFits c (record x { scan = scan_onward x.scan; hand = hand })
loads {c} hand {x = x} h = record {
  seen = h.seen;
  page = onwards (λ (y : Scan). y.page < c.pages) x.scan h.page;
  end = onwards (λ (y : Scan). y.end ≤ 64 * c.pages) x.scan h.end;
}

looks : {c : Config} (n : ℕ) (w : Word) {x : Marker} → ((p : ℕ) → w ≡ Word.Head p → RunFits c p n) → MarkerFits c x
    → MarkerFits c (behind_mlook c n w x)
looks {c} n (Word.Head p) fits h = record {
  seen = λ s e. subst (λ (t : SeenHeader). RunFits c t.page t.header) (same_Some _ _ e) (fits p refl);
  page = h.page;
  end = h.end;
}
looks n _ fits h = record { seen = λ s e. cc; page = h.page; end = h.end }

-- if a marker steps that finds n
pub marker_fits_behind : {c : Config} (n : ℕ) (s : Step) {x : Marker}
    → ((p : ℕ) → s ≡ Step.Mlook (Word.Head p) → RunFits c p n) → ((p i : ℕ) → s ≡ Step.Claim p i → p < c.pages)
    → marker_may c x s ≡ true → MarkerFits c x → MarkerFits c (marker_behind c n s x)
marker_fits_behind {c} n Step.Attend looked claimed m h = nothing_fits c _ refl refl
marker_fits_behind {c} n Step.Quit looked claimed m h = nothing_fits c _ refl refl
marker_fits_behind {c} n (Step.Mlook w) {x = x} looked claimed m h = looks n w (λ p e. looked p (rw e)) h
marker_fits_behind {c} n (Step.Claim p i) {x = x} looked claimed m h =
    claims p i n (claimed p i refl) (and_parts _ _ m).1 h
marker_fits_behind {c} n Step.Mload {x = x} looked claimed m h = loads _ h
marker_fits_behind n Step.Mmark looked claimed m h = record { seen = h.seen; page = h.page; end = h.end }
marker_fits_behind n Step.Mblack looked claimed m h = record { seen = h.seen; page = λ s e. cc; end = λ s e. cc }
marker_fits_behind n _ looked claimed m h = h

-- the words that a scan and a hand reach

pub next_in_heap : (c : Config) (x : Option Scan) → has_next_word x ≡ true
    → ((s : Scan) → x ≡ Some s → s.end ≤ 64 * c.pages) → next_word x < 64 * c.pages
next_in_heap c x h fits = grind (arith, ltb-true)

pub scan_page_in_heap : (c : Config) (x : Option Scan) → is_scanned x ≡ true
    → ((s : Scan) → x ≡ Some s → s.page < c.pages) → scan_page x < c.pages
scan_page_in_heap c x h fits = grind arith

pub seen_page_in_heap : (c : Config) (s : Option SeenHeader) (hand : Option ℕ) → is_some (cell_seen c s hand) ≡ true
    → seen_page (cell_seen c s hand) < c.pages
seen_page_in_heap c (Some s) (Some value) h =
    by (s.page == page_at_address value) (cell_at c.pages s.header value) refl h
  where
    by : (b : Bool) (cell : Option Cell) → cell_at c.pages s.header value ≡ cell
        → is_some (if b then cell else None) ≡ true → seen_page (if b then cell else None) < c.pages
    by true (Some cell) e h = (cell_within c.pages s.header value cell e).0
    by true None e h = cc
    by false cell e h = cc
seen_page_in_heap c _ _ h = cc
