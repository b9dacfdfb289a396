-- One step of a marker: what it leaves.
use Rattle.mk_words.proofs.Below.Laws.Vocabulary.{Bool, Caller, Config, Host, List, Marker, MarkerState, Moment, None}
use Rattle.mk_words.proofs.Below.Laws.Vocabulary.{Seat, Some, Step, Word, World, ℕ, ap, append_assoc, arith, bit_or}
use Rattle.mk_words.proofs.Below.Laws.Vocabulary.{cells_under, eq-eqb, found, has_bit, header_of}
use Rattle.mk_words.proofs.Below.Laws.Vocabulary.{histories_keep_lengths, if◌then◌else◌, is_attending, left, lt-ltb}
use Rattle.mk_words.proofs.Below.Laws.Vocabulary.{marker_at, marker_behind, refl, scan_begun, scan_page, slice_index}
use Rattle.mk_words.proofs.Below.Laws.Vocabulary.{slice_set, subst, sym, true, words_under, world_behind, [], ◌%◌, ◌*◌}
use Rattle.mk_words.proofs.Below.Laws.Vocabulary.{◌++◌, ◌+◌, ◌-◌, ◌<◌, ◌∙◌, ◌∷◌, ◌≡◌, ◌≤◌}
use Rattle.mk_words.proofs.{Below.Laws.Changes.marks_kind, Doing.{done_in_parts, none_own, others_are_so}}
use Rattle.mk_words.proofs.Doing.{own_or_others_in_parts}
use Rattle.mk_words.specs.Steps.{AreOwnOrOfOthers}
use Rattle.mk_core.proofs.{Conditions.meets_enabled, WordBits.{bit_for_has, bits_added}}
use Rattle.mk_core.specs.{Accesses.scan_bit, Words.bit_for, Cells.words_scanned, Frames.{Attends, OnlyGrow, ScanIsLeft}}
use Rattle.mk_core.specs.History.{own_from}
use Rattle.mk_core.specs.{Words.named_word, declared.seats.Presence.TheVariants.Attending}
use Rattle.mk_marker.specs.Steps.{ClaimsMarked, IsMarkedIn, IsOf, IsScanning, IsScanOf, Moved, MovesMarker}
use Rattle.mk_marker.specs.{Steps.words_left, Markers.{finding, attends, between_scans}}
use Rattle.mk_marker.specs.{Markers.IsBlackIn, declared.cells.MarkedCell.MarkedCell}
use Rattle.mk_words.proofs.{Made.{made, own_before}, Seats.same_self}
use Rattle.mk_words.specs.{Steps.{Marks, marker_in}, States.{Has, PassState, WordsState, event_of, now_of}}
use Rattle.mk_words.specs.Steps.{Finds, IsEnabledTo, Makes, found_by}

-- one own event
one_own : (c : Config) (s : Seat) (w : World) (x : Step) → own_from c s w (record { seat = s; step = x } ∷ [])
    ≡ finding s x (found c w.now (record { seat = s; step = x })) ∷ []
unfolding own_from
one_own c s w x = ap (λ (b : Bool). if b then finding s x
    (found c w.now (record { seat = s; step = x })) ∷ [] else []) (same_self s)

itself : (s : Seat) (seats : List Seat) (x : Step) → Has seats s
    → AreOwnOrOfOthers s seats (record { seat = s; step = x } ∷ [])
unfolding AreOwnOrOfOthers
itself s seats x has = (has ∙ sym (same_self s), tt)

-- who attends is a marker
pub attends_there : (m : Moment) (s : Seat) → is_attending (marker_at m s).presence ≡ true → Attends m s
attends_there m (Marker k) h = h
attends_there m (Caller k) h = cc
attends_there m Host h = cc

-- While a marker attends, no mark is taken back.
abbrev MarksGrow : PassState → PassState → Type 0
MarksGrow p q = attends p ≡ true → OnlyGrow (now_of p).words.marks (now_of q).words.marks

pub marks_grow : {p : PassState} {s : Step} {q : PassState} → Makes p s q → MarksGrow p q
marks_grow {p} {s} {q} makes on page k is =
    let d = made p s q makes in
    let scan : ScanIsLeft (left p.table.config p.seen) (left p.table.config (p.seen ++ makes.others)) = d.frame.scan
    (attends_there (now_of p) p.seat on) in
    subst (λ (w : World). has_bit (slice_index w.now.words.marks page) k ≡ true) (sym d.world)
    (marks_kind p.table.config (left p.table.config (p.seen ++ makes.others)).now p.seat s scan.phase d.meets page k
    (scan.marks page k is))

ruleset moves_facts = (own_before, append_assoc, own_or_others_in_parts, others_are_so, itself, done_in_parts, none_own)

pub moves : (p : PassState) (s : Step) (n : ℕ) (q : PassState) → Marks p s n q → MovesMarker p s n q
moves p s n q m = record {
  pass = m.finds.makes.pass;
  did = grind (arith, moves_facts, one_own);
  marker = m.marker;
  marks = marks_grow m.finds.makes;
}

-- Who comes in finds one of the six phases.
pub known_phase : (p : PassState) (n : ℕ) (q : PassState) → Finds p Step.Attend n q → n % 8 ≤ 5
known_phase p n q f =
    let d = made p Step.Attend q f.makes in
    subst (λ (i : ℕ). i % 8 ≤ 5) (sym f.finds) d.protocol.low

-- a look shows the word as it is then
pub look_shows : (p : PassState) (x : Word) (n : ℕ) (q : PassState) → Finds p (Step.Mlook x) n q
    → n ≡ named_word (now_of q).words x
look_shows p x n q f =
    let d = made p (Step.Mlook x) q f.makes in
    f.finds ∙ sym (ap (λ (w : World). named_word w.now.words x) d.world)

-- a step of which the number that it found isn't said
pub moved : {p : PassState} {s : Step} {q : PassState} → (m : Makes p s q)
    → marker_in q ≡ marker_behind p.table.config (found_by m) s (marker_in p) → Moved p s q
moved {p} {s} {q} m behind = (
  found_by m,
  moves p s (found_by m) q (record { finds = record { makes = m; finds = refl }; marker = behind }),
)

-- A claim of a cell that was marked finds it marked.
pub still_marked : (p : PassState) (page k n : ℕ) (q : PassState) → attends p ≡ true
    → IsMarkedIn p page k → Finds p (Step.Claim page k) n q → has_bit n k ≡ true
still_marked p page k n q on is f =
    let d = made p (Step.Claim page k) q f.makes in
    let scan = d.frame.scan (attends_there (now_of p) p.seat on) in
    ap (λ (i : ℕ). has_bit i k) f.finds ∙ scan.marks page k is

pub claimed : {p : PassState} (cell : MarkedCell) {n : ℕ} {q : PassState} → marker_in p ≡ between_scans
    (Some (record { page = cell.page; header = cell.header })) → IsMarkedIn p cell.page cell.index
    → Marks p (Step.Claim cell.page cell.index) n q → ClaimsMarked p cell q × IsScanning (marker_in q) None × IsScanOf
    (marker_in q) cell.page cell.index × (words_left (marker_in q) ≡ words_scanned (header_of cell.header))
claimed {p} cell {n = n} {q = q} at is m =
    let on : attends p ≡ true = ap (λ (x : MarkerState). is_attending x.presence) at in
    let marked = still_marked p cell.page cell.index n q on is m.finds in
    let x : MarkerState = record {
      presence = Attending;
      scan = Some (scan_begun cell.page cell.index cell.header);
      hand = None;
      seen = Some (record { page = cell.page; header = cell.header });
    } in
    let now : marker_in q ≡ x =
    m.marker ∙ ap (λ (y : MarkerState). marker_behind p.table.config n (Step.Claim cell.page cell.index) y) at
    ∙ (grind arith) in (
      record { found = n; moves = moves p (Step.Claim cell.page cell.index) n q m; marked = marked },
      record {
        scan = scan_begun cell.page cell.index cell.header;
        seen = Some (record { page = cell.page; header = cell.header });
        is = now;
        next = omega arith;
      },
      record {
        on_page = ap (λ (y : MarkerState). scan_page y.scan) now;
        bit = ap (λ (y : MarkerState). scan_bit y.scan) now;
      },
      ap (λ (y : MarkerState). words_left y) now
          ∙ begun_left (64 * cell.page + cell.index * words_under (header_of cell.header))
          (words_scanned (header_of cell.header)),
    )
  where
    begun_left : (a w : ℕ) → (a + w) - a ≡ w
    begun_left a w = omega arith

pub may_claim_seen : {w : WordsState} {p : PassState} (cell : MarkedCell) → IsOf w p
    → marker_in p ≡ between_scans (Some (record { page = cell.page; header = cell.header }))
    → cell.page < w.config.pages → cell.index < cells_under (header_of cell.header) → cell.index < 32
    → IsEnabledTo p (Step.Claim cell.page cell.index)
may_claim_seen cell of at page index few = grind (arith, lt-ltb, eq-eqb, meets_enabled)

-- after its `mblack` the cell is black
pub blackened : {p : PassState} {page k : ℕ} {q : PassState} → Makes p Step.Mblack q
    → IsScanOf (marker_in p) page k → page < p.table.config.pages → k < 64 → IsBlackIn q page k
blackened {p} {page} {k} {q} makes of lt few =
    let d = made p Step.Mblack q makes in
    let c : Config = p.table.config in
    let w : World = left c (p.seen ++ makes.others) in
    let at : scan_page (marker_at w.now p.seat).scan ≡ page = ap
    (λ (y : MarkerState). scan_page y.scan) d.frame.own.marker ∙ of.on_page in
    let bit : scan_bit (marker_at w.now p.seat).scan ≡ bit_for k = ap
    (λ (y : MarkerState). scan_bit y.scan) d.frame.own.marker ∙ of.bit in
    let len = histories_keep_lengths c (p.seen ++ makes.others) in
    let there : has_bit (slice_index (slice_set w.now.words.blacks page
    (bit_or (slice_index w.now.words.blacks page) (bit_for k))) page) k ≡ true =
    bits_added w.now.words.blacks page (bit_for k) k (omega (arith, len.blacks, lt)) (bit_for_has k few) in
    let black : has_bit (slice_index (world_behind c w (event_of p Step.Mblack)).now.words.blacks page) k ≡ true =
    grind arith in
    subst (λ (v : World). has_bit (slice_index v.now.words.blacks page) k ≡ true) (sym d.world) black
