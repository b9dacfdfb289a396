-- Events of others take no header back while a marker attends, and what points well still does.
use Rattle.mk_laws.proofs.Vocabulary.{AreEnabledFrom, AreOfOthers, AreOfPages, Config, Event, GuardPremises}
use Rattle.mk_laws.proofs.Vocabulary.{GuardPremisesFrom, IsMarking, IsWithinLimits, List, Marker, Moment, Page, Seat}
use Rattle.mk_laws.proofs.Vocabulary.{Steady, Step, World, access, accessed_lengths, ap, arith, enabled_meets}
use Rattle.mk_laws.proofs.Vocabulary.{enabled_parts, false, first_world, free_page, histories_keep_lengths, left}
use Rattle.mk_laws.proofs.Vocabulary.{left_append, left_from, refl, slice_index_or, sym, word_accessed, world_behind}
use Rattle.mk_laws.proofs.{Vocabulary.{[], ◌++◌, ◌∙◌, ◌∷◌, ◌≡◌}, Basics.{Known, Meets, WorldBehind, headers_kind}}
use Rattle.mk_laws.proofs.Basics.{is_head, known_behind, known_left, wells_from}
use Rattle.mk_laws.proofs.{FoundHeaders.{head_finds, head_keeps}, ProtocolFrames.{left_after, other_seat, others_leave}}
use Rattle.mk_laws.proofs.{ProtocolFrames.still_attends, Changes.marks_kind, Wells.{is_well, well_is}}
use Rattle.mk_core.specs.Frames.{Attends, HeadersAreLeft}
use Rattle.mk_laws.proofs.Left.{OthersLeaveHeaders, OthersLeaveWells}

headers_joined : {c : Config} {w u v : World} → HeadersAreLeft c w u → HeadersAreLeft c u v → HeadersAreLeft c w v
headers_joined a b = record {
  some = λ p n. b.some p (a.some p n);
  cells = λ p x cell is. b.cells p x cell (a.cells p x cell is);
  well = λ x is. b.well x (a.well x is);
}

-- one event while a cycle marks, whoever steps
pub headers_after : {c : Config} {w : World} (seat : Seat) (x : Step) → IsWithinLimits c → Known c w.now
    → AreOfPages c.pages w.now.words → IsMarking w.now.words → GuardPremises c w
    → Meets c w.now seat x → HeadersAreLeft c w (WorldBehind c w seat x)
headers_after {c} {w} seat (Step.Head p n) limits known len early say h =
    let s = head_keeps c w.now seat p n len h (head_finds c w seat p n limits known early say h) in
    record {
      some = s.some;
      cells = λ q u cell is. (s.headers q).cell u cell is;
      well = λ u is. well_is c (WorldBehind c w seat (Step.Head p n)).now.words u
          (s.wells u (is_well c w.now.words u is));
    }
headers_after {c} {w} seat x limits known len early say h = rest x h refl
  where
    rest : (x : Step) → Meets c w.now seat x → is_head x ≡ false → HeadersAreLeft c w (WorldBehind c w seat x)
    rest x h none =
        let same = headers_kind c w.now seat x none in
        record {
          some = λ p not_free z. not_free (sym (same p) ∙ z);
          cells = λ p u cell is. rw (same p) is;
          well = λ u is. well_is c (WorldBehind c w seat x).now.words u (wells_from c w.now.words (WorldBehind c w seat
              x).now.words same (marks_kind c w.now seat x early h) u (is_well c w.now.words u is));
        }

-- While a marker attends, a cycle marks.
attended : {c : Config} {m : Moment} (s : Seat) → Known c m → Attends m s → IsMarking m.words
attended (Marker k) known a = known.orderly.attends k a
attended _ known a = absurd a

headers_from : {c : Config} (w : World) (s : Seat) (es : List Event) → IsWithinLimits c → Known c w.now
    → AreOfPages c.pages w.now.words → AreEnabledFrom c w es
    → AreOfOthers (s ∷ []) es → GuardPremisesFrom c w es → Attends w.now s → HeadersAreLeft c w (left_from c w es)
unfolding left_from AreEnabledFrom AreOfOthers GuardPremisesFrom
headers_from {c} w s [] limits known len on others say a = grind arith
headers_from {c} w s (e ∷ es) limits known len on others say a =
    let h = enabled_meets c w.now e on.0 in
    let own = (left_after c w e.seat s e.step known h (other_seat s e.seat others.0)).own in
    headers_joined (headers_after e.seat e.step limits known len (attended s known a) say.0 h)
    (headers_from (world_behind c w e) s es limits (known_behind c w.now e known on.0) (accessed_lengths c.pages
    w.now.words (word_accessed c w.now e) (access c w.now e) len) on.1 others.1 say.1 (still_attends own a))

pub others_leave_headers : OthersLeaveHeaders
others_leave_headers c es more s limits on others say a =
    let parts = enabled_parts c (first_world c) es more on in
    rw (left_append c (first_world c) es more) (headers_from (left c es) s more limits (known_left c es limits parts.0)
    (histories_keep_lengths c es) parts.1 others say a)

-- The holder's pages stay as they are, and marks only grow.
pub others_leave_wells : OthersLeaveWells
others_leave_wells c es more s limits on others holds u is =
    let turn = ((others_leave c es more s limits on others).turn holds).0 in
    well_is c (left c (es ++ more)).now.words u (wells_from c (left c es).now.words (left c (es ++ more)).now.words
    (λ p. ap (λ (ps : List Page). (slice_index_or ps p free_page).header) (ap (λ (x : Steady). x.pages) turn.steady))
    turn.marks_grow u (is_well c (left c es).now.words u is))
