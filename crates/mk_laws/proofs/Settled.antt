-- What a laid out world says of its allocations; while nothing is on its way, its pages stand for the unreleased
-- storage.
use Rattle.mk_laws.proofs.Vocabulary.{Cell, Claim, Config, Granted, IsSettled, IsWithinLimits, LayoutStands, None}
use Rattle.mk_laws.proofs.Vocabulary.{NoPlot, Option, Placing, RunPages, Some, Unplaced, Words, World, and_parts, ap}
use Rattle.mk_laws.proofs.Vocabulary.{append-nil, claim_of, claims_of, claims_placed, false, ground_of, has_place}
use Rattle.mk_laws.proofs.Vocabulary.{histories_keep_lengths, is_run_gone, is_run_unmapped, left, length, object_now}
use Rattle.mk_laws.proofs.{Vocabulary.{placed_at, plot_of, refl, sym, true, ◌++◌, ◌∙◌, ◌≡◌}, Basics.{Laid, all_stand}}
use Rattle.mk_laws.proofs.{Basics.{apart_left, claim_among, gone_terrain, own_claim}, Apart.Rests}
use Rattle.mk_laws.{proofs.{ForImages.numbers_apart, HeadersStand.pages_stand}, specs.Theorems.is_freed_unmapped}
use Rattle.mk_geom.proofs.Bridge.{same_places}
use Rattle.mk_laws.proofs.SettledLaws.{FirstFitIsThePlace, HeadersStand, UnreleasedAreApart, UnreleasedStand}

pub unreleased_stand : UnreleasedStand
unreleased_stand c es limits laid i u =
    let w : World = left c es in
    let x : Claim = claim_of c w.now.seats.holding.freed (placed_at w.allocations i) in
    let s = all_stand c _ _ w (histories_keep_lengths c es).pages laid i u in
    let shown = laid.scene.shown x (own_claim c _ (ground_of w) x (claim_among c _ w.allocations i u)) in
    record { stands = s.stands; headers = s.headers; used = shown.used }

pub unreleased_are_apart : UnreleasedAreApart
unreleased_are_apart c es laid i j u v same =
    let w : World = left c es in
    numbers_apart c w.now.seats.holding.freed w.allocations i j (apart_left _ _ laid.scene.apart) u v
    (ap (λ (x : Cell). x.page) same, ap (λ (x : Cell). x.index) same)

-- A run that is unmapped and wiped is unmapped.
pub gone_is_unmapped : (w : Words) (freed : Option RunPages) → is_run_gone w freed ≡ true
    → is_freed_unmapped w freed ≡ true
gone_is_unmapped w None gone = refl
gone_is_unmapped w (Some run) gone = (and_parts _ _ gone).0

pub unmapped_run : (w : World) → is_freed_unmapped w.now.words w.now.seats.holding.freed ≡ true → (run : RunPages)
    → w.now.seats.holding.freed ≡ Some run → is_run_unmapped w.now.words run ≡ true
unmapped_run w unmapped run is = ap (is_freed_unmapped w.now.words) (sym is) ∙ unmapped

settled_rests : {c : Config} {w : World} → IsWithinLimits c → length w.now.words.pages ≡ c.pages → LayoutStands c w
    → IsSettled w → Rests c w.now.words w.allocations
settled_rests {c} {w} limits len laid s = by w.now.seats.holding.placing refl s.placing
  where
    rested : Laid c (object_now c w.now) false w (record (ground_of w) { run = None })
    rested = gone_terrain c _ false w (unmapped_run w s.unmapped) (rw s.releasing at laid)

    rests : (placing : Placing)
        → Laid c (object_now c w.now) false w (record (ground_of w) { run = None; placing = placing })
        → plot_of (object_now c w.now) placing ≡ NoPlot
        → claims_of c None w.allocations ++ claims_placed (object_now c w.now) placing ≡ claims_of c None w.allocations
        → Rests c w.now.words w.allocations
    rests placing st plot claims =
        record { limits = limits; lengths = len; laid = rw claims at (rw plot at st.scene); cells = st.cells }

    at : (placing : Placing) → w.now.seats.holding.placing ≡ placing
        → Laid c (object_now c w.now) false w (record (ground_of w) { run = None; placing = placing })
    at placing is = rw is at rested

    by : (placing : Placing) → w.now.seats.holding.placing ≡ placing → has_place placing ≡ false
        → Rests c w.now.words w.allocations
    by Unplaced is out = rests Unplaced (at Unplaced is) refl (append-nil _)
    by Granted is out = rests Granted (at Granted is) refl (append-nil _)
    by _ is out = cc

pub headers_stand : HeadersStand
headers_stand c es limits laid s = pages_stand (settled_rests limits (histories_keep_lengths c es).pages laid s)

pub first_fit_is_the_place : FirstFitIsThePlace
first_fit_is_the_place c es o limits laid s = same_places _ _ c.resident o.words o.leaf
    (headers_stand c es limits laid s) ∙ rw (histories_keep_lengths c es).pages
