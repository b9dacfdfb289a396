-- A marker that is out is in the middle of nothing.
use Rattle.mk_words.proofs.Below.Laws.Vocabulary.{Config, IsHistory, IsIdle, MarkerState, Seat, ap, arith, false}
use Rattle.mk_words.proofs.Below.Laws.Vocabulary.{is_attending, left, marker_at, marker_of, outside, subst, true, ◌∙◌}
use Rattle.mk_words.proofs.Below.Laws.{Vocabulary.◌≡◌, Known.known_left, Protocols.protocol_of}
use Rattle.mk_core.specs.MarkingConditions.{is_out}
use Rattle.mk_marker.specs.Markers.{IsMarkers, IsOut}
use Rattle.mk_words.specs.{Steps.marker_in, States.{PassState, now_of}}

nothing_is : (x : MarkerState) → is_out x.presence ≡ true → (is_attending x.presence ≡ false → IsIdle x) → x ≡ outside
nothing_is x out idle = grind arith

pub out_is_outside : (p : PassState) → IsHistory p.table.config p.seen → IsMarkers p → IsOut p → marker_in p ≡ outside
out_is_outside p h of out =
    let c : Config = p.table.config in
    let protocol = protocol_of c (left c p.seen).now (known_left c p.seen h.within_limits h.enabled) in
    let same : marker_in p ≡ marker_of (now_of p) of.number = ap (λ (s : Seat). marker_at (now_of p) s) of.seat in
    same ∙ nothing_is (marker_of (now_of p) of.number) (subst (λ (x : MarkerState). is_out x.presence ≡ true) same out)
    (protocol.idle of.number)
