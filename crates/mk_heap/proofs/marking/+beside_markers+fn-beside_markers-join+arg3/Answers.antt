use Rattle.std.proofs.Common.{rules}
use Rattle.mk_alloc.proofs.Below.Laws.Vocabulary.{arith, subst, sym, ℕ, ◌+◌, ◌-◌, ◌<◌, ◌∙◌, ◌≡◌}
use Rattle.mk_heap.proofs.Crews.{first_marker, joins_more, joins_none, marker_made}
use Rattle.mk_heap.specs.Hosts.{HasMade, IsMarkersPass, HostState}
use Rattle.mk_heap.proofs.marking.+beside_markers+fn-beside_markers-join+arg3.Goals as goal

-- All markers are made.
pub returns-then-number-markers : goal.returns-then-number-markers
returns-then-number-markers g t c =
    let w = c.args.heap.now in
    let all : c.args.number ≡ c.args.markers = search rules in
    let out = c.requires.keeps c.args.host _
    (subst (λ (n : ℕ). HasMade w n 0 c.args.host) all c.requires.host) c.work-host.ensures in
    record {
      made = c.args.host;
      has_made = subst (λ (n : ℕ). HasMade w n 0 c.args.host) (all ∙ c.requires.markers) c.requires.host;
      ended = c.work-host.result.0;
      does = c.work-host.ensures;
      joins =
          joins_none c.args.number (omega (arith, all, c.requires.markers, out.markers)) c.is_in_order.ensures.history;
    }

pub join-pass-requires-after_bounds : goal.join-pass-requires-after_bounds
join-pass-requires-after_bounds g t c κs within =
    let w = c.args.heap.now in
    let number = c.args.number in
    let new = c.marker.new.self in
    let other : number ≡ c.args.markers → ⊥ = search rules in
    let more : number < c.args.markers = omega (arith, other, c.requires.number) in
    let few : number < 8 = omega (arith, more, c.requires.few) in
    let pass : IsMarkersPass w number c.finish-pass.result = grind (arith, first_marker) in
    let made : HasMade w (number + 1) 0 new =
    subst (λ (h : HostState). HasMade w (number + 1) 0 h) (sym c.marker.ensures.host) (marker_made c.requires.host) in
    let fewer : c.args.markers - (number + 1) < t = omega (arith, more, c.decreases) in
    search rules

pub returns : goal.returns
returns g t c =
    let pass : IsMarkersPass c.args.heap.now c.args.number c.join-pass.result.0 = c.join-pass.ensures.first in
    let ran = c.join-pass.ensures.second in
    record {
      made = ran.made;
      has_made = ran.has_made;
      ended = ran.ended;
      does = ran.does;
      joins = joins_more c.join-pass.result.0 ran.joins c.join_marker.ensures pass.alone;
    }
