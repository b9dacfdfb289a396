use Rattle.mk_marker.proofs.OutMarkers.{out_is_outside}
use Rattle.mk_marker.proofs.markers.Marker.new.Goals as goal

pub new-requires : goal.new-requires
new-requires c = record {
  out = out_is_outside c.args.pass c.is_in_order.ensures.history c.requires.marker c.requires.out;
}
