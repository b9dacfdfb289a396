use Rattle.mk_core.proofs.Conditions.{marker_meets}
use Rattle.mk_core.proofs.machine.Core.move_seat.Goals as goal

pub marker_behind-behind-requires-clause-own : goal.marker_behind-behind-requires-clause-own
marker_behind-behind-requires-clause-own c =
    marker_meets c.args.self.now.config c.args.self.now.now c.args.event c.in-Marker.marker c.requires c.in-Marker.is
