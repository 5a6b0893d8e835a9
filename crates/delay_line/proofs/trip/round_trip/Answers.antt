use Rattle.std.proofs.Common.{ap, ◌∙◌}
use Rattle.delay_line.specs.Line.{carried, fresh_line}
use Rattle.delay_line.proofs.Runs.{trip_delayed}
use Rattle.delay_line.proofs.trip.round_trip.Goals as goal

pub returns : goal.returns
returns g c =
    let s = c.args.scheme.now in
    let w = g.S.Scheme.sends s in
    let v = g.S.Scheme.receives s in
    trip_delayed w v (g.S.Scheme.spans s) (g.met.S.Scheme.delays s) (g.met.S.Scheme.undoes s) c.args.bytes.now
    (c.receive.ensures.answers ∙ ap (carried v fresh_line) c.send.ensures.answers)
