use Rattle.std.proofs.Common.{◌≡◌, ap}
use Rattle.delay_line.specs.Line.{carried, fresh_line}
use Rattle.delay_line.specs.Halves.{Timing}
use Rattle.delay_line.proofs.Runs.{carried_fresh, from_made}
use Rattle.delay_line.proofs.trip.run.Goals as goal

pub returns : goal.returns
returns g c =
    let h = c.new-half.ensures in
    let w = g.D.DelayLine.delay c.args.line in
    let xs = c.args.bytes.now in
    let e : c.carry.new.bytes ≡ carried w fresh_line xs = carried_fresh xs (ap (λ (t : Timing). t.delay) h.timing) h.fresh c.carry.ensures.answers in
    record { answers = e; places = from_made w _ (g.met.D.DelayLine.delays c.args.line) xs e }
