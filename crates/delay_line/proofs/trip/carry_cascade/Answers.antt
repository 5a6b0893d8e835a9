use Rattle.std.proofs.Common.{◌≡◌, sym, ap, ◌∙◌, arith}
use Rattle.delay_line.specs.Line.{carried, fresh_line, series}
use Rattle.delay_line.proofs.FreshSeries.{series_delays_fresh, series_span_fresh}
use Rattle.delay_line.proofs.Runs.{cascade_carries}
use Rattle.delay_line.proofs.trip.carry_cascade.Goals as goal

pub returns : goal.returns
returns g c =
    let r = c.new-both.ensures in
    let w = g.A.DelayLine.delay c.args.first in
    let v = g.B.DelayLine.delay c.args.second in
    let xs = c.args.bytes.now in
    let one : c.run.new.bytes ≡ carried (series w v) fresh_line xs = c.run.ensures.answers ∙ ap (λ u. carried u fresh_line xs) (series_delays_fresh r.first r.second) in
    record {
      one = one;
      lag = omega (arith, c.lag-lag.ensures, series_span_fresh r.first r.second);
      two = one ∙ sym (cascade_carries w v _ (g.met.B.DelayLine.delays c.args.second) xs);
    }
