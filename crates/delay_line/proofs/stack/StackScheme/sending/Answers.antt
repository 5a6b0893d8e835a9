use Rattle.delay_line.proofs.FreshSeries.{fresh_as, series_delays_fresh, series_empty_fresh, series_span_fresh}
use Rattle.delay_line.proofs.stack.StackScheme.sending.Goals as goal

pub returns : goal.returns
returns g c =
    let a = fresh_as c.new.ensures.first c.sending.ensures.delays c.sending.ensures.span in
    let b = fresh_as c.new.ensures.second c.sending-2.ensures.delays c.sending-2.ensures.span in
    record { delays = series_delays_fresh a b; span = series_span_fresh a b; empty = series_empty_fresh a b }
