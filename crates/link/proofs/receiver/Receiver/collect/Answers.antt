use Rattle.delay_line.specs.InSeries.{series_delays, series_undoes}
use Rattle.delay_line.proofs.Runs.{cascade_carries}
use Rattle.framing.proofs.Mending.{misaligned_unread}
use Rattle.link_theory.proofs.Delivers.{delivers}
use Rattle.link.proofs.receiver.Receiver.collect.Goals as goal

pub returns : goal.returns
returns g c =
    let h = c.spend.ensures in
    record {
      done = h.done;
      buffer = h.buffer;
      delivery = delivers;
      composition = (cascade_carries, series_delays, series_undoes);
      misalignment = misaligned_unread;
    }
