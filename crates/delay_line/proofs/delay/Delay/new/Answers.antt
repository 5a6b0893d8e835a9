use Rattle.std.proofs.Common.{refl, ap}
use Rattle.delay_line.specs.Cells.{always}
use Rattle.delay_line.proofs.Ringed.{ringed_zeros}
use Rattle.delay_line.proofs.delay.Delay.new.Goals as goal

pub returns : goal.returns
returns c = record { delays = ap always c.places_of.ensures.0; span = refl; empty = ringed_zeros c.places_of.result 0 }
