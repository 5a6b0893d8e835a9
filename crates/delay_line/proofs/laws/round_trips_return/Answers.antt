use Rattle.delay_line.proofs.OneToOne.{receiving_delays}
use Rattle.delay_line.proofs.Runs.{round_trip}
use Rattle.delay_line.proofs.laws.round_trips_return.Goals as goal

pub returns : goal.returns
returns c = record { trip = round_trip; delays = receiving_delays }
