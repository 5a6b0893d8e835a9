use Rattle.framing.proofs.Masking.{Upto}
use Rattle.framing.proofs.randomizer.combine.Given as goal

abbrev pub invariant-loop-b : goal.invariant-loop-b
invariant-loop-b l = Upto l.position l.b l.initial.packet l.packet
