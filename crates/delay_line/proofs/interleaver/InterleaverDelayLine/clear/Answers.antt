use Rattle.std.proofs.Common.{replicate}
use Rattle.delay_line.specs.Cells.{branch_of}
use Rattle.delay_line.proofs.Branches.{branched_zeros}
use Rattle.delay_line.proofs.interleaver.InterleaverDelayLine.clear.Goals as goal

pub returns-clause-empty : goal.returns-clause-empty
returns-clause-empty c = branched_zeros (branch_of c.args.self.now.direction) (replicate 12 0) 0
