use Rattle.std.proofs.Common.{replicate, refl}
use Rattle.delay_line.specs.Cells.{branch_of}
use Rattle.delay_line.proofs.Branches.{branched_zeros}
use Rattle.delay_line.proofs.interleaver.Interleaver.new.Goals as goal

pub returns : goal.returns
returns c = record { delays = refl; span = refl; empty = branched_zeros (branch_of c.args.direction) (replicate 12 0) 0 }
