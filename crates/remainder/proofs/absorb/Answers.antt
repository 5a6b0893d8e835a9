use Rattle.std.proofs.Common.{◌*◌, ◌%◌, ◌^◌, ap}
use lib.Bits.{bit_xor}
use Rattle.remainder.specs.Register.{absorbed, rows_after}
use Rattle.remainder.proofs.absorb.Goals as goal

pub returns : goal.returns
unfolding absorbed rows_after
returns c = ap (bit_xor (c.args.state * 2 ^ 8 % 2 ^ 128)) c.multiple.ensures
