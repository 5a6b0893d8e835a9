use Rattle.std.proofs.Common.{get_or, ap, arith}
use lib.Bits.{bit_xor}
use Rattle.framing.proofs.Masking.{upto_one, upto_more, upto_all}
use Rattle.framing.proofs.randomizer.combine.Goals as goal

pub loop-b-init : goal.loop-b-init
loop-b-init c = upto_one c.args.position c.args.packet.now

pub loop-b-preserved : goal.loop-b-preserved
loop-b-preserved c =
    upto_more c.args.position c.loop-b.b _ c.args.packet.now c.loop-b.packet (omega arith) (omega arith) (omega arith)
    c.loop-b.invariant (ap (bit_xor (get_or c.loop-b.packet c.loop-b.b 0)) c.mask_byte.ensures)

pub returns : goal.returns
returns c =
    upto_all c.args.position c.loop-b.b c.args.packet.now c.loop-b.packet (omega arith) (omega arith) c.loop-b.invariant
