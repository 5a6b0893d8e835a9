-- The rule of the table: it is the list of the mask bytes, which antt computes whole.
use Rattle.framing.specs.Mask.{seed, longer, number}
use Rattle.framing.proofs.Sequence.{eight, octet, walk, walked}
use Rattle.framing.proofs.randomizer.mask_byte.Goals as goal

pub returns : goal.returns
unfolding seed longer number eight octet walk
returns c = walked 1503 c.args.i c.requires
