-- The field of bytes, and the field of 128 elements modulo x^7 + x^3 + 1: the tests, computed.
use Rattle.std.proofs.Common.{lit≤}
use Rattle.coding_theory.specs.Galois.{bit, carryless, remainder, times, raised, galois, bytes}
use Rattle.coding_theory.specs.Field.{Lawful}
use Rattle.coding_theory.proofs.Tests.{walk, index}
use Rattle.coding_theory.proofs.Product.{Sound}
use Rattle.coding_theory.proofs.Operations.{field_laws}

pub sound_256 : Sound 8 285
unfolding bit carryless remainder times raised walk index
sound_256 = record { low = tt; closed = tt; commuted = tt; unit = tt; associated = tt; cycle = tt; some = tt; once = tt }

pub bytes_lawful : Lawful bytes
bytes_lawful = field_laws 8 285 (lit≤ tt) sound_256

pub sound_128 : Sound 7 137
unfolding bit carryless remainder times raised walk index
sound_128 = record { low = tt; closed = tt; commuted = tt; unit = tt; associated = tt; cycle = tt; some = tt; once = tt }

pub seven_bits_lawful : Lawful (galois 7 137)
seven_bits_lawful = field_laws 7 137 (lit≤ tt) sound_128
