use Rattle.std.proofs.Common.{refl, arith}
use Rattle.coding_theory.specs.Galois.{bit, carryless, remainder, times, raised, among, add, mul, inv, pow}
use Rattle.coding_theory.specs.Register.{checks}
use Rattle.framing.specs.Mask.{seed, longer, before, mask_bit, number, mask_byte, masked}
use Rattle.framing.specs.Words.{coded}
use Rattle.symbols.specs.Bits.{bits}
use Rattle.link_theory.specs.Worked.{eight_ones}
use Rattle.link_theory.proofs.Examples.{eight_changed, near_zeros, zeros_never_sync, example_sound}
use Rattle.link_theory.proofs.laws.worked_facts.Goals as goal

pub returns : goal.returns
unfolding bit carryless remainder times raised among add mul inv pow checks seed longer before mask_bit number mask_byte masked coded bits
returns c = record {
  power = refl;
  inverse = refl;
  first_check = refl;
  last_check = refl;
  near = near_zeros eight_ones (omega (arith, eight_changed));
  changed = eight_changed;
  no_sync = zeros_never_sync eight_ones refl (omega (arith, eight_changed));
  never_sync = zeros_never_sync;
  mask_begins = (refl, refl, refl, refl);
  mask_ends = λ x. refl;
  slot_one = refl;
  slot_eleven = refl;
  slot_twelve = refl;
  delayed_zero = refl;
  delayed_eleven = refl;
  sound = example_sound;
  symbols = (refl, refl, refl);
}
