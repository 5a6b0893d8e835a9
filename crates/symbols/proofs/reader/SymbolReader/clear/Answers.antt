use Rattle.std.proofs.Common.{refl}
use Rattle.symbols.specs.Bits.{bits}
use Rattle.symbols.specs.Models.{incoming_of}
use Rattle.symbols.proofs.reader.SymbolReader.clear.Goals as goal

pub returns : goal.returns
unfolding incoming_of bits
returns c = rw (← c.self.view_is) refl
