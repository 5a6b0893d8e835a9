use Rattle.std.proofs.Common.{refl}
use Rattle.symbols.specs.Bits.{bits}
use Rattle.symbols.proofs.Damage.{undamaged_bytes}
use Rattle.symbols.proofs.Drawing.{decoded_is_sent}
use Rattle.symbols.proofs.LineSymbols.{closed_form}
use Rattle.symbols.proofs.Reading.{read_bytes}
use Rattle.symbols.proofs.RoundTrip.{written_is_read}
use Rattle.symbols.proofs.Tuples.{boolean_expression}
use Rattle.symbols.proofs.symbol_laws.Goals as goal

pub returns : goal.returns
unfolding bits
returns c = record {
  expression = boolean_expression;
  closed = closed_form;
  decoded = decoded_is_sent;
  bytes = read_bytes;
  read = written_is_read;
  undamaged = undamaged_bytes;
  worked = (refl, refl, refl);
}
