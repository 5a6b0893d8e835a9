use Rattle.link_theory.proofs.Symbols.{symbols_of_packets, packets_have_line}
use Rattle.link_theory.proofs.laws.symbols_of_packets.Goals as goal

pub returns : goal.returns
returns c = record { symbols = symbols_of_packets; line = packets_have_line }
