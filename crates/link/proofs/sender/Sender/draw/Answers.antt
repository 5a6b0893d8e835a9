use Rattle.link_theory.proofs.Symbols.{symbols_of_packets}
use Rattle.link.proofs.sender.Sender.draw.Goals as goal

pub returns : goal.returns
returns g c = record { done = c.next_symbol.ensures.done; symbols = symbols_of_packets }
