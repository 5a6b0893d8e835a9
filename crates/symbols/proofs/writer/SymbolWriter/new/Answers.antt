use Rattle.std.proofs.Common.{Bool, List, replicate, refl, ap}
use Rattle.symbols.specs.Models.{outgoing_of}
use Rattle.symbols.proofs.Writing.{none_undrawn}
use Rattle.symbols.proofs.writer.SymbolWriter.new.Goals as goal

pub returns : goal.returns
unfolding outgoing_of
returns c = ap (λ (l : List Bool). record { mapping = c.args.mapping; outgoing = record { undrawn = l; turn = 0 } }) (none_undrawn (replicate 205 0) refl)
