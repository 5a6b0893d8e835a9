use Rattle.std.proofs.Common.{◌<◌, sym, subst, arith}
use Rattle.symbols.specs.Models.{Writer, outgoing_of}
use Rattle.symbols.proofs.Writing.{undrawn_of}
use Rattle.symbols.proofs.writer.SymbolWriter.undrawn_bits.Goals as goal

pub returns : goal.returns
unfolding outgoing_of
returns c =
    let w = c.self.inside in
    let left = undrawn_of w c.args.self.now c.self.invariant.0 c.self.view_is in
    record {
      value = sym left;
      within = (omega (arith, left), subst (λ (v : Writer). v.outgoing.turn < 4) c.self.view_is c.self.invariant.2);
    }
