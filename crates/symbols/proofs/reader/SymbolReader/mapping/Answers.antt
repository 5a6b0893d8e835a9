use Rattle.std.proofs.Common.{◌<◌, length, ap, subst, sym}
use Rattle.symbols.specs.Models.{Reader, incoming_of}
use Rattle.symbols.proofs.Numbers.{length_bits}
use Rattle.symbols.proofs.reader.SymbolReader.mapping.Goals as goal

pub returns : goal.returns
unfolding incoming_of
returns c =
    let r = c.self.inside in
    record {
      value = ap (λ (v : Reader). v.mapping) c.self.view_is;
      within = (
        subst (λ (v : Reader). length v.incoming.bits < 8) c.self.view_is (subst (λ n. n < 8) (sym (length_bits r.count r.held)) c.self.invariant.0),
        subst (λ (v : Reader). v.incoming.turn < 4) c.self.view_is c.self.invariant.2,
      );
    }
