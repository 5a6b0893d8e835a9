use Rattle.std.proofs.Common.{◌≡◌, ℕ, ◌<◌, Bool, true, false, List, ◌++◌, length, cond, sym, subst, arith}
use Rattle.std.proofs.lemmas.List.{length-append}
use Rattle.symbols.specs.Bits.{octets}
use Rattle.symbols.specs.Models.{WithinLine}
use Rattle.symbols.specs.Stages.{Outgoing}
use Rattle.symbols.proofs.Octets.{length_octets}
use Rattle.symbols.specs.declared.mapping.Mapping.{Mapping}
use Rattle.link.proofs.sender.Sender.accept.Goals as goal

-- a frame behind fewer than eight bits, accepted or not, leaves the writer within its line
appended : (b : Bool) (m : Mapping) (frame : List ℕ) (o : Outgoing) → length frame ≡ 204 → length o.undrawn < 8 → o.turn < 4
    → WithinLine (record { mapping = m; outgoing = cond b (record { undrawn = o.undrawn ++ octets frame; turn = o.turn }) o })
appended true m frame o e few turn = (omega (arith, length-append o.undrawn (octets frame), length_octets frame, e, few), turn)
appended false m frame o e few turn = (omega (arith, few), turn)

pub invariant_of-self : goal.invariant_of-self
invariant_of-self g c =
    let w = c.args.self.now.writer in
    record {
      within = subst WithinLine (sym c.append.ensures.writer)
          (appended _ w.mapping _ w.outgoing (omega arith) (omega (arith, c.requires, w.mapping.known.1)) c.args.self.now.within.1);
    }
