use Rattle.std.proofs.Common.{ℕ, ◌%◌, List, take, ap, ◌∙◌, rules}
use Rattle.framing.specs.Mask.{restored}
use Rattle.framing.specs.Mending.{mended}
use Rattle.link_theory.specs.Receiver.{Reader, outcome_of}
use Rattle.link.proofs.Placing.{placed_packet}
use Rattle.link.proofs.reader.PacketReader.read.Goals as goal

pub returns-in-Ok : goal.returns-in-Ok
returns-in-Ok c =
    let s = c.self.inside in
    let w = mended c.args.word in
    let g : ℕ = c.in-Ok.position in
    let h = c.in-Ok.ensures in
    record {
      outcome = placed_packet s.frame g c.in-Ok.count c.packet_of.result w.buffer h.within
          (c.packet_of.ensures ∙ ap (λ (z : List ℕ). restored (g % 8) (take 188 z)) h.buffer) s.group w.answer h.placed
          ∙ ap (λ (r : Reader). outcome_of r w) c.self.view_is;
      reader = search rules;
      known = search rules;
    }
