use Rattle.std.proofs.Common.{rules}
use Rattle.link_theory.specs.Runs.{collects}
use Rattle.link.specs.Both.{ends_of, plan_of}
use Rattle.link.proofs.LastCall.{sound, delivered_by}
use Rattle.link.proofs.both.Link.collect.Goals as goal

pub returns : goal.returns
returns g c =
    let l = c.args.self.now in
    let P = plan_of l in
    let known = l.sender.writer.mapping.known in
    record {
      done = search rules;
      delivers = λ m.
          delivered_by P (sound P (g.A.DelayLine.frames l.sender.half.line) known.0 known.1 (g.met.A.DelayLine.delays l.sender.half.line) m)
          (ends_of l) (collects c.args.buffer.now);
    }
