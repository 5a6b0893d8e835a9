use Rattle.delay_line.specs.InSeries.{cascade_passed, cascade_onward}
use Rattle.delay_line.proofs.cascade.CascadeDelayLine.pass.Goals as goal

pub returns-clause-answers : goal.returns-clause-answers
returns-clause-answers g c =
    let s = c.args.self.now in
    let A = g.A.DelayLine in
    let B = g.B.DelayLine in
    cascade_passed (A.delay s.first) (B.delay s.second) _ (g.met.B.DelayLine.delays s.second) (A.pending s.first) (B.pending s.second) c.args.slot.number c.args.byte c.args.slot.within
    c.pass-between.ensures.answers c.pass.ensures.answers

pub returns-clause-goes : goal.returns-clause-goes
returns-clause-goes g c =
    let a = c.pass-between.ensures in
    let b = c.pass.ensures in
    let s = c.args.self.now in
    let A = g.A.DelayLine in
    let B = g.B.DelayLine in
    cascade_onward (A.delay s.first) (B.delay s.second) _ (g.met.B.DelayLine.delays s.second) (A.pending s.first) (B.pending s.second) (A.pending c.pass-between.new.self) (B.pending c.pass.new.self) c.args.slot.number c.args.byte c.args.slot.within
    a.answers b.same a.goes b.goes
