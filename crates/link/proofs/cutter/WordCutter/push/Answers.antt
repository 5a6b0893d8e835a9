use Rattle.std.proofs.Common.{◌≡◌, ◌+◌, length, set, ap, ◌∙◌, arith}
use Rattle.std.proofs.lemmas.List.{length-take-le, length-set}
use Rattle.link_theory.specs.Receiver.{cut}
use Rattle.link.proofs.Cutting.{cut_more, cut_full}
use Rattle.link.proofs.cutter.WordCutter.push.Goals as goal

pub returns-then-self-gt0-clause-within : goal.returns-then-self-gt0-clause-within
returns-then-self-gt0-clause-within c =
    let s = c.self.inside in
    omega (arith, length-take-le s.filled s.word (omega (arith, c.self.invariant.0, c.self.invariant.1)), c.self.invariant.1)

pub returns-then-self-lt204 : goal.returns-then-self-lt204
returns-then-self-lt204 c =
    let s = c.self.inside in
    let word = set s.word s.filled c.args.byte in
    let whole : length word ≡ 204 = length-set s.word s.filled c.args.byte ∙ c.self.invariant.0 in
    record {
      cut = cut_more c.args.byte s.skip s.filled s.word c.self.invariant.0 c.if-self-gt0.false c.if-self-lt204.true ∙ ap (cut c.args.byte) c.self.view_is;
      within = omega (arith, length-take-le (s.filled + 1) word (omega (arith, whole, c.if-self-lt204.true)), c.if-self-lt204.true);
    }

pub returns : goal.returns
returns c =
    let s = c.self.inside in
    record {
      cut = cut_full c.args.byte s.skip s.filled s.word c.self.invariant.0 c.if-self-gt0.false (omega (arith, c.self.invariant.1, c.if-self-lt204.false))
          ∙ ap (cut c.args.byte) c.self.view_is;
      within = omega arith;
    }
