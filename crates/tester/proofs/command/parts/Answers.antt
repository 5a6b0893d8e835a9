use Rattle.std.proofs.Common.{arith, not}
use Rattle.std.proofs.lemmas.Grind.{common_steps}
use Rattle.std.proofs.lemmas.List.Sums.{prefix_len-le-length}
use Rattle.tester.specs.Commands.{is_space}
use Rattle.tester.proofs.command.parts.Goals as goal

pub returns-in-None-clause-space : goal.returns-in-None-clause-space
returns-in-None-clause-space c = grind (arith, common_steps, prefix_len-le-length (λ x. not (is_space x)) c.args.line.now)
