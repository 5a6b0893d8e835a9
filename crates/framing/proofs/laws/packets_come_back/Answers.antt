use Rattle.framing.proofs.Coding.{coded_is_encoded}
use Rattle.framing.proofs.Masking.{read_back}
use Rattle.framing.proofs.laws.packets_come_back.Goals as goal

pub returns : goal.returns
returns c = record { back = read_back; coded = coded_is_encoded }
