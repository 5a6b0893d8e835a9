use Rattle.coding_theory.proofs.Fields.{bytes_lawful, seven_bits_lawful}
use Rattle.coding_theory.proofs.fields_are_lawful.Goals as goal

pub returns : goal.returns
returns c = record { bytes = bytes_lawful; seven_bits = seven_bits_lawful }
