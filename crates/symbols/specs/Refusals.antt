-- The refusal of a mapping.
use Rattle.std.specs.Prelude.{ℕ}
use Rattle.symbols.specs.declared.refusal.MappingRefusal.{MappingRefusal}
use Rattle.symbols.specs.declared.refusal.MappingRefusal.TheVariants.{BitsPerSymbol}

-- the number of the refusal
abbrev pub number_of : MappingRefusal → ℕ
number_of BitsPerSymbol = 1
