-- The corrector's refusals.
use Rattle.std.specs.Prelude.{ℕ}
use Rattle.reed_solomon.specs.declared.refusal.CodeFault.{CodeFault}
use Rattle.reed_solomon.specs.declared.refusal.CodeRefusal.{CodeRefusal}
use Rattle.reed_solomon.specs.declared.refusal.CodeRefusal.TheVariants.{Length, Fault}

-- no code word within eight bytes: number 11, frame 0, layer 1
abbrev pub no_word : CodeFault
no_word = record { number = 11; frame = 0; layer = 1 }

-- the number of a refusal
abbrev pub number_of : CodeRefusal → ℕ
number_of Length = 14
number_of (Fault f) = f.number
