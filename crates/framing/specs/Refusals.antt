-- The word reader's faults and refusals, by case: number, frame number and layer.
use Rattle.std.specs.Prelude.{ℕ}
use Rattle.framing.specs.declared.refusal.WordFault.{WordFault}
use Rattle.framing.specs.declared.refusal.WordFault.TheVariants.{Code, Sync}
use Rattle.framing.specs.declared.refusal.WordRefusal.{WordRefusal}
use Rattle.framing.specs.declared.refusal.WordRefusal.TheVariants.{Length, Fault}
use Rattle.reed_solomon.specs.declared.refusal.CodeRefusal.{CodeRefusal}

-- the number of a fault: the corrector's own, or 12
abbrev pub fault_number : WordFault → ℕ
fault_number (Code f) = f.number
fault_number Sync = 12

-- its frame number: the word reader knows no frames
abbrev pub fault_frame : WordFault → ℕ
fault_frame (Code f) = f.frame
fault_frame Sync = 0

-- its layer: the corrector's own, or 2
abbrev pub fault_layer : WordFault → ℕ
fault_layer (Code f) = f.layer
fault_layer Sync = 2

-- the number of a refusal
abbrev pub number_of : WordRefusal → ℕ
number_of Length = 14
number_of (Fault f) = fault_number f

-- the corrector's refusal as the word reader's, with the fault whole inside
abbrev pub lifted : CodeRefusal → WordRefusal
lifted Rattle.reed_solomon.specs.declared.refusal.CodeRefusal.TheVariants.Length = Length
lifted (Rattle.reed_solomon.specs.declared.refusal.CodeRefusal.TheVariants.Fault f) = Fault (Code f)
