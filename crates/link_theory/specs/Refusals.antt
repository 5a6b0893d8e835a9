-- The refusals and faults of sender and receiver, by case: number, frame number and layer.
use Rattle.std.specs.Prelude.{ℕ}
use Rattle.framing.specs.Refusals.{fault_layer, number_of}
use Rattle.framing.specs.declared.refusal.WordRefusal.{WordRefusal}
use Rattle.link_theory.specs.declared.refusal.CollectRefusal.{CollectRefusal}
use Rattle.link_theory.specs.declared.refusal.CollectRefusal.TheVariants.{NothingWaits}
use Rattle.link_theory.specs.declared.refusal.DrawRefusal.{DrawRefusal}
use Rattle.link_theory.specs.declared.refusal.DrawRefusal.TheVariants.{Exhausted}
use Rattle.link_theory.specs.declared.refusal.LinkFault.{LinkFault}
use Rattle.link_theory.specs.declared.refusal.LinkFault.TheVariants.{Word, Group}
use Rattle.link_theory.specs.declared.refusal.LoadRefusal.{LoadRefusal}
use Rattle.link_theory.specs.declared.refusal.LoadRefusal.TheVariants.{Length, Sync, Undrawn}
use Rattle.link_theory.specs.declared.refusal.TakeRefusal.{TakeRefusal}
use Rattle.link_theory.specs.declared.refusal.TakeRefusal.TheVariants.{NotASymbol, Waiting}

-- the number of a refusal of load
abbrev pub load_number : LoadRefusal → ℕ
load_number Length = 3
load_number Sync = 4
load_number Undrawn = 5

-- of draw
abbrev pub draw_number : DrawRefusal → ℕ
draw_number Exhausted = 6

-- of take
abbrev pub take_number : TakeRefusal → ℕ
take_number NotASymbol = 7
take_number Waiting = 8

-- the number of a fault: the word reader's own, or 13
abbrev pub link_number : LinkFault → ℕ
link_number (Word x) = number_of x
link_number Group = 13

-- its layer: the word reader's own, or 3; a word of 204 bytes is never refused for its length, and that has layer 0
abbrev pub link_layer : LinkFault → ℕ
link_layer (Word Rattle.framing.specs.declared.refusal.WordRefusal.TheVariants.Length) = 0
link_layer (Word (Rattle.framing.specs.declared.refusal.WordRefusal.TheVariants.Fault f)) = fault_layer f
link_layer Group = 3

-- the number of a refusal of collect: of the call, or of the fault that waited
abbrev pub collect_number : CollectRefusal → ℕ
collect_number Rattle.link_theory.specs.declared.refusal.CollectRefusal.TheVariants.Length = 9
collect_number NothingWaits = 10
collect_number (Rattle.link_theory.specs.declared.refusal.CollectRefusal.TheVariants.Fault frame fault) = link_number fault

-- its frame number: that of the word at fault, and 0 where the call was refused
abbrev pub collect_frame : CollectRefusal → ℕ
collect_frame Rattle.link_theory.specs.declared.refusal.CollectRefusal.TheVariants.Length = 0
collect_frame NothingWaits = 0
collect_frame (Rattle.link_theory.specs.declared.refusal.CollectRefusal.TheVariants.Fault frame fault) = frame

-- and its layer
abbrev pub collect_layer : CollectRefusal → ℕ
collect_layer Rattle.link_theory.specs.declared.refusal.CollectRefusal.TheVariants.Length = 0
collect_layer NothingWaits = 0
collect_layer (Rattle.link_theory.specs.declared.refusal.CollectRefusal.TheVariants.Fault frame fault) = link_layer fault
