-- Where a word belongs.
use Rattle.std.specs.Prelude.{ℕ, Some, None, Ok, Err, Option, Result}
use Rattle.framing.specs.Group.{position_of}
use Rattle.framing.specs.Mending.{Mended}
use Rattle.link_theory.specs.Receiver.{event_of}
use Rattle.link_theory.specs.declared.refusal.LinkFault.{LinkFault}
use Rattle.link_theory.specs.declared.refusal.LinkFault.TheVariants.{Word, Group}

-- position and count of what the word reader answered and left, where e is the expected position
abbrev pub at_position : ℕ → Option ℕ → Result (ℕ × ℕ) LinkFault
at_position count None = Err Group
at_position count (Some g) = Ok (g, count)

abbrev pub placed_at : Option ℕ → Mended → Result (ℕ × ℕ) LinkFault
placed_at e w = elim w.answer [ Ok count ↦ at_position count (position_of e (event_of w)) | Err x ↦ Err (Word x) ]
