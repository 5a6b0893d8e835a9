-- The position of a word in its group of eight, as a receiver follows it.
use Rattle.std.specs.Prelude.{ℕ, zero, suc, ◌+◌, cond, Some, None, Option, nat_lt}
use Rattle.framing.specs.declared.group.Event.{Event}
use Rattle.framing.specs.declared.group.Event.TheVariants.{GroupStart, Plain, Lost}

-- the position after g: after 7 comes 0 again
abbrev pub following : ℕ → ℕ
following g = cond (nat_lt g 7) (g + 1) 0

-- the position of a word: a group's start has 0, and a plain word the expected one, if that is known and not 0
abbrev pub position_of : Option ℕ → Event → Option ℕ
position_of e GroupStart = Some 0
position_of None Plain = None
position_of (Some zero) Plain = None
position_of (Some (suc g)) Plain = Some (suc g)
position_of e Lost = None

-- the position that is expected next: the one after a word's position, none after a plain word without one; a lost word moves a known position on
abbrev pub expected_after : Option ℕ → Event → Option ℕ
expected_after e GroupStart = Some 1
expected_after None Plain = None
expected_after (Some zero) Plain = None
expected_after (Some (suc g)) Plain = Some (following (suc g))
expected_after None Lost = None
expected_after (Some g) Lost = Some (following g)
