-- Why a delay is refused.
use Rattle.std.specs.Prelude.{ℕ}
use Rattle.delay_line.specs.declared.board.DelayRefusal.{DelayRefusal}
use Rattle.delay_line.specs.declared.board.DelayRefusal.TheVariants.{TooLong}

-- the number of a refusal
abbrev pub number_of : DelayRefusal → ℕ
number_of TooLong = 2
