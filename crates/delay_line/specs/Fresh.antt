-- Delay lines in which nothing is pending.
use Rattle.std.specs.Prelude.{◌≡◌, ℕ}
use Rattle.delay_line.specs.Line.{silent}
use Rattle.delay_line.specs.declared.line.DelayLine.{Ghosts}

-- at slot 0, with nothing pending: a line with the delays w and a lag of l frames
pub record IsFresh {D : Type 0} (d : Ghosts D) (line : D) (w : ℕ → ℕ) (l : ℕ) : Type 0 where
  pub delays : d.delay line ≡ w
  pub span : d.frames line ≡ l
  pub empty : d.pending line 0 ≡ silent
