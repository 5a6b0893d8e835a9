-- What a half of any delay line means.
use Rattle.std.specs.Prelude.{ℕ}
use Rattle.delay_line.specs.Line.{Line, line_at}
use Rattle.delay_line.specs.declared.half.Half.{Half}
use Rattle.delay_line.specs.declared.line.DelayLine.{Ghosts}

-- the slot that comes next, and what is pending
abbrev pub line_of : {D : Type 0} {d : Ghosts D} → Half D d → Line
line_of {d = d} h = line_at (d.pending h.line) h.slot.number

-- what no call changes: the delay of each slot, in byte places, and the lag, in frames
pub record Timing : Type 0 where
  pub delay : ℕ → ℕ
  pub frames : ℕ

abbrev pub timing_of : {D : Type 0} {d : Ghosts D} → Half D d → Timing
timing_of {d = d} h = record { delay = d.delay h.line; frames = d.frames h.line }
