-- Two fresh lines in series are one fresh line.
use Rattle.std.proofs.Common.{◌≡◌, ℕ, ◌+◌, ◌∙◌, ap₂}
use Rattle.delay_line.specs.Fresh.{IsFresh}
use Rattle.delay_line.specs.InSeries.{both_silent, series_same}
use Rattle.delay_line.specs.Line.{series, silent, through_both}
use Rattle.delay_line.specs.declared.line.DelayLine.{Ghosts}

-- what is fresh with delays that are known under other names is fresh with these
pub fresh_as : {D : Type 0} {d : Ghosts D} {line : D} {w v : ℕ → ℕ} {l m : ℕ} → IsFresh d line v m → v ≡ w → m ≡ l → IsFresh d line w l
fresh_as f ew el = record { delays = f.delays ∙ ew; span = f.span ∙ el; empty = f.empty }

module _ {A B : Type 0} {a : Ghosts A} {b : Ghosts B} {first : A} {second : B} {w v : ℕ → ℕ} {l m : ℕ} (f : IsFresh a first w l) (s : IsFresh b second v m) where
  pub series_delays_fresh : series (a.delay first) (b.delay second) ≡ series w v
  series_delays_fresh = series_same f.delays s.delays

  pub series_span_fresh : a.frames first + b.frames second ≡ l + m
  series_span_fresh = ap₂ ◌+◌ f.span s.span

  pub series_empty_fresh : through_both (b.delay second) 0 (a.pending first 0) (b.pending second 0) ≡ silent
  series_empty_fresh = both_silent (b.delay second) 0 f.empty s.empty
