-- Worked examples of the definitions.
use Rattle.std.specs.Prelude.{◌≡◌, ℕ, ◌+◌, ◌≤◌, List, [], ◌∷◌, ◌++◌, length, replicate, Err, slice_index_or}
use Rattle.coding_theory.specs.Galois.{bytes}
use Rattle.coding_theory.specs.Words.{differ}
use Rattle.delay_line.specs.Cells.{always, twelfths}
use Rattle.delay_line.specs.Line.{series}
use Rattle.delay_line.specs.declared.direction.Direction.TheVariants.{Sending, Receiving}
use Rattle.framing.specs.Laws.{MaskBegins, MaskEnds}
use Rattle.framing.specs.Mending.{mended}
use Rattle.framing.specs.Words.{coded}
use Rattle.framing.specs.declared.refusal.WordFault.TheVariants.{Sync}
use Rattle.framing.specs.declared.refusal.WordRefusal.TheVariants.{Fault}
use Rattle.reed_solomon.specs.Correction.{Near}
use Rattle.symbols.specs.Laws.{WorkedSymbols}
use Rattle.link_theory.specs.Runs.{Plan, Sound}

-- the word of zeros, and 204 bytes of which the first eight are 01h and the others 00h
abbrev pub zeros : List ℕ
zeros = replicate 204 0

abbrev pub eight_ones : List ℕ
eight_ones = replicate 8 1 ++ replicate 196 0

-- a message of 187 bytes 00h and then 01h
abbrev pub last_one : List ℕ
last_one = replicate 187 0 ++ (1 ∷ [])

-- the place at which slot k of frame 0 goes out, with the delays w
abbrev pub leaves : (ℕ → ℕ) → ℕ → ℕ
leaves w k = k + w k

-- six bits to a symbol, a delay of one byte before an interleaver, and what undoes them at the receiver
abbrev pub example : Plan
example = record { width = 6; out = series (always 1) (twelfths Sending); back = series (twelfths Receiving) (always 203); lag = 12 }

pub record Worked : Type 0 where
  -- alpha to the 8th power, and the inverse of alpha
  pub power : bytes.pow 8 ≡ 0x1D
  pub inverse : bytes.inv 0x02 ≡ 0x8E
  -- the first and the last check byte of a message
  pub first_check : slice_index_or (coded last_one) 188 0 ≡ 0x3B
  pub last_check : slice_index_or (coded last_one) 203 0 ≡ 0x3B
  -- eight bytes changed in the word of zeros are corrected, and the word then has no sync byte: fault 12; so is every word within eight bytes of zeros
  pub near : Near bytes eight_ones zeros
  pub changed : differ zeros eight_ones ≡ 8
  pub no_sync : mended eight_ones ≡ record { answer = Err (Fault Sync); buffer = eight_ones }
  pub never_sync : (w : List ℕ) → length w ≡ 204 → differ zeros w ≤ 8 → mended w ≡ record { answer = Err (Fault Sync); buffer = w }
  -- mask bytes 0 to 3 are 03h F6h 08h 34h, and byte 187 at position 7 gets mask byte 1,502
  pub mask_begins : MaskBegins
  pub mask_ends : MaskEnds
  -- an interleaver's slots 1, 11 and 12 of frame 0
  pub slot_one : leaves (twelfths Sending) 1 ≡ 205
  pub slot_eleven : leaves (twelfths Sending) 11 ≡ 2255
  pub slot_twelve : leaves (twelfths Sending) 12 ≡ 12
  -- slots 0 and 11 where a delay of one byte is before it, and that both lag 12 frames and can be undone
  pub delayed_zero : leaves example.out 0 ≡ 205
  pub delayed_eleven : leaves example.out 11 ≡ 12
  pub sound : Sound example
  -- line bytes 47h B8h 47h as tuples and symbols of six bits, and back
  pub symbols : WorkedSymbols 6
