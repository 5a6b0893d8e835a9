-- What the word reader answers to a buffer, and what it leaves there.
use Rattle.std.specs.Prelude.{ℕ, Bool, cond, ◌||◌, List, length, Some, None, Ok, Err, Option, Result, ◌==◌, slice_index}
use Rattle.coding_theory.specs.Words.{differ}
use Rattle.reed_solomon.specs.Refusals.{no_word}
use Rattle.framing.specs.Nearest.{nearest}
use Rattle.framing.specs.declared.refusal.WordFault.TheVariants.{Code, Sync}
use Rattle.framing.specs.declared.refusal.WordRefusal.{WordRefusal}
use Rattle.framing.specs.declared.refusal.WordRefusal.TheVariants.{Length, Fault}

-- the answer, and the buffer afterwards
pub record Mended : Type 0 where
  pub answer : Result ℕ WordRefusal
  pub buffer : List ℕ

-- whether a word that begins with b begins a packet: 47h, or B8h where a group starts
abbrev pub is_sync : ℕ → Bool
is_sync b = b == 0x47 || b == 0xB8

-- by what is near to w: nothing, fault 11; a code word that begins no packet, fault 12; else the number of differing bytes, and the code word
abbrev pub tried : List ℕ → Option (List ℕ) → Mended
tried w None = record { answer = Err (Fault (Code no_word)); buffer = w }
tried w (Some c) = cond (is_sync (slice_index c 0)) (record { answer = Ok (differ c w); buffer = c }) (record { answer = Err (Fault Sync); buffer = w })

-- 204 bytes are read, and a buffer of another length is refused
abbrev pub mended : List ℕ → Mended
mended w = cond (length w == 204) (tried w (nearest w)) (record { answer = Err Length; buffer = w })
