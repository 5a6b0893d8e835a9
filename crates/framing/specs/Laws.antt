-- What is true of randomizer, words and word reader.
use Rattle.std.specs.Prelude.{◌≡◌, ℕ, suc, ◌+◌, ◌-◌, ◌*◌, ◌<◌, ◌≤◌, ◌⊎◌, List, length, Some, None, Err, Result, bit_xor, slice_index}
use Rattle.coding_theory.specs.Galois.{bytes}
use Rattle.coding_theory.specs.Misaligned.{laid, window}
use Rattle.coding_theory.specs.Words.{All}
use Rattle.reed_solomon.specs.Correction.{Near}
use Rattle.reed_solomon.specs.Encoding.{Encoded}
use Rattle.reed_solomon.specs.Refusals.{no_word}
use Rattle.framing.specs.Mask.{mask_bit, mask_byte, masked, randomized, restored}
use Rattle.framing.specs.Mending.{mended}
use Rattle.framing.specs.Nearest.{nearest}
use Rattle.framing.specs.Words.{Packet, coded, sent_words}
use Rattle.framing.specs.declared.refusal.WordFault.TheVariants.{Code, Sync}
use Rattle.framing.specs.declared.refusal.WordRefusal.{WordRefusal}
use Rattle.framing.specs.declared.refusal.WordRefusal.TheVariants.{Fault}

-- each mask bit is the exclusive or of those 14 and 15 places before it
abbrev pub MaskRecurs : Type 0
MaskRecurs = (n : ℕ) → mask_bit (n + 15) ≡ bit_xor (mask_bit (n + 1)) (mask_bit n)

-- the first four mask bytes, and the last one that a group uses
abbrev pub MaskBegins : Type 0
MaskBegins = (mask_byte 0 ≡ 0x03) × (mask_byte 1 ≡ 0xF6) × (mask_byte 2 ≡ 0x08) × (mask_byte 3 ≡ 0x34)

abbrev pub MaskEnds : Type 0
MaskEnds = (x : ℕ) → masked 7 187 x ≡ bit_xor x (mask_byte 1502)

-- a packet that is randomized and restored at one position is itself
abbrev pub ReadBack : Type 0
ReadBack = (g : ℕ) (p : List ℕ) → slice_index p 0 ≡ 0x47 → restored g (randomized g p) ≡ p

-- the word of 188 bytes is what an encoder has to answer
abbrev pub CodedIsEncoded : Type 0
CodedIsEncoded = (m : List ℕ) → length m ≡ 188 → ((k : ℕ) → slice_index m k < 256) → Encoded bytes m (coded m)

-- what is found among all words is the code word within eight bytes, and nothing is found only where there is none
abbrev pub NearestIsNear : Type 0
NearestIsNear = (w c : List ℕ) → length w ≡ 204 → (nearest w ≡ Some c → Near bytes w c) × (Near bytes w c → nearest w ≡ Some c) × (nearest w ≡ None → Near bytes w c → ⊥)

-- fault 11 or fault 12
abbrev pub Unread : Result ℕ WordRefusal → Type 0
Unread r = (r ≡ Err (Fault (Code no_word))) ⊎ (r ≡ Err (Fault Sync))

-- the word w stands at place i of the words sent for the packets ps, laid end to end
pub record Sent (w : List ℕ) (ps : List (List ℕ)) (i : ℕ) : Type 0 where
  pub packets : All Packet ps
  pub inside : i + 204 ≤ length (laid (sent_words 0 ps))
  pub here : w ≡ window 204 i (laid (sent_words 0 ps))

-- 204 bytes in a row that start one to four bytes after a word's first byte, or before it, are answered by fault 11 or 12
abbrev pub MisalignedUnread : List ℕ → Type 0
MisalignedUnread w =
    (ps : List (List ℕ)) (i s : ℕ) → 1 ≤ s → s ≤ 4 → Sent w ps (204 * i + s) ⊎ Sent w ps (204 * suc i - s) → Unread (mended w).answer
