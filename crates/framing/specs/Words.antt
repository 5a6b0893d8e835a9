-- The words that a sender makes of packets.
use Rattle.std.specs.Prelude.{◌≡◌, ℕ, suc, ◌+◌, ◌%◌, ◌<◌, List, [], ◌∷◌, ◌++◌, length, slice_index, slice_index_or}
use Rattle.coding_theory.specs.Algebra.{plain}
use Rattle.coding_theory.specs.Galois.{bytes}
use Rattle.coding_theory.specs.Register.{checks}
use Rattle.framing.specs.Mask.{randomized}

-- a transport packet: 188 bytes, the first of which is 47h
pub record Packet (p : List ℕ) : Type 0 where
  pub size : length p ≡ 188
  pub octets : (k : ℕ) → slice_index p k < 256
  pub sync : slice_index_or p 0 0 ≡ 0x47

-- 188 bytes with the 16 check bytes behind them that make a code word of them
unfoldable pub coded : List ℕ → List ℕ
coded m = m ++ checks (plain bytes) (λ k. bytes.pow (0 + k)) 16 m

-- the word that is sent for the packet p at group position g
unfoldable pub sent_word : ℕ → List ℕ → List ℕ
sent_word g p = coded (randomized g p)

-- the words that are sent for packets in order, of which the first has n before it
abbrev pub sent_words : ℕ → List (List ℕ) → List (List ℕ)
sent_words n [] = []
sent_words n (p ∷ ps) = sent_word (n % 8) p ∷ sent_words (suc n) ps
