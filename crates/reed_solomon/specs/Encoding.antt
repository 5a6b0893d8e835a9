-- What the encoder answers.
use Rattle.std.specs.Prelude.{◌≡◌, ℕ, List, take, drop, replicate, ◌≢◌}
use Rattle.coding_theory.specs.Field.{Arithmetic}
use Rattle.coding_theory.specs.Code.{CodeWord}

-- r is the word of the message of 188 bytes m, over a field of 256 elements; over another field 16 zeros follow the message
pub record Encoded (A : Arithmetic) (m r : List ℕ) : Type 0 where
  pub kept : take 188 r ≡ m
  pub coded : A.order ≡ 256 → CodeWord A 204 0 16 r
  -- there is no other such word
  pub only : A.order ≡ 256 → (c : List ℕ) → CodeWord A 204 0 16 c → take 188 c ≡ m → c ≡ r
  pub other : (A.order ≢ 256) → drop 188 r ≡ replicate 16 0

-- Over a field there is one answer for each message, on which two encoders agree.
abbrev pub OneEncoding : Type 0
OneEncoding = (A : Arithmetic) (m r r' : List ℕ) → Encoded A m r → Encoded A m r' → r ≡ r'
