-- The coded word of a message is what every encoder answers.
use Rattle.std.proofs.Common.{◌≡◌, ℕ, ◌+◌, ◌<◌, List, length, get_or, refl, arith}
use Rattle.std.proofs.lemmas.List.{get_or_append_left}
use Rattle.coding_theory.specs.Algebra.{plain}
use Rattle.coding_theory.specs.Galois.{bytes}
use Rattle.coding_theory.specs.Register.{checks}
use Rattle.coding_theory.proofs.Fields.{bytes_lawful}
use Rattle.reed_solomon.specs.Encoding.{Encoded}
use Rattle.reed_solomon.proofs.Encoding.{with_checks, one_encoding}
use Rattle.framing.specs.Words.{coded}

pub coded_is_encoded : (m : List ℕ) → length m ≡ 188 → ((k : ℕ) → get_or m k 0 < 256) → Encoded bytes m (coded m)
unfolding coded
coded_is_encoded m len octets = with_checks bytes_lawful m (coded m) (checks (plain bytes) (λ k. bytes.pow (0 + k)) 16 m) len refl refl octets refl

pub encoded_is_coded : (m r : List ℕ) → length m ≡ 188 → ((k : ℕ) → get_or m k 0 < 256) → Encoded bytes m r → r ≡ coded m
encoded_is_coded m r len octets h = one_encoding bytes m r (coded m) h (coded_is_encoded m len octets)

-- a word begins as its message does
pub first_coded : (m : List ℕ) → length m ≡ 188 → get_or (coded m) 0 0 ≡ get_or m 0 0
unfolding coded
first_coded m len = get_or_append_left m _ 0 0 (omega arith)
