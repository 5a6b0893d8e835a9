use Rattle.std.proofs.Common.{◌≡◌, ℕ, ◌*◌, ◌%◌, ◌^◌, ◌<◌, List, [], ◌∷◌, length, get_or, refl, ap, ◌∙◌, ap₂, arith, rules}
use lib.Bits.{bit_xor}
use Rattle.std.specs.List.{fold}
use Rattle.remainder.specs.Register.{absorbed}
use Rattle.remainder.proofs.Four.{same_four, singly}
use Rattle.remainder.proofs.absorb_four.Goals as goal

four : (x : ℕ) (xs : List ℕ) → length xs ≡ 4 → singly x (get_or xs 0 0) (get_or xs 1 0) (get_or xs 2 0) (get_or xs 3 0) ≡ fold absorbed x xs
unfolding singly
four x [] e = absurd (omega arith)
four x (a ∷ []) e = absurd (omega arith)
four x (a ∷ b ∷ []) e = absurd (omega arith)
four x (a ∷ b ∷ c ∷ []) e = absurd (omega arith)
four x (a ∷ b ∷ c ∷ d ∷ []) e = refl
four x (a ∷ b ∷ c ∷ d ∷ f ∷ xs) e = absurd (omega arith)

pub returns : goal.returns
returns c =
    let x = c.args.state in
    let xs : List ℕ = c.args.bytes.now in
    let at : (k : ℕ) → get_or xs k 0 < 256 = search rules in
    ap₂ bit_xor (ap₂ bit_xor (ap₂ bit_xor (ap (bit_xor (x * 2 ^ 32 % 2 ^ 128)) c.multiple.ensures) c.multiple-2.ensures) c.multiple-3.ensures)
    c.multiple-4.ensures
    ∙ same_four x (get_or xs 0 0) (get_or xs 1 0) (get_or xs 2 0) (get_or xs 3 0) (search rules) (at 0) (at 1) (at 2) (at 3)
    ∙ four x xs c.told-bytes
