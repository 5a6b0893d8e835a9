use Rattle.std.proofs.Common.{◌≡◌, ℕ, ◌<◌, List, length, get_or, sym, ap, ◌∙◌, rules}
use Rattle.remainder.specs.Register.{bytes_of}
use Rattle.remainder.proofs.Numbers.{number_from, bytes_back, total_is}
use Rattle.remainder.proofs.number_of.Goals as goal

pub returns : goal.returns
returns c =
    let xs : List ℕ = c.args.bytes in
    let len : length xs ≡ 16 = search rules in
    let fits : (i : ℕ) → get_or xs i 0 < 256 = search rules in
    ap (bytes_of 16) (c.from_be_bytes.ensures ∙ total_is xs len) ∙ ap (λ k. bytes_of k (number_from 0 xs)) (sym len) ∙ bytes_back xs 0 fits
