use Rattle.std.proofs.Common.{ℕ, List, [], ◌++◌, sym, subst, lit<, rules}
use Rattle.remainder.specs.Register.{bytes_of, Zeros}
use Rattle.remainder.proofs.Words.{empty_coded, all_coded}
use Rattle.remainder.proofs.remainder.Goals as goal

pub returns : goal.returns
returns c =
    let xs : List ℕ = c.args.bytes.now in
    subst (λ (x : ℕ). Zeros (xs ++ bytes_of 16 x)) (sym c.absorb_all.ensures) (all_coded xs [] 0 (lit< tt) (λ k. search rules) empty_coded)
