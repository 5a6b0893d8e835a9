use Rattle.std.proofs.Common.{◌≡◌, ℕ, ◌/◌, ◌*◌, List, length, drop, ap, ◌∙◌, rules}
use Rattle.std.proofs.iter.runs.Made.{chains}
use Rattle.std.specs.List.{fold}
use Rattle.std.specs.Simd.{first_chunks}
use Rattle.remainder.specs.Register.{absorbed}
use Rattle.remainder.proofs.Words.{fours_then_rest}
use Rattle.remainder.proofs.absorb_all.Goals as goal

pub returns : goal.returns
returns c =
    let xs : List ℕ = c.args.bytes.now in
    let fours : c.fold-state.result ≡ fold (fold absorbed) 0 (first_chunks 4 (length xs / 4) xs) = search (rules, chains) in
    let rest : c.fold.result ≡ fold absorbed c.fold-state.result (drop (length xs / 4 * 4) xs) = search (rules, chains) in
    rest ∙ ap (λ (s : ℕ). fold absorbed s (drop (length xs / 4 * 4) xs)) fours ∙ fours_then_rest absorbed (length xs / 4) 0 xs
