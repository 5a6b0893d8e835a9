-- Each row of the table is the list of the function's values, which antt computes.
use Rattle.std.proofs.Common.{◌≡◌, ℕ, zero-add, ◌<◌, List, get_or, map, ap, ◌∙◌, rules}
use Rattle.std.specs.List.{range_with_len}
use Rattle.std.proofs.lemmas.List.FromFn.{get_or-map-range_with_len}
use Rattle.remainder.specs.Register.{absorbed, combined, rows, rows_after}
use Rattle.remainder.proofs.multiple.Goals as goal

row_entry : (h : ℕ → ℕ → ℕ) (m n k f : ℕ) (d : List ℕ) → k < m → f < n
    → get_or (get_or (map (λ k. map (h k) (range_with_len 0 n)) (range_with_len 0 m)) k d) f 0 ≡ h k f
row_entry h m n k f d hk hf =
    ap (λ (row : List ℕ). get_or row f 0) (get_or-map-range_with_len (λ k. map (h k) (range_with_len 0 n)) 0 m k k d hk (zero-add k))
    ∙ get_or-map-range_with_len (h k) 0 n f f 0 hf (zero-add f)

pub returns : goal.returns
unfolding absorbed combined rows rows_after
returns c = row_entry (λ k. combined (rows_after k)) 4 256 c.args.shifts c.args.f _ c.requires (search rules)
