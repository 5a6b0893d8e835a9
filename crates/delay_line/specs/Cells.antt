-- Where delay lines keep the bytes under way.
use Rattle.std.specs.Prelude.{ℕ, zero, suc, ◌+◌, ◌-◌, ◌*◌, ◌/◌, ◌%◌, ◌<◌, cond, List, nat_lt, slice_index}
use Rattle.delay_line.specs.declared.direction.Direction.{Direction}
use Rattle.delay_line.specs.declared.direction.Direction.TheVariants.{Sending, Receiving}

-- the same delay at each slot
abbrev pub always : ℕ → ℕ → ℕ
always d k = d

-- a ring of 204 cells, each byte in the cell of the slot at which it is due: what is pending, where slot k comes next and the delay is d
abbrev pub ringed : List ℕ → ℕ → ℕ → ℕ → ℕ
ringed cells d k p = cond (nat_lt p d) (slice_index cells ((k + p) % 204)) 0

-- the branch of the slots with the remainder x by 12, sending and receiving
abbrev pub branch_of : Direction → ℕ → ℕ
branch_of Sending x = x
branch_of Receiving x = 11 - x

-- the delays of an interleaver: 17 visits of its branch, 12 slots apart, for each unit of the branch's number
abbrev pub twelfths : Direction → ℕ → ℕ
twelfths way k = 204 * branch_of way (k % 12)

-- twelve branches of cells in one row: where branch j, of 17 j cells, begins
abbrev pub start : ℕ → ℕ
start zero = 0
start (suc j) = start j + 17 * j

-- x on a ring of m cells, for x below 2 m
abbrev pub turned : ℕ → ℕ → ℕ
turned m x = cond (nat_lt x m) x (x - m)

-- what is pending in the branches, where slot k comes next and t gives the branch of a remainder: at the place p, what comes out p / 12 visits of its branch after the oldest
abbrev pub branched : (t : ℕ → ℕ) (cells oldest : List ℕ) → ℕ → ℕ → ℕ
branched t cells oldest k p =
    cond (nat_lt p (204 * t ((k + p) % 12)))
    (slice_index cells (start (t ((k + p) % 12)) + turned (17 * t ((k + p) % 12)) (slice_index oldest (t ((k + p) % 12)) + p / 12)))
    0

-- the oldest byte of each branch is in one of its cells
abbrev pub Within : List ℕ → Type 0
Within oldest = (j : ℕ) → j < 12 → 0 < j → slice_index oldest j < 17 * j

-- the delay of a board of d places, sending, and receiving what is left of one frame
abbrev pub places_of : Direction → ℕ → ℕ
places_of Sending d = d
places_of Receiving d = 204 - d
