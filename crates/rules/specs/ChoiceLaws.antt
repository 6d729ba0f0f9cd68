-- A reach set as the sum of its bits, and the servers from one on. What holds of the search order and of reach stands in proofs/ChoiceLaws.antt. Assumes nothing.
use Rattle.std.specs.Prelude.{ℕ, zero, suc, ◌+◌, ◌^◌, Bool, cond, List, [], ◌∷◌}
use Rattle.rules.specs.Choice.{reaches, read_your_writes, monotonic_reads, writes_follow_reads, monotonic_writes}

-- A bit's weight where it is chosen, and their sum.
unfoldable pub weight : Bool → ℕ → ℕ
weight chosen bit = cond chosen bit 0

unfoldable pub bits : ℕ → ℕ
bits g = weight (read_your_writes g) 1 + weight (monotonic_reads g) 2 + weight (writes_follow_reads g) 4 + weight (monotonic_writes g) 8

-- The sum of the bits of those servers below n that are in the set, 2 to the power of i for server i.
unfoldable pub reach_bits : ℕ → ℕ → ℕ
reach_bits zero reach = 0
reach_bits (suc n) reach = reach_bits n reach + weight (reaches reach n) (2 ^ n)

-- k servers from i up.
unfoldable pub up_from : ℕ → ℕ → List ℕ
up_from i zero = []
up_from i (suc k) = i ∷ up_from (suc i) k
