-- Tests: all numbers below n pass, all words are zero, one test under the condition of another.
-- Assumes nothing.
use Rattle.std.specs.Prelude.{ℕ, zero, suc, Bool, true, false, ◌&&◌, List, [], ◌∷◌, eqb}

-- Every number below n passes.
unfoldable pub all : ℕ → (ℕ → Bool) → Bool
all zero passes = true
all (suc n) passes = all n passes && passes n

-- Every word is 0.
unfoldable pub zeros : List ℕ → Bool
zeros [] = true
zeros (w ∷ ws) = eqb w 0 && zeros ws

-- If the first holds, so does the second.
unfoldable pub implies : Bool → Bool → Bool
implies true b = b
implies false b = true
