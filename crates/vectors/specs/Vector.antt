-- Version vectors, as document 002 section 5 has them: "a sequence of <server, clock> pairs, one for each server". A vector is a
-- function from servers to clocks, of which the first n count. Assumes nothing.
use Rattle.std.specs.Prelude.{ℕ, zero, suc, max, Bool, List, leb, get_or}
use Rattle.words.specs.Tests.{all}

-- 002, section 5: "check that V2 dominates V1, where dominance is defined as one vector being greater or equal to the other in all
-- components".
unfoldable pub dominates : ℕ → (ℕ → ℕ) → (ℕ → ℕ) → Bool
dominates n v₂ v₁ = all n (λ j. leb (v₁ j) (v₂ j))

-- 002, section 5: "set V[S] = MAX(V1[S], V2[S]) for all S".
unfoldable pub join : (ℕ → ℕ) → (ℕ → ℕ) → ℕ → ℕ
join v₁ v₂ j = max (v₁ j) (v₂ j)

-- The greatest of the first n components, and 0 of none.
unfoldable pub greatest : ℕ → (ℕ → ℕ) → ℕ
greatest zero v = 0
greatest (suc n) v = max (greatest n v) (v n)

-- The vector that a slice holds: component j is the word at place j.
abbrev pub vector_of : List ℕ → ℕ → ℕ
vector_of words j = get_or words j 0
