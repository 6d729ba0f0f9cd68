-- One write precedes another, at every server that stores the second. Why that lasts stands in proofs/Propagation.antt. Assumes nothing.
use Rattle.std.specs.Prelude.{ℕ, true, ◌≡◌}
use Rattle.words.specs.Lists.{In}
use Rattle.logs.specs.Write.{Write, before}
use Rattle.tables.specs.State.{State}

-- w₂ comes behind w₁ in write order, and no server stores w₂ without w₁.
pub record Precedes (s : State) (w₁ w₂ : Write) : Type 0 where
  pub ordered : before w₁ w₂ ≡ true
  pub made : In w₂ (s.log w₂.origin)
  pub along : (i : ℕ) → In w₂ (s.log i) → In w₁ (s.log i)
