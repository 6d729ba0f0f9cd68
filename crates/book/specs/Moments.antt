-- The state behind a list of steps. What holds from one moment to a later one stands in proofs/Moments.antt. Assumes nothing.
use Rattle.std.specs.Prelude.{List, [], ◌∷◌}
use Rattle.tables.specs.Size.{Size}
use Rattle.tables.specs.State.{State}
use Rattle.rules.specs.Step.{Step}
use Rattle.rules.specs.Rules.{rule}

-- The state after a schedule, by the rules.
unfoldable pub state_after : Size → State → List Step → State
state_after z s [] = s
state_after z s (x ∷ xs) = state_after z (rule z s x).state xs
