-- A log in write order, each write before all that stand behind it. Assumes nothing.
use Rattle.std.specs.Prelude.{true, List, [], ◌∷◌, ◌≡◌}
use Rattle.words.specs.Lists.{In}
use Rattle.logs.specs.Write.{Write, before}

pub data Ascending : List Write → Type 0 where
  ascending_nil : Ascending []
  ascending_cons : {w : Write} {ws : List Write} → ((x : Write) → In x ws → before w x ≡ true) → Ascending ws → Ascending (w ∷ ws)
