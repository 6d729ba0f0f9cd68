-- A table is the words of a sound state. Assumes nothing.
use Rattle.std.specs.Prelude.{ℕ, true, List, ◌≡◌}
use Rattle.tables.specs.Size.{Size, within}
use Rattle.tables.specs.State.{State}
use Rattle.tables.specs.Layout.{encode}
use Rattle.tables.specs.SoundState.{SoundState}

-- The table t means the state s, at size z.
pub record Means (z : Size) (s : State) (t : List ℕ) : Type 0 where
  pub limits : within z ≡ true
  pub state : SoundState z s
  pub words : t ≡ encode z s
