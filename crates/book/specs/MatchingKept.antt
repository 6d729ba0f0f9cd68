-- What keeps a book matching a state: a slot set in both, and writes that arrive in both. The theorems stand in proofs/MatchingKept.antt. Assumes nothing.
use Rattle.std.specs.Prelude.{ℕ, ◌+◌, List, ◌⊎◌, ◌≡◌, length}
use Rattle.words.specs.Lists.{In}
use Rattle.logs.specs.Write.{Write}
use Rattle.tables.specs.State.{State}

-- No server loses a write.
abbrev pub Kept : State → State → Type 0
Kept s t = (j : ℕ) (w : Write) → In w (s.log j) → In w (t.log j)

-- A log has taken in new writes.
pub record TakesIn (old new g : List Write) : Type 0 where
  pub kept : (w : Write) → In w old → In w g
  pub came : (w : Write) → In w new → In w g
  pub only : (w : Write) → In w g → In w new ⊎ In w old
  pub size : length g ≡ length new + length old
