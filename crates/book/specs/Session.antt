-- What a session keeps from one step to the next, as long as it is not closed. The theorems stand in proofs/Session.antt. Assumes nothing.
use Rattle.std.specs.Prelude.{ℕ, ◌≤◌, ◌≡◌}
use Rattle.tables.specs.State.{Session, opened, State}

-- The same session later on: the same guarantees, and vectors that did not fall.
pub record Later (q r : Session) : Type 0 where
  pub chosen : r.guarantees ≡ q.guarantees
  pub read : (j : ℕ) → q.read_vector j ≤ r.read_vector j
  pub wrote : (j : ℕ) → q.write_vector j ≤ r.write_vector j

-- Slot k is open, and its session is q at a later moment.
pub record Still (s : State) (k : ℕ) (q : Session) : Type 0 where
  pub session : Session
  pub is : s.slot k ≡ opened session
  pub later : Later q session
