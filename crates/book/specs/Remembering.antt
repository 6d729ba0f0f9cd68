-- What a session remembers by one of its vectors. Why a server that passes its check stores all of it stands in proofs/Remembering.antt. Assumes nothing.
use Rattle.std.specs.Prelude.{ℕ, ◌≤◌, ◌≡◌}
use Rattle.words.specs.Lists.{In}
use Rattle.logs.specs.Write.{Write}
use Rattle.tables.specs.State.{Session, opened, State}

-- Slot k is open and its session covers the write by the vector.
pub record Remembers (s : State) (k : ℕ) (vector : Session → ℕ → ℕ) (w : Write) : Type 0 where
  pub session : Session
  pub is : s.slot k ≡ opened session
  pub covers : w.clock ≤ vector session w.origin
  pub made : In w (s.log w.origin)
