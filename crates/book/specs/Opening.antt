-- A slot that holds a session with the guarantees that were asked for. That it does from the accepted open to the accepted close stands in
-- proofs/Opening.antt. Assumes nothing.
use Rattle.std.specs.Prelude.{ℕ, List, ◌≡◌}
use Rattle.tables.specs.State.{Session, opened}
use Rattle.tables.specs.Layout.{size_of, decode}

-- Slot k is open, and its session has this sum of guarantees.
pub record Has (t : List ℕ) (k guarantees : ℕ) : Type 0 where
  pub session : Session
  pub is : (decode (size_of t) t).slot k ≡ opened session
  pub sum : session.guarantees ≡ guarantees
