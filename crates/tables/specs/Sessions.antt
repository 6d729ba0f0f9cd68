-- The session of a slot, whether open or not. Assumes nothing.
use Rattle.tables.specs.State.{Session, Slot, closed, opened}

-- A closed slot has none: a session of zeros stands for it.
unfoldable pub session : Slot → Session
session closed = record { guarantees = 0; last_used = 0; read_vector = λ j. 0; write_vector = λ j. 0 }
session (opened q) = q
