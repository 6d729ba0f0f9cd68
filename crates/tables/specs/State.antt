-- What a table means: for each server its vector and its log, and for each slot its session. Assumes nothing.
use Rattle.std.specs.Prelude.{ℕ, List, []}
use Rattle.words.specs.Lists.{upd}
use Rattle.logs.specs.Write.{Write}

-- 002, section 5: "the state maintained for each session compacts into two version vectors". `last_used` is 01's word for it: the server
-- plus 1, or 0 for none.
pub record Session : Type 0 where
  pub guarantees : ℕ
  pub last_used : ℕ
  pub read_vector : ℕ → ℕ
  pub write_vector : ℕ → ℕ

pub data Slot : Type 0 where
  closed : Slot
  opened : Session → Slot

pub record State : Type 0 where
  pub vector : ℕ → ℕ → ℕ
  pub log : ℕ → List Write
  pub slot : ℕ → Slot

-- A state with one server's vector, one server's log or one slot replaced.
unfoldable pub with_vector : State → ℕ → (ℕ → ℕ) → State
with_vector s i v = record { vector = upd s.vector i v; log = s.log; slot = s.slot }

unfoldable pub with_log : State → ℕ → List Write → State
with_log s i g = record { vector = s.vector; log = upd s.log i g; slot = s.slot }

unfoldable pub with_slot : State → ℕ → Slot → State
with_slot s k o = record { vector = s.vector; log = s.log; slot = upd s.slot k o }

-- No write, and every slot closed.
unfoldable pub empty : State
empty = record { vector = λ i j. 0; log = λ i. []; slot = λ k. closed }
