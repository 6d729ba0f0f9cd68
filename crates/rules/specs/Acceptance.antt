-- When a step on words is done: each code of 01's table but 0 is a refusal, and what is left when none applies has words of its own. The
-- theorems, kind by kind, stand in proofs/Acceptance.antt. Assumes nothing.
use Rattle.std.specs.Prelude.{ℕ, true, List, ◌↔◌, ◌≡◌}
use Rattle.tables.specs.State.{Session, State, opened}
use Rattle.tables.specs.Layout.{size_of}
use Rattle.tables.specs.Sound.{sound}
use Rattle.rules.specs.Step.{Step, Proper}
use Rattle.rules.specs.Calls.{step}

-- A slot that is open.
pub record Open (s : State) (k : ℕ) : Type 0 where
  pub session : Session
  pub is : s.slot k ≡ opened session

-- Done exactly if the table is sound, the step's words are proper, and the condition of its kind holds.
abbrev pub DoneIf : List ℕ → Step → Type 0 → Type 0
DoneIf t x condition = ((step t x).answer.code ≡ 0) ↔ ((sound t ≡ true) × Proper (size_of t) x × condition)
