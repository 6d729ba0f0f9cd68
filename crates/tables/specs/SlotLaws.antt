-- A session whose vectors end with the last server. What holds of a slot's words stands in proofs/SlotLaws.antt. Assumes nothing.
use Rattle.std.specs.Prelude.{ℕ, ◌≤◌, ◌≡◌}
use Rattle.tables.specs.State.{Slot, closed, opened}

-- A slot's vectors are 0 past the last server.
abbrev pub Confined : ℕ → Slot → Type 0
Confined n closed = Unit {0}
Confined n (opened q) = ((j : ℕ) → n ≤ j → q.read_vector j ≡ 0) × ((j : ℕ) → n ≤ j → q.write_vector j ≡ 0)
