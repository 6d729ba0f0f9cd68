-- 01, "Up to date", in plain terms: what the check of one server asks, component by component. That it is what the rules ask stands in
-- proofs/CurrentLaws.antt. Assumes nothing.
use Rattle.std.specs.Prelude.{ℕ, ◌<◌, ◌≤◌, Bool, true, ◌≡◌}
use Rattle.tables.specs.State.{Session}

-- "dominate (be at least, in all components)".
abbrev pub AtMost : ℕ → (ℕ → ℕ) → (ℕ → ℕ) → Type 0
AtMost n v w = (j : ℕ) → j < n → v j ≤ w j

-- A server with this vector: it dominates the read-vector if the first guarantee is chosen, and the write-vector if the second is.
pub record Current (for_reads for_writes : ℕ → Bool) (n : ℕ) (q : Session) (vector : ℕ → ℕ) : Type 0 where
  pub reads : for_reads q.guarantees ≡ true → AtMost n q.read_vector vector
  pub writes : for_writes q.guarantees ≡ true → AtMost n q.write_vector vector
