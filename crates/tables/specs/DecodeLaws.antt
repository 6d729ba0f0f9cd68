-- A state that its words show: as many entries as there are places, and nothing past the last server and slot. That states and words are each
-- other's stands in proofs/DecodeLaws.antt. Assumes nothing.
use Rattle.std.specs.Prelude.{ℕ, ◌≤◌, ◌≡◌, length, []}
use Rattle.tables.specs.Size.{Size}
use Rattle.tables.specs.SlotLaws.{Confined}
use Rattle.tables.specs.State.{State, closed}

-- A state with nothing that its words do not show.
pub record Shown (z : Size) (s : State) : Type 0 where
  pub room : (i : ℕ) → length (s.log i) ≤ z.l
  pub no_vector : (i : ℕ) → z.n ≤ i → (j : ℕ) → s.vector i j ≡ 0
  pub no_component : (i j : ℕ) → z.n ≤ j → s.vector i j ≡ 0
  pub no_log : (i : ℕ) → z.n ≤ i → s.log i ≡ []
  pub no_slot : (k : ℕ) → z.p ≤ k → s.slot k ≡ closed
  pub confined : (k : ℕ) → Confined z.n (s.slot k)
