-- An accepted step on a slot, as the theorems of proofs/TermLaws.antt have it. Assumes nothing.
use Rattle.std.specs.Prelude.{ℕ, List, ◌≡◌}
use Rattle.rules.specs.Step.{Step}
use Rattle.rules.specs.Calls.{step}

-- The step is of this kind, for slot k, and accepted.
abbrev pub Done : List ℕ → Step → ℕ → ℕ → Type 0
Done t x kind k = (x.kind ≡ kind) × (x.a ≡ k) × ((step t x).answer.code ≡ 0)
