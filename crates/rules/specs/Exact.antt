-- Some server is reachable, and none that is passes a check: the words of the buyer's second demand. When exactly a step is "behind" stands in
-- proofs/Exact.antt. Assumes nothing.
use Rattle.std.specs.Prelude.{ℕ, ◌<◌, Bool, true, false, List, ◌≡◌}
use Rattle.tables.specs.Size.{Size}
use Rattle.tables.specs.State.{Session, State}
use Rattle.tables.specs.Layout.{size_of, decode}
use Rattle.rules.specs.Chosen.{Reachable}
use Rattle.rules.specs.Choice.{reaches}

-- Some server is reachable, and none that is passes the check.
abbrev pub NonePasses : List ℕ → ℕ → Session → (Size → State → Session → ℕ → Bool) → Type 0
NonePasses t reach q passes =
    Reachable (size_of t).n reach
    × ((i : ℕ) → i < (size_of t).n → reaches reach i ≡ true → passes (size_of t) (decode (size_of t) t) q i ≡ false)
