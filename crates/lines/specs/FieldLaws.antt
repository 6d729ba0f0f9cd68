-- Numbers that were read and the reading of those behind them, joined. The theorems stand in proofs/FieldLaws.antt. Assumes nothing.
use Rattle.std.specs.Prelude.{List, ◌++◌, ℕ, Option, Some, None}
use Rattle.lines.specs.Read.{Got}

-- Numbers before those that are still to be read.
unfoldable pub joined : List ℕ → Option (Got (List ℕ)) → Option (Got (List ℕ))
joined vs None = None
joined vs (Some g) = Some (record { value = vs ++ g.value; rest = g.rest })
