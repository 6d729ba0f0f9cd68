-- What an offset answers, from where the part begins and that it fits. Assumes nothing.
use Rattle.std.specs.Prelude.{ℕ, ◌+◌, ◌≤◌, ◌≡◌}
use Rattle.std.proofs.Common.{arith}
use Rattle.tables.specs.Size.{Size}
use Rattle.tables.specs.SizeLaws.{Within}
use Rattle.tables.specs.Layout.{size}
use Rattle.tables.specs.Shape.{Offset}
use Rattle.tables.proofs.BoundLaws.{size-bound}

pub offset : {z : Size} {at words r : ℕ} → Within z → r ≡ at → at + words ≤ size z → Offset z at words r
offset {z} limits is fits = record { is = is; inside = omega arith; small = size-bound z limits }
