-- The code's own type of a table, as a size, and a slice that has that size. Assumes nothing.
use Rattle.std.specs.Prelude.{ℕ, ◌+◌, ◌≤◌, List, ◌≡◌, length}
use Rattle.tables.specs.declared.Table.{Table}
use Rattle.tables.specs.Size.{Size}
use Rattle.tables.specs.SizeLaws.{Within}
use Rattle.tables.specs.Layout.{size}

abbrev pub shape : Table → Size
shape z = record { n = z.n; l = z.l; p = z.p }

-- The limits hold, and the slice has as many words as they ask for. What the words say is left open.
pub record Laid (z : Size) (t : List ℕ) : Type 0 where
  pub limits : Within z
  pub words : length t ≡ size z

-- What an offset answers: where a part of so many words begins, and that the part lies within the table, whose length is small.
pub record Offset (z : Size) (at words r : ℕ) : Type 0 where
  pub is : r ≡ at
  pub inside : r + words ≤ size z
  pub small : size z ≤ 66356
