-- A fresh table, and making one. Assumes nothing.
use Rattle.std.specs.Prelude.{ℕ, ◌-◌, cond, List, ◌++◌, ◌≡◌, eqb, length, replicate}
use Rattle.tables.specs.Size.{Size, within}
use Rattle.tables.specs.Layout.{header, size}

-- 01, "A sound table": "A fresh table has its header and zeros."
unfoldable pub fresh : Size → List ℕ
fresh z = header z ++ replicate (size z - 4) 0

-- What making answers and leaves in the buffer.
pub record Made : Type 0 where
  pub code : ℕ
  pub buffer : List ℕ

-- 01, "Answer codes": "Making a table tests 2, then 8 (buffer length must be exact), and writes nothing if refused."
unfoldable pub making : Size → List ℕ → Made
making z buffer =
    cond (within z) (cond (eqb (length buffer) (size z)) (record { code = 0; buffer = fresh z }) (record { code = 8; buffer = buffer }))
    (record { code = 2; buffer = buffer })

-- The promise of making: the code and every word of the buffer are those of `making`.
pub record MakePromise (z : Size) (buffer : List ℕ) (code : ℕ) (left : List ℕ) : Type 0 where
  pub code_is : code ≡ (making z buffer).code
  pub buffer_is : left ≡ (making z buffer).buffer
