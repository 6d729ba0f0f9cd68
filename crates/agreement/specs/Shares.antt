-- Each of the rules c, d and e: its share of one server or of two, on a table's words. Assumes nothing.
use Rattle.std.specs.Prelude.{ℕ, Bool, List, eqb}
use Rattle.logs.specs.LogTests.{ordered, greatest_of, agrees}
use Rattle.tables.specs.Size.{Size, items}
use Rattle.tables.specs.Layout.{decode}

-- c: one log
unfoldable pub in_order : Size → List ℕ → ℕ → Bool
in_order z t i = ordered z.n items ((decode z t).log i)

-- d: "server i's vector at j is the greatest clock of origin j in log i, or 0"
unfoldable pub follows : Size → List ℕ → ℕ → ℕ → Bool
follows z t i j = eqb ((decode z t).vector i j) (greatest_of j ((decode z t).log i))

-- e: "log i's entries of origin j are exactly log j's entries of origin j with clock at most that vector component"
unfoldable pub agrees_with : Size → List ℕ → ℕ → ℕ → Bool
agrees_with z t i j = agrees j ((decode z t).vector i j) ((decode z t).log i) ((decode z t).log j)
