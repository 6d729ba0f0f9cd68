-- How many line feeds a text has. That the lines of a text are told apart by them stands in proofs/FeedLaws.antt. Assumes nothing.
use Rattle.std.specs.Prelude.{ℕ, ◌+◌, cond, List, [], ◌∷◌, eqb}

-- How many line feeds a text has.
unfoldable pub feeds : List ℕ → ℕ
feeds [] = 0
feeds (b ∷ bs) = cond (eqb b 10) 1 0 + feeds bs
