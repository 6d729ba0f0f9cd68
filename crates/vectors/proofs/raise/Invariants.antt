-- `vectors::raise` meets its contract. The loop's invariant: the components passed are the join's, and the others are as they were.
use Prim.Native.Nat.{◌≤◌}
use mathlib.Core.Path.{◌≡◌}
use lib.ListN.{length}
use Rattle.words.specs.RowLaws.{filled}
use Rattle.vectors.specs.Vector.{vector_of, join}
use Rattle.vectors.proofs.raise.Given as goal

abbrev pub invariant-loop-j : goal.invariant-loop-j
invariant-loop-j l = (l.j ≤ length l.fn.a) × (l.a ≡ filled l.j (join (vector_of l.fn.a) (vector_of l.b)) l.fn.a)
