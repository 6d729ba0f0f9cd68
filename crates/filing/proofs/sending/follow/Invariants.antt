-- `filing::sending::follow` meets its contract. The loop's invariant: the vector follows the writes passed.
use Rattle.logs.specs.Log.{follow}
use Rattle.logs.specs.Stored.{write_of}
use Rattle.vectors.specs.Vector.{vector_of}
use Rattle.words.specs.Lists.{row}
use lib.ListN.{length, take}
use mathlib.Core.List.{map}
use mathlib.Core.Path.{◌≡◌}
use Rattle.filing.proofs.sending.follow.Given as goal

abbrev pub invariant-loop-w : goal.invariant-loop-w
invariant-loop-w l = (length l.vector ≡ length l.initial.vector) × (l.vector ≡ row (length l.initial.vector) (follow (map write_of (take l.w-index l.batch)) (vector_of l.initial.vector)))
