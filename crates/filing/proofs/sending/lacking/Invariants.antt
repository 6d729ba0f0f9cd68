-- `filing::sending::lacking` meets its contract. The loop's invariant: the batch holds what the vector lacks of the places passed.
use Prim.Native.Nat.{◌≤◌}
use Rattle.logs.specs.Log.{lacking}
use Rattle.logs.specs.Places.{write_in}
use Rattle.logs.specs.Stored.{write_of}
use Rattle.vectors.specs.Vector.{vector_of}
use lib.ListN.{length, take}
use mathlib.Core.List.{map}
use mathlib.Core.Path.{◌≡◌}
use Rattle.filing.proofs.sending.lacking.Given as goal

abbrev pub invariant-loop-place : goal.invariant-loop-place
invariant-loop-place l = (l.k ≤ length l.batch) × (length l.batch ≡ length l.initial.batch) × (map write_of (take l.k l.batch) ≡ lacking (vector_of l.vector) (map write_in (take l.place-index l.log)))
