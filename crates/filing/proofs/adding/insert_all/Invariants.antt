-- `filing::adding::insert_all` meets its contract. The loop's invariant: the writes passed, from the last down, stand in their places.
use Prim.Native.Nat.{◌+◌}
use Rattle.logs.specs.Stored.{write_of}
use Rattle.filing.specs.Merge.{Merging}
use lib.ListN.{length}
use mathlib.Core.List.{map}
use Rattle.filing.proofs.adding.insert_all.Given as goal

abbrev pub invariant-loop-left : goal.invariant-loop-left
invariant-loop-left l = Merging l.initial.log l.count (map write_of l.batch) (length l.batch) l.log l.i (map write_of l.left) (length l.left)

abbrev pub decreases-loop-left : goal.decreases-loop-left
decreases-loop-left l = l.i + length l.left
