-- `checks::Ranges::goes_on_from` meets its contract. The loop's invariant: the writes go on from the first if the others do from the last one passed.
use Rattle.logs.specs.LogTests.{goes_on}
use Rattle.logs.specs.Places.{write_in}
use Rattle.logs.specs.Stored.{write_of}
use lib.ListN.{drop}
use mathlib.Core.List.{map}
use mathlib.Core.Path.{◌≡◌}
use Rattle.checks.proofs.Ranges.goes_on_from.Given as goal

abbrev pub invariant-loop-place : goal.invariant-loop-place
invariant-loop-place l = goes_on l.self.origins l.self.items (write_of l.fn.w) (map write_in l.others) ≡ goes_on l.self.origins l.self.items (write_of l.last) (map write_in (drop l.place-index l.others))
