-- `lines::reading::more_digits` meets its contract. The loop's invariant: what the digits passed and those still to come say is what all of them say.
use Rattle.std.proofs.Common.{◌≡◌, length}
use Rattle.lines.specs.Read.{more}
use Rattle.lines.proofs.reading.more_digits.Given as goal

abbrev pub invariant-loop-digit : goal.invariant-loop-digit
invariant-loop-digit l = more l.value l.rest ≡ more l.sofar l.text

abbrev pub decreases-loop-digit : goal.decreases-loop-digit
decreases-loop-digit l = length l.rest
