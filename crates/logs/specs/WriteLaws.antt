-- Two writes with one identifier. What holds of the write order and of sameness stands in proofs/WriteLaws.antt. Assumes nothing.
use Rattle.std.specs.Prelude.{◌≡◌}
use Rattle.logs.specs.Write.{Write}

-- Two writes have one identifier.
abbrev pub SameKey : Write → Write → Type 0
SameKey w x = (w.clock ≡ x.clock) × (w.origin ≡ x.origin)
