-- A set without one of its writes, by which the theorems of proofs/LeastLaws.antt go down a set. Assumes nothing.
use Rattle.std.specs.Prelude.{not, List}
use Rattle.words.specs.Lists.{keep}
use Rattle.logs.specs.Write.{Write, same}

-- The set without one write.
abbrev pub without : Write → List Write → List Write
without w ws = keep (λ x. not (same x w)) ws
