-- The first line, as a step of kind 0. That the reply that the code finds is the one of Reply.antt stands in proofs/ReplyLaws.antt. Assumes nothing.
use Rattle.std.specs.Prelude.{ℕ, List}
use Rattle.tables.specs.Size.{Size}
use Rattle.rules.specs.Step.{Step}
use Rattle.lines.specs.Read.{Got}

-- What is read of a first line.
abbrev pub first : Size → List ℕ → Got Step
first z rest = record { value = record { kind = 0; a = z.n; b = z.l; c = z.p; d = 0 }; rest = rest }
