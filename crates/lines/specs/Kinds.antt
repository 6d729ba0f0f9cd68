-- The numbers that 01 gives the kinds of steps. Assumes nothing.
use Rattle.std.specs.Prelude.{ℕ, Option, Some, None}
use Rattle.lines.specs.declared.kind.Kind.{Kind}
use Rattle.lines.specs.declared.kind.Kind.TheVariants.{Open, Close, Read, Write, Exchange}

-- 01, "Steps": the kinds 1 to 5.
abbrev pub number_of : Kind → ℕ
number_of Open = 1
number_of Close = 2
number_of Read = 3
number_of Write = 4
number_of Exchange = 5

-- 0 where there is no kind.
abbrev pub number_in : Option Kind → ℕ
number_in None = 0
number_in (Some kind) = number_of kind
