-- `checks::Ranges::hold` meets its contract.
use Rattle.logs.specs.LogTests.{in_range}
use Rattle.std.proofs.Common.{rules, tests}
use Rattle.checks.proofs.Ranges.hold.Goals as goal

pub returns-then-w-self : goal.returns-then-w-self
unfolding in_range
returns-then-w-self c = search (rules, tests)

pub returns-else-w-self : goal.returns-else-w-self
unfolding in_range
returns-else-w-self c = search (rules, tests)
