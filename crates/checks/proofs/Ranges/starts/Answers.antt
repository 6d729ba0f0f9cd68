-- `checks::Ranges::starts` meets its contract.
use Rattle.std.proofs.Common.{sym, ◌∙◌}
use Rattle.words.specs.TestLaws.{and_on, and_off}
use Rattle.checks.proofs.Ranges.starts.Goals as goal

pub returns-then-hold : goal.returns-then-hold
returns-then-hold c = and_on _ _ (sym c.hold.ensures ∙ c.if-hold.true)

pub returns-else-hold : goal.returns-else-hold
returns-else-hold c = c.if-hold.false ∙ and_off _ _ (sym c.hold.ensures ∙ c.if-hold.false)
