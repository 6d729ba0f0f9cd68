-- `checks::Ranges::goes_on` meets its contract.
use Rattle.std.proofs.Common.{sym, ◌∙◌}
use Rattle.words.specs.TestLaws.{and_on, and_off}
use Rattle.checks.specs.RuleLaws.{goes_one}
use Rattle.checks.proofs.Ranges.goes_on.Goals as goal

pub returns-then-hold : goal.returns-then-hold
returns-then-hold c = c.follows.ensures ∙ (and_on _ _ (sym c.hold.ensures ∙ c.if-hold.true) ∙ goes_one _ _ _ _)

pub returns-else-hold : goal.returns-else-hold
returns-else-hold c = c.if-hold.false ∙ (and_off _ _ (sym c.hold.ensures ∙ c.if-hold.false) ∙ goes_one _ _ _ _)
