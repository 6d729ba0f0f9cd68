-- `checks::follows` meets its contract.
use Rattle.std.proofs.Common.{sym, ◌∙◌}
use Rattle.words.specs.TestLaws.{and_on, and_off}
use Rattle.logs.proofs.WriteLaws.{before-clock-le}
use Rattle.checks.specs.RuleLaws.{clocks-near}
use Rattle.checks.proofs.follows.Goals as goal

pub overflow_sub-result : goal.overflow_sub-result
overflow_sub-result c = before-clock-le _ _ (sym c.is_before.ensures ∙ c.if-is_before.true)

pub returns-then-is_before : goal.returns-then-is_before
returns-then-is_before c =
    let behind = sym c.is_before.ensures ∙ c.if-is_before.true in
    clocks-near _ _ (before-clock-le _ _ behind) ∙ and_on _ _ behind

pub returns-else-is_before : goal.returns-else-is_before
returns-else-is_before c = c.if-is_before.false ∙ and_off _ _ (sym c.is_before.ensures ∙ c.if-is_before.false)
