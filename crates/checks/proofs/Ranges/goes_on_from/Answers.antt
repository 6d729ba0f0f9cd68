use borrow.Author.Rules.{rules}
use Rattle.checks.specs.RuleLaws.{goes-next, goes-fails, goes_end}
use mathlib.Core.Path.{sym, ◌∙◌}
use Rattle.checks.proofs.Ranges.goes_on_from.Goals as goal

pub returns-then-not-goes_on : goal.returns-then-not-goes_on
returns-then-not-goes_on c =
    let at = c.loop-place in
    sym (goes-fails _ _ _ _ at.place-index at.invariant _ c.loop-place-test.true c.from-next.ensures (sym c.goes_on.ensures ∙ c.if-not-goes_on.true))

pub loop-place-preserved : goal.loop-place-preserved
loop-place-preserved c =
    let at = c.loop-place in
    goes-next _ _ _ _ at.place-index at.invariant _ c.loop-place-test.true c.from-next.ensures (sym c.goes_on.ensures ∙ c.if-not-goes_on.false)

pub returns : goal.returns
returns c = sym (goes_end _ _ _ _ c.loop-place.place-index c.loop-place.invariant (search rules))
