-- `checks::ordered` meets its contract.
use Rattle.std.proofs.Common.{sym, ◌∙◌}
use Rattle.words.specs.TestLaws.{and_on, and_off}
use Rattle.checks.specs.RuleLaws.{ordered-none, ordered-some}
use Rattle.checks.proofs.ordered.Goals as goal

pub returns-in_default : goal.returns-in_default
returns-in_default c = ordered-none _ _ _ c.in_default.len_below

pub returns-then-starts : goal.returns-then-starts
returns-then-starts c =
    let some = ordered-some _ _ _ c.args.log.now _ c.in-len1-up.len_at_least c.from-first.ensures in
    c.goes_on_from.ensures ∙ (and_on _ _ (sym c.starts.ensures ∙ c.if-starts.true) ∙ some)

pub returns-else-starts : goal.returns-else-starts
returns-else-starts c =
    let some = ordered-some _ _ _ c.args.log.now _ c.in-len1-up.len_at_least c.from-first.ensures in
    c.if-starts.false ∙ (and_off _ _ (sym c.starts.ensures ∙ c.if-starts.false) ∙ some)
