-- `Asking::may_read` meets its contract.
use Rattle.choice.proofs.AskingLaws.{reads-judged}
use Rattle.words.specs.TestLaws.{cond-true, cond-false}
use mathlib.Core.Path.{◌∙◌, sym}
use Rattle.choice.proofs.Asking.may_read.Goals as goal

pub returns-then-passes : goal.returns-then-passes
returns-then-passes c = sym (cond-true _ _ _ c.if-passes.true) ∙ reads-judged _ _ _ _ _ c.passes.ensures

pub returns-else-passes : goal.returns-else-passes
returns-else-passes c = sym (cond-false _ _ _ c.if-passes.false) ∙ reads-judged _ _ _ _ _ c.passes.ensures
