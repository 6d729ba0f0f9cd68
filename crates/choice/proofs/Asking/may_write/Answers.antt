-- `Asking::may_write` meets its contract.
use Rattle.choice.proofs.AskingLaws.{asking-had, writes-judged}
use Rattle.words.specs.TestLaws.{cond-true, cond-false}
use borrow.Author.Tests.{lt-ltb, le-ltb}
use mathlib.Core.Path.{refl, ◌∙◌, sym}
use Rattle.choice.proofs.Asking.may_write.Goals as goal

pub returns-then-not-passes : goal.returns-then-not-passes
returns-then-not-passes c =
    sym (cond-false _ _ _ c.if-not-passes.true)
    ∙ writes-judged _ _ _ _ _ (asking-had c.args.self.now.asks) c.requires refl c.passes.ensures

pub returns-then-count-self : goal.returns-then-count-self
returns-then-count-self c =
    sym (cond-true _ _ _ c.if-not-passes.false ∙ cond-true _ _ _ (lt-ltb _ _ c.if-count-self.true))
    ∙ writes-judged _ _ _ _ _ (asking-had c.args.self.now.asks) c.requires c.count.ensures c.passes.ensures

pub returns-else-count-self : goal.returns-else-count-self
returns-else-count-self c =
    sym (cond-true _ _ _ c.if-not-passes.false ∙ cond-false _ _ _ (le-ltb _ _ c.if-count-self.false))
    ∙ writes-judged _ _ _ _ _ (asking-had c.args.self.now.asks) c.requires c.count.ensures c.passes.ensures
