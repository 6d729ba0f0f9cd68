-- `Asking::search_to_write` meets its contract.
use borrow.Author.Rules.{rules}
use Rattle.choice.proofs.OutcomeLaws.{walked-to_write}
use Rattle.choice.proofs.Asking.search_to_write.Goals as goal

pub returns : goal.returns
returns c = walked-to_write _ _ _ _ c.search.ensures.walks (λ i v l judges. search rules)
