-- `Asking::search_to_read` meets its contract.
use borrow.Author.Rules.{rules}
use Rattle.choice.proofs.OutcomeLaws.{walked-to_read}
use Rattle.choice.proofs.Asking.search_to_read.Goals as goal

pub returns : goal.returns
returns c = walked-to_read _ _ _ _ c.search.ensures.walks (λ i v l judges. search rules)
