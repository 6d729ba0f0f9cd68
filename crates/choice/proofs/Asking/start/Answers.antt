-- `Asking::start` meets its contract.
use mathlib.Core.Path.{◌∙◌}
use Rattle.choice.proofs.AskingLaws.{asking-had, asking-last}
use Rattle.choice.proofs.Asking.start.Goals as goal

pub returns : goal.returns
returns c = c.saturating_sub.ensures ∙ asking-last (asking-had c.args.self.now.asks) c.last_used.ensures
