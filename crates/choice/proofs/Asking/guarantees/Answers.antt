-- `Asking::guarantees` meets its contract.
use Rattle.choice.proofs.AskingLaws.{asking-had, asking-guarantees}
use native.Mathlib.Omega.{arith}
use Rattle.choice.proofs.Asking.guarantees.Goals as goal

pub overflow_sub-result : goal.overflow_sub-result
overflow_sub-result c = omega (arith, asking-guarantees (asking-had c.args.self.now.asks) c.guarantees.ensures)

pub returns : goal.returns
returns c = omega (arith, asking-guarantees (asking-had c.args.self.now.asks) c.guarantees.ensures)
