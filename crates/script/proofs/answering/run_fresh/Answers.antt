-- `script::answering::run_fresh` meets its contract.
use Rattle.tables.specs.Shape.{shape}
use Rattle.script.proofs.FreshLaws.{made-fresh, fresh-answers}
use Rattle.script.proofs.answering.run_fresh.Goals as goal

pub returns : goal.returns
returns c = fresh-answers _ _ _ (made-fresh (shape c.args.z) c.requires.within.0 c.args.table.now c.requires.within.1 c.make.ensures) c.requires.lengths.0 c.requires.lengths.1 c.run.ensures
