-- `Counted::log` meets its contract: by rule b the count fits.
use Rattle.tables.specs.Shape.{shape}
use Rattle.agreement.specs.ReadLaws.{count_within}
use Rattle.agreement.proofs.Counted.log.Goals as goal

pub log-requires : goal.log-requires
log-requires c = (c.requires, count_within (shape c.args.self.now.view.sizes) c.args.self.now.view.words.now c.args.self.now.counts c.args.i c.requires)
