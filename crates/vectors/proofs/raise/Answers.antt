use mathlib.Core.Path.{sym}
use borrow.Author.Rules.{rules}
use Rattle.words.specs.RowLaws.{filled_none}
use Rattle.vectors.specs.VectorLaws.{join_more}
use Rattle.vectors.proofs.raise.Goals as goal

pub loop-j-init : goal.loop-j-init
loop-j-init c = (search rules, sym (filled_none _ _))

pub loop-j-preserved : goal.loop-j-preserved
loop-j-preserved c = (search rules, join_more c.args.a.now c.args.b.now c.loop-j.j (search rules) c.loop-j.invariant.1 (search rules))
