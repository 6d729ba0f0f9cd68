-- `is_laid_out` meets its contract: the length is asked where the limits hold.
use Rattle.std.proofs.Common.{sym, ◌∙◌}
use Rattle.tables.proofs.SizeLaws.{within-exactly}
use Rattle.soundness.proofs.is_laid_out.Goals as goal

pub words-requires : goal.words-requires
words-requires c = (within-exactly _).0 (sym c.is_within.ensures ∙ c.if-is_within.true)
