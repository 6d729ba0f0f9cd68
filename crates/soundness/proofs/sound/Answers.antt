-- `sound` meets its contract: a slice that is laid out can be read as a table.
use Rattle.std.proofs.Common.{sym, ◌∙◌}
use Rattle.soundness.specs.StageLaws.{laid_out-laid}
use Rattle.soundness.proofs.sound.Goals as goal

pub invariant_of-keeps_rules_from_b : goal.invariant_of-keeps_rules_from_b
invariant_of-keeps_rules_from_b c = record { laid = laid_out-laid (sym c.is_laid_out.ensures ∙ c.if-is_laid_out.true) }
