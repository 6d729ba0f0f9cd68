-- `lines::reading::fields` meets its contract.
use Rattle.std.proofs.Common.{arith, length}
use Rattle.lines.proofs.FieldLaws.{fields-start, fields-more, fields-fail, fields-end}
use Rattle.lines.proofs.reading.fields.Goals as goal

pub loop-word-init : goal.loop-word-init
loop-word-init c = fields-start (length c.args.words.now) c.args.text.now

pub returns-in_err-value : goal.returns-in_err-value
returns-in_err-value c = rw c.from_residual.ensures (fields-fail _ _ _ _ c.loop-word.invariant c.loop-word-test.true c.in_err-value.ensures)

pub loop-word-preserved : goal.loop-word-preserved
loop-word-preserved c = fields-more _ _ _ _ c.loop-word.invariant c.loop-word-test.true (omega arith) c.in_ok-value.ensures

pub returns : goal.returns
returns c = fields-end _ _ _ _ c.loop-word.invariant c.loop-word-test.false (omega arith) _ c.strip_prefix.ensures.cases
