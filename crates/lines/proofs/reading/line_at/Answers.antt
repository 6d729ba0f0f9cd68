-- `lines::reading::line_at` meets its contract.
use Rattle.std.proofs.Common.{◌∙◌, ap, arith}
use Rattle.lines.specs.Found.{line_words}
use Rattle.lines.proofs.LineLaws.{line_first, line-none, line-some}
use Rattle.lines.proofs.reading.line_at.Goals as goal

pub returns-then-at-eq0 : goal.returns-then-at-eq0
returns-then-at-eq0 c = c.sizes.ensures ∙ ap line_words (line_first _ _ c.if-at-eq0.true)

pub returns-in_err-get : goal.returns-in_err-get
returns-in_err-get c = rw c.from_residual.ensures (line-none c.args.text.now c.args.at c.if-at-eq0.false (omega (arith, c.in_err-get.ensures.lookup)))

pub returns : goal.returns
returns c = c.step.ensures ∙ line-some _ _ c.if-at-eq0.false c.in_ok-get.ensures.lookup.0.2
