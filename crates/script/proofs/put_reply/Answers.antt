-- `script::put_reply` meets its contract.
use Rattle.std.proofs.Common.{Err, sym, ◌∙◌, ap, arith, rules}
use Rattle.script.specs.Collect.{reply_for}
use Rattle.script.specs.Listed.{collected_in}
use Rattle.script.proofs.ReplyLaws.{long-one}
use Rattle.script.proofs.PromisedLaws.{adds-as, bad_line-fits, listed-says, listed-answers}
use Rattle.script.proofs.put_reply.Goals as goal

pub returns-then-text-gt-MOST_BYTES : goal.returns-then-text-gt-MOST_BYTES
returns-then-text-gt-MOST_BYTES c = adds-as (sym (long-one _ c.if-text-gt-MOST_BYTES.true)) c.too_long.ensures

pub bad_line-requires : goal.bad_line-requires
bad_line-requires c = omega (arith, bad_line-fits c.in-Err-BadLine.k c.args.page.now.bytes.now (search rules) c.requires.room, c.requires.empty)

pub returns-in-Ok : goal.returns-in-Ok
returns-in-Ok c =
    adds-as (listed-answers _ _ _ c.answer.ensures.answers ∙ listed-says _ c.if-text-gt-MOST_BYTES.false c.in-Ok.ensures) c.put_answers.ensures

pub returns-in-Err-BadLine : goal.returns-in-Err-BadLine
unfolding reply_for
returns-in-Err-BadLine c =
    adds-as (ap (λ f. reply_for (collected_in c.collect.new.steps (Err f))) (sym c.in-Err-BadLine.field-0-is) ∙ listed-says _ c.if-text-gt-MOST_BYTES.false c.in-Err-BadLine.ensures)
    c.bad_line.ensures

pub returns-in-Err-TooLong : goal.returns-in-Err-TooLong
unfolding reply_for
returns-in-Err-TooLong c =
    adds-as (ap (λ f. reply_for (collected_in c.collect.new.steps (Err f))) (sym c.in-Err-TooLong.field-0-is) ∙ listed-says _ c.if-text-gt-MOST_BYTES.false c.in-Err-TooLong.ensures)
    c.too_long-in-Err-TooLong.ensures
