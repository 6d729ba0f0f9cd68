-- `script::messages::bad_line` meets its contract: the words, the number and the line feed stand one behind the other.
use Rattle.std.proofs.Common.{arith}
use Rattle.lines.specs.Line.{fields}
use Rattle.script.specs.Reply.{bad_line}
use Rattle.printing.proofs.PrintedLaws.{adds_then}
use Rattle.script.proofs.PromisedLaws.{length-bad_line}
use Rattle.script.proofs.messages.bad_line.Goals as goal

pub put-requires : goal.put-requires
put-requires c = omega (arith, length-bad_line c.args.k)

pub put_number-requires : goal.put_number-requires
put_number-requires c = omega (arith, length-bad_line c.args.k, c.put.ensures.long, c.put.ensures.puts.next)

pub put-requires-2 : goal.put-requires-2
put-requires-2 c = omega (arith, length-bad_line c.args.k, c.put.ensures.long, c.put.ensures.puts.next, c.put_number.ensures.long, c.put_number.ensures.puts.next)

pub returns : goal.returns
unfolding bad_line fields
returns c = adds_then c.put.ensures (adds_then c.put_number.ensures c.put-2.ensures)
