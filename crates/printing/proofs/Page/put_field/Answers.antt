-- `printing::Page::put_field` meets its contract.
use Rattle.std.proofs.Common.{arith}
use Rattle.lines.proofs.DecimalLaws.{length-decimal}
use Rattle.printing.proofs.PrintedLaws.{adds_then}
use Rattle.printing.proofs.Page.put_field.Goals as goal

pub put_number-requires : goal.put_number-requires
put_number-requires c = omega (arith, length-decimal c.args.x (omega arith), c.requires, c.put.ensures.long, c.put.ensures.puts.next)

pub returns-clause-adds : goal.returns-clause-adds
returns-clause-adds c = adds_then c.put.ensures c.put_number.ensures

pub returns-clause-within : goal.returns-clause-within
returns-clause-within c = omega (arith, length-decimal c.args.x (omega arith), c.put.ensures.puts.next, c.put_number.ensures.puts.next)
