-- `printing::Page::put_number` meets its contract: a number below 10 is one digit, any other has its last digit behind its tenth.
use Rattle.std.proofs.Common.{ap, arith, length}
use Rattle.lines.proofs.DecimalLaws.{decimal-one, length_more}
use Rattle.printing.proofs.PrintedLaws.{adds-digit, adds-last}
use Rattle.printing.proofs.Page.+put_number.Goals as goal

pub put-requires : goal.put-requires
put-requires t c = omega (arith, ap length (decimal-one c.args.x (omega arith)), c.requires)

pub put_number-requires : goal.put_number-requires
put_number-requires t c = omega (arith, length_more c.args.x (omega arith), c.requires)

pub put-requires-else-x-lt10 : goal.put-requires-else-x-lt10
put-requires-else-x-lt10 t c = omega (arith, length_more c.args.x (omega arith), c.requires, c.put_number.ensures.long, c.put_number.ensures.puts.next)

pub returns-then-x-lt10 : goal.returns-then-x-lt10
returns-then-x-lt10 t c = adds-digit _ (omega arith) c.put.ensures

pub returns-else-x-lt10 : goal.returns-else-x-lt10
returns-else-x-lt10 t c = adds-last _ (omega arith) c.put_number.ensures c.put-else-x-lt10.ensures
