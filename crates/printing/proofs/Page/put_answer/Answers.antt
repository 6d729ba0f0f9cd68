-- `printing::Page::put_answer` meets its contract: five numbers and a line feed stand one behind the other.
use Rattle.lines.specs.Line.{fields, numbers}
use Rattle.printing.specs.Printed.{word_line}
use Rattle.printing.proofs.PrintedLaws.{adds_then}
use Rattle.printing.proofs.Page.put_answer.Goals as goal

pub returns-clause-adds : goal.returns-clause-adds
unfolding word_line numbers fields
returns-clause-adds c =
    adds_then c.put_number.ensures
    (adds_then c.put_field.ensures.adds (adds_then c.put_field-2.ensures.adds (adds_then c.put_field-3.ensures.adds (adds_then c.put_field-4.ensures.adds c.put.ensures))))
