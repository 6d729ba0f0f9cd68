-- `printing::Page::put_number` ends: each call takes the tenth of the number.
use Rattle.printing.proofs.Page.+put_number.Given as goal

abbrev pub decreases-put_number : goal.decreases-put_number
decreases-put_number l = l.x
