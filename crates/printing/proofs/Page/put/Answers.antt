-- `printing::Page::put` meets its contract.
use Rattle.std.proofs.Common.{length, refl, ap, ◌∙◌}
use Rattle.words.specs.LentLaws.{lent}
use Rattle.words.specs.SpliceLaws.{length-splice}
use Rattle.printing.proofs.Page.put.Goals as goal

pub returns : goal.returns
returns c =
    let page = c.args.self.now in
    let piece = c.args.piece.now in
    let written = lent page.bytes.now (length piece) refl refl c.copy_from_slice.ensures.after in
    record {
      same = refl;
      long = ap length written ∙ length-splice page.len (length piece) page.bytes.now piece c.requires refl;
      puts = record { written = written; next = refl };
    }
