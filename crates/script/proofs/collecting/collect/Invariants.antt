-- `script::collecting::collect` meets its contract. The loop's invariant: the reader stands at a place of the text, and the steps before it are
-- listed. Each turn lists one more.
use Rattle.std.proofs.Common.{◌≡◌, ◌≤◌, ◌-◌, suc, length}
use Rattle.tables.specs.Shape.{shape}
use Rattle.script.specs.Reply.{most_steps}
use Rattle.script.proofs.ListedLaws.{Listing}
use Rattle.script.proofs.collecting.collect.Given as goal

abbrev pub invariant-loop-reader : goal.invariant-loop-reader
invariant-loop-reader l = record {
  same_text : l.reader.text.now ≡ l.text;
  few : l.count ≤ most_steps;
  long : 2560 ≤ length l.steps;
  so : Listing l.text (shape l.sizes) l.count l.steps l.reader.at;
}

abbrev pub decreases-loop-reader : goal.decreases-loop-reader
decreases-loop-reader l = suc most_steps - l.count
