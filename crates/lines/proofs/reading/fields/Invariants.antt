-- `lines::reading::fields` meets its contract. The loop's invariant: the numbers passed stand in words, and those to come are still in the text.
use Rattle.std.proofs.Common.{◌≡◌, ◌-◌, length, take}
use Rattle.lines.specs.Read.{read_fields}
use Rattle.lines.specs.FieldLaws.{joined}
use Rattle.lines.proofs.reading.fields.Given as goal

abbrev pub invariant-loop-word : goal.invariant-loop-word
invariant-loop-word l =
    joined (take l.word-index l.word-items) (read_fields (length l.fn.words - l.word-index) l.rest) ≡ read_fields (length l.fn.words) l.text
