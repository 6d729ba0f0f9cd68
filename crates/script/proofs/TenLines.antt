-- 01, "The desk program": the ten rows as text. The rows are written out in rules/Rows.antt alone; their text is spelled here from them, and
-- one row of it byte by byte. Assumes nothing.
use Rattle.std.specs.Prelude.{[], ◌∷◌, ◌≡◌, refl}
use Rattle.std.proofs.Common.{◌∙◌, ap, subst}
use Rattle.tables.specs.Size.{within}
use Rattle.tables.specs.Make.{fresh}
use Rattle.rules.specs.Calls.{walk}
use Rattle.rules.specs.Rows.{small, ten_steps, ten_answers}
use Rattle.rules.proofs.Rows.{ten-rows}
use Rattle.lines.specs.Decimal.{digits, decimal}
use Rattle.lines.specs.Line.{fields, numbers, size_line}
use Rattle.lines.specs.Read.{chain, begins, is_digit, more, read_number, read_field, prepend, read_fields, kind_of, count_of, step_with, read_arguments, read_step, read_sizes_behind, read_sizes}
use Rattle.script.specs.Reply.{admissible, answer_line, answer_lines, Reply}
use Rattle.script.specs.Collect.{push, onto, unless_ended, collect, sizes_of, collect_from, reply_for, reply_to}
use Rattle.script.proofs.ReplyLaws.{reply-found}
use Rattle.script.specs.TenLines.{line_of, ten_in}

-- The steps are read.
ten-read : reply_to ten_in ≡ answer_lines (walk (fresh small) ten_steps).answers
unfolding within admissible chain begins is_digit more read_number read_field prepend read_fields kind_of count_of step_with read_arguments read_step read_sizes_behind read_sizes push onto unless_ended collect sizes_of collect_from reply_for reply_to digits decimal fields numbers size_line
ten-read = refl

-- The desk program's reply to the ten rows: the lines of their answers.
pub ten-lines : Reply ten_in (answer_lines ten_answers)
ten-lines = subst (Reply ten_in) (ten-read ∙ ap answer_lines ten-rows) (reply-found ten_in)

-- The second row byte by byte: `w 0 7 50 1`,
pub row_in : line_of (record { kind = 4; a = 0; b = 7; c = 50; d = 1 }) ≡ 119 ∷ 32 ∷ 48 ∷ 32 ∷ 55 ∷ 32 ∷ 53 ∷ 48 ∷ 32 ∷ 49 ∷ 10 ∷ []
unfolding digits decimal fields
row_in = refl

-- and `0 0 0 1 50`.
pub row_out : answer_line (record { code = 0; server = 0; origin = 0; clock = 1; value = 50 }) ≡ 48 ∷ 32 ∷ 48 ∷ 32 ∷ 48 ∷ 32 ∷ 49 ∷ 32 ∷ 53 ∷ 48 ∷ 10 ∷ []
unfolding digits decimal fields numbers answer_line
row_out = refl
