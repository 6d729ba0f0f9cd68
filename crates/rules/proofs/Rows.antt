-- 01, "The desk program": the ten rows, as one statement over one list. Assumes nothing.
use Rattle.std.specs.Prelude.{ℕ, List, [], ◌∷◌, true, ◌≡◌, refl, eqb, length}
use Rattle.std.proofs.Common.{sym, ◌∙◌, ap, eq-eqb}
use Rattle.words.specs.Lists.{keep, first, or_else, blocks, row, part, upd, below}
use Rattle.words.specs.Tests.{all, zeros, implies}
use Rattle.words.specs.TestLaws.{and_both}
use Rattle.vectors.specs.Vector.{dominates, join, greatest}
use Rattle.logs.specs.Write.{before, same}
use Rattle.logs.specs.Log.{insert, insert_all, last_on, lacking, follow}
use Rattle.logs.specs.LogTests.{in_range, goes_on, ordered, of_origin, up_to, greatest_clock, greatest_of, same_all, agrees}
use Rattle.logs.specs.Places.{spelled, places, entry, entries}
use Rattle.tables.specs.Size.{within}
use Rattle.tables.specs.State.{with_vector, with_log, with_slot}
use Rattle.tables.specs.Layout.{header, vector_at, count_at, log_at, slot_width, slot_at, size, head_words, slot_words, encode, size_of, log_part, slot_part, session_of, slot_of, decode}
use Rattle.tables.specs.Sound.{rule_a, rule_b, rule_c, rule_d, rule_e, slot_sound, rule_f, sound_at, sound}
use Rattle.tables.specs.Make.{fresh}
use Rattle.rules.specs.Step.{step_words, answer_words, reach_in_range, open_in_range, close_in_range, read_in_range, write_in_range, exchange_in_range, if_in_range, of_kind, asked, refused, done}
use Rattle.rules.specs.Choice.{read_your_writes, monotonic_reads, writes_follow_reads, monotonic_writes, up_to_date_to_read, up_to_date_to_write, reaches, start_of, next, onwards, around, choose, has_room, up_to_date, may_write_to}
use Rattle.rules.specs.Rules.{refuse, new_session, opening, closing, read_answer, after_read, read_from, reading, new_write, after_write, accepted, write_answer, write_to, writing, going_over, sent, received, exchange_answer, exchanging, obeyed, rule}
use Rattle.rules.proofs.RunLaws.{run_fits, steps_of-step_words}
use Rattle.rules.specs.Calls.{lengths_fit, run, written, step, onward, walk}
use Rattle.rules.specs.Rows.{answered_words, asked_words, rows, small, ten_answers, ten_steps}

-- The rules give each row its answer.
pub ten-rows : (walk (fresh small) ten_steps).answers ≡ ten_answers
unfolding keep first or_else blocks row part upd below all zeros implies dominates join greatest before same insert insert_all last_on lacking follow in_range goes_on ordered of_origin up_to greatest_clock greatest_of same_all agrees spelled places entry entries within with_vector with_log with_slot header vector_at count_at log_at slot_width slot_at size head_words slot_words encode size_of log_part slot_part session_of slot_of decode rule_a rule_b rule_c rule_d rule_e slot_sound rule_f sound_at sound fresh reach_in_range open_in_range close_in_range read_in_range write_in_range exchange_in_range if_in_range of_kind asked refused done read_your_writes monotonic_reads writes_follow_reads monotonic_writes up_to_date up_to_date_to_read up_to_date_to_write has_room may_write_to reaches start_of next onwards around choose refuse new_session opening closing read_answer after_read read_from reading new_write after_write accepted write_answer write_to writing going_over sent received exchange_answer exchanging obeyed rule written step onward walk
ten-rows = refl

-- And so does the run, word for word: fifty words asked, and fifty answered, into any answer buffer of that length.
pub ten-rows-run : (buffer : List ℕ) → length buffer ≡ 50 → (run (fresh small) (asked_words rows) buffer).answers ≡ answered_words rows
unfolding lengths_fit step_words answer_words
ten-rows-run buffer e =
    let fit : lengths_fit (step_words ten_steps) buffer ≡ true = and_both (eqb 50 (length buffer)) true (eq-eqb 50 (length buffer) (sym e)) refl in
    ap (λ r. r.answers) (run_fits (fresh small) (step_words ten_steps) buffer fit)
    ∙ ap answer_words (ap (λ xs. (walk (fresh small) xs).answers) (steps_of-step_words ten_steps) ∙ ten-rows)

-- And the forty-eight words of the table then: header, two server heads, two logs of four places, one slot.
pub ten-rows-table : (walk (fresh small) ten_steps).table
    ≡ 2 ∷ 4 ∷ 1 ∷ 0 ∷
    2 ∷ 2 ∷ 3 ∷
    1 ∷ 2 ∷ 2 ∷
    0 ∷ 1 ∷ 7 ∷ 50 ∷
    0 ∷ 2 ∷ 7 ∷ 70 ∷
    1 ∷ 2 ∷ 7 ∷ 60 ∷
    0 ∷ 0 ∷ 0 ∷ 0 ∷
    0 ∷ 1 ∷ 7 ∷ 50 ∷
    1 ∷ 2 ∷ 7 ∷ 60 ∷
    0 ∷ 0 ∷ 0 ∷ 0 ∷
    0 ∷ 0 ∷ 0 ∷ 0 ∷
    2 ∷ 1 ∷ 2 ∷ 2 ∷ 2 ∷ 2 ∷ []
unfolding keep first or_else blocks row part upd below all zeros implies dominates join greatest before same insert insert_all last_on lacking follow in_range goes_on ordered of_origin up_to greatest_clock greatest_of same_all agrees spelled places entry entries within with_vector with_log with_slot header vector_at count_at log_at slot_width slot_at size head_words slot_words encode size_of log_part slot_part session_of slot_of decode rule_a rule_b rule_c rule_d rule_e slot_sound rule_f sound_at sound fresh reach_in_range open_in_range close_in_range read_in_range write_in_range exchange_in_range if_in_range of_kind asked refused done read_your_writes monotonic_reads writes_follow_reads monotonic_writes up_to_date up_to_date_to_read up_to_date_to_write has_room may_write_to reaches start_of next onwards around choose refuse new_session opening closing read_answer after_read read_from reading new_write after_write accepted write_answer write_to writing going_over sent received exchange_answer exchanging obeyed rule written step onward walk
ten-rows-table = refl
