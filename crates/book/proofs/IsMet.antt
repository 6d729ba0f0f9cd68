-- The guarantees are not empty: one schedule on which every premise of the four theorems of Guarantees.antt, and of the four of Sessions.antt,
-- holds. Assumes nothing.
use Rattle.std.specs.Prelude.{refl}
use Rattle.std.proofs.Common.{arith}
use Rattle.words.specs.Lists.{here, there}
use Rattle.words.specs.Lists.{keep, first, or_else, blocks, row, part, upd, below}
use Rattle.words.specs.Tests.{all, zeros, implies}
use Rattle.vectors.specs.Vector.{dominates, join, greatest}
use Rattle.logs.specs.Write.{before, same}
use Rattle.logs.specs.Log.{insert, insert_all, last_on, lacking, follow}
use Rattle.logs.specs.LogTests.{in_range, goes_on, ordered, of_origin, up_to, greatest_clock, greatest_of, same_all, agrees}
use Rattle.logs.specs.Places.{spelled, places, entry, entries}
use Rattle.tables.specs.Size.{within}
use Rattle.tables.specs.State.{with_vector, with_log, with_slot}
use Rattle.tables.specs.Layout.{header, vector_at, count_at, log_at, slot_width, slot_at, size, head_words, slot_words, encode, size_of, log_part, slot_part, session_of, slot_of, decode}
use Rattle.tables.specs.Sound.{rule_a, rule_b, rule_c, rule_d, rule_e, slot_sound, rule_f, sound_at, sound}
use Rattle.tables.specs.Make.{fresh}
use Rattle.rules.specs.Step.{reach_in_range, open_in_range, close_in_range, read_in_range, write_in_range, exchange_in_range, if_in_range, of_kind, asked, refused, done}
use Rattle.rules.specs.Choice.{read_your_writes, monotonic_reads, writes_follow_reads, monotonic_writes, up_to_date_to_read, up_to_date_to_write, reaches, start_of, next, onwards, around, choose, has_room, up_to_date, may_write_to}
use Rattle.rules.specs.Rules.{refuse, new_session, opening, closing, read_answer, after_read, read_from, reading, new_write, after_write, accepted, write_answer, write_to, writing, going_over, sent, received, exchange_answer, exchanging, obeyed, rule}
use Rattle.rules.specs.Calls.{written, step, onward, walk}
use Rattle.book.specs.Book.{relevant}
use Rattle.book.specs.Terms.{database, after}
use Rattle.book.specs.Met.{Met}

pub met : Met
unfolding keep first or_else blocks row part upd below all zeros implies dominates join greatest before same insert insert_all last_on lacking follow in_range goes_on ordered of_origin up_to greatest_clock greatest_of same_all agrees spelled places entry entries within with_vector with_log with_slot header vector_at count_at log_at slot_width slot_at size head_words slot_words encode size_of log_part slot_part session_of slot_of decode rule_a rule_b rule_c rule_d rule_e slot_sound rule_f sound_at sound fresh reach_in_range open_in_range close_in_range read_in_range write_in_range exchange_in_range if_in_range of_kind asked refused done read_your_writes monotonic_reads writes_follow_reads monotonic_writes up_to_date up_to_date_to_read up_to_date_to_write has_room may_write_to reaches start_of next onwards around choose refuse new_session opening closing read_answer after_read read_from reading new_write after_write accepted write_answer write_to writing going_over sent received exchange_answer exchanging obeyed rule written step onward walk after database relevant
met =
    record {
      opened = record { kind = refl; slot = refl; asked = refl; accepted = refl };
      lasts = (
        λ c. omega (arith, c.kind),
        (λ c. omega (arith, c.kind), (λ c. omega (arith, c.kind), (λ c. omega (arith, c.kind), (λ c. omega (arith, c.kind), tt)))),
      );
      asked = (refl, refl, refl, refl);
      wrote_first = record { kind = refl; slot = refl; accepted = refl; made = refl };
      lasts_to_read = (λ c. omega (arith, c.kind), tt);
      read_first = record { kind = refl; slot = refl; accepted = refl; server = refl };
      chose_ryw = record { session = _; is = refl; chosen = refl };
      lasts_to_reread = (λ c. omega (arith, c.kind), (λ c. omega (arith, c.kind), tt));
      read_second = record { kind = refl; slot = refl; accepted = refl; server = refl };
      chose_mr = record { session = _; is = refl; chosen = refl };
      depends = here refl;
      wrote_second = record { kind = refl; slot = refl; accepted = refl; made = refl };
      lasts_to_write = (λ c. omega (arith, c.kind), (λ c. omega (arith, c.kind), tt));
      chose_wfr = record { session = _; is = refl; chosen = refl };
      chose_mw = record { session = _; is = refl; chosen = refl };
      reached = there (here refl);
    }
