-- What is printed for a good script, by the plain book. Assumes nothing.
use Rattle.std.specs.Prelude.{ℕ, ◌≤◌, true, List, ◌≡◌, Option, leb, length, take}
use Rattle.std.specs.Io.KnownBytes.{Appends}
use Rattle.std.proofs.Common.{◌∙◌, ap, subst}
use Rattle.words.specs.TestLaws.{and_left}
use Rattle.tables.specs.Size.{Size, within}
use Rattle.rules.specs.Step.{Step}
use Rattle.book.specs.Book.{blank, book_answers}
use Rattle.book.proofs.Schedule.{schedule-book}
use Rattle.script.specs.Reply.{most_bytes, most_steps, admissible, Script, script, Reply, answered, answer_lines}
use Rattle.script.proofs.ReplyLaws.{reply-settled}
use Rattle.script.specs.Promised.{Room}
use Rattle.desk.specs.Served.{ServePromise, Answered}
use Rattle.desk.specs.ServedLaws.{served-reply}

within-limits : {z : Size} {xs : List Step} {text : List ℕ} → Script z xs text → within z ≡ true
unfolding admissible
within-limits {z} (script ok lines) = and_left (within z) (leb z.l 128) ok

-- Demand 3, of the program: to a text that spells sizes and steps, the reply is a line for each answer of a book that keeps whole sets of writes.
pub printed-by-the-book : (z : Size) (xs : List Step) (text out : List ℕ) → Script z xs text → length text ≤ most_bytes → length xs ≤ most_steps → Reply text out
    → out ≡ answer_lines (book_answers z blank xs)
printed-by-the-book z xs text out spelled short few said =
    reply-settled text out _ said (answered short z xs spelled few) ∙ ap answer_lines (schedule-book z (within-limits spelled) xs)

-- The same of what `serve` leaves in `out`, if what was read is the input.
pub served-by-the-book : {table steps answers out text' table' steps' answers' out' : List ℕ} {read code count : ℕ}
    → ServePromise table steps answers out read code count text' table' steps' answers' out' → Room table steps answers out
    → (z : Size) (xs : List Step) (input : List ℕ) → take read text' ≡ take 16385 input → Script z xs input → length input ≤ most_bytes → length xs ≤ most_steps
    → take count out' ≡ answer_lines (book_answers z blank xs)
served-by-the-book {out'} {count} served room z xs input is spelled short few =
    printed-by-the-book z xs input (take count out') spelled short few (served-reply served room input is)

-- The same of what `work` leaves in its output.
pub answered-by-the-book : {input : List ℕ} {before after : Option (List ℕ)} → Answered input before after → (z : Size) (xs : List Step) → Script z xs input
    → length input ≤ most_bytes → length xs ≤ most_steps → Appends before after (answer_lines (book_answers z blank xs))
answered-by-the-book {input} {before} {after} said z xs spelled short few =
    subst (Appends before after) (printed-by-the-book z xs input said.bytes spelled short few said.is_reply) said.written
