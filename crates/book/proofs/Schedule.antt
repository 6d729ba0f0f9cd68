-- Demand 3: every answer of a run from a fresh table equals that of the plain book. Assumes nothing.
use Rattle.std.specs.Prelude.{ℕ, true, List, [], ◌∷◌, ◌≡◌, refl}
use Rattle.std.proofs.Common.{◌∙◌, ap, ap₂}
use Rattle.tables.specs.Size.{Size, within}
use Rattle.tables.specs.State.{State}
use Rattle.tables.specs.Make.{fresh, making}
use Rattle.tables.proofs.MakeLaws.{made-fresh}
use Rattle.tables.specs.Meaning.{Means}
use Rattle.tables.proofs.MeaningLaws.{fresh-means}
use Rattle.rules.specs.Step.{Step, steps_of, asked, Answer, answer_words}
use Rattle.rules.specs.Rules.{rule}
use Rattle.rules.specs.Calls.{onward, walk, lengths_fit, run}
use Rattle.rules.proofs.CallLaws.{step-answer, means-next}
use Rattle.rules.proofs.RunLaws.{run_fits}
use Rattle.book.specs.Book.{Book, blank, book_step, book_answers}
use Rattle.book.specs.Matching.{Matching}
use Rattle.book.proofs.MatchingKept.{fresh-matching}
use Rattle.book.proofs.Simulation.{book-step}

-- From a table that means a state, and a book that matches the state, all answers are alike.
pub walk-book : {z : Size} {s : State} {t : List ℕ} → Means z s t → (b : Book) → Matching s b → (xs : List Step)
    → (walk t xs).answers ≡ book_answers z b xs
unfolding walk onward book_answers rule
walk-book means b m [] = refl
walk-book {z} {s} means b m (x ∷ xs) =
    let both = book-step z s b means.state m (asked z x) in
    ap₂ {C = List Answer} (λ r rs. r ∷ rs) (step-answer means x ∙ both.0) (walk-book {s = (rule z s x).state} (means-next means x) (book_step z b (asked z x)).book both.1 xs)

-- For every size within the limits and every schedule of steps, the answers over a fresh table are the book's.
pub schedule-book : (z : Size) → within z ≡ true → (xs : List Step) → (walk (fresh z) xs).answers ≡ book_answers z blank xs
schedule-book z limits xs = walk-book (fresh-means z limits) blank fresh-matching xs

-- The same of the run on words: over a table that making gave, with step words and an answer buffer of lengths that fit, the run
-- answers 0 and its answer words are the book's.
pub run-book : (z : Size) (buffer steps answers : List ℕ) → (making z buffer).code ≡ 0 → lengths_fit steps answers ≡ true
    → ((run (making z buffer).buffer steps answers).code ≡ 0)
    × ((run (making z buffer).buffer steps answers).answers ≡ answer_words (book_answers z blank (steps_of steps)))
run-book z buffer steps answers made fit =
    let f = made-fresh z buffer made in
    let r = run_fits (making z buffer).buffer steps answers fit in (
      ap (λ o. o.code) r,
      ap (λ o. o.answers) r
          ∙ ap answer_words (ap (λ t. (walk t (steps_of steps)).answers) f.1 ∙ schedule-book z f.0 (steps_of steps)),
    )
