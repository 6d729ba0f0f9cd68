-- What holds of a run on words, and that the promises of step and run leave nothing open. Assumes nothing.
use Rattle.std.specs.Prelude.{ℕ, suc, ◌*◌, ◌%◌, true, false, List, [], ◌∷◌, ◌↔◌, ◌≡◌, refl, eqb, replicate}
use Rattle.std.proofs.Math.Logic.{⊎_elim}
use Rattle.std.proofs.Common.{sym, ◌∙◌}
use Rattle.std.proofs.Math.Path.{ap}
use native.Mathlib.Omega.{arith}
use borrow.Author.Tests.{eqb-true}
use Rattle.std.proofs.Math.ListN.{length}
use Rattle.words.specs.TestLaws.{cond-true, cond-false, either, not-true-false, and_left, and_right}
use Rattle.tables.specs.Layout.{size_of}
use Rattle.tables.proofs.LayoutLaws.{length-encode}
use Rattle.tables.specs.Sound.{sound}
use Rattle.tables.proofs.MeaningLaws.{sound-means}
use Rattle.rules.specs.Step.{Step, step_words, steps_of, Answer, refused, answer_words}
use Rattle.rules.specs.Calls.{step, Walked, onward, walk, lengths_fit, run, StepPromise, RunPromise}
use Rattle.rules.proofs.CallLaws.{step-unsound, means-next, walk-unsound}

-- ---- lengths

-- No step changes the table's length.
pub step-length : (t : List ℕ) (x : Step) → length (step t x).table ≡ length t
step-length t x =
    ⊎_elim (λ h.
    let was = sound-means t h in
    let is = means-next was x in
    ap length is.words
    ∙ (length-encode (size_of t) _ (λ i l. is.state.room i)
    ∙ sym (ap length was.words ∙ length-encode (size_of t) _ (λ i l. was.state.room i))))
    (λ h. ap (λ o. length o.table) (step-unsound t x h)) (either (sound t))

-- And so no schedule does.
pub walk-length : (t : List ℕ) (xs : List Step) → length (walk t xs).table ≡ length t
unfolding walk onward
walk-length t [] = refl
walk-length t (x ∷ xs) = walk-length (step t x).table xs ∙ step-length t x

-- One answer to each step, five words to an answer.
pub walk-answers : (t : List ℕ) (xs : List Step) → length (walk t xs).answers ≡ length xs
unfolding walk onward
walk-answers t [] = refl
walk-answers t (x ∷ xs) = ap suc (walk-answers (step t x).table xs)

-- Five words to an answer.
pub length-answer_words : (rs : List Answer) → length (answer_words rs) ≡ length rs * 5
unfolding answer_words
length-answer_words [] = refl
length-answer_words (r ∷ rs) = omega (arith, length-answer_words rs)

-- ---- steps and their words

-- Steps spelled as words are read back.
pub steps_of-step_words : (xs : List Step) → steps_of (step_words xs) ≡ xs
unfolding steps_of step_words
steps_of-step_words [] = refl
steps_of-step_words (x ∷ xs) = ap {B = List Step} (λ ys. x ∷ ys) (steps_of-step_words xs)

-- Words whose number is a multiple of five are the words of steps.
pub step_words-steps_of : (ws : List ℕ) → length ws % 5 ≡ 0 → step_words (steps_of ws) ≡ ws
unfolding steps_of step_words
step_words-steps_of [] h = refl
step_words-steps_of (a ∷ []) h = absurd (omega arith)
step_words-steps_of (a ∷ b ∷ []) h = absurd (omega arith)
step_words-steps_of (a ∷ b ∷ c ∷ []) h = absurd (omega arith)
step_words-steps_of (a ∷ b ∷ c ∷ d ∷ []) h = absurd (omega arith)
step_words-steps_of (a ∷ b ∷ c ∷ d ∷ e ∷ ws) h =
    ap {B = List ℕ} (λ vs. a ∷ b ∷ c ∷ d ∷ e ∷ vs) (step_words-steps_of ws (omega arith))

-- Five words to a step.
pub length-step_words : (xs : List Step) → length (step_words xs) ≡ length xs * 5
unfolding step_words
length-step_words [] = refl
length-step_words (x ∷ xs) = omega (arith, length-step_words xs)

-- ---- the run

module _ (t steps answers : List ℕ) where
  -- With lengths that fit a run is its steps one after another.
  pub run_fits : lengths_fit steps answers ≡ true
      → run t steps answers
      ≡ record { code = 0; table = (walk t (steps_of steps)).table; answers = answer_words (walk t (steps_of steps)).answers }
  unfolding run
  run_fits h = cond-true (lengths_fit steps answers) _ _ h

  -- With others it answers 8 and writes nothing.
  pub run-misfits : lengths_fit steps answers ≡ false → run t steps answers ≡ record { code = 8; table = t; answers = answers }
  unfolding run
  run-misfits h = cond-false (lengths_fit steps answers) _ _ h

  -- 8 exactly if the lengths do not fit; else 0, over any table.
  pub run-8-exactly : ((run t steps answers).code ≡ 8) ↔ (lengths_fit steps answers ≡ false)
  run-8-exactly = (
    λ e. not-true-false (lengths_fit steps answers) (λ h. absurd (omega (arith, ap (λ r. r.code) (run_fits h)))),
    λ h. ap (λ r. r.code) (run-misfits h),
  )

  -- The lengths of table and answer buffer stay.
  pub run-lengths : (length (run t steps answers).table ≡ length t) × (length (run t steps answers).answers ≡ length answers)
  unfolding lengths_fit
  run-lengths =
      ⊎_elim (λ h.
      let r = run_fits h in
      let same = eqb-true (length steps) (length answers) (and_left (eqb (length steps) (length answers)) _ h) in
      let five = eqb-true (length steps % 5) 0 (and_right (eqb (length steps) (length answers)) (eqb (length steps % 5) 0) h) in (
        ap (λ o. length o.table) r ∙ walk-length t (steps_of steps),
        ap (λ o. length o.answers) r
            ∙ omega (
              arith,
              length-answer_words (walk t (steps_of steps)).answers,
              walk-answers t (steps_of steps),
              length-step_words (steps_of steps),
              ap length (step_words-steps_of steps five),
              same,
            ),
      ))
      (λ h. (ap (λ o. length o.table) (run-misfits h), ap (λ o. length o.answers) (run-misfits h)))
      (either (lengths_fit steps answers))

-- "With fitting lengths the run itself answers 0, over an unsound table too, where each step answers 1."
pub run-unsound : (t steps answers : List ℕ) → sound t ≡ false → lengths_fit steps answers ≡ true
    → run t steps answers ≡ record { code = 0; table = t; answers = answer_words (replicate (length (steps_of steps)) (refused 1)) }
run-unsound t steps answers h fit =
    run_fits t steps answers fit
    ∙ ap (λ (w : Walked). record { code = 0; table = w.table; answers = answer_words w.answers }) (walk-unsound t (steps_of steps) h)

-- "An empty list with an empty answer buffer answers 0", and alters nothing.
pub run-empty : (t : List ℕ) → run t [] [] ≡ record { code = 0; table = t; answers = [] }
unfolding run lengths_fit steps_of walk answer_words
run-empty t = refl

-- ---- one promise, one result

-- What the definitions give keeps the promises,
pub step_keeps : (t : List ℕ) (x : Step) → StepPromise t x (step t x).answer (step t x).table
step_keeps t x = record { answer_is = refl; table_is = refl }

pub run-keeps : (t steps answers : List ℕ) → RunPromise t steps answers (run t steps answers).code (run t steps answers).table (run t steps answers).answers
run-keeps t steps answers = record { code_is = refl; table_is = refl; answers_are = refl }

-- and nothing else does: two results that the promise of a step allows are equal,
pub step-settled : (t : List ℕ) (x : Step) (r₁ r₂ : Answer) (l₁ l₂ : List ℕ) → StepPromise t x r₁ l₁ → StepPromise t x r₂ l₂ → (r₁ ≡ r₂) × (l₁ ≡ l₂)
step-settled t x r₁ r₂ l₁ l₂ p q = (p.answer_is ∙ sym q.answer_is, p.table_is ∙ sym q.table_is)

-- and two that the promise of a run allows.
pub run_settled : (t steps answers : List ℕ) (c₁ c₂ : ℕ) (l₁ l₂ a₁ a₂ : List ℕ) → RunPromise t steps answers c₁ l₁ a₁ → RunPromise t steps answers c₂ l₂ a₂
    → (c₁ ≡ c₂) × (l₁ ≡ l₂) × (a₁ ≡ a₂)
run_settled t steps answers c₁ c₂ l₁ l₂ a₁ a₂ p q =
    (p.code_is ∙ sym q.code_is, p.table_is ∙ sym q.table_is, p.answers_are ∙ sym q.answers_are)
