-- What holds of a step whose answer is put into a buffer: its two outcomes, that it is a run of one step, and that its promise leaves nothing
-- open. Assumes nothing.
use Rattle.std.specs.Prelude.{ℕ, List, [], ◌∷◌, ◌↔◌, ◌≡◌, refl, eqb, length, set}
use Rattle.std.proofs.Common.{⊎_elim, ◌∙◌, arith, eqb-true, eq-eqb, ne_eqb}
use Rattle.std.proofs.Math.Path.{sym, ap}
use Rattle.std.proofs.lemmas.Bool.{eqb-false}
use Rattle.std.proofs.Math.ListN.{get_or}
use Rattle.words.specs.SetLaws.{splice_all}
use Rattle.words.specs.SpliceLaws.{set-five}
use Rattle.words.specs.TestLaws.{cond-true, cond-false, either, and_both, not-true-false, and_left}
use Rattle.rules.specs.Step.{Step, step_words, Answer, answer_words}
use Rattle.rules.specs.Calls.{step, Walked, walk, lengths_fit, run, StepPromise}
use Rattle.rules.specs.CallLaws.{Refusal}
use Rattle.rules.proofs.CallLaws.{walk-one, step-refused}
use Rattle.rules.proofs.RunLaws.{run_fits, run-misfits, steps_of-step_words}
use Rattle.rules.proofs.Exact.{given-exactly}
use Rattle.yittomere.specs.StepInto.{step_into, StepIntoPromise}

module _ (t : List ℕ) (x : Step) (buffer : List ℕ) where
  -- ---- the two outcomes

  -- A buffer of five words gets the step's answer,
  pub step_into-fits : length buffer ≡ 5
      → step_into t x buffer ≡ record { code = (step t x).answer.code; table = (step t x).table; answers = answer_words ((step t x).answer ∷ []) }
  unfolding step_into
  step_into-fits h = cond-true (eqb (length buffer) 5) _ _ (eq-eqb (length buffer) 5 h)

  -- and for any other nothing is done.
  pub step_into-misfits : (length buffer ≡ 5 → ⊥) → step_into t x buffer ≡ record { code = 8; table = t; answers = buffer }
  unfolding step_into
  step_into-misfits h = cond-false (eqb (length buffer) 5) _ _ (ne_eqb (length buffer) 5 h)

  -- What is returned is also the first word of the answer.
  pub step_into-first : length buffer ≡ 5 → get_or (step_into t x buffer).answers 0 0 ≡ (step_into t x buffer).code
  unfolding answer_words
  step_into-first h = ap (λ r. get_or r.answers 0 0) (step_into-fits h) ∙ sym (ap (λ r. r.code) (step_into-fits h))

  -- 8 exactly if the buffer's length is not five: no step has this code.
  pub step_into-8-exactly : ((step_into t x buffer).code ≡ 8) ↔ (length buffer ≡ 5 → ⊥)
  step_into-8-exactly = (
    λ e h. ((given-exactly t x 8 (λ n. omega arith)).0 (sym (ap (λ r. r.code) (step_into-fits h)) ∙ e)).1,
    λ h. ap (λ r. r.code) (step_into-misfits h),
  )

  -- Whatever is refused, the table keeps every word; the buffer gets the code and four zeros, or keeps every word too.
  pub step_into-refused : ((step_into t x buffer).code ≡ 0 → ⊥) → (step_into t x buffer).table ≡ t
  step_into-refused not_done =
      ⊎_elim (λ h.
      let fits = step_into-fits (eqb-true (length buffer) 5 h) in
      ap (λ r. r.table) fits ∙ (step-refused t x (λ e. not_done (ap (λ r. r.code) fits ∙ e))).same_words)
      (λ h. ap (λ r. r.table) (step_into-misfits (eqb-false (length buffer) 5 h))) (either (eqb (length buffer) 5))

  pub step_into-zeros : ((step_into t x buffer).code ≡ 0 → ⊥) → length buffer ≡ 5 → (step_into t x buffer).answers ≡ (step_into t x buffer).code ∷ 0 ∷ 0 ∷ 0 ∷ 0 ∷ []
  unfolding answer_words
  step_into-zeros not_done h =
      let fits = step_into-fits h in
      let refusal : Refusal t x = step-refused t x (λ e. not_done (ap (λ r. r.code) fits ∙ e)) in
      ap (λ r. r.answers) fits
      ∙ λ i. (sym (ap (λ r. r.code) fits) i ∷ refusal.no_server i ∷ refusal.no_origin i ∷ refusal.no_clock i ∷ refusal.no_value i ∷ [])

  -- ---- a run of one step

  abbrev list : List ℕ
  list = step_words (x ∷ [])

  one-fits : length buffer ≡ 5 → run t list buffer ≡ record { code = 0; table = (step t x).table; answers = answer_words ((step t x).answer ∷ []) }
  unfolding lengths_fit step_words
  one-fits h =
      run_fits t list buffer (and_both _ _ (eq-eqb 5 (length buffer) (sym h)) refl)
      ∙ ap (λ (w : Walked). record { code = 0; table = w.table; answers = answer_words w.answers }) (ap (walk t) (steps_of-step_words (x ∷ [])) ∙ walk-one t x)

  one-misfits : (length buffer ≡ 5 → ⊥) → run t list buffer ≡ record { code = 8; table = t; answers = buffer }
  unfolding lengths_fit step_words
  one-misfits h =
      run-misfits t list buffer (not-true-false _ (λ fit. h (sym (eqb-true 5 (length buffer) (and_left (eqb 5 (length buffer)) _ fit)))))

  -- Table and buffer are those of a run of this step alone, whatever the buffer's length. Where the lengths fit the run's own code is 0.
  pub step_into-runs : ((step_into t x buffer).table ≡ (run t list buffer).table) × ((step_into t x buffer).answers ≡ (run t list buffer).answers)
  step_into-runs =
      ⊎_elim (λ h. let five = eqb-true (length buffer) 5 h in alike (step_into-fits five) (one-fits five))
      (λ h. let other = eqb-false (length buffer) 5 h in alike (step_into-misfits other) (one-misfits other)) (either (eqb (length buffer) 5))
    where
      alike : {c d : ℕ} {left answers : List ℕ} → step_into t x buffer ≡ record { code = c; table = left; answers = answers }
          → run t list buffer ≡ record { code = d; table = left; answers = answers }
          → ((step_into t x buffer).table ≡ (run t list buffer).table) × ((step_into t x buffer).answers ≡ (run t list buffer).answers)
      alike e f = (ap (λ r. r.table) e ∙ sym (ap (λ r. r.table) f), ap (λ r. r.answers) e ∙ sym (ap (λ r. r.answers) f))

  -- ---- the promise

  -- What the two outcomes are to the code: nothing done,
  pub step_into-nothing : (length buffer ≡ 5 → ⊥) → StepIntoPromise t x buffer 8 t buffer
  step_into-nothing h =
      let e = sym (step_into-misfits h) in
      record { code_is = ap (λ r. r.code) e; table_is = ap (λ r. r.table) e; answer_is = ap (λ r. r.answers) e }

  -- or the answer's words stored, the first of them returned.
  pub step_into-put : length buffer ≡ 5 → (r : Answer) → {left words : List ℕ} → StepPromise t x r left → words ≡ answer_words (r ∷ [])
      → StepIntoPromise t x buffer (get_or words 0 0) left words
  unfolding answer_words
  step_into-put h r promise stored =
      let e = sym (step_into-fits h) in
      record {
        code_is = ap (λ ws. get_or ws 0 0) stored ∙ ap (λ q. q.code) promise.answer_is ∙ ap (λ q. q.code) e;
        table_is = promise.table_is ∙ ap (λ q. q.table) e;
        answer_is = stored ∙ (ap (λ a. answer_words (a ∷ [])) promise.answer_is ∙ ap (λ q. q.answers) e);
      }

  -- or the answer stored word by word.
  pub step_into-stored : length buffer ≡ 5 → (r : Answer) → {left : List ℕ} → StepPromise t x r left
      → StepIntoPromise t x buffer r.code left (set (set (set (set (set buffer 0 r.code) 1 r.server) 2 r.origin) 3 r.clock) 4 r.value)
  unfolding answer_words
  step_into-stored h r promise =
      let stored = set-five buffer 0 r.code r.server r.origin r.clock r.value (omega arith) ∙ splice_all buffer 5 _ h in
      rw stored (step_into-put h r promise refl)

-- Two results that the promise allows are equal.
pub step_into-settled : (t : List ℕ) (x : Step) (buffer : List ℕ) (c₁ c₂ : ℕ) (l₁ l₂ w₁ w₂ : List ℕ) → StepIntoPromise t x buffer c₁ l₁ w₁ → StepIntoPromise t x buffer c₂ l₂ w₂
    → (c₁ ≡ c₂) × (l₁ ≡ l₂) × (w₁ ≡ w₂)
step_into-settled t x buffer c₁ c₂ l₁ l₂ w₁ w₂ p q =
    (p.code_is ∙ sym q.code_is, p.table_is ∙ sym q.table_is, p.answer_is ∙ sym q.answer_is)
