-- A table that is not sound and a wrong answer buffer together: the order in which the two are told decides the number that is returned, and
-- no word of table or buffer. Assumes nothing.
use Rattle.std.specs.Prelude.{ℕ, true, false, ◌⊎◌, ◌↔◌, ◌≡◌, eqb, length}
use Rattle.std.proofs.Math.Bool.{cond}
use mathlib.Core.List.{List, [], ◌∷◌}
use Rattle.std.proofs.Common.{inl, inr, ⊎_elim, ◌∙◌, arith, eqb-true}
use Rattle.std.proofs.Math.Path.{sym, ap}
use Rattle.std.proofs.lemmas.Bool.{eqb-false}
use Rattle.words.specs.TestLaws.{cond-true, cond-false, either}
use Rattle.tables.specs.Sound.{sound}
use Rattle.rules.specs.Step.{Step, refused, answer_words}
use Rattle.rules.proofs.CallLaws.{step-unsound}
use Rattle.yittomere.specs.StepInto.{step_into}
use Rattle.yittomere.proofs.StepIntoLaws.{step_into-fits, step_into-misfits}
use Rattle.yittomere.specs.OrderLaws.{smallest_first}

module _ (t : List ℕ) (x : Step) (buffer : List ℕ) where
  -- The order decides nothing where the table is sound,
  sound-alike : sound t ≡ true → smallest_first t x buffer ≡ step_into t x buffer
  unfolding smallest_first
  sound-alike h = cond-true (sound t) _ _ h

  -- nor where the buffer fits,
  fits-alike : sound t ≡ false → length buffer ≡ 5 → smallest_first t x buffer ≡ step_into t x buffer
  unfolding smallest_first refused
  fits-alike h five =
      cond-false (sound t) _ _ h
      ∙ (ap (λ b. record { code = 1; table = t; answers = cond (eqb b 5) (answer_words (refused 1 ∷ [])) buffer }) five
      ∙ sym (step_into-fits t x buffer five ∙ ap (λ o. record { code = o.answer.code; table = o.table; answers = answer_words (o.answer ∷ []) }) (step-unsound t x h)))

  -- and else only the number.
  misfits-beside : sound t ≡ false → eqb (length buffer) 5 ≡ false → smallest_first t x buffer ≡ record { code = 1; table = t; answers = buffer }
  unfolding smallest_first
  misfits-beside h other =
      cond-false (sound t) _ _ h ∙ ap (λ (ws : List ℕ). record { code = 1; table = t; answers = ws }) (cond-false (eqb (length buffer) 5) _ _ other)

  -- Both orders leave the same words in table and buffer, whatever these are.
  pub orders-alike : ((smallest_first t x buffer).table ≡ (step_into t x buffer).table) × ((smallest_first t x buffer).answers ≡ (step_into t x buffer).answers)
  orders-alike =
      ⊎_elim (λ h. alike (sound-alike h)) (λ h. ⊎_elim (λ f. alike (fits-alike h (eqb-true (length buffer) 5 f))) (λ f. nothing h f) (either (eqb (length buffer) 5)))
      (either (sound t))
    where
      alike : smallest_first t x buffer ≡ step_into t x buffer
          → ((smallest_first t x buffer).table ≡ (step_into t x buffer).table) × ((smallest_first t x buffer).answers ≡ (step_into t x buffer).answers)
      alike e = (ap (λ r. r.table) e, ap (λ r. r.answers) e)

      nothing : sound t ≡ false → eqb (length buffer) 5 ≡ false
          → ((smallest_first t x buffer).table ≡ (step_into t x buffer).table) × ((smallest_first t x buffer).answers ≡ (step_into t x buffer).answers)
      nothing h f =
          let here = misfits-beside h f in
          let there = step_into-misfits t x buffer (eqb-false (length buffer) 5 f) in
          (ap (λ r. r.table) here ∙ sym (ap (λ r. r.table) there), ap (λ r. r.answers) here ∙ sym (ap (λ r. r.answers) there))

  -- The number that is returned differs exactly if the table is not sound and the buffer does not fit: 8 here, 1 in the other order.
  pub orders-differ : ((smallest_first t x buffer).code ≡ (step_into t x buffer).code → ⊥) ↔ ((sound t ≡ false) × (length buffer ≡ 5 → ⊥))
  orders-differ = (
    λ d. ⊎_elim (λ h. absurd (d (ap (λ r. r.code) (sound-alike h)))) (λ h. (h, λ five. d (ap (λ r. r.code) (fits-alike h five)))) (either (sound t)),
    λ b e. two-codes b (either (eqb (length buffer) 5)) e,
  )
    where
      two-codes : (sound t ≡ false) × (length buffer ≡ 5 → ⊥) → (eqb (length buffer) 5 ≡ true) ⊎ (eqb (length buffer) 5 ≡ false)
          → (smallest_first t x buffer).code ≡ (step_into t x buffer).code → ⊥
      two-codes b (inl f) e = b.1 (eqb-true (length buffer) 5 f)
      two-codes b (inr f) e = omega (arith, ap (λ r. r.code) (misfits-beside b.0 f), ap (λ r. r.code) (step_into-misfits t x buffer b.1))
