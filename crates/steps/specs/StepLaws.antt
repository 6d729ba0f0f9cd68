-- A step on any table: from the check of the table and what was done, to the promise; and its answer as five words of a buffer. Assumes
-- nothing.
use Rattle.std.specs.Prelude.{ℕ, ◌+◌, ◌≤◌, Bool, true, false, List, [], ◌∷◌, ◌≡◌, refl, length, get_or, set}
use Rattle.std.proofs.Common.{sym, ◌∙◌, ap, subst, arith}
use Rattle.words.specs.Lists.{splice}
use Rattle.words.specs.SpliceLaws.{set-five}
use Rattle.tables.specs.Size.{Size}
use Rattle.tables.specs.Layout.{size, size_of}
use Rattle.tables.specs.Sound.{sound}
use Rattle.tables.proofs.MeaningLaws.{sound-means}
use Rattle.tables.proofs.ViewLaws.{length-view}
use Rattle.views.specs.declared.Store.{Store}
use Rattle.rules.specs.Step.{Step, Answer, refused, answer_words}
use Rattle.rules.specs.Calls.{written, StepPromise}
use Rattle.rules.proofs.CallLaws.{step-unsound, step-means}
use Rattle.kinds.specs.Obeys.{Held, Sound}
use Rattle.applying.specs.Asked.{Applied}
use Rattle.steps.specs.Taken.{Taken}

module _ (t : List ℕ) {passed : Bool} (so : passed ≡ sound t) where
  -- A table that passes the check has its header,
  pub sound-long : passed ≡ true → 4 ≤ length t
  unfolding size
  sound-long yea = omega (arith, length-view (sound-means t (sym so ∙ yea)))

  -- and means the state that its words decode to.
  pub sound-held : passed ≡ true → {z : Size} → z ≡ size_of t → Held z t
  sound-held yea e = subst (λ z. Held z t) (sym e) (sound-means t (sym so ∙ yea))

  -- Code 1: "table isn't sound".
  pub unsound-promised : (x : Step) {r : Answer} → passed ≡ false → r ≡ refused 1 → StepPromise t x r t
  unsound-promised x nay answer =
      let e = step-unsound t x (sym so ∙ nay) in
      record { answer_is = answer ∙ sym (ap (λ w. w.answer) e); table_is = sym (ap (λ w. w.table) e) }

-- What is applied to a sound table is the step.
pub step-promised : {s left : Store} {x : Step} {r : Answer} → Sound s → Applied s x r left → StepPromise s.words.now x r left.words.now
unfolding written
step-promised {x = x} sound applied =
    record {
      answer_is = applied.comes.came.answer_is ∙ sym (ap (λ w. w.answer) (step-means sound x));
      table_is = applied.comes.came.table_is ∙ sym (ap (λ w. w.table) (step-means sound x));
    }

-- The five words of an answer, one by one: however they are listed, they are the answer's.
pub five-words : (r : Answer) (words : List ℕ) → length words ≡ 5 → get_or words 0 0 ≡ r.code → get_or words 1 0 ≡ r.server → get_or words 2 0 ≡ r.origin
    → get_or words 3 0 ≡ r.clock → get_or words 4 0 ≡ r.value → words ≡ answer_words (r ∷ [])
unfolding answer_words
five-words r [] five code server origin clock value = absurd (omega (arith, five))
five-words r (k ∷ []) five code server origin clock value = absurd (omega (arith, five))
five-words r (k ∷ a ∷ []) five code server origin clock value = absurd (omega (arith, five))
five-words r (k ∷ a ∷ b ∷ []) five code server origin clock value = absurd (omega (arith, five))
five-words r (k ∷ a ∷ b ∷ c ∷ []) five code server origin clock value = absurd (omega (arith, five))
five-words r (k ∷ a ∷ b ∷ c ∷ d ∷ []) five code server origin clock value = λ e. code e ∷ server e ∷ origin e ∷ clock e ∷ value e ∷ []
five-words r (k ∷ a ∷ b ∷ c ∷ d ∷ more ∷ words) five code server origin clock value = absurd (omega (arith, five))

-- A step whose answer's words are put at their place.
pub step-put : {t left written : List ℕ} {x : Step} (r : Answer) {words : List ℕ} (at : ℕ) (answers : List ℕ) → written ≡ splice at 5 answers words → words ≡ answer_words (r ∷ []) → StepPromise t x r left
    → Taken t x at answers left written
step-put r at answers put spelled promise =
    record {
      table_is = promise.table_is;
      answers_are = put ∙ ap (splice at 5 answers) (spelled ∙ ap (λ q. answer_words (q ∷ [])) promise.answer_is);
    }

-- One whose answer is stored word by word.
pub step-taken : {t left : List ℕ} {x : Step} (r : Answer) (at : ℕ) (answers : List ℕ) → at + 5 ≤ length answers → StepPromise t x r left
    → Taken t x at answers left (set (set (set (set (set answers at r.code) (at + 1) r.server) (at + 2) r.origin) (at + 3) r.clock) (at + 4) r.value)
unfolding answer_words
step-taken r at answers fits promise = step-put r at answers (set-five answers at r.code r.server r.origin r.clock r.value fits) refl promise
