-- A run takes its steps one after another: one step more of a list of words, and what it adds to the answers. Assumes nothing.
use Rattle.std.specs.Prelude.{ℕ, zero, suc, ◌+◌, ◌*◌, ◌≤◌, ◌<◌, ◌%◌, false, ◌&&◌, ◌≡◌, refl, length, get_or, List, [], ◌∷◌, ◌++◌}
use Rattle.std.proofs.Math.Path.{sym, ap, subst}
use Rattle.std.specs.Simd.{first_chunks}
use Rattle.applying.specs.Asked.{step_in}
use Rattle.std.proofs.Common.{◌∙◌, ap₂, add-one, arith, eq-eqb, ne_eqb, length-drop, take-append-drop, drop-drop, get_or-drop, length-take-le, append-nil, append_assoc}
use Rattle.std.proofs.Math.Dec.{eqb}
use Rattle.std.proofs.Math.ListN.{take, drop, drop_of_length-le}
use Rattle.std.proofs.Math.Seq.{take_all}
use Rattle.words.specs.Lists.{splice}
use Rattle.words.specs.PartLaws.{splice-middle}
use Rattle.words.specs.TestLaws.{and_both}
use Rattle.rules.specs.Step.{Step, steps_of, Answer, answer_words}
use Rattle.rules.specs.Calls.{step, onward, walk, lengths_fit, RunPromise}
use Rattle.rules.proofs.CallLaws.{walk-append}
use Rattle.rules.proofs.RunLaws.{run_fits, run-misfits, walk-answers, length-answer_words, step_words-steps_of, length-step_words}
use Rattle.steps.specs.Taken.{step_at, Taken}

-- ---- the steps of a list of words

-- A word behind the first five.
word-behind : (ws : List ℕ) (at m : ℕ) → get_or ws (5 + at + m) 0 ≡ get_or (drop 5 ws) (at + m) 0
word-behind ws at m =
    let e : 5 + at + m ≡ 5 + (at + m) = omega arith in
    ap (λ j. get_or ws j 0) e ∙ sym (get_or-drop 5 ws (at + m) 0)

-- A step behind the first.
step-behind : (ws : List ℕ) (at : ℕ) → step_at ws (5 + at) ≡ step_at (drop 5 ws) at
step-behind ws at =
    λ e. record {
      kind = sym (get_or-drop 5 ws at 0) e;
      a = word-behind ws at 1 e;
      b = word-behind ws at 2 e;
      c = word-behind ws at 3 e;
      d = word-behind ws at 4 e;
    }

-- The step in front, as five words.
step-take : (ws : List ℕ) → step_in (take 5 ws) ≡ step_at ws 0
step-take [] = refl
step-take (k ∷ []) = refl
step-take (k ∷ a ∷ []) = refl
step-take (k ∷ a ∷ b ∷ []) = refl
step-take (k ∷ a ∷ b ∷ c ∷ []) = refl
step-take (k ∷ a ∷ b ∷ c ∷ d ∷ ws) = refl

-- Each step, as the words come by fives.
pub step-lent : (n i : ℕ) (ws : List ℕ) → i < n → step_in (get_or (first_chunks 5 n ws) i []) ≡ step_at ws (i * 5)
step-lent zero i ws h = absurd (omega arith)
step-lent (suc n) zero ws h = step-take ws
step-lent (suc n) (suc i) ws h =
    let e : suc i * 5 ≡ 5 + i * 5 = omega arith in
    step-lent n i (drop 5 ws) (omega arith) ∙ sym (ap (step_at ws) e ∙ step-behind ws (i * 5))

-- One step more.
pub take_steps : (i : ℕ) (ws : List ℕ) → i * 5 + 5 ≤ length ws → take (suc i) (steps_of ws) ≡ take i (steps_of ws) ++ (step_at ws (i * 5) ∷ [])
unfolding steps_of
take_steps i [] h = absurd (omega arith)
take_steps i (k ∷ []) h = absurd (omega arith)
take_steps i (k ∷ a ∷ []) h = absurd (omega arith)
take_steps i (k ∷ a ∷ b ∷ []) h = absurd (omega arith)
take_steps i (k ∷ a ∷ b ∷ c ∷ []) h = absurd (omega arith)
take_steps zero (k ∷ a ∷ b ∷ c ∷ d ∷ ws) h = refl
take_steps (suc i) (k ∷ a ∷ b ∷ c ∷ d ∷ ws) h =
    let e : suc i * 5 ≡ 5 + i * 5 = omega arith in
    let all = k ∷ a ∷ b ∷ c ∷ d ∷ ws in
    ap {B = List Step} (λ r. record { kind = k; a = a; b = b; c = c; d = d } ∷ r)
    (take_steps i ws (omega arith) ∙ ap {B = List Step} (λ x. take i (steps_of ws) ++ (x ∷ [])) (sym (ap (step_at all) e ∙ step-behind all (i * 5))))

-- As many steps as fives of words.
pub length-steps_of : (n : ℕ) (ws : List ℕ) → length ws ≡ n * 5 → length (steps_of ws) ≡ n
length-steps_of n ws e = omega (arith, length-step_words (steps_of ws), ap length (step_words-steps_of ws (omega arith)))

-- ---- the steps taken so far

-- After i steps: the table, and the words of the answers with the rest of the buffer.
pub record Walking (t steps answers : List ℕ) (i : ℕ) (left written : List ℕ) : Type 0 where
  pub table_is : left ≡ (walk t (take i (steps_of steps))).table
  pub answers_are : written ≡ answer_words (walk t (take i (steps_of steps))).answers ++ drop (i * 5) answers

pub walking-starts : (t steps answers : List ℕ) → Walking t steps answers 0 t answers
unfolding walk answer_words
walking-starts t steps answers = record { table_is = refl; answers_are = refl }

pub answer_words-append : (rs qs : List Answer) → answer_words (rs ++ qs) ≡ answer_words rs ++ answer_words qs
unfolding answer_words
answer_words-append [] qs = refl
answer_words-append (r ∷ rs) qs = ap {B = List ℕ} (λ ws. r.code ∷ r.server ∷ r.origin ∷ r.clock ∷ r.value ∷ ws) (answer_words-append rs qs)

module _ (t steps answers : List ℕ) (n : ℕ) (whole : length steps ≡ n * 5) (same : length steps ≡ length answers) where
  -- Each step taken has its five words.
  taken-length : (i : ℕ) → i ≤ n → length (answer_words (walk t (take i (steps_of steps))).answers) ≡ i * 5
  taken-length i l =
      length-answer_words (walk t (take i (steps_of steps))).answers
      ∙ ap (λ k. k * 5) (walk-answers t (take i (steps_of steps)) ∙ length-take-le i (steps_of steps) (omega (arith, length-steps_of n steps whole)))

  -- The walk with one step more.
  walk_more : (i : ℕ) → i < n → (u : List ℕ) → u ≡ (walk t (take i (steps_of steps))).table
      → walk t (take (i + 1) (steps_of steps))
      ≡ record {
        answers = (walk t (take i (steps_of steps))).answers ++ ((step u (step_at steps (i * 5))).answer ∷ []);
        table = (step u (step_at steps (i * 5))).table;
      }
  unfolding walk onward
  walk_more i l u e =
      ap (λ k. walk t (take k (steps_of steps))) (add-one i)
      ∙ (ap (walk t) (take_steps i steps (omega arith))
      ∙ (walk-append t (take i (steps_of steps)) (step_at steps (i * 5) ∷ [])
      ∙ ap (λ v. record {
        answers = (walk t (take i (steps_of steps))).answers ++ ((step v (step_at steps (i * 5))).answer ∷ []);
        table = (step v (step_at steps (i * 5))).table;
      }) (sym e)))

  -- The answers with one more.
  answers-more : (i : ℕ) → i < n → (r : Answer) → splice (i * 5) 5 (answer_words (walk t (take i (steps_of steps))).answers ++ drop (i * 5) answers) (answer_words (r ∷ []))
      ≡ answer_words ((walk t (take i (steps_of steps))).answers ++ (r ∷ [])) ++ drop ((i + 1) * 5) answers
  answers-more i l r =
      let front = answer_words (walk t (take i (steps_of steps))).answers in
      let rest = drop (i * 5) answers in
      let e : i * 5 + 5 ≡ (i + 1) * 5 = omega arith in
      ap (λ ws. splice (i * 5) 5 (front ++ ws) (answer_words (r ∷ []))) (sym (take-append-drop 5 rest))
      ∙ (splice-middle front (take 5 rest) (drop 5 rest) (i * 5) 5 (answer_words (r ∷ [])) (taken-length i (omega arith)) (length-take-le 5 rest (omega (arith, length-drop (i * 5) answers)))
      ∙ (sym (append_assoc front (answer_words (r ∷ [])) (drop 5 rest))
      ∙ ap₂ (λ (a b : List ℕ). a ++ b) (sym (answer_words-append _ (r ∷ []))) (drop-drop 5 (i * 5) answers ∙ ap (λ k. drop k answers) e)))

  -- One step more.
  pub walking_on : (i : ℕ) → i < n → {x : Step} {left written left' written' : List ℕ} → x ≡ step_at steps (i * 5) → Walking t steps answers i left written → Taken left x (i * 5) written left' written'
      → Walking t steps answers (i + 1) left' written'
  walking_on i l {left = left} {written = written} {left' = left'} {written' = written'} read so took =
      let taken = subst (λ (y : Step). Taken left y (i * 5) written left' written') read took in
      record {
        table_is = taken.table_is ∙ sym (ap (λ w. w.table) (walk_more i l left so.table_is));
        answers_are =
            taken.answers_are
            ∙ (ap (λ ws. splice (i * 5) 5 ws (answer_words ((step left (step_at steps (i * 5))).answer ∷ []))) so.answers_are
            ∙ (answers-more i l (step left (step_at steps (i * 5))).answer
            ∙ ap (λ rs. answer_words rs ++ drop ((i + 1) * 5) answers) (sym (ap (λ w. w.answers) (walk_more i l left so.table_is)))));
      }

  -- All steps are taken: the run's promise.
  pub walking-ends : {left written : List ℕ} → Walking t steps answers n left written → RunPromise t steps answers 0 left written
  unfolding lengths_fit
  walking-ends so =
      let all : take n (steps_of steps) ≡ steps_of steps = take_all n (steps_of steps) (omega (arith, length-steps_of n steps whole)) in
      let ran = run_fits t steps answers (and_both _ _ (eq-eqb (length steps) (length answers) same) (eq-eqb (length steps % 5) 0 (omega arith))) in
      let none : drop (n * 5) answers ≡ [] = drop_of_length-le answers {i = n * 5} (omega arith) in
      record {
        code_is = sym (ap (λ r. r.code) ran);
        table_is = so.table_is ∙ (ap (λ xs. (walk t xs).table) all ∙ sym (ap (λ r. r.table) ran));
        answers_are =
            so.answers_are
            ∙ (ap₂ (λ xs ws. answer_words (walk t xs).answers ++ ws) all none
            ∙ (append-nil (answer_words (walk t (steps_of steps)).answers) ∙ sym (ap (λ r. r.answers) ran)));
      }

-- ---- lengths that do not fit

module _ (t steps answers : List ℕ) where
  misfit : lengths_fit steps answers ≡ false → RunPromise t steps answers 8 t answers
  misfit h =
      let r = run-misfits t steps answers h in
      record { code_is = sym (ap (λ o. o.code) r); table_is = sym (ap (λ o. o.table) r); answers_are = sym (ap (λ o. o.answers) r) }

  -- Two lengths that differ.
  pub run-differs : (length steps ≡ length answers → ⊥) → RunPromise t steps answers 8 t answers
  unfolding lengths_fit
  run-differs h = misfit (ap (λ b. b && eqb (length steps % 5) 0) (ne_eqb (length steps) (length answers) h))

  -- Words that make no whole step.
  pub run-broken : length steps ≡ length answers → (length steps % 5 ≡ 0 → ⊥) → RunPromise t steps answers 8 t answers
  unfolding lengths_fit
  run-broken e h = misfit (ap₂ (λ a b. a && b) (eq-eqb (length steps) (length answers) e) (ne_eqb (length steps % 5) 0 h))
