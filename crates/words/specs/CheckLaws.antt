-- Tests that stop at the first failure: some one after the other, or one of all numbers below n. Assumes nothing.
use Rattle.std.specs.Prelude.{ℕ, ◌+◌, ◌<◌, ◌≤◌, Bool, true, false, not, ◌&&◌, ◌≡◌, leb}
use Rattle.std.proofs.Math.Path.{refl, ap}
use Rattle.std.proofs.Common.{sym, ◌∙◌, add-one, arith, le-leb}
use Rattle.std.proofs.lemmas.Bool.{not-true, not-false, lt-leb}
use Rattle.words.specs.Tests.{all}
use Rattle.words.specs.TestLaws.{true-not-false, not-true-false, and_both, all-at}

-- ---- one test, by what a function answered of it

pub failed : {r test : Bool} → r ≡ test → not r ≡ true → test ≡ false
failed {r} e h = sym e ∙ not-true r h

pub passed : {r test : Bool} → r ≡ test → not r ≡ false → test ≡ true
passed {r} e h = sym e ∙ not-false r h

-- Of words that are these two numbers.
pub leb-passes : {x y a b : ℕ} → x ≡ a → y ≡ b → x ≤ y → leb a b ≡ true
leb-passes {a = a} {b = b} p q h = le-leb a b (omega arith)

pub leb-fails : {x y a b : ℕ} → x ≡ a → y ≡ b → y < x → leb a b ≡ false
leb-fails {a = a} {b = b} p q h = lt-leb a b (omega arith)

-- ---- tests one after the other

-- The first fails.
pub and-fails : (a b : Bool) → a ≡ false → false ≡ (a && b)
and-fails a b e = sym (ap (λ t. t && b) e)

-- The first passes: it is for the others to say.
pub and-goes : (a b : Bool) {r : Bool} → a ≡ true → r ≡ b → r ≡ (a && b)
and-goes a b e g = g ∙ sym (ap (λ t. t && b) e)

-- ---- one test of all numbers

module _ (passes : ℕ → Bool) where
  -- No number has been tested.
  pub all_none : all 0 passes ≡ true
  unfolding all
  all_none = refl

  -- One number more passes.
  pub all_more : (i : ℕ) → all i passes ≡ true → passes i ≡ true → all (i + 1) passes ≡ true
  unfolding all
  all_more i h e = ap (λ k. all k passes) (add-one i) ∙ and_both (all i passes) (passes i) h e

  -- One that fails is enough.
  pub all-fails : (n i : ℕ) → i < n → passes i ≡ false → false ≡ all n passes
  all-fails n i l e = sym (not-true-false (all n passes) (λ h. true-not-false (all-at n passes h i l) e))

  -- All have been tested.
  pub all_done : (n i : ℕ) → i ≤ n → n ≤ i → all i passes ≡ true → true ≡ all n passes
  all_done n i l m h =
      let e : i ≡ n = omega arith in
      sym h ∙ ap (λ k. all k passes) e
