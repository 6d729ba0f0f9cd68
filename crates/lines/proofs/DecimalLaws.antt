-- What holds of a number's digits: one digit, one digit more, and how many there are. Assumes nothing.
use Rattle.std.specs.Prelude.{ℕ, zero, suc, ◌+◌, ◌*◌, ◌≤◌, ◌<◌, ◌/◌, ◌%◌, ◌^◌, List, [], ◌∷◌, ◌++◌, ◌≡◌, refl, ltb, length}
use Rattle.std.proofs.Common.{⊎_elim, sym, ◌∙◌, ap, pow-suc, arith, lt-ltb, le-ltb, length-append}
use Rattle.words.specs.CaseLaws.{lt-or-le}
use Rattle.words.specs.TestLaws.{cond-true, cond-false, cond_both}
use Rattle.lines.specs.Decimal.{digits, decimal, greatest}

-- Two counts that are both enough give the same digits.
digits-enough : (k m x : ℕ) → x ≤ k → x ≤ m → digits k x ≡ digits m x
unfolding digits
digits-enough zero zero x h l = refl
digits-enough zero (suc m) x h l = sym (cond-true (ltb x 10) _ _ (lt-ltb x 10 (omega arith)))
digits-enough (suc k) zero x h l = cond-true (ltb x 10) _ _ (lt-ltb x 10 (omega arith))
digits-enough (suc k) (suc m) x h l =
    cond_both (λ (a b : List ℕ). a ≡ b) (ltb x 10) refl
    (ap (λ (front : List ℕ). front ++ ((48 + x % 10) ∷ [])) (digits-enough k m (x / 10) (omega arith) (omega arith)))

-- A number below 10 is one digit.
pub decimal-one : (x : ℕ) → x < 10 → decimal x ≡ (48 + x) ∷ []
unfolding decimal digits
decimal-one zero h = refl
decimal-one (suc k) h = cond-true (ltb (suc k) 10) _ _ (lt-ltb (suc k) 10 h)

-- Any other is its tenth with one digit more.
pub decimal-more : (x : ℕ) → 10 ≤ x → decimal x ≡ decimal (x / 10) ++ ((48 + x % 10) ∷ [])
unfolding decimal digits
decimal-more zero h = absurd (omega arith)
decimal-more (suc k) h =
    cond-false (ltb (suc k) 10) _ _ (le-ltb (suc k) 10 h)
    ∙ ap (λ (front : List ℕ). front ++ ((48 + suc k % 10) ∷ [])) (digits-enough k (suc k / 10) (suc k / 10) (omega arith) (omega arith))

pub length_more : (x : ℕ) → 10 ≤ x → length (decimal x) ≡ length (decimal (x / 10)) + 1
length_more x h = ap length (decimal-more x h) ∙ length-append (decimal (x / 10)) ((48 + x % 10) ∷ [])

-- A number below 10 ^ (k + 1) has no more than k + 1 digits.
length-below : (k x : ℕ) → x < 10 * 10 ^ k → length (decimal x) ≤ suc k
length-below zero x h = omega (arith, ap length (decimal-one x (omega arith)))
length-below (suc k) x h =
    ⊎_elim (λ l. omega (arith, ap length (decimal-one x l)))
    (λ l.
    let fewer : x / 10 < 10 * 10 ^ k = omega (arith, pow-suc 10 k) in
    omega (arith, length_more x l, length-below k (x / 10) fewer)) (lt-or-le x 10)

-- A number that a line can say has no more than ten.
pub length-decimal : (x : ℕ) → x ≤ greatest → length (decimal x) ≤ 10
length-decimal x h = length-below 9 x (omega arith)
