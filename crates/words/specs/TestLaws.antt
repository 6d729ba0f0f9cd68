-- What holds of tests. Assumes nothing.
use Rattle.std.specs.Prelude.{ℕ, zero, suc, ◌+◌, ◌<◌, ◌≤◌, Bool, true, false, cond, ◌&&◌, ◌||◌, List, [], ◌∷◌, ◌⊎◌, ◌≡◌, refl, eqb, length, get_or, drop, replicate}
use Rattle.std.proofs.Common.{inl, inr, ⊎_elim, sym, ◌∙◌, ap, subst, ap₂, add-one, arith, eqb-true, eq-eqb, ne_eqb, drop_of_length-le, drop-cons}
use Rattle.std.proofs.lemmas.Bool.{eqb-false}
use Rattle.words.specs.Tests.{all, zeros, implies}

-- ---- a test's two values

pub true-not-false : {A : Type 0} {t : Bool} → t ≡ true → t ≡ false → A
true-not-false p q =
    let z : ◌≡◌ {A = ℕ} 0 1 = cc in
    absurd (omega arith)

pub either : (t : Bool) → (t ≡ true) ⊎ (t ≡ false)
either true = inl refl
either false = inr refl

pub not-true-false : (t : Bool) → (t ≡ true → ⊥) → t ≡ false
not-true-false true h = absurd (h refl)
not-true-false false h = refl

pub same_test : (a b : Bool) → (a ≡ true → b ≡ true) → (b ≡ true → a ≡ true) → a ≡ b
same_test true b there back = sym (there refl)
same_test false true there back = back refl
same_test false false there back = refl

-- By cases on a test.
pub cond-elim : {A : Type 0} (P : A → Type 0) (t : Bool) {x y : A} → (t ≡ true → P x) → (t ≡ false → P y) → P (cond t x y)
cond-elim P true yea nay = yea refl
cond-elim P false yea nay = nay refl

pub cond-true : {A : Type 0} (t : Bool) (x y : A) → t ≡ true → cond t x y ≡ x
cond-true true x y e = refl
cond-true false x y e = true-not-false e refl

pub cond-false : {A : Type 0} (t : Bool) (x y : A) → t ≡ false → cond t x y ≡ y
cond-false true x y e = true-not-false refl e
cond-false false x y e = refl

-- Two choices by one test are related if the chosen are.
pub cond_both : {A B : Type 0} (P : A → B → Type 0) (t : Bool) {x y : A} {x' y' : B} → P x x' → P y y' → P (cond t x y) (cond t x' y')
cond_both P true h k = h
cond_both P false h k = k

-- ---- and, or, implies

pub and_left : (a b : Bool) → (a && b) ≡ true → a ≡ true
and_left true b e = refl
and_left false b e = e

pub and_right : (a b : Bool) → (a && b) ≡ true → b ≡ true
and_right true b e = e
and_right false b e = true-not-false e refl

pub and_both : (a b : Bool) → a ≡ true → b ≡ true → (a && b) ≡ true
and_both true b p q = q
and_both false b p q = p

-- The first of two tests leaves the answer to the second, or it does not.
pub and_on : (a b : Bool) → a ≡ true → b ≡ (a && b)
and_on true b e = refl
and_on false b e = true-not-false e refl

pub and_off : (a b : Bool) → a ≡ false → false ≡ (a && b)
and_off true b e = true-not-false refl e
and_off false b e = refl

pub and_true : (a : Bool) → (a && true) ≡ a
and_true true = refl
and_true false = refl

pub and_three : (a b c : Bool) → ((a && b) && c) ≡ (a && (b && c))
and_three true b c = refl
and_three false b c = refl

pub or_cases : (a b : Bool) → (a || b) ≡ true → (a ≡ true) ⊎ (b ≡ true)
or_cases true b e = inl refl
or_cases false b e = inr e

pub or_left : (a b : Bool) → a ≡ true → (a || b) ≡ true
or_left true b e = refl
or_left false b e = true-not-false e refl

pub or_right : (a b : Bool) → b ≡ true → (a || b) ≡ true
or_right true b e = refl
or_right false b e = e

pub implies-use : (a b : Bool) → implies a b ≡ true → a ≡ true → b ≡ true
unfolding implies
implies-use true b h e = h
implies-use false b h e = true-not-false e refl

-- A condition that holds, and one that does not.
pub implies-on : (a b : Bool) → a ≡ true → b ≡ implies a b
unfolding implies
implies-on true b e = refl
implies-on false b e = true-not-false e refl

pub implies-off : (a b : Bool) → a ≡ false → true ≡ implies a b
unfolding implies
implies-off true b e = true-not-false refl e
implies-off false b e = refl

-- ---- all

pub all-at : (n : ℕ) (passes : ℕ → Bool) → all n passes ≡ true → (k : ℕ) → k < n → passes k ≡ true
unfolding all
all-at zero passes h k l = absurd (omega arith)
all-at (suc n) passes h k l =
    ⊎_elim (λ (e : eqb k n ≡ true). subst (λ (m : ℕ). passes m ≡ true) (sym (eqb-true k n e)) (and_right (all n passes) (passes n) h))
    (λ (e : eqb k n ≡ false). all-at n passes (and_left (all n passes) (passes n) h) k (omega (arith, eqb-false k n e))) (either (eqb k n))

pub all-make : (n : ℕ) (passes : ℕ → Bool) → ((k : ℕ) → k < n → passes k ≡ true) → all n passes ≡ true
unfolding all
all-make zero passes h = refl
all-make (suc n) passes h =
    and_both (all n passes) (passes n) (all-make n passes (λ k l. h k (omega arith))) (h n (omega arith))

-- Two tests that agree below n pass all numbers below n alike.
pub all-cong : (n : ℕ) (p q : ℕ → Bool) → ((k : ℕ) → k < n → p k ≡ q k) → all n p ≡ all n q
unfolding all
all-cong zero p q h = refl
all-cong (suc n) p q h = ap₂ (λ a b. a && b) (all-cong n p q (λ k l. h k (omega arith))) (h n (omega arith))

-- ---- zeros

pub zeros-replicate : (ws : List ℕ) → zeros ws ≡ true → ws ≡ replicate (length ws) 0
unfolding zeros
zeros-replicate [] h = refl
zeros-replicate (w ∷ ws) h =
    ap₂ {B = List ℕ} (λ x xs. x ∷ xs) (eqb-true w 0 (and_left (eqb w 0) (zeros ws) h)) (zeros-replicate ws (and_right (eqb w 0) (zeros ws) h))

pub replicate-zeros : (n : ℕ) → zeros (replicate n 0) ≡ true
unfolding zeros
replicate-zeros zero = refl
replicate-zeros (suc n) = replicate-zeros n

-- n words that are all zero.
pub zeros-are : (n : ℕ) (ws : List ℕ) → length ws ≡ n → zeros ws ≡ true → replicate n 0 ≡ ws
zeros-are n ws e h = ap (λ (k : ℕ). replicate k 0) (sym e) ∙ sym (zeros-replicate ws h)

-- The words from place i on are zero if the next one is and the others are.
pub zeros-next : (ws : List ℕ) (i : ℕ) → i < length ws → zeros (drop i ws) ≡ (eqb (get_or ws i 0) 0 && zeros (drop (i + 1) ws))
unfolding zeros
zeros-next ws i h = rw (add-one, drop-cons ws i 0)

-- A word that is not zero is enough to fail.
pub zeros-fail : (ws : List ℕ) (i : ℕ) → i < length ws → zeros ws ≡ zeros (drop i ws) → (get_or ws i 0 ≡ 0 → ⊥) → zeros ws ≡ false
zeros-fail ws i h so differs = so ∙ (zeros-next ws i h ∙ ap (λ t. t && zeros (drop (i + 1) ws)) (ne_eqb (get_or ws i 0) 0 differs))

-- One word more.
pub zeros-more : (ws : List ℕ) (i : ℕ) → i < length ws → zeros ws ≡ zeros (drop i ws) → get_or ws i 0 ≡ 0 → zeros ws ≡ zeros (drop (i + 1) ws)
zeros-more ws i h so is = so ∙ (zeros-next ws i h ∙ ap (λ t. t && zeros (drop (i + 1) ws)) (eq-eqb (get_or ws i 0) 0 is))

-- No word left.
pub zeros-all : (ws : List ℕ) (i : ℕ) → length ws ≤ i → zeros ws ≡ zeros (drop i ws) → zeros ws ≡ true
unfolding zeros
zeros-all ws i h so = so ∙ ap zeros (drop_of_length-le ws {i = i} h)
