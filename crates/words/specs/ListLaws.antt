-- What holds of membership, of what passes a test, and of functions changed at one number. Assumes nothing.
use Rattle.std.specs.Prelude.{ℕ, zero, suc, ◌<◌, ◌≤◌, min, Bool, true, ◌⊎◌, eqb, ltb, take, length, List, [], ◌∷◌, ◌++◌}
use Rattle.std.proofs.Math.Bool.{false}
use Rattle.std.proofs.Common.{inl, inr, sym, ◌∙◌, eqb-true, eq-eqb, ne_eqb, lt-ltb, le-ltb, ltb-true, ltb-false, take_all, arith}
use Rattle.std.proofs.Math.Logic.{⊎_elim}
use Rattle.std.proofs.Math.Option.{Option, none, some}
use Rattle.std.proofs.Math.Path.{◌≡◌, refl, ap, subst, fun_ext}
use native.Mathlib.Omega.{max_cases}
use Rattle.std.proofs.lemmas.Bool.{eqb-false}
use Rattle.words.specs.Lists.{In, here, there, keep, first, upd, below}
use Rattle.words.specs.TestLaws.{either, cond-elim, cond-true, cond-false}

-- ---- membership

pub in-nil : {A B : Type 0} {a : A} → In a [] → B
in-nil = elim [ ]

pub in-cons : {A : Type 0} {a x : A} {xs : List A} → In a (x ∷ xs) → (a ≡ x) ⊎ In a xs
in-cons (here e) = inl e
in-cons (there h) = inr h

pub in_one : {A : Type 0} {a x : A} → In a (x ∷ []) → a ≡ x
in_one h = ⊎_elim (λ e. e) (λ m. in-nil m) (in-cons h)

pub in_append_left : {A : Type 0} {a : A} {xs : List A} (ys : List A) → In a xs → In a (xs ++ ys)
in_append_left ys (here e) = here e
in_append_left ys (there h) = there (in_append_left ys h)

pub in_append_right : {A : Type 0} {a : A} (xs : List A) {ys : List A} → In a ys → In a (xs ++ ys)
in_append_right [] h = h
in_append_right (x ∷ xs) h = there (in_append_right xs h)

pub in-append-cases : {A : Type 0} {a : A} (xs : List A) {ys : List A} → In a (xs ++ ys) → In a xs ⊎ In a ys
in-append-cases [] h = inr h
in-append-cases (x ∷ xs) h =
    ⊎_elim (λ e. inl (here e)) (λ m. ⊎_elim (λ m₁. inl (there m₁)) (λ m₂. inr m₂) (in-append-cases xs m)) (in-cons h)

pub in_take : {A : Type 0} {a : A} (k : ℕ) (xs : List A) → In a (take k xs) → In a xs
in_take zero xs h = in-nil h
in_take (suc k) [] h = h
in_take (suc k) (x ∷ xs) h = ⊎_elim (λ e. here e) (λ m. there (in_take k xs m)) (in-cons h)

-- Of the least of a list's length and two numbers the length does not count.
pub take-least : {A : Type 0} (xs : List A) (k l : ℕ) → take (min (min (length xs) k) l) xs ≡ take (min k l) xs
take-least xs k l =
    max_cases (length xs) (min k l) _ (λ h e. take_all (min (min (length xs) k) l) xs (omega arith) ∙ sym (take_all (min k l) xs h)) (λ h e.
    let q : min (min (length xs) k) l ≡ min k l = omega arith in
    ap (λ j. take j xs) q)

-- ---- keep

module _ {A : Type 0} (passes : A → Bool) where
  pub in-keep : {a : A} (xs : List A) → In a (keep passes xs) → In a xs
  unfolding keep
  in-keep [] = λ h. h
  in-keep {a} (x ∷ xs) =
      cond-elim (λ (l : List A). In a l → In a (x ∷ xs)) (passes x) (λ e h. ⊎_elim (λ q. here q) (λ m. there (in-keep xs m)) (in-cons h))
      (λ e h. there (in-keep xs h))

  pub keep-passes : {a : A} (xs : List A) → In a (keep passes xs) → passes a ≡ true
  unfolding keep
  keep-passes [] = λ h. in-nil h
  keep-passes {a} (x ∷ xs) =
      cond-elim (λ (l : List A). In a l → passes a ≡ true) (passes x)
      (λ e h. ⊎_elim (λ q. ap passes q ∙ e) (λ m. keep-passes xs m) (in-cons h)) (λ e h. keep-passes xs h)

  pub keep-in : {a : A} {xs : List A} → In a xs → passes a ≡ true → In a (keep passes xs)
  unfolding keep
  keep-in {a} (here {x = x} q) p = subst (λ (l : List A). In a l) (sym (cond-true (passes x) _ _ (ap passes (sym q) ∙ p))) (here q)
  keep-in {a} (there {x = x} h) p =
      cond-elim (λ (l : List A). In a l) (passes x) (λ e. there (keep-in h p)) (λ e. keep-in h p)

-- ---- first

-- What `first` found: the elements before it fail, and it passes.
pub record Found {A : Type 0} (passes : A → Bool) (xs : List A) (a : A) : Type 0 where
  pub front : List A
  pub rest : List A
  pub split : xs ≡ front ++ a ∷ rest
  pub passed : passes a ≡ true
  pub failed : (b : A) → In b front → passes b ≡ false

module _ {A : Type 0} (passes : A → Bool) where
  pub first_found : (xs : List A) (a : A) → first passes xs ≡ some a → Found passes xs a
  unfolding first
  first_found [] a = λ h.
      let z : ◌≡◌ {A = ℕ} 0 1 = cc in
      absurd (omega arith)
  first_found (x ∷ xs) a =
      cond-elim (λ (o : Option A). o ≡ some a → Found passes (x ∷ xs) a) (passes x) (λ e h.
      let q : x ≡ a = cc in
      record { front = []; rest = xs; split = ap {B = List A} (λ y. y ∷ xs) q; passed = ap passes (sym q) ∙ e; failed = λ b m. in-nil m })
      (λ e h. more e (first_found xs a h))
    where
      more : passes x ≡ false → Found passes xs a → Found passes (x ∷ xs) a
      more e f =
          record {
            front = x ∷ f.front;
            rest = f.rest;
            split = ap {B = List A} (λ l. x ∷ l) f.split;
            passed = f.passed;
            failed = λ b m. ⊎_elim (λ q. ap passes q ∙ e) (λ m'. f.failed b m') (in-cons m);
          }

  pub first-none : (xs : List A) → first passes xs ≡ none → (b : A) → In b xs → passes b ≡ false
  unfolding first
  first-none [] h b m = in-nil m
  first-none (x ∷ xs) h b m =
      (cond-elim (λ (o : Option A). o ≡ none → passes b ≡ false) (passes x) (λ e q.
      let z : ◌≡◌ {A = ℕ} 0 1 = cc in
      absurd (omega arith)) (λ e q. ⊎_elim (λ p. ap passes p ∙ e) (λ m'. first-none xs q b m') (in-cons m))) h

  pub none_first : (xs : List A) → ((b : A) → In b xs → passes b ≡ false) → first passes xs ≡ none
  unfolding first
  none_first [] h = refl
  none_first (x ∷ xs) h = cond-false (passes x) _ _ (h x (here refl)) ∙ none_first xs (λ b m. h b (there m))

-- ---- functions

pub upd_same : {A : Type 0} (f : ℕ → A) (i : ℕ) (a : A) (k : ℕ) → k ≡ i → upd f i a k ≡ a
unfolding upd
upd_same f i a k e = cond-true (eqb k i) _ _ (eq-eqb k i e)

pub upd_other : {A : Type 0} (f : ℕ → A) (i : ℕ) (a : A) (k : ℕ) → (k ≡ i → ⊥) → upd f i a k ≡ f k
unfolding upd
upd_other f i a k e = cond-false (eqb k i) _ _ (ne_eqb k i e)

-- By cases on whether a number is the one changed.
pub upd-elim : {A : Type 0} (P : A → Type 0) (f : ℕ → A) (i : ℕ) (a : A) (k : ℕ) → (k ≡ i → P a) → ((k ≡ i → ⊥) → P (f k)) → P (upd f i a k)
unfolding upd
upd-elim P f i a k at off =
    cond-elim P (eqb k i) (λ e. at (eqb-true k i e)) (λ e. off (eqb-false k i e))

pub below_in : {A : Type 0} (n : ℕ) (f : ℕ → A) (past : A) (k : ℕ) → k < n → below n f past k ≡ f k
unfolding below
below_in n f past k h = cond-true (ltb k n) _ _ (lt-ltb k n h)

pub below-past : {A : Type 0} (n : ℕ) (f : ℕ → A) (past : A) (k : ℕ) → n ≤ k → below n f past k ≡ past
unfolding below
below-past n f past k h = cond-false (ltb k n) _ _ (le-ltb k n h)

-- A function is the same as one below n, and one value from n on.
pub below-same : {A : Type 0} (n : ℕ) (f g : ℕ → A) (past : A) → ((k : ℕ) → k < n → f k ≡ g k) → ((k : ℕ) → n ≤ k → g k ≡ past) → below n f past ≡ g
below-same n f g past inside outside =
    fun_ext (λ k. ⊎_elim (λ (e : ltb k n ≡ true). below_in n f past k (ltb-true k n e) ∙ inside k (ltb-true k n e))
    (λ (e : ltb k n ≡ false). below-past n f past k (ltb-false k n e) ∙ sym (outside k (ltb-false k n e))) (either (ltb k n)))
