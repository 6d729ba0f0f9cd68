-- What holds of a function's first values as a list, and of blocks of one width, one behind the other. Assumes nothing.
use Rattle.std.specs.Prelude.{◌⊎◌, ◌≡◌, eqb, length, get_or, set, drop, ℕ, zero, suc, ◌+◌, ◌*◌, ◌<◌, List, [], ◌∷◌, ◌++◌}
use Rattle.std.proofs.Common.{inl, inr, ◌∙◌, add-one, arith, suc-mul, zero-mul, eqb-true, drop_of_length-le, ext_get_or, append-nil}
use Rattle.std.proofs.Math.Logic.{⊎_elim}
use Rattle.std.proofs.Math.Path.{refl, sym, ap, ap₂}
use Rattle.std.proofs.lemmas.Bool.{eqb-false}
use Rattle.std.proofs.Math.ListN.{length-append, get_or-append}
use Rattle.std.proofs.Math.Seq.{get_or_at, drop-cons, append_snoc}
use Rattle.std.proofs.lemmas.List.{set_at}
use Rattle.words.specs.Lists.{row, blocks}
use Rattle.words.specs.TestLaws.{either}

-- A number below suc n is below n or is n.
pub below_suc : {k n : ℕ} → k < suc n → (k < n) ⊎ (k ≡ n)
below_suc {k} {n} h = ⊎_elim (λ e. inr (eqb-true k n e)) (λ e. inl (omega (arith, eqb-false k n e))) (either (eqb k n))

-- ---- row

module _ {A : Type 0} where
  pub length-row : (n : ℕ) (f : ℕ → A) → length (row n f) ≡ n
  unfolding row
  length-row zero f = refl
  length-row (suc n) f = length-append (row n f) (f n ∷ []) ∙ omega (arith, length-row n f)

  pub get_or-row : (n : ℕ) (f : ℕ → A) (k : ℕ) (d : A) → k < n → get_or (row n f) k d ≡ f k
  unfolding row
  get_or-row zero f k d h = absurd (omega arith)
  get_or-row (suc n) f k d h =
      ⊎_elim (λ (l : k < n). get_or-append (row n f) (f n ∷ []) d k (omega (arith, length-row n f)) ∙ get_or-row n f k d l)
      (λ (e : k ≡ n). get_or_at (row n f) (f n) [] d k (length-row n f ∙ sym e) ∙ ap f (sym e)) (below_suc h)

  pub row-cong : (n : ℕ) (f g : ℕ → A) → ((k : ℕ) → k < n → f k ≡ g k) → row n f ≡ row n g
  unfolding row
  row-cong zero f g h = refl
  row-cong (suc n) f g h = ap₂ (λ xs x. xs ++ (x ∷ [])) (row-cong n f g (λ k l. h k (omega arith))) (h n (omega arith))

  -- A list is the row of its own elements.
  pub row-get_or : (xs : List A) (d : A) (n : ℕ) → length xs ≡ n → row n (λ k. get_or xs k d) ≡ xs
  row-get_or xs d n e =
      ext_get_or d (row n (λ k. get_or xs k d)) xs (length-row n (λ k. get_or xs k d) ∙ sym e)
      (λ i h. get_or-row n (λ k. get_or xs k d) i d (omega (arith, length-row n (λ k. get_or xs k d))))

-- ---- a list that is filled from the front

-- The list with its first n elements replaced by a function's first n values.
abbrev pub filled : {A : Type 0} → ℕ → (ℕ → A) → List A → List A
filled n f xs = row n f ++ drop n xs

pub filled_none : {A : Type 0} (f : ℕ → A) (xs : List A) → filled 0 f xs ≡ xs
unfolding row
filled_none f xs = refl

module _ {A : Type 0} (n : ℕ) (f : ℕ → A) (xs : List A) where
  -- The next element to be replaced is the list's own.
  pub get_or-filled : (d : A) → n < length xs → get_or (filled n f xs) n d ≡ get_or xs n d
  get_or-filled d h = rw (drop-cons xs n d) (get_or_at (row n f) (get_or xs n d) (drop (suc n) xs) d n (length-row n f))

  -- One element more.
  pub filled_more : n < length xs → set (filled n f xs) n (f n) ≡ filled (n + 1) f xs
  unfolding row
  filled_more h =
      rw (add-one, append_snoc, drop-cons xs n (f n)) (set_at (row n f) (get_or xs n (f n)) (drop (suc n) xs) (f n) n (length-row n f))

  -- The same of a list that is filled so far.
  pub filled_next : {so : List A} → n < length xs → so ≡ filled n f xs → set so n (f n) ≡ filled (n + 1) f xs
  filled_next h e = ap (λ (r : List A). set r n (f n)) e ∙ filled_more h

  pub filled-all : length xs ≡ n → filled n f xs ≡ row (length xs) f
  filled-all e = rw (drop_of_length-le xs {i = n} (omega arith), append-nil, e)

-- ---- blocks of one width

-- Each of the first n blocks has the width w.
abbrev pub Wide : {A : Type 0} → ℕ → ℕ → (ℕ → List A) → Type 0
Wide n w f = (k : ℕ) → k < n → length (f k) ≡ w

-- One block more.
pub wide-fewer : {A : Type 0} {n w : ℕ} (f : ℕ → List A) → Wide (suc n) w f → Wide n w f
wide-fewer f h k l = h k (omega arith)

module _ {A : Type 0} where
  pub length-blocks : (n w : ℕ) (f : ℕ → List A) → Wide n w f → length (blocks n f) ≡ n * w
  unfolding blocks
  length-blocks zero w f h = sym (zero-mul w)
  length-blocks (suc n) w f h =
      length-append (blocks n f) (f n) ∙ (ap₂ (λ a b. a + b) (length-blocks n w f (wide-fewer f h)) (h n (omega arith)) ∙ sym (suc-mul n w))

  pub blocks-cong : (n : ℕ) (f g : ℕ → List A) → ((k : ℕ) → k < n → f k ≡ g k) → blocks n f ≡ blocks n g
  unfolding blocks
  blocks-cong zero f g h = refl
  blocks-cong (suc n) f g h = ap₂ (λ a b. a ++ b) (blocks-cong n f g (λ k l. h k (omega arith))) (h n (omega arith))
