-- What holds of version vectors: of dominance, of the join, and of the greatest component. Assumes nothing.
use Rattle.std.specs.Prelude.{Bool, ◌&&◌, true, false, List, [], ◌∷◌, ◌⊎◌, ◌≡◌, refl, leb, length, set, ℕ, zero, suc, max, ◌+◌, ◌<◌, ◌≤◌}
use Rattle.std.proofs.Common.{inl, inr, ⊎_elim, sym, ◌∙◌, ap, add-one, leb-true, le-leb, arith}
use Rattle.std.proofs.Math.Path.{ap₂}
use native.Mathlib.Omega.{max_cases}
use Rattle.std.specs.List.{list_all, zip, fold, reduce}
use Rattle.std.specs.Option.{unwrap_or}
use Rattle.std.proofs.Math.Bool.{and_assoc}
use Rattle.words.specs.Tests.{all}
use Rattle.words.specs.Lists.{row}
use Rattle.words.specs.RowLaws.{below_suc, length-row, get_or-row, row-cong, filled, get_or-filled, filled_more}
use Rattle.words.specs.TestLaws.{not-true-false, all-at, all-make, all-cong}
use Rattle.vectors.specs.Vector.{dominates, join, greatest, vector_of}

-- ---- dominance

pub dominates-at : (n : ℕ) (v w : ℕ → ℕ) → dominates n v w ≡ true → (j : ℕ) → j < n → w j ≤ v j
unfolding dominates
dominates-at n v w h j l = leb-true (w j) (v j) (all-at n (λ k. leb (w k) (v k)) h j l)

pub dominates-make : (n : ℕ) (v w : ℕ → ℕ) → ((j : ℕ) → j < n → w j ≤ v j) → dominates n v w ≡ true
unfolding dominates
dominates-make n v w h = all-make n (λ j. leb (w j) (v j)) (λ j l. le-leb (w j) (v j) (h j l))

-- Dominance depends on the first n components only.
pub dominates-cong : (n : ℕ) (v v' w w' : ℕ → ℕ) → ((j : ℕ) → j < n → v j ≡ v' j) → ((j : ℕ) → j < n → w j ≡ w' j)
    → dominates n v w ≡ dominates n v' w'
unfolding dominates
dominates-cong n v v' w w' p q =
    all-cong n (λ j. leb (w j) (v j)) (λ j. leb (w' j) (v' j)) (λ j l. ap₂ leb (q j l) (p j l))

-- One component that is less is enough to fail.
pub dominates-fails : (n : ℕ) (v w : ℕ → ℕ) (j : ℕ) → j < n → v j < w j → dominates n v w ≡ false
dominates-fails n v w j l less = not-true-false (dominates n v w) (λ h. omega (arith, dominates-at n v w h j l))

-- Component 0 first, then the others.
all-front : (n : ℕ) (passes : ℕ → Bool) → all (suc n) passes ≡ (passes 0 && all n (λ k. passes (suc k)))
unfolding all
all-front zero passes = either-end (passes 0)
  where
    either-end : (t : Bool) → t ≡ (t && true)
    either-end true = refl
    either-end false = refl
all-front (suc n) passes = ap (λ t. t && passes (suc n)) (all-front n passes) ∙ and_assoc (passes 0) _ _

-- Two slices of one length, tested pair by pair.
pub dominates-pairs : (xs ys : List ℕ) → length xs ≡ length ys
    → list_all (λ (p : ℕ × ℕ). leb p.1 p.0) (zip xs ys) ≡ dominates (length xs) (vector_of xs) (vector_of ys)
unfolding dominates all
dominates-pairs [] ys h = refl
dominates-pairs (x ∷ xs) [] h = absurd (omega (arith, h))
dominates-pairs (x ∷ xs) (y ∷ ys) h =
    ap (λ t. leb y x && t) (dominates-pairs xs ys (omega (arith, h)))
    ∙ sym (all-front (length xs) (λ j. leb (vector_of (y ∷ ys) j) (vector_of (x ∷ xs) j)))

-- ---- the join

pub join-left : (v w : ℕ → ℕ) (j : ℕ) → v j ≤ join v w j
unfolding join
join-left v w j = omega arith

pub join-right : (v w : ℕ → ℕ) (j : ℕ) → w j ≤ join v w j
unfolding join
join-right v w j = omega arith

pub join-either : (v w : ℕ → ℕ) (j : ℕ) → (join v w j ≡ v j) ⊎ (join v w j ≡ w j)
unfolding join
join-either v w j = max_cases (v j) (w j) _ (λ l e. inr e) (λ l e. inl e)

-- One component more, as a loop stores it.
pub join_more : (xs ys : List ℕ) (n : ℕ) {raised : List ℕ} {word : ℕ} → n < length xs
    → raised ≡ filled n (join (vector_of xs) (vector_of ys)) xs
    → word ≡ max (vector_of raised n) (vector_of ys n)
    → set raised n word ≡ filled (n + 1) (join (vector_of xs) (vector_of ys)) xs
unfolding join
join_more xs ys n l so turn =
    cc (get_or-filled n (join (vector_of xs) (vector_of ys)) xs 0 l, filled_more n (join (vector_of xs) (vector_of ys)) xs l)

-- ---- the greatest component

-- One component more.
pub greatest-more : (n : ℕ) (v : ℕ → ℕ) {most next : ℕ} → most ≡ greatest n v → next ≡ max most (v n) → next ≡ greatest (n + 1) v
unfolding greatest
greatest-more n v so turn = rw add-one (turn ∙ ap (λ m. max m (v n)) so)

-- Component 0 first, then the others.
greatest-front : (n : ℕ) (v : ℕ → ℕ) → greatest (suc n) v ≡ max (v 0) (greatest n (λ k. v (suc k)))
unfolding greatest
greatest-front zero v = omega arith
greatest-front (suc n) v = omega (arith, greatest-front n v)

-- The greatest of a slice's words and one more.
pub greatest-fold : (m : ℕ) (xs : List ℕ) → fold max m xs ≡ max m (greatest (length xs) (vector_of xs))
unfolding greatest
greatest-fold m [] = omega arith
greatest-fold m (x ∷ xs) = omega (arith, greatest-fold (max m x) xs, greatest-front (length xs) (vector_of (x ∷ xs)))

-- The greatest of a slice's words, and 0 where it has none.
pub greatest-most : (xs : List ℕ) → unwrap_or (reduce max xs) 0 ≡ greatest (length xs) (vector_of xs)
unfolding greatest
greatest-most [] = refl
greatest-most (x ∷ xs) = greatest-fold x xs ∙ sym (greatest-front (length xs) (vector_of (x ∷ xs)))

pub greatest-above : (n : ℕ) (v : ℕ → ℕ) (j : ℕ) → j < n → v j ≤ greatest n v
unfolding greatest
greatest-above zero v j h = absurd (omega arith)
greatest-above (suc n) v j h =
    ⊎_elim (λ (l : j < n). omega (arith, greatest-above n v j l)) (λ (e : j ≡ n). omega (arith, ap v e)) (below_suc h)

pub greatest-least : (n : ℕ) (v : ℕ → ℕ) (c : ℕ) → ((j : ℕ) → j < n → v j ≤ c) → greatest n v ≤ c
unfolding greatest
greatest-least zero v c h = omega arith
greatest-least (suc n) v c h = omega (arith, greatest-least n v c (λ j l. h j (omega arith)), h n (omega arith))

-- A component that is the greatest.
pub record GreatestAt (n : ℕ) (v : ℕ → ℕ) : Type 0 where
  pub at : ℕ
  pub below : at < n
  pub equal : v at ≡ greatest n v

-- The greatest component is 0, or it stands somewhere.
pub greatest-attained : (n : ℕ) (v : ℕ → ℕ) → (greatest n v ≡ 0) ⊎ GreatestAt n v
unfolding greatest
greatest-attained zero v = inl refl
greatest-attained (suc n) v =
    max_cases (greatest n v) (v n) _ (λ l e. inr (record { at = n; below = omega arith; equal = sym e }))
    (λ l e. ⊎_elim (λ z. inl (e ∙ z)) (λ g. inr (record { at = g.at; below = omega arith; equal = g.equal ∙ sym e })) (greatest-attained n v))

-- The greatest component depends on the first n components only.
pub greatest-cong : (n : ℕ) (v w : ℕ → ℕ) → ((j : ℕ) → j < n → v j ≡ w j) → greatest n v ≡ greatest n w
unfolding greatest
greatest-cong zero v w h = refl
greatest-cong (suc n) v w h = ap₂ max (greatest-cong n v w (λ j l. h j (omega arith))) (h n (omega arith))

-- ---- vectors that slices hold

-- The laws by which a caller whose slices hold rows of vectors reads the promises of the code.
module _ (n : ℕ) (v w : ℕ → ℕ) where
  pub dominates-held : dominates (length (row n v)) (vector_of (row n v)) (vector_of (row n w)) ≡ dominates n v w
  dominates-held =
      rw (length-row n v) (dominates-cong n (vector_of (row n v)) v (vector_of (row n w)) w (λ j. get_or-row n v j 0) (λ j. get_or-row n w j 0))

  pub join-held : row (length (row n v)) (join (vector_of (row n v)) (vector_of (row n w))) ≡ row n (join v w)
  unfolding join
  join-held = rw (length-row n v) (row-cong n _ _ (λ j l. ap₂ max (get_or-row n v j 0 l) (get_or-row n w j 0 l)))

pub greatest-held : (n : ℕ) (v : ℕ → ℕ) → greatest (length (row n v)) (vector_of (row n v)) ≡ greatest n v
greatest-held n v = rw (length-row n v) (greatest-cong n (vector_of (row n v)) v (λ j. get_or-row n v j 0))
