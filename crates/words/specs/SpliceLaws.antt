-- What holds of a splice in front of the replaced elements, at them and behind them, of the words from a place on, and of stores in a row.
-- Assumes nothing.
use Rattle.std.specs.Prelude.{ℕ, zero, suc, ◌+◌, ◌-◌, ◌≤◌, true, ◌≡◌, eqb, length, set, take, drop, List, [], ◌∷◌, ◌++◌}
use Rattle.std.proofs.Common.{sym, ◌∙◌, subst, arith, drop-drop, append_assoc}
use Rattle.std.proofs.Math.Path.{ap}
use Rattle.std.proofs.Math.Numerals.{unary_clauses}
use Rattle.std.proofs.Math.ListN.{length-append, length-drop}
use Rattle.std.proofs.Math.Seq.{length-take-le, take-append-le, take-take, drop_at}
use Rattle.std.proofs.lemmas.List.Edits.{sets, sets-eq}
use Rattle.words.specs.Lists.{splice}
use Rattle.words.specs.Tests.{zeros}
use Rattle.words.specs.TestLaws.{and_right}

-- Two lists that are the same from one place on are so from each later one.
pub drop-further : {A : Type 0} (n m : ℕ) (xs ys : List A) → n ≤ m → drop n xs ≡ drop n ys → drop m xs ≡ drop m ys
drop-further {A} n m xs ys h e =
    let more : n + (m - n) ≡ m = omega arith in
    subst (λ k. drop k xs ≡ drop k ys) more
    (sym (drop-drop (m - n) n xs) ∙ (ap (λ (r : List A). drop (m - n) r) e ∙ drop-drop (m - n) n ys))

module _ {A : Type 0} (a k : ℕ) (xs ys : List A) (h : a + k ≤ length xs) (e : length ys ≡ k) where
  -- As many elements as before.
  pub length-splice : length (splice a k xs ys) ≡ length xs
  unfolding splice
  length-splice =
      length-append (take a xs) _
      ∙ omega (arith, length-append ys (drop k (drop a xs)), length-take-le a xs (omega arith), length-drop k (drop a xs), length-drop a xs)

  -- In front of place a nothing changes.
  pub take-splice : (m : ℕ) → m ≤ a → take m (splice a k xs ys) ≡ take m xs
  unfolding splice
  take-splice m l =
      take-append-le m (take a xs) _ (omega (arith, length-take-le a xs (omega arith))) ∙ take-take m a xs l

  -- From place a on stand the new elements, then what stood behind the replaced ones.
  pub drop-splice : drop a (splice a k xs ys) ≡ ys ++ drop (a + k) xs
  unfolding splice
  drop-splice =
      drop_at (take a xs) _ a (length-take-le a xs (omega arith)) ∙ ap (λ (r : List A). ys ++ r) (drop-drop k a xs)

  -- Behind the replaced elements nothing changes.
  pub drop-splice-past : (m : ℕ) → a + k ≤ m → drop m (splice a k xs ys) ≡ drop m xs
  drop-splice-past m l =
      drop-further (a + k) m (splice a k xs ys) xs l
      (sym (drop-drop k a (splice a k xs ys)) ∙ (ap (λ (r : List A). drop k r) drop-splice ∙ drop_at ys _ k e))

-- What is all zero is so from each place on.
pub zeros-drop : (m : ℕ) (ws : List ℕ) → zeros ws ≡ true → zeros (drop m ws) ≡ true
unfolding zeros
zeros-drop zero ws h = h
zeros-drop (suc m) [] h = h
zeros-drop (suc m) (w ∷ ws) h = zeros-drop m ws (and_right (eqb w 0) (zeros ws) h)

-- ---- stores in a row

-- Stores at neighbouring places, from place a on, are one splice.
pub sets-splice : {A : Type 0} (vs xs : List A) (a : ℕ) → a + length vs ≤ length xs → sets xs a vs ≡ splice a (length vs) xs vs
unfolding splice
sets-splice {A} vs xs a h = sets-eq vs xs a h ∙ rw (append_assoc, drop-drop)

-- Four of them, as code writes their places.
pub set-four : {A : Type 0} (xs : List A) (a : ℕ) (p q r s : A) → a + 4 ≤ length xs
    → set (set (set (set xs a p) (a + 1) q) (a + 2) r) (a + 3) s ≡ splice a 4 xs (p ∷ q ∷ r ∷ s ∷ [])
set-four xs a p q r s h = simp unary_clauses (sets-splice (p ∷ q ∷ r ∷ s ∷ []) xs a h)

-- And five.
pub set-five : {A : Type 0} (xs : List A) (a : ℕ) (p q r s t : A) → a + 5 ≤ length xs
    → set (set (set (set (set xs a p) (a + 1) q) (a + 2) r) (a + 3) s) (a + 4) t ≡ splice a 5 xs (p ∷ q ∷ r ∷ s ∷ t ∷ [])
set-five xs a p q r s t h = simp unary_clauses (sets-splice (p ∷ q ∷ r ∷ s ∷ t ∷ []) xs a h)
