-- What holds of parts: their length and elements, neighbouring parts, parts of two lists put together, and stores in these. Assumes
-- nothing.
use Rattle.std.specs.Prelude.{ℕ, ◌+◌, ◌<◌, ◌≤◌, ◌≡◌, refl, length, set, List, [], ◌∷◌, ◌++◌}
use Rattle.std.proofs.Common.{sym, ◌∙◌, add-zero, zero-add, suc-add, arith, drop-drop, get_or-append-add}
use Rattle.std.proofs.Math.Path.{ap, ap₂}
use Rattle.std.proofs.Math.ListN.{get_or, take, drop, length-drop}
use Rattle.std.proofs.Math.Seq.{length-take-le, get_or-take, get_or-drop, take-add, take_all, take_at, drop_at}
use Rattle.std.proofs.lemmas.List.{set-append_left}
use Rattle.words.specs.Lists.{row, part, splice, below}
use Rattle.words.specs.ListLaws.{below_in}
use Rattle.words.specs.RowLaws.{row-cong, row-get_or}

module _ {A : Type 0} where
  -- A part within the list has the length asked for.
  pub length_part : (xs : List A) (a k : ℕ) → a + k ≤ length xs → length (part xs a k) ≡ k
  unfolding part
  length_part xs a k h = length-take-le k (drop a xs) (omega (arith, length-drop a xs))

  -- Element j of a part.
  pub get_or_part : (xs : List A) (a k j : ℕ) (d : A) → j < k → get_or (part xs a k) j d ≡ get_or xs (a + j) d
  unfolding part
  get_or_part xs a k j d h = get_or-take k (drop a xs) j d h ∙ get_or-drop a xs j d

  -- The elements from place a on, as a row, are a part.
  pub row-part : (xs : List A) (a k : ℕ) (d : A) → a + k ≤ length xs → row k (λ j. get_or xs (a + j) d) ≡ part xs a k
  row-part xs a k d h =
      row-cong k _ _ (λ j l. sym (get_or_part xs a k j d l)) ∙ row-get_or (part xs a k) d k (length_part xs a k h)

  -- The same of a function that is those elements below k only.
  pub row-part-below : (xs : List A) (a k : ℕ) (d past : A) → a + k ≤ length xs → row k (below k (λ j. get_or xs (a + j) d) past) ≡ part xs a k
  row-part-below xs a k d past h =
      row-cong k _ _ (λ j l. below_in k (λ j. get_or xs (a + j) d) past j l) ∙ row-part xs a k d h

  -- One element is a part.
  pub part-one : (xs : List A) (a : ℕ) (d : A) → a < length xs → get_or xs a d ∷ [] ≡ part xs a 1
  unfolding row
  part-one xs a d h = ap {B = List A} (λ i. get_or xs i d ∷ []) (sym (add-zero a)) ∙ row-part xs a 1 d (omega arith)

  -- The whole list is a part of itself.
  pub part-all : (xs : List A) (k : ℕ) → length xs ≡ k → part xs 0 k ≡ xs
  unfolding part
  part-all xs k e = take_all k xs (omega arith)

  -- Two neighbouring parts are one.
  pub part-add : (xs : List A) (a k m : ℕ) → part xs a (k + m) ≡ part xs a k ++ part xs (a + k) m
  unfolding part
  part-add xs a k m = take-add k m (drop a xs) ∙ ap (λ (r : List A). take k (drop a xs) ++ take m r) (drop-drop k a xs)

  -- ---- in the first of two lists, in the second, in the middle of three

  -- The middle list as a part.
  pub part-middle : (xs ys zs : List A) (a k : ℕ) → length xs ≡ a → length ys ≡ k → part (xs ++ (ys ++ zs)) a k ≡ ys
  unfolding part
  part-middle xs ys zs a k e f = ap (λ (r : List A). take k r) (drop_at xs (ys ++ zs) a e) ∙ take_at ys zs k f

  -- An element of the second list. Of the first it is `get_or-append`.
  pub get_or-right : (xs ys : List A) (n j : ℕ) (d : A) → length xs ≡ n → get_or (xs ++ ys) (n + j) d ≡ get_or ys j d
  get_or-right xs ys n j d e = ap (λ (m : ℕ). get_or (xs ++ ys) (m + j) d) (sym e) ∙ get_or-append-add xs ys j d

  -- A store in the second list. In the first it is `set-append_left`.
  pub set-right : (xs ys : List A) (n j : ℕ) (x : A) → length xs ≡ n → set (xs ++ ys) (n + j) x ≡ xs ++ set ys j x
  set-right [] ys n j x e = ap (λ (k : ℕ). set ys (k + j) x) (sym e) ∙ ap (λ (k : ℕ). set ys k x) (zero-add j)
  set-right (y ∷ xs) ys n j x e =
      ap (λ (k : ℕ). set (y ∷ (xs ++ ys)) (k + j) x) (sym e)
      ∙ (ap (λ (k : ℕ). set (y ∷ (xs ++ ys)) k x) (suc-add (length xs) j) ∙ ap {B = List A} (λ r. y ∷ r) (set-right xs ys (length xs) j x refl))

  -- A store in the middle.
  pub set-middle : (xs ys zs : List A) (a j : ℕ) (x : A) → length xs ≡ a → j < length ys
      → set (xs ++ (ys ++ zs)) (a + j) x ≡ xs ++ (set ys j x ++ zs)
  set-middle xs ys zs a j x e h = set-right xs (ys ++ zs) a j x e ∙ ap (λ (r : List A). xs ++ r) (set-append_left ys zs j x h)

  -- The middle replaced.
  pub splice-middle : (xs ys zs : List A) (a k : ℕ) (new : List A) → length xs ≡ a → length ys ≡ k
      → splice a k (xs ++ (ys ++ zs)) new ≡ xs ++ (new ++ zs)
  unfolding splice
  splice-middle xs ys zs a k new e f =
      ap₂ (λ (p r : List A). p ++ (new ++ r)) (take_at xs (ys ++ zs) a e)
      (ap (λ (r : List A). drop k r) (drop_at xs (ys ++ zs) a e) ∙ drop_at ys zs k f)
