-- What holds of stores in a function's values as a list and in a part of a block, of a function changed at one number, and of a part
-- that is a function's values. Assumes nothing.
use Rattle.std.specs.Prelude.{ℕ, ◌+◌, ◌*◌, ◌<◌, ◌≤◌, ◌≡◌, length, get_or, set, List, ◌++◌}
use Rattle.std.proofs.Common.{sym, ◌∙◌, arith, length-set, drop_of_length-le, ext_get_or, get_or-set_same, get_or-set_other, append-nil, append_assoc}
use Rattle.std.proofs.Math.Path.{ap, ap₂, fun_ext}
use Rattle.std.proofs.Math.ListN.{take, drop, length-drop}
use Rattle.std.proofs.Math.Seq.{take-append-add, drop-append-add, drop-append-le}
use Rattle.std.proofs.lemmas.List.{take-append-le}
use Rattle.words.specs.Lists.{row, blocks, part, splice, upd}
use Rattle.words.specs.ListLaws.{upd_same, upd_other, upd-elim}
use Rattle.words.specs.RowLaws.{Wide, length-row, get_or-row, row-cong}
use Rattle.words.specs.PartLaws.{row-part}
use Rattle.words.specs.BlockLaws.{ahead, behind, block_within, block-replaced, length-ahead}

-- ---- functions

-- A change of the values that are mapped is a change of what they are mapped to.
pub upd-at : {A B : Type 0} (g : ℕ → A → B) (f : ℕ → A) (i : ℕ) (a : A) → upd (λ k. g k (f k)) i (g i a) ≡ (λ k. g k (upd f i a k))
upd-at g f i a =
    fun_ext (λ k. upd-elim (λ y. y ≡ g k (upd f i a k)) (λ k. g k (f k)) i (g i a) k
    (λ e. ap (λ m. g m a) (sym e) ∙ ap (g k) (sym (upd_same f i a k e))) (λ n. ap (g k) (sym (upd_other f i a k n))))

module _ {A : Type 0} where
  -- Of two changes at one number the second counts.
  pub upd-twice : (f : ℕ → A) (i : ℕ) (a b : A) → upd (upd f i a) i b ≡ upd f i b
  upd-twice f i a b =
      fun_ext (λ k. upd-elim (λ y. y ≡ upd f i b k) (upd f i a) i b k (λ e. sym (upd_same f i b k e))
      (λ n. upd_other f i a k n ∙ sym (upd_other f i b k n)))

  -- ---- a function's values as a list

  -- A part with a function's values is their row.
  pub part-row : (xs : List A) (a n : ℕ) (d : A) (f : ℕ → A) → a + n ≤ length xs → ((j : ℕ) → j < n → get_or xs (a + j) d ≡ f j) → part xs a n ≡ row n f
  part-row xs a n d f h e = sym (row-part xs a n d h) ∙ row-cong n _ f e

  -- A store in a row.
  pub set-row : (n : ℕ) (f : ℕ → A) (j : ℕ) (x : A) → j < n → set (row n f) j x ≡ row n (upd f j x)
  set-row n f j x h =
      ext_get_or x (set (row n f) j x) (row n (upd f j x)) (omega (arith, length-set (row n f) j x, length-row n f, length-row n (upd f j x)))
      (λ i l.
      let m : i < n = omega (arith, length-set (row n f) j x, length-row n f) in
      upd-elim (λ y. get_or (set (row n f) j x) i x ≡ y) f j x i
      (λ e. ap (λ k. get_or (set (row n f) j x) k x) e ∙ get_or-set_same (row n f) j x x (omega (arith, length-row n f)))
      (λ o. get_or-set_other (row n f) j i x x o ∙ get_or-row n f i x m)
      ∙ sym (get_or-row n (upd f j x) i x m))

  -- ---- a list, a part of the middle of three lists and a part of a block replaced

  -- The whole list replaced.
  pub splice_all : (xs : List A) (k : ℕ) (new : List A) → length xs ≡ k → splice 0 k xs new ≡ new
  unfolding splice
  splice_all xs k new e = ap (λ (r : List A). new ++ r) (drop_of_length-le xs {i = k} (omega arith)) ∙ append-nil new

  -- A part of the middle replaced.
  pub splice-inside : (xs ys zs : List A) (a b m : ℕ) (new : List A) → length xs ≡ a → b + m ≤ length ys
      → splice (a + b) m (xs ++ (ys ++ zs)) new ≡ xs ++ (splice b m ys new ++ zs)
  unfolding splice
  splice-inside xs ys zs a b m new e h =
      ap₂ (λ (p r : List A). p ++ (new ++ r)) (ap (λ k. take (k + b) (xs ++ (ys ++ zs))) (sym e)
      ∙ (take-append-add xs (ys ++ zs) b ∙ ap (λ (r : List A). xs ++ r) (take-append-le b ys zs (omega arith))))
      (ap (λ k. drop m (drop (k + b) (xs ++ (ys ++ zs)))) (sym e) ∙ (ap (drop m) (drop-append-add xs (ys ++ zs) b)
      ∙ (ap (drop m) (drop-append-le b ys zs (omega arith)) ∙ drop-append-le m (drop b ys) zs (omega (arith, length-drop b ys)))))
      ∙ simp append_assoc

  -- A part of block i replaced.
  pub splice-in-block : (front rest : List A) (a n w : ℕ) (f : ℕ → List A) → length front ≡ a → Wide n w f → (i : ℕ) → i < n
      → (b m : ℕ) (ys : List A) → b + m ≤ w
      → splice (a + i * w + b) m (front ++ (blocks n f ++ rest)) ys ≡ front ++ (blocks n (upd f i (splice b m (f i) ys)) ++ rest)
  splice-in-block front rest a n w f e wide i h b m ys l =
      ap (λ (r : List A). splice (a + i * w + b) m r ys) (block_within front rest n f i h)
      ∙ (splice-inside (ahead front f i) (f i) (behind rest n f i) (a + i * w) b m ys (length-ahead front rest a n w f e wide i h)
      (omega (arith, wide i h))
      ∙ sym (block-replaced front rest n f i (splice b m (f i) ys) h))
