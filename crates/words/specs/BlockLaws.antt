-- What holds of blocks of one width, one behind the other: a list cut into blocks, a block and its elements by their place, and stores
-- in a block. Assumes nothing.
use Rattle.std.specs.Prelude.{◌≡◌, refl, length, get_or, set, ℕ, zero, suc, ◌+◌, ◌-◌, ◌*◌, ◌<◌, ◌≤◌, List, ◌++◌}
use Rattle.std.proofs.Common.{sym, ◌∙◌, ap₂, zero-mul, mul-le-mul_right, append-nil, append_assoc, arith}
use Rattle.std.proofs.Math.Path.{ap}
use Rattle.std.proofs.Math.Nat.{add-zero, add-suc, suc-mul}
use Rattle.std.proofs.Math.ListN.{replicate, length-append, replicate-append-replicate}
use Rattle.std.proofs.lemmas.List.{length-replicate, get_or-replicate}
use Rattle.words.specs.Lists.{row, blocks, part, splice, upd}
use Rattle.words.specs.ListLaws.{upd_same, upd_other}
use Rattle.words.specs.PartLaws.{get_or_part, part-add, part-middle, set-middle, splice-middle}
use Rattle.words.specs.RowLaws.{Wide, row-cong, row-get_or, length-blocks, blocks-cong}

-- ---- products, which `omega` takes for unknowns

-- A block ends where a later one begins, or before.
pub rows : {i j : ℕ} (w : ℕ) → i < j → i * w + w ≤ j * w
rows {i} {j} w h = omega (arith, suc-mul i w, mul-le-mul_right w h)

-- Place j of block i is one of the places of n blocks.
pub cell : {i n j w : ℕ} → i < n → j < w → i * w + j < n * w
cell {w = w} h l = omega (arith, rows w h)

-- ---- cutting

module _ {A : Type 0} where
  -- The first m blocks, then k more.
  pub blocks-add : (m k : ℕ) (f : ℕ → List A) → blocks (m + k) f ≡ blocks m f ++ blocks k (λ i. f (m + i))
  unfolding blocks
  blocks-add m zero f = rw add-zero (sym (append-nil (blocks m f)))
  blocks-add m (suc k) f =
      rw add-suc (ap (λ (r : List A). r ++ f (m + k)) (blocks-add m k f) ∙ append_assoc (blocks m f) _ _)

  -- The blocks before block i, block i, and the blocks behind it.
  pub blocks-around : (n i : ℕ) (f : ℕ → List A) → i < n → blocks n f ≡ blocks i f ++ (f i ++ blocks (n - suc i) (λ k. f (suc i + k)))
  unfolding blocks
  blocks-around n i f h =
      let e : n ≡ suc i + (n - suc i) = omega arith in
      ap (λ (m : ℕ). blocks m f) e ∙ (blocks-add (suc i) (n - suc i) f ∙ append_assoc (blocks i f) (f i) _)

  -- Neighbouring parts of one width are blocks.
  pub part-blocks : (xs : List A) (a n w : ℕ) → part xs a (n * w) ≡ blocks n (λ i. part xs (a + i * w) w)
  unfolding blocks part
  part-blocks xs a zero w = ap (λ (k : ℕ). part xs a k) (zero-mul w)
  part-blocks xs a (suc n) w =
      rw suc-mul (part-add xs a (n * w) w ∙ ap (λ (r : List A). r ++ part xs (a + n * w) w) (part-blocks xs a n w))

-- ---- one element everywhere

module _ {A : Type 0} (a : A) where
  -- A function of one value, as a row.
  pub row-replicate : (n : ℕ) → row n (λ k. a) ≡ replicate n a
  row-replicate n =
      row-cong n _ _ (λ k h. sym (get_or-replicate n k a a h)) ∙ row-get_or (replicate n a) a n (length-replicate n a)

  -- Blocks of that element only.
  pub blocks-replicate : (n w : ℕ) (f : ℕ → List A) → ((k : ℕ) → k < n → f k ≡ replicate w a) → blocks n f ≡ replicate (n * w) a
  unfolding blocks
  blocks-replicate zero w f h = ap (λ (k : ℕ). replicate k a) (sym (zero-mul w))
  blocks-replicate (suc n) w f h =
      rw suc-mul (ap₂ (λ (r last : List A). r ++ last) (blocks-replicate n w f (λ k l. h k (omega arith))) (h n (omega arith))
      ∙ replicate-append-replicate (n * w) w a)

-- ---- a block among other words, in front and behind

-- The words in front of block i.
unfoldable pub ahead : {A : Type 0} → List A → (ℕ → List A) → ℕ → List A
ahead front f i = front ++ blocks i f

-- The words behind block i of n.
unfoldable pub behind : {A : Type 0} → List A → ℕ → (ℕ → List A) → ℕ → List A
behind rest n f i = blocks (n - suc i) (λ k. f (suc i + k)) ++ rest

-- Block i between the two.
pub block_within : {A : Type 0} (front rest : List A) (n : ℕ) (f : ℕ → List A) (i : ℕ) → i < n
    → front ++ (blocks n f ++ rest) ≡ ahead front f i ++ (f i ++ behind rest n f i)
unfolding ahead behind
block_within front rest n f i h = rw (blocks-around n i f h) (simp append_assoc)

-- Other words for block i change nothing in front and behind.
pub block-replaced : {A : Type 0} (front rest : List A) (n : ℕ) (f : ℕ → List A) (i : ℕ) (ys : List A) → i < n
    → front ++ (blocks n (upd f i ys) ++ rest) ≡ ahead front f i ++ (ys ++ behind rest n f i)
unfolding ahead behind
block-replaced front rest n f i ys h =
    block_within front rest n (upd f i ys) i h
    ∙ rw (
      upd_same f i ys i refl,
      blocks-cong i (upd f i ys) f (λ k l. upd_other f i ys k (omega arith)),
      blocks-cong (n - suc i) (λ k. upd f i ys (suc i + k)) (λ k. f (suc i + k)) (λ k l. upd_other f i ys (suc i + k) (omega arith)),
    )

module _ {A : Type 0} (front rest : List A) (a n w : ℕ) (f : ℕ → List A) (e : length front ≡ a) (wide : Wide n w f) (i : ℕ) (h : i < n) where
  -- Block i begins at a + i * w.
  pub length-ahead : length (ahead front f i) ≡ a + i * w
  unfolding ahead
  length-ahead = length-append front (blocks i f) ∙ omega (arith, length-blocks i w f (λ k l. wide k (omega arith)))

  -- Block i as a part.
  pub part-block : part (front ++ (blocks n f ++ rest)) (a + i * w) w ≡ f i
  part-block = rw (block_within front rest n f i h) (part-middle (ahead front f i) (f i) (behind rest n f i) (a + i * w) w length-ahead (wide i h))

  -- Element j of block i.
  pub get_or-block : (j : ℕ) (d : A) → j < w → get_or (front ++ (blocks n f ++ rest)) (a + i * w + j) d ≡ get_or (f i) j d
  get_or-block j d l = sym (get_or_part (front ++ (blocks n f ++ rest)) (a + i * w) w j d l) ∙ ap (λ (r : List A). get_or r j d) part-block

  -- A store in block i.
  pub set-block : (j : ℕ) (x : A) → j < w
      → set (front ++ (blocks n f ++ rest)) (a + i * w + j) x ≡ front ++ (blocks n (upd f i (set (f i) j x)) ++ rest)
  set-block j x l =
      ap (λ (r : List A). set r (a + i * w + j) x) (block_within front rest n f i h)
      ∙ (set-middle (ahead front f i) (f i) (behind rest n f i) (a + i * w) j x length-ahead (omega (arith, wide i h))
      ∙ sym (block-replaced front rest n f i (set (f i) j x) h))

  -- Block i replaced.
  pub splice-block : (ys : List A) → splice (a + i * w) w (front ++ (blocks n f ++ rest)) ys ≡ front ++ (blocks n (upd f i ys) ++ rest)
  splice-block ys =
      ap (λ (r : List A). splice (a + i * w) w r ys) (block_within front rest n f i h)
      ∙ (splice-middle (ahead front f i) (f i) (behind rest n f i) (a + i * w) w ys length-ahead (wide i h)
      ∙ sym (block-replaced front rest n f i ys h))
