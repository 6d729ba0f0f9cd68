-- A fresh table is the words of the empty state, and what making answers. Assumes nothing.
use Rattle.std.specs.Prelude.{ℕ, suc, ◌+◌, ◌-◌, ◌*◌, true, false, List, [], ◌∷◌, ◌++◌, ◌↔◌, ◌≡◌, refl, eqb, length, set, drop, replicate}
use Rattle.std.proofs.Common.{⊎_elim, sym, ◌∙◌, ap, arith, eqb-true, eq-eqb, ne_eqb}
use Rattle.std.proofs.lemmas.Bool.{eqb-false}
use Rattle.std.proofs.lemmas.List.{replicate-append-replicate}
use Rattle.words.specs.BlockLaws.{row-replicate, blocks-replicate}
use Rattle.words.specs.TestLaws.{cond-true, cond-false, either, true-not-false}
use Rattle.logs.specs.Places.{width, places}
use Rattle.logs.proofs.PlacesLaws.{places-nil}
use Rattle.tables.specs.SizeLaws.{Within}
use Rattle.tables.proofs.SizeLaws.{within-exactly, within-fails}
use Rattle.tables.specs.Layout.{size, header, head_words, slot_words, encode}
use Rattle.tables.specs.Make.{fresh, making, MakePromise}
use Rattle.tables.specs.Size.{Size, within}
use Rattle.tables.specs.State.{closed, empty}

-- A server with no write has zeros for its vector and its count.
pub head_words-empty : (z : Size) (i : ℕ) → head_words z empty i ≡ replicate (z.n + 1) 0
unfolding head_words empty
head_words-empty z i = ap (λ (r : List ℕ). r ++ (0 ∷ [])) (row-replicate 0 z.n) ∙ replicate-append-replicate z.n 1 0

-- Header and zeros.
pub fresh-encode : (z : Size) → fresh z ≡ encode z empty
unfolding fresh encode size empty slot_words
fresh-encode z =
    let a = z.n * (z.n + 1) in
    let b = z.n * (z.l * width) in
    let c = z.p * (2 * z.n + 2) in
    let e : size z - 4 ≡ a + (b + c) = omega arith in
    sym (rw (
      blocks-replicate 0 z.n (z.n + 1) (head_words z empty) (λ i h. head_words-empty z i),
      blocks-replicate 0 z.n (z.l * width) (λ i. places z.l []) (λ i h. places-nil z.l),
      blocks-replicate 0 z.p (2 * z.n + 2) (λ k. slot_words z.n closed) (λ k h. refl),
      replicate-append-replicate {A = ℕ} b c 0,
      replicate-append-replicate {A = ℕ} a (b + c) 0,
      e,
    ))

-- The numbers asked for, stored in front of zeros.
pub fresh-stored : (z : Size) → set (set (set (replicate (size z) 0) 0 z.n) 1 z.l) 2 z.p ≡ fresh z
unfolding fresh header size
fresh-stored z =
    let e : size z ≡ suc (suc (suc (suc (size z - 4)))) = omega arith in
    ap (λ m. set (set (set (replicate m 0) 0 z.n) 1 z.l) 2 z.p) e

-- The same numbers, copied to the front in place of the first three zeros.
pub fresh-copied : (z : Size) → (z.n ∷ z.l ∷ z.p ∷ []) ++ drop 3 (replicate (size z) 0) ≡ fresh z
unfolding fresh header size
fresh-copied z =
    let e : size z ≡ suc (suc (suc (suc (size z - 4)))) = omega arith in
    ap (λ m. (z.n ∷ z.l ∷ z.p ∷ []) ++ drop 3 (replicate m 0)) e

-- ---- making

module _ (z : Size) (buffer : List ℕ) where
  -- The three outcomes, in the order of checking.
  pub make-limits : within z ≡ false → making z buffer ≡ record { code = 2; buffer = buffer }
  unfolding making
  make-limits e = cond-false (within z) _ _ e

  pub make-length : within z ≡ true → (length buffer ≡ size z → ⊥) → making z buffer ≡ record { code = 8; buffer = buffer }
  unfolding making
  make-length e h = cond-true (within z) _ _ e ∙ cond-false (eqb (length buffer) (size z)) _ _ (ne_eqb (length buffer) (size z) h)

  -- Else a fresh table.
  pub make-done : within z ≡ true → length buffer ≡ size z → making z buffer ≡ record { code = 0; buffer = fresh z }
  unfolding making
  make-done e h = cond-true (within z) _ _ e ∙ cond-true (eqb (length buffer) (size z)) _ _ (eq-eqb (length buffer) (size z) h)

  -- The same, as it comes about: the three numbers stored in a cleared buffer.
  pub make-stored : within z ≡ true → length buffer ≡ size z → {cleared : List ℕ} → cleared ≡ replicate (length buffer) 0
      → making z buffer ≡ record { code = 0; buffer = set (set (set cleared 0 z.n) 1 z.l) 2 z.p }
  make-stored e h {cleared} zeros =
      let zeros' : cleared ≡ replicate (size z) 0 = zeros ∙ ap (λ m. replicate m 0) h in
      make-done e h ∙ ap (λ (left : List ℕ). record { code = 0; buffer = left }) (sym (fresh-stored z) ∙ ap (λ (ws : List ℕ). set (set (set ws 0 z.n) 1 z.l) 2 z.p) (sym zeros'))

  -- Or copied to its front.
  pub make-copied : within z ≡ true → length buffer ≡ size z → {cleared left : List ℕ} → cleared ≡ replicate (length buffer) 0
      → left ≡ (z.n ∷ z.l ∷ z.p ∷ []) ++ drop 3 cleared → making z buffer ≡ record { code = 0; buffer = left }
  make-copied e h {cleared} {left} zeros numbers =
      let zeros' : cleared ≡ replicate (size z) 0 = zeros ∙ ap (λ m. replicate m 0) h in
      make-done e h ∙ ap (λ (ws : List ℕ). record { code = 0; buffer = ws })
      (sym (fresh-copied z) ∙ ap (λ (ws : List ℕ). (z.n ∷ z.l ∷ z.p ∷ []) ++ drop 3 ws) (sym zeros') ∙ sym numbers)

  -- Whatever is asked, one of the three.
  make-cases : {A : Type 0} → (within z ≡ false → A) → (within z ≡ true → (length buffer ≡ size z → ⊥) → A)
      → (within z ≡ true → length buffer ≡ size z → A) → A
  make-cases limits misfit fit =
      ⊎_elim (λ e. ⊎_elim (λ h. fit e (eqb-true (length buffer) (size z) h)) (λ h. misfit e (eqb-false (length buffer) (size z) h))
      (either (eqb (length buffer) (size z)))) limits (either (within z))

  -- "Making a table tests 2, ..": 2 exactly if N, L or P is out of its bounds,
  pub make-2-exactly : ((making z buffer).code ≡ 2) ↔ (Within z → ⊥)
  make-2-exactly = (
    λ e b. make-cases (λ l. true-not-false ((within-exactly z).1 b) l) (λ l h. absurd (omega (arith, ap (λ m. m.code) (make-length l h))))
        (λ l h. absurd (omega (arith, ap (λ m. m.code) (make-done l h)))),
    λ n. ap (λ m. m.code) (make-limits (within-fails z n)),
  )

  -- ".. then 8": 8 exactly if they are in range and the buffer's length is not exact.
  pub make-8-exactly : ((making z buffer).code ≡ 8) ↔ (Within z × (length buffer ≡ size z → ⊥))
  make-8-exactly = (
    λ e. make-cases (λ l. absurd (omega (arith, ap (λ m. m.code) (make-limits l)))) (λ l h. ((within-exactly z).0 l, h))
        (λ l h. absurd (omega (arith, ap (λ m. m.code) (make-done l h)))),
    λ l. ap (λ m. m.code) (make-length ((within-exactly z).1 l.0) l.1),
  )

  -- ".. and writes nothing if refused."
  pub make-refused : ((making z buffer).code ≡ 0 → ⊥) → (making z buffer).buffer ≡ buffer
  make-refused h =
      make-cases (λ l. ap (λ m. m.buffer) (make-limits l)) (λ l e. ap (λ m. m.buffer) (make-length l e))
      (λ l e. absurd (h (ap (λ m. m.code) (make-done l e))))

  -- What is made is a fresh table within the limits.
  pub made-fresh : (making z buffer).code ≡ 0 → (within z ≡ true) × ((making z buffer).buffer ≡ fresh z)
  made-fresh e =
      make-cases (λ l. absurd (omega (arith, ap (λ m. m.code) (make-limits l))))
      (λ l h. absurd (omega (arith, ap (λ m. m.code) (make-length l h)))) (λ l h. (l, ap (λ m. m.buffer) (make-done l h)))

  -- What is made so meets the promise of making.
  pub make_meets : {code : ℕ} {left : List ℕ} → making z buffer ≡ record { code = code; buffer = left } → MakePromise z buffer code left
  make_meets e = record { code_is = ap (λ m. m.code) (sym e); buffer_is = ap (λ m. m.buffer) (sym e) }

  -- Two results that the promise of making allows are equal.
  pub make-settled : (c₁ c₂ : ℕ) (l₁ l₂ : List ℕ) → MakePromise z buffer c₁ l₁ → MakePromise z buffer c₂ l₂ → (c₁ ≡ c₂) × (l₁ ≡ l₂)
  make-settled c₁ c₂ l₁ l₂ p q = (p.code_is ∙ sym q.code_is, p.buffer_is ∙ sym q.buffer_is)
