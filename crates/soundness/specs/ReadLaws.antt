-- What the words that a test of rule b or f reads mean: counts, logs and slots of a table, against the state that the table decodes to. Assumes
-- nothing.
use Rattle.std.specs.Prelude.{ℕ, ◌+◌, ◌-◌, ◌*◌, ◌<◌, ◌≤◌, Bool, false, ◌&&◌, List, ◌≡◌, refl, eqb, length, take, drop}
use Rattle.std.proofs.Math.Path.{sym, ap}
use Rattle.std.proofs.Common.{◌∙◌, ap₂, add-zero, arith, eq-eqb, ne_eqb, length-drop, take_all}
use Rattle.std.proofs.Math.Dec.{leb}
use Rattle.std.proofs.Math.ListN.{get_or}
use Rattle.words.specs.Lists.{part}
use Rattle.words.specs.PartLaws.{length_part, get_or_part}
use Rattle.words.specs.Tests.{all, zeros}
use Rattle.words.specs.TestLaws.{all-cong, cond-true, cond-false}
use Rattle.words.specs.CheckLaws.{leb-passes, leb-fails, and-fails, and-goes}
use Rattle.vectors.specs.Vector.{vector_of}
use Rattle.logs.specs.Places.{width}
use Rattle.tables.proofs.BoundLaws.{read-within, write-within}
use Rattle.tables.specs.Layout.{count_at, slot_at, slot_width, guarantees_at, last_used_at, read_at, write_at}
use Rattle.tables.specs.Layout.{log_part, slot_part, decode}
use Rattle.tables.specs.Shape.{Laid}
use Rattle.tables.specs.Size.{Size, sums}
use Rattle.tables.specs.Sound.{slot_sound}
use Rattle.soundness.specs.Shares.{counted, none_above, open_holds, slot_holds}

-- ---- how long the parts of a slot are

module _ {z : Size} {t : List ℕ} (laid : Laid z t) where
  pub read_length : (k : ℕ) → k < z.p → length (part t (read_at z k 0) z.n) ≡ z.n
  read_length k h = length_part t (read_at z k 0) z.n (omega (arith, read-within z k h, laid.words))

  pub write-length : (k : ℕ) → k < z.p → length (part t (write_at z k 0) z.n) ≡ z.n
  write-length k h = length_part t (write_at z k 0) z.n (omega (arith, write-within z k h, laid.words))

-- ---- rule b

-- Where the count is at most L.
pub counted-within : (z : Size) (t : List ℕ) {count : ℕ} {log : List ℕ} (i : ℕ) {r : Bool} → count ≡ get_or t (count_at z i) 0 → log ≡ log_part z t i → count ≤ z.l
    → r ≡ zeros (take (length log - count * 4) (drop (count * 4) log))
    → r ≡ counted z t i
unfolding counted
counted-within z t {count} {log} i e g q x =
    and-goes (leb (get_or t (count_at z i) 0) z.l) _ (leb-passes e refl q)
    (x ∙ (ap zeros (take_all (length log - count * 4) (drop (count * 4) log) (omega (arith, length-drop (count * 4) log)))
    ∙ ap₂ (λ (c : ℕ) (ws : List ℕ). zeros (drop (c * width) ws)) e g))

-- Where it is more.
pub counted-over : (z : Size) (t : List ℕ) {count : ℕ} (i : ℕ) → count ≡ get_or t (count_at z i) 0 → z.l < count → false ≡ counted z t i
unfolding counted
counted-over z t i e q = and-fails (leb (get_or t (count_at z i) 0) z.l) _ (leb-fails e refl q)

-- ---- rule f

-- Of a vector lent as v.
pub none_above-of : (z : Size) (t : List ℕ) {v ws : List ℕ} {r : Bool} → r ≡ none_above z t (vector_of v) → v ≡ ws → r ≡ none_above z t (vector_of ws)
none_above-of z t e g = e ∙ ap (λ (v : List ℕ). none_above z t (vector_of v)) g

-- ---- slot k

module _ (z : Size) (t : List ℕ) (k : ℕ) where
  word_read : (c : ℕ) → c < 2 * z.n + 2 → get_or (slot_part z t k) c 0 ≡ get_or t (slot_at z k + c) 0
  unfolding slot_part slot_width
  word_read c l = get_or_part t (slot_at z k) (2 * z.n + 2) c 0 l

  guarantees-read : get_or (slot_part z t k) 0 0 ≡ get_or t (guarantees_at z k) 0
  unfolding guarantees_at
  guarantees-read = word_read 0 (omega arith) ∙ ap (λ a. get_or t a 0) (add-zero (slot_at z k))

  -- A vector of the slot that begins at word c of it.
  vector-read : (c : ℕ) → c + z.n ≤ 2 * z.n + 2 → (j : ℕ) → j < z.n → get_or (part t (slot_at z k + (c + 0)) z.n) j 0 ≡ get_or (slot_part z t k) (c + j) 0
  vector-read c m j l =
      let at : slot_at z k + (c + 0) + j ≡ slot_at z k + (c + j) = omega arith in
      get_or_part t (slot_at z k + (c + 0)) z.n j 0 l ∙ (ap (λ a. get_or t a 0) at ∙ sym (word_read (c + j) (omega arith)))

  bounds-read : (c : ℕ) → c + z.n ≤ 2 * z.n + 2 → none_above z t (λ j. get_or (part t (slot_at z k + (c + 0)) z.n) j 0) ≡ all z.n (λ j. leb (get_or (slot_part z t k) (c + j) 0) ((decode z t).vector j j))
  unfolding none_above
  bounds-read c m = all-cong z.n _ _ (λ j l. ap (λ w. leb w ((decode z t).vector j j)) (vector-read c m j l))

  module _ {g : ℕ} (e : g ≡ get_or t (guarantees_at z k) 0) {r : Bool} where
    -- Rule f, of a closed slot,
    pub closed-holds : {ws : List ℕ} → ws ≡ slot_part z t k → g ≡ 0 → r ≡ zeros ws → r ≡ slot_holds z t k
    unfolding slot_holds slot_sound
    closed-holds q o x =
        x ∙ (ap zeros q ∙ sym (cond-true (eqb (get_or (slot_part z t k) 0 0) 0) _ _ (eq-eqb (get_or (slot_part z t k) 0 0) 0 (guarantees-read ∙ (sym e ∙ o)))))

    -- and of an open one.
    pub open-holds : (g ≡ 0 → ⊥) → r ≡ open_holds z t k → r ≡ slot_holds z t k
    unfolding slot_holds slot_sound open_holds last_used_at read_at write_at
    open-holds o x =
        x ∙ (ap₂ (λ a b. a && b) (ap (λ w. leb w sums) (sym guarantees-read)) (ap₂ (λ a b. a && b) (ap (λ w. leb w z.n) (sym (word_read 1 (omega arith))))
        (ap₂ (λ a b. a && b) (bounds-read 2 (omega arith)) (bounds-read (2 + z.n) (omega arith))))
        ∙ sym (cond-false (eqb (get_or (slot_part z t k) 0 0) 0) _ _ (ne_eqb (get_or (slot_part z t k) 0 0) 0 (λ q. o (e ∙ (sym guarantees-read ∙ q))))))
