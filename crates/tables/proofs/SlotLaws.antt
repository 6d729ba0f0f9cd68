-- What holds of a slot's words: how many there are, each by its place, and that slots and words are each other's. Assumes nothing.
use Rattle.std.specs.Prelude.{ℕ, zero, suc, ◌+◌, ◌*◌, ◌<◌, true, List, [], ◌∷◌, ◌++◌, ◌≡◌, length, get_or}
use Rattle.std.proofs.Math.Path.{refl}
use Rattle.std.proofs.Common.{sym, ◌∙◌, ap, ap₂, arith, length-append}
use Rattle.std.proofs.lemmas.List.{length-replicate, get_or-replicate}
use Rattle.std.proofs.Math.ListN.{get_or-append}
use Rattle.words.specs.Lists.{row}
use Rattle.words.specs.ListLaws.{below-same}
use Rattle.words.specs.PartLaws.{get_or-right, part-all, part-add, row-part, row-part-below}
use Rattle.words.specs.RowLaws.{length-row, get_or-row}
use Rattle.words.specs.Tests.{zeros}
use Rattle.words.specs.TestLaws.{zeros-are}
use Rattle.tables.specs.Layout.{slot_words, session_of, slot_of}
use Rattle.tables.specs.State.{Session, Slot, closed, opened}
use Rattle.tables.specs.SlotLaws.{Confined}

-- ---- each word of an open slot

module _ (n : ℕ) (q : Session) where
  -- The chosen guarantees plus 1.
  pub slot-guarantees : get_or (slot_words n (opened q)) 0 0 ≡ suc q.guarantees
  unfolding slot_words
  slot-guarantees = refl

  -- The last-used server plus 1, or 0.
  pub slot-last_used : get_or (slot_words n (opened q)) 1 0 ≡ q.last_used
  unfolding slot_words
  slot-last_used = refl

  -- Component j of the read-vector.
  pub slot-read_vector : (j : ℕ) → j < n → get_or (slot_words n (opened q)) (2 + j) 0 ≡ q.read_vector j
  unfolding slot_words
  slot-read_vector j h =
      get_or-right (suc q.guarantees ∷ q.last_used ∷ []) (row n q.read_vector ++ row n q.write_vector) 2 j 0 refl
      ∙ (get_or-append (row n q.read_vector) (row n q.write_vector) 0 j (omega (arith, length-row n q.read_vector))
      ∙ get_or-row n q.read_vector j 0 h)

  -- Component j of the write-vector.
  pub slot-write_vector : (j : ℕ) → j < n → get_or (slot_words n (opened q)) (2 + n + j) 0 ≡ q.write_vector j
  unfolding slot_words
  slot-write_vector j h =
      get_or-right (suc q.guarantees ∷ q.last_used ∷ row n q.read_vector) (row n q.write_vector) (2 + n) j 0
      (omega (arith, length-row n q.read_vector))
      ∙ get_or-row n q.write_vector j 0 h

-- ---- how many there are

-- An open slot has as many words as a closed one.
pub length-slot_words : (n : ℕ) (o : Slot) → length (slot_words n o) ≡ 2 * n + 2
unfolding slot_words
length-slot_words n closed = length-replicate {A = ℕ} (2 * n + 2) 0
length-slot_words n (opened q) =
    omega (arith, length-append (row n q.read_vector) (row n q.write_vector), length-row n q.read_vector, length-row n q.write_vector)

-- ---- from a slot to its words and back

-- An open slot's words mean its session.
pub session_of-slot_words : (n : ℕ) (q : Session) → Confined n (opened q) → session_of n q.guarantees (slot_words n (opened q)) ≡ q
unfolding session_of
session_of-slot_words n q h =
    let ws = slot_words n (opened q) in
    let r = below-same n (λ j. get_or ws (2 + j) 0) q.read_vector 0 (slot-read_vector n q) h.0 in
    let w = below-same n (λ j. get_or ws (2 + n + j) 0) q.write_vector 0 (slot-write_vector n q) h.1 in
    λ d. record { guarantees = q.guarantees; last_used = slot-last_used n q d; read_vector = r d; write_vector = w d }

-- A slot's words mean that slot.
pub slot_of-slot_words : (n : ℕ) (o : Slot) → Confined n o → slot_of n (get_or (slot_words n o) 0 0) (slot_words n o) ≡ o
unfolding slot_words slot_of
slot_of-slot_words n closed h = rw (get_or-replicate {A = ℕ} (2 * n + 2) 0 0 0 (omega arith))
slot_of-slot_words n (opened q) h = ap opened (session_of-slot_words n q h)

-- ---- from words to their slot and back

-- Words that begin with a number above 0 are an open slot's.
pub slot_words-session_of : (n g : ℕ) (ws : List ℕ) → length ws ≡ 2 * n + 2 → get_or ws 0 0 ≡ suc g → slot_words n (opened (session_of n g ws)) ≡ ws
unfolding slot_words session_of row
slot_words-session_of n g ws len e =
    ap₂ (λ (front vectors : List ℕ). front ++ vectors)
    (ap {B = List ℕ} (λ x. x ∷ get_or ws 1 0 ∷ []) (sym e) ∙ row-part ws 0 2 0 (omega arith)) (ap₂
    (λ (first second : List ℕ). first ++ second) (row-part-below ws 2 n 0 0 (omega arith)) (row-part-below ws (2 + n) n 0 0 (omega arith)))
    ∙ rw (← part-add ws 2 n n, ← part-add ws 0 2 (n + n)) (part-all ws (2 + (n + n)) (omega arith))

-- Words of which all are 0 if the first is.
pub slot_words-slot_of : (n : ℕ) (ws : List ℕ) → length ws ≡ 2 * n + 2 → (get_or ws 0 0 ≡ 0 → zeros ws ≡ true) → slot_words n (slot_of n (get_or ws 0 0) ws) ≡ ws
unfolding slot_of slot_words
slot_words-slot_of n ws len shut = go (get_or ws 0 0) refl
  where
    go : (g : ℕ) → get_or ws 0 0 ≡ g → slot_words n (slot_of n g ws) ≡ ws
    go zero e = zeros-are (2 * n + 2) ws len (shut e)
    go (suc g) e = slot_words-session_of n g ws len e
