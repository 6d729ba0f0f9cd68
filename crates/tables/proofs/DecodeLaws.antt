-- A state and its words are each other's: a state's words mean that state, and a table's words are those of the state that they
-- mean. Assumes nothing.
use Rattle.std.specs.Prelude.{ℕ, ◌+◌, ◌*◌, ◌<◌, true, ◌≡◌, leb, length}
use mathlib.Core.List.{List, [], ◌∷◌, ◌++◌}
use Rattle.std.proofs.Common.{inl, inr, ◌∙◌, arith, leb-true}
use Rattle.std.proofs.Math.Path.{sym, ap, ap₂, fun_ext}
use Rattle.std.proofs.Math.ListN.{get_or}
use Rattle.words.specs.Lists.{row, part, below}
use Rattle.words.specs.BlockLaws.{part-blocks, rows}
use Rattle.words.specs.ListLaws.{below_in, below-same}
use Rattle.words.specs.PartLaws.{length_part, part-all, part-add, part-one, row-part, row-part-below}
use Rattle.words.specs.RowLaws.{blocks-cong}
use Rattle.words.specs.Tests.{zeros}
use Rattle.words.specs.TestLaws.{and_left, and_right, all-at}
use Rattle.logs.specs.Places.{width, places, entries}
use Rattle.logs.proofs.PlacesLaws.{entries-places, length-entries, places-entries}
use Rattle.tables.specs.Layout.{header, vector_at, count_at, log_at, slot_width, slot_at, size}
use Rattle.tables.specs.Layout.{head_words, slot_words, encode, size_of, log_part, slot_part, slot_of, decode}
use Rattle.tables.proofs.LayoutLaws.{vector-encode, count-encode, log_part-encode, slot_part-encode}
use Rattle.tables.specs.Size.{Size}
use Rattle.tables.specs.SlotLaws.{Confined}
use Rattle.tables.proofs.SlotLaws.{slot_of-slot_words, slot_words-slot_of}
use Rattle.tables.specs.Sound.{rule_b}
use Rattle.tables.specs.SoundState.{SoundState, SoundSlot}
use Rattle.tables.proofs.SoundStateLaws.{vector-outside}
use Rattle.tables.specs.State.{State, Slot, closed, opened}
use Rattle.tables.specs.DecodeLaws.{Shown}

-- ---- what a table's words mean, server by server and slot by slot

module _ (z : Size) (t : List ℕ) where
  -- A server's vector.
  pub decode-vector : (i : ℕ) → i < z.n → (decode z t).vector i ≡ below z.n (λ j. get_or t (vector_at z i j) 0) 0
  unfolding decode
  decode-vector i h = below_in z.n (λ i. below z.n (λ j. get_or t (vector_at z i j) 0) 0) (λ j. 0) i h

  -- A server's log.
  pub decode-log : (i : ℕ) → i < z.n → (decode z t).log i ≡ entries (get_or t (count_at z i) 0) (log_part z t i)
  unfolding decode
  decode-log i h = below_in z.n (λ i. entries (get_or t (count_at z i) 0) (log_part z t i)) [] i h

  -- A slot.
  pub decode-slot : (k : ℕ) → k < z.p → (decode z t).slot k ≡ slot_of z.n (get_or (slot_part z t k) 0 0) (slot_part z t k)
  unfolding decode
  decode-slot k h = below_in z.p (λ k. slot_of z.n (get_or (slot_part z t k) 0 0) (slot_part z t k)) closed k h

-- ---- from a state to its words and back

module _ (z : Size) (s : State) where
  module _ (h : Shown z s) where
    -- The vectors come back,
    pub vector-shown : (decode z (encode z s)).vector ≡ s.vector
    unfolding decode
    vector-shown =
        below-same z.n _ s.vector _ (λ i l. below-same z.n _ (s.vector i) 0 (vector-encode z s i l) (h.no_component i))
        (λ i l. fun_ext (h.no_vector i l))

    -- the logs,
    pub log-shown : (decode z (encode z s)).log ≡ s.log
    unfolding decode
    log-shown =
        below-same z.n _ s.log _
        (λ i l. ap₂ (λ c ws. entries c ws) (count-encode z s i l) (log_part-encode z s (λ k m. h.room k) i l) ∙ entries-places z.l (s.log i))
        h.no_log

    -- the slots,
    pub slot-shown : (decode z (encode z s)).slot ≡ s.slot
    unfolding decode
    slot-shown =
        below-same z.p _ s.slot _
        (λ k l. ap (λ ws. slot_of z.n (get_or ws 0 0) ws) (slot_part-encode z s (λ i m. h.room i) k l) ∙ slot_of-slot_words z.n (s.slot k) (h.confined k))
        h.no_slot

    -- and so the state.
    pub decode-shown : decode z (encode z s) ≡ s
    decode-shown = λ d. record { vector = vector-shown d; log = log-shown d; slot = slot-shown d }

  module _ (h : SoundState z s) where
    -- A session's components are at most the servers' own.
    pub sound-confined : (o : Slot) → SoundSlot z.n (λ j. s.vector j j) o → Confined z.n o
    sound-confined closed q = tt
    sound-confined (opened p) q = (
      λ j l. omega (arith, q.read_below j, vector-outside h j j (inl l)),
      λ j l. omega (arith, q.write_below j, vector-outside h j j (inl l)),
    )

    -- So a sound state's words show all of it,
    pub sound-shown : Shown z s
    sound-shown =
        record {
          room = h.room;
          no_vector = λ i l j. vector-outside h i j (inl l);
          no_component = λ i j l. vector-outside h i j (inr l);
          no_log = h.no_server;
          no_slot = h.no_slot;
          confined = λ k. sound-confined (s.slot k) (h.slots k);
        }

    -- and mean that state.
    pub decode-encode : decode z (encode z s) ≡ s
    decode-encode = decode-shown sound-shown

-- ---- from words to their state and back

module _ (z : Size) (t : List ℕ) (len : length t ≡ size z) where
  -- A server's vector and count.
  pub head-decode : (i : ℕ) → i < z.n → head_words z (decode z t) i ≡ part t (4 + i * (z.n + 1)) (z.n + 1)
  unfolding head_words size vector_at count_at
  head-decode i h =
      ap₂ (λ v g. row z.n v ++ (length g ∷ [])) (decode-vector z t i h) (decode-log z t i h)
      ∙ (ap₂ (λ (v c : List ℕ). v ++ c) (row-part-below t (4 + i * (z.n + 1)) z.n 0 0 (omega (arith, rows (z.n + 1) h)))
      (ap {B = List ℕ} (λ c. c ∷ []) (length-entries _ (log_part z t i)) ∙ part-one t (count_at z i) 0 (omega (arith, rows (z.n + 1) h)))
      ∙ sym (part-add t (4 + i * (z.n + 1)) z.n 1))

  -- A log, by rule b.
  pub log-decode : rule_b z t ≡ true → (i : ℕ) → i < z.n → places z.l ((decode z t).log i) ≡ log_part z t i
  unfolding rule_b size log_part log_at
  log-decode counts i h =
      let c = get_or t (count_at z i) 0 in
      let ok = all-at z.n _ counts i h in
      ap (places z.l) (decode-log z t i h)
      ∙ places-entries z.l c (log_part z t i) (length_part t (log_at z i) (z.l * width) (omega (arith, rows (z.l * width) h)))
      (leb-true c z.l (and_left (leb c z.l) _ ok)) (and_right (leb c z.l) _ ok)

  -- A slot, by what rule f says of a closed one.
  pub slot-decode : (k : ℕ) → k < z.p → (get_or (slot_part z t k) 0 0 ≡ 0 → zeros (slot_part z t k) ≡ true)
      → slot_words z.n ((decode z t).slot k) ≡ slot_part z t k
  unfolding size slot_part slot_at slot_width
  slot-decode k h shut =
      ap (slot_words z.n) (decode-slot z t k h)
      ∙ slot_words-slot_of z.n (slot_part z t k) (length_part t (slot_at z k) (slot_width z) (omega (arith, rows (2 * z.n + 2) h))) shut

  -- The header, by rule a.
  pub header-decode : size_of t ≡ z → get_or t 3 0 ≡ 0 → header z ≡ part t 0 4
  unfolding header size_of size row
  header-decode sizes fourth =
      ap header (sym sizes)
      ∙ (ap {B = List ℕ} (λ x. get_or t 0 0 ∷ get_or t 1 0 ∷ get_or t 2 0 ∷ x ∷ []) (sym fourth) ∙ row-part t 0 4 0 (omega arith))

  -- The table is its header and its three runs.
  pub table-cut : part t 0 4
      ++ (part t 4 (z.n * (z.n + 1)) ++ (part t (4 + z.n * (z.n + 1)) (z.n * (z.l * width))
      ++ part t (4 + z.n * (z.n + 1) + z.n * (z.l * width)) (z.p * (2 * z.n + 2)))) ≡ t
  unfolding size
  table-cut =
      let a = z.n * (z.n + 1) in
      let b = z.n * (z.l * width) in
      let c = z.p * (2 * z.n + 2) in
      rw (← part-add t (4 + a) b c, ← part-add t 4 a (b + c), ← part-add t 0 4 (a + (b + c))) (part-all t (4 + (a + (b + c))) (omega arith))

-- The words of the state that a table's words mean are those words.
pub encode-decode : (z : Size) (t : List ℕ) → size_of t ≡ z → get_or t 3 0 ≡ 0 → length t ≡ size z → rule_b z t ≡ true
    → ((k : ℕ) → k < z.p → get_or (slot_part z t k) 0 0 ≡ 0 → zeros (slot_part z t k) ≡ true) → encode z (decode z t) ≡ t
unfolding encode log_part log_at slot_part slot_at slot_width
encode-decode z t sizes fourth len counts shut =
    ap₂ (λ (front rest : List ℕ). front ++ rest) (header-decode z t len sizes fourth) (ap₂ (λ (front rest : List ℕ). front ++ rest)
    (blocks-cong z.n _ _ (head-decode z t len) ∙ sym (part-blocks t 4 z.n (z.n + 1))) (ap₂ (λ (front rest : List ℕ). front ++ rest)
    (blocks-cong z.n _ _ (log-decode z t len counts) ∙ sym (part-blocks t (4 + z.n * (z.n + 1)) z.n (z.l * width)))
    (blocks-cong z.p _ _ (λ k h. slot-decode z t len k h (shut k h))
    ∙ sym (part-blocks t (4 + z.n * (z.n + 1) + z.n * (z.l * width)) z.p (2 * z.n + 2)))))
    ∙ table-cut z t len
