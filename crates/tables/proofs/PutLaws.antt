-- What a store in a state's words makes of the state: each is the words of the state with one vector, one log or one slot replaced.
-- Assumes nothing.
use Prim.Native.Nat.{ℕ, suc, ◌+◌, ◌*◌, ◌<◌, ◌≤◌}
use mathlib.Core.List.{List, [], ◌∷◌, ◌++◌, append_assoc}
use Rattle.std.specs.Prelude.{◌≡◌, replicate}
use Rattle.std.proofs.Math.Path.{refl, sym, ap, ap₂}
use Rattle.std.proofs.Common.{◌∙◌, arith}
use Rattle.std.proofs.Math.ListN.{length, set}
use Rattle.std.proofs.lemmas.List.{replicate-append-replicate, set-append_left, set_at}
use Rattle.words.specs.Lists.{row, blocks, splice, upd}
use Rattle.words.specs.ListLaws.{upd_same, upd-elim}
use Rattle.words.specs.RowLaws.{length-row}
use Rattle.words.specs.PartLaws.{set-right, splice-middle}
use Rattle.words.specs.BlockLaws.{row-replicate, set-block, splice-block}
use Rattle.words.specs.SetLaws.{upd-at, upd-twice, set-row, splice_all, splice-in-block}
use Rattle.logs.specs.Write.{Write}
use Rattle.logs.specs.Places.{width, places}
use Rattle.tables.specs.Size.{Size}
use Rattle.tables.specs.State.{State, Session, Slot, closed, opened, with_vector, with_log, with_slot}
use Rattle.tables.specs.Layout.{header, vector_at, count_at, log_at, slot_at, guarantees_at, last_used_at, read_at, write_at, head_words, slot_words, encode}
use Rattle.tables.proofs.SlotLaws.{length-slot_words}
use Rattle.tables.specs.LayoutLaws.{head_run, log_run, slot_run, before_logs, before_slots, Room}
use Rattle.tables.proofs.LayoutLaws.{encode-logs, encode-slots}
use Rattle.tables.proofs.LayoutLaws.{wide-heads, wide-logs, wide-slots, length-before_logs, length-before_slots}

-- ---- states with a vector, a log or a slot replaced

module _ (s : State) where
  -- What was put is there,
  pub with_vector-now : (i : ℕ) (v : ℕ → ℕ) → (with_vector s i v).vector i ≡ v
  unfolding with_vector
  with_vector-now i v = upd_same s.vector i v i refl

  pub with_slot-now : (k : ℕ) (o : Slot) → (with_slot s k o).slot k ≡ o
  unfolding with_slot
  with_slot-now k o = upd_same s.slot k o k refl

  -- and of two the second counts.
  pub with_vector-twice : (i : ℕ) (v u : ℕ → ℕ) → with_vector (with_vector s i v) i u ≡ with_vector s i u
  unfolding with_vector
  with_vector-twice i v u = λ d. record { vector = upd-twice s.vector i v u d; log = s.log; slot = s.slot }

  pub with_slot-twice : (k : ℕ) (o p : Slot) → with_slot (with_slot s k o) k p ≡ with_slot s k p
  unfolding with_slot
  with_slot-twice k o p = λ d. record { vector = s.vector; log = s.log; slot = upd-twice s.slot k o p d }

module _ (z : Size) (s : State) (room : Room z s) where
  -- No log has more writes than places: still so.
  pub room-with_vector : (i : ℕ) (v : ℕ → ℕ) → Room z (with_vector s i v)
  unfolding with_vector
  room-with_vector i v = room

  pub room-with_slot : (k : ℕ) (o : Slot) → Room z (with_slot s k o)
  unfolding with_slot
  room-with_slot k o = room

  pub room-with_log : (i : ℕ) (g : List Write) → length g ≤ z.l → Room z (with_log s i g)
  unfolding with_log
  room-with_log i g h k l = upd-elim (λ (r : List Write). length r ≤ z.l) s.log i g k (λ e. h) (λ n. room k l)

-- ---- each server's vector and log

module _ (z : Size) (s : State) (i : ℕ) (h : i < z.n) where
  -- Other words for a server's vector and count, with its vector replaced.
  head-put : (v : ℕ → ℕ) (ws : List ℕ) → ws ≡ row z.n v ++ (length (s.log i) ∷ [])
      → header z ++ (blocks z.n (upd (head_words z s) i ws) ++ (log_run z s ++ slot_run z s)) ≡ encode z (with_vector s i v)
  unfolding encode head_words with_vector log_run slot_run
  head-put v ws e =
      ap (λ f. header z ++ (blocks z.n f ++ (log_run z s ++ slot_run z s))) (ap (upd (head_words z s) i) e
      ∙ upd-at (λ k u. row z.n u ++ (length (s.log k) ∷ [])) s.vector i v)

  -- One component of a vector.
  pub put_vector : (j x : ℕ) → j < z.n → set (encode z s) (vector_at z i j) x ≡ encode z (with_vector s i (upd (s.vector i) j x))
  unfolding encode header vector_at head_words log_run slot_run
  put_vector j x l =
      set-block (header z) _ 4 z.n (z.n + 1) (head_words z s) refl (wide-heads z s) i h j x (omega arith)
      ∙ head-put (upd (s.vector i) j x) _ (set-append_left (row z.n (s.vector i)) _ j x (omega (arith, length-row z.n (s.vector i)))
      ∙ ap (λ (r : List ℕ). r ++ (length (s.log i) ∷ [])) (set-row z.n (s.vector i) j x l))

  -- A whole vector.
  pub put-vector-row : (v : ℕ → ℕ) → splice (vector_at z i 0) z.n (encode z s) (row z.n v) ≡ encode z (with_vector s i v)
  unfolding encode header vector_at head_words log_run slot_run
  put-vector-row v =
      splice-in-block (header z) _ 4 z.n (z.n + 1) (head_words z s) refl (wide-heads z s) i h 0 z.n (row z.n v) (omega arith)
      ∙ head-put v _ (splice-middle [] (row z.n (s.vector i)) _ 0 z.n (row z.n v) refl (length-row z.n (s.vector i)))

  -- Other words for a log,
  log-put : Room z s → (ws : List ℕ) → splice (log_at z i) (z.l * width) (encode z s) ws
      ≡ header z ++ (head_run z s ++ (blocks z.n (upd (λ k. places z.l (s.log k)) i ws) ++ slot_run z s))
  unfolding log_at log_run before_logs
  log-put room ws =
      ap (λ (t : List ℕ). splice (log_at z i) (z.l * width) t ws) (encode-logs z s)
      ∙ (splice-block (before_logs z s) (slot_run z s) _ z.n (z.l * width) (λ k. places z.l (s.log k)) (length-before_logs z s)
      (wide-logs z s room) i h ws
      ∙ append_assoc (header z) (head_run z s) _)

  -- and another count, whatever stands behind the vectors and counts.
  count-put : (c : ℕ) (rest : List ℕ) → set (header z ++ (head_run z s ++ rest)) (count_at z i) c
      ≡ header z ++ (blocks z.n (upd (head_words z s) i (row z.n (s.vector i) ++ (c ∷ []))) ++ rest)
  unfolding header count_at head_words head_run
  count-put c rest =
      set-block (header z) rest 4 z.n (z.n + 1) (head_words z s) refl (wide-heads z s) i h z.n c (omega arith)
      ∙ ap (λ (ws : List ℕ). header z ++ (blocks z.n (upd (head_words z s) i ws) ++ rest))
      (set_at (row z.n (s.vector i)) _ [] c z.n (length-row z.n (s.vector i)))

  -- A log, with its count.
  pub put-log : Room z s → (g : List Write)
      → set (splice (log_at z i) (z.l * width) (encode z s) (places z.l g)) (count_at z i) (length g) ≡ encode z (with_log s i g)
  unfolding encode head_words with_log slot_run
  put-log room g =
      ap (λ (t : List ℕ). set t (count_at z i) (length g)) (log-put room (places z.l g))
      ∙ (count-put (length g) _
      ∙ ap₂ (λ heads logs. header z ++ (blocks z.n heads ++ (blocks z.n logs ++ slot_run z s)))
      (upd-at (λ k (r : List Write). row z.n (s.vector k) ++ (length r ∷ [])) s.log i g)
      (upd-at (λ k (r : List Write). places z.l r) s.log i g))

-- ---- each slot

-- A closed slot's words with another first word are those of a new session.
slot_words-new : (n g : ℕ) → set (slot_words n closed) 0 (suc g)
    ≡ slot_words n (opened (record { guarantees = g; last_used = 0; read_vector = λ j. 0; write_vector = λ j. 0 }))
unfolding slot_words
slot_words-new n g =
    let w : 2 * n + 2 ≡ suc (suc (n + n)) = omega arith in
    ap (λ m. set (replicate m 0) 0 (suc g)) w
    ∙ ap {B = List ℕ} (λ r. suc g ∷ 0 ∷ r) (sym (rw (row-replicate {A = ℕ} 0 n) (replicate-append-replicate {A = ℕ} n n 0)))

module _ (z : Size) (s : State) (room : Room z s) (k : ℕ) (h : k < z.p) where
  -- Other words for a slot, if they are another slot's,
  slot-put : (o : Slot) {ws : List ℕ} → ws ≡ slot_words z.n o
      → before_slots z s ++ (blocks z.p (upd (λ m. slot_words z.n (s.slot m)) k ws) ++ []) ≡ encode z (with_slot s k o)
  unfolding encode head_words with_slot head_run log_run slot_run before_logs before_slots
  slot-put o e =
      ap (λ f. before_slots z s ++ (blocks z.p f ++ [])) (ap (upd (λ m. slot_words z.n (s.slot m)) k) e
      ∙ upd-at (λ m. slot_words z.n) s.slot k o)
      ∙ sym (encode-slots z (with_slot s k o))

  -- by one word,
  slot-set : (c x : ℕ) (o : Slot) → c < 2 * z.n + 2 → set (slot_words z.n (s.slot k)) c x ≡ slot_words z.n o
      → set (encode z s) (slot_at z k + c) x ≡ encode z (with_slot s k o)
  unfolding slot_at slot_run
  slot-set c x o l e =
      ap (λ (t : List ℕ). set t (slot_at z k + c) x) (encode-slots z s)
      ∙ (set-block (before_slots z s) [] _ z.p (2 * z.n + 2) (λ m. slot_words z.n (s.slot m)) (length-before_slots z s room) (wide-slots z s) k h c x l
      ∙ slot-put o e)

  -- or by some.
  slot-splice : (b m : ℕ) (ys : List ℕ) (o : Slot) → b + m ≤ 2 * z.n + 2 → splice b m (slot_words z.n (s.slot k)) ys ≡ slot_words z.n o
      → splice (slot_at z k + b) m (encode z s) ys ≡ encode z (with_slot s k o)
  unfolding slot_at slot_run
  slot-splice b m ys o l e =
      ap (λ (t : List ℕ). splice (slot_at z k + b) m t ys) (encode-slots z s)
      ∙ (splice-in-block (before_slots z s) [] _ z.p (2 * z.n + 2) (λ m. slot_words z.n (s.slot m)) (length-before_slots z s room) (wide-slots z s) k h b m ys l
      ∙ slot-put o e)

  -- Where a slot begins.
  slot-start : slot_at z k ≡ slot_at z k + 0
  slot-start = omega arith

  -- Opening: a closed slot's first word.
  pub put-open : (g : ℕ) → s.slot k ≡ closed → set (encode z s) (guarantees_at z k) (suc g)
      ≡ encode z (with_slot s k (opened (record { guarantees = g; last_used = 0; read_vector = λ j. 0; write_vector = λ j. 0 })))
  unfolding guarantees_at
  put-open g e =
      ap (λ a. set (encode z s) a (suc g)) slot-start
      ∙ slot-set 0 (suc g) _ (omega arith) (ap (λ o. set (slot_words z.n o) 0 (suc g)) e ∙ slot_words-new z.n g)

  -- Closing: all of a slot's words.
  pub put-closed : splice (slot_at z k) (2 * z.n + 2) (encode z s) (replicate (2 * z.n + 2) 0) ≡ encode z (with_slot s k closed)
  unfolding slot_words
  put-closed =
      ap (λ a. splice a (2 * z.n + 2) (encode z s) (replicate (2 * z.n + 2) 0)) slot-start
      ∙ slot-splice 0 (2 * z.n + 2) _ closed (omega arith) (splice_all (slot_words z.n (s.slot k)) _ _ (length-slot_words z.n (s.slot k)))

  module _ (q : Session) (e : s.slot k ≡ opened q) where
    -- The last-used server plus 1.
    pub put_last : (x : ℕ) → set (encode z s) (last_used_at z k) x
        ≡ encode z (with_slot s k (opened (record { guarantees = q.guarantees; last_used = x; read_vector = q.read_vector; write_vector = q.write_vector })))
    unfolding last_used_at slot_words
    put_last x = slot-set 1 x _ (omega arith) (ap (λ o. set (slot_words z.n o) 1 x) e)

    -- The whole read-vector.
    pub put-read-row : (v : ℕ → ℕ) → splice (read_at z k 0) z.n (encode z s) (row z.n v)
        ≡ encode z (with_slot s k (opened (record { guarantees = q.guarantees; last_used = q.last_used; read_vector = v; write_vector = q.write_vector })))
    unfolding read_at slot_words
    put-read-row v =
        slot-splice 2 z.n (row z.n v) _ (omega arith) (ap (λ o. splice 2 z.n (slot_words z.n o) (row z.n v)) e
        ∙ splice-middle (suc q.guarantees ∷ q.last_used ∷ []) (row z.n q.read_vector) (row z.n q.write_vector) 2 z.n (row z.n v) refl
        (length-row z.n q.read_vector))

    -- One component of the write-vector.
    pub put-write : (j x : ℕ) → j < z.n → set (encode z s) (write_at z k j) x
        ≡ encode z (with_slot s k (opened (record { guarantees = q.guarantees; last_used = q.last_used; read_vector = q.read_vector; write_vector = upd q.write_vector j x })))
    unfolding write_at slot_words
    put-write j x l =
        let front = suc q.guarantees ∷ q.last_used ∷ row z.n q.read_vector in
        slot-set (2 + z.n + j) x _ (omega arith) (ap (λ o. set (slot_words z.n o) (2 + z.n + j) x) e
        ∙ (set-right front (row z.n q.write_vector) (2 + z.n) j x (omega (arith, length-row z.n q.read_vector))
        ∙ ap (λ (r : List ℕ). front ++ r) (set-row z.n q.write_vector j x l)))
