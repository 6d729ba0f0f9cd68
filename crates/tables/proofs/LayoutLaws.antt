-- What holds of a state's words: how many there are, and what stands at each offset. Assumes nothing.
use Rattle.std.specs.Prelude.{ℕ, ◌+◌, ◌*◌, ◌<◌, ◌≡◌, get_or}
use mathlib.Core.List.{List, [], ◌++◌, append-nil, append_assoc}
use Rattle.std.proofs.Math.Path.{refl, sym, ap, ap₂}
use Rattle.std.proofs.Common.{◌∙◌, arith}
use Rattle.std.proofs.Math.ListN.{length, length-append, get_or-append}
use Rattle.std.proofs.Math.Seq.{get_or_at}
use Rattle.words.specs.Lists.{row, part}
use Rattle.words.specs.BlockLaws.{part-block, get_or-block}
use Rattle.words.specs.RowLaws.{Wide, length-row, get_or-row, length-blocks}
use Rattle.logs.specs.Places.{width, places}
use Rattle.logs.proofs.PlacesLaws.{length-places}
use Rattle.tables.specs.Layout.{header, vector_at, count_at, log_at, slot_width, slot_at, size}
use Rattle.tables.specs.Layout.{head_words, slot_words, encode, size_of, log_part, slot_part}
use Rattle.tables.specs.Size.{Size}
use Rattle.tables.proofs.SlotLaws.{length-slot_words}
use Rattle.tables.specs.State.{State}
use Rattle.tables.specs.LayoutLaws.{Room, before_logs, before_slots, head_run, log_run, slot_run}

-- ---- the three runs of blocks, and the words in front of the second and the third

module _ (z : Size) (s : State) where
  -- The words around the servers' vectors and counts: what is before, the run, and what is behind.
  pub encode-heads : encode z s ≡ header z ++ (head_run z s ++ (log_run z s ++ slot_run z s))
  unfolding encode head_run log_run slot_run
  encode-heads = refl

  -- The same around the logs.
  pub encode-logs : encode z s ≡ before_logs z s ++ (log_run z s ++ slot_run z s)
  unfolding before_logs
  encode-logs = encode-heads ∙ sym (append_assoc (header z) (head_run z s) _)

  -- The same around the slots.
  pub encode-slots : encode z s ≡ before_slots z s ++ (slot_run z s ++ [])
  unfolding before_slots
  encode-slots = encode-logs ∙ simp (append_assoc, append-nil)

  -- ---- the header

  -- The first three words are the sizes.
  pub size_of-encode : size_of (encode z s) ≡ z
  unfolding size_of encode header
  size_of-encode = refl

  -- The word behind the three sizes.
  pub fourth-encode : get_or (encode z s) 3 0 ≡ 0
  unfolding encode header
  fourth-encode = refl

  -- ---- each server's vector and count

  -- Every vector with its count has the same width.
  pub wide-heads : Wide z.n (z.n + 1) (head_words z s)
  unfolding head_words
  wide-heads i h = length-append (row z.n (s.vector i)) _ ∙ omega (arith, length-row z.n (s.vector i))

  module _ (i : ℕ) (h : i < z.n) where
    -- Word j of a server's vector and count.
    pub head-encode : (j : ℕ) → j < z.n + 1 → get_or (encode z s) (vector_at z i j) 0 ≡ get_or (head_words z s i) j 0
    unfolding encode header vector_at
    head-encode j l = get_or-block (header z) _ 4 z.n (z.n + 1) (head_words z s) refl wide-heads i h j 0 l

    -- Component j of the vector.
    pub vector-encode : (j : ℕ) → j < z.n → get_or (encode z s) (vector_at z i j) 0 ≡ s.vector i j
    unfolding head_words
    vector-encode j l =
        head-encode j (omega arith)
        ∙ (get_or-append (row z.n (s.vector i)) _ 0 j (omega (arith, length-row z.n (s.vector i)))
        ∙ get_or-row z.n (s.vector i) j 0 l)

    -- The count of writes.
    pub count-encode : get_or (encode z s) (count_at z i) 0 ≡ length (s.log i)
    unfolding head_words count_at vector_at
    count-encode = head-encode z.n (omega arith) ∙ get_or_at (row z.n (s.vector i)) _ [] 0 z.n (length-row z.n (s.vector i))

  -- The logs begin behind the heads.
  pub length-before_logs : length (before_logs z s) ≡ 4 + z.n * (z.n + 1)
  unfolding before_logs head_run header
  length-before_logs = length-append (header z) (head_run z s) ∙ ap (λ (k : ℕ). 4 + k) (length-blocks z.n (z.n + 1) (head_words z s) wide-heads)

  -- ---- logs and slots

  -- Every slot has the same width.
  pub wide-slots : Wide z.p (2 * z.n + 2) (λ k. slot_words z.n (s.slot k))
  wide-slots k h = length-slot_words z.n (s.slot k)

  module _ (room : Room z s) where
    -- Every log has the same width.
    pub wide-logs : Wide z.n (z.l * width) (λ i. places z.l (s.log i))
    wide-logs i h = length-places z.l (s.log i) (room i h)

    -- The slots begin behind the logs.
    pub length-before_slots : length (before_slots z s) ≡ 4 + z.n * (z.n + 1) + z.n * (z.l * width)
    unfolding before_slots log_run
    length-before_slots =
        length-append (before_logs z s) (log_run z s)
        ∙ ap₂ (λ (a b : ℕ). a + b) length-before_logs (length-blocks z.n (z.l * width) (λ i. places z.l (s.log i)) wide-logs)

    -- As many words as the sizes say.
    pub length-encode : length (encode z s) ≡ size z
    unfolding size slot_run
    length-encode =
        ap length (simp append-nil at encode-slots)
        ∙ (length-append (before_slots z s) (slot_run z s)
        ∙ ap₂ (λ (a b : ℕ). a + b) length-before_slots (length-blocks z.p (2 * z.n + 2) (λ k. slot_words z.n (s.slot k)) wide-slots))

    -- The words of log i.
    pub log_part-encode : (i : ℕ) → i < z.n → log_part z (encode z s) i ≡ places z.l (s.log i)
    unfolding log_part log_at log_run
    log_part-encode i h =
        ap (λ (t : List ℕ). part t (log_at z i) (z.l * width)) encode-logs
        ∙ part-block (before_logs z s) (slot_run z s) _ z.n (z.l * width) (λ k. places z.l (s.log k)) length-before_logs wide-logs i h

    -- The words of slot k.
    pub slot_part-encode : (k : ℕ) → k < z.p → slot_part z (encode z s) k ≡ slot_words z.n (s.slot k)
    unfolding slot_part slot_at slot_width slot_run
    slot_part-encode k h =
        ap (λ (t : List ℕ). part t (slot_at z k) (slot_width z)) encode-slots
        ∙ part-block (before_slots z s) [] _ z.p (2 * z.n + 2) (λ m. slot_words z.n (s.slot m)) length-before_slots wide-slots k h
