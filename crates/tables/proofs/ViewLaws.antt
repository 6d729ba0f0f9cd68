-- What the words of a table that means a state are: the state's sizes, vectors, counts, logs and sessions. Assumes nothing.
use Rattle.std.specs.Prelude.{ℕ, suc, ◌+◌, ◌<◌, ◌≤◌, List, ◌≡◌, length, get_or}
use Rattle.std.proofs.Math.Path.{refl, ap}
use Rattle.std.proofs.Common.{sym, ◌∙◌, ap₂, arith}
use Rattle.words.specs.Lists.{row, part}
use Rattle.words.specs.SetLaws.{part-row}
use Rattle.logs.specs.Places.{places, entries}
use Rattle.logs.proofs.PlacesLaws.{entries-places}
use Rattle.tables.specs.Size.{Size}
use Rattle.tables.specs.SizeLaws.{Within}
use Rattle.tables.proofs.SizeLaws.{within-exactly}
use Rattle.tables.specs.State.{State, Session, Slot, closed, opened}
use Rattle.tables.specs.Sessions.{session}
use Rattle.tables.specs.Layout.{vector_at, count_at, guarantees_at, last_used_at, read_at, write_at, size, log_part, encode}
use Rattle.tables.specs.LayoutLaws.{Room}
use Rattle.tables.proofs.LayoutLaws.{vector-encode, count-encode, length-encode, log_part-encode}
use Rattle.tables.proofs.OffsetLaws.{closed-encode, guarantees-encode, last_used-encode, read-encode, write-encode}
use Rattle.tables.proofs.BoundLaws.{vector-within, read-within, write-within}
use Rattle.tables.specs.Meaning.{Means}

module _ {z : Size} {s : State} {t : List ℕ} (means : Means z s t) where
  -- ---- the sizes

  pub within-view : Within z
  within-view = (within-exactly z).0 means.limits

  pub room-view : Room z s
  room-view i h = means.state.room i

  pub length-view : length t ≡ size z
  length-view = ap length means.words ∙ length-encode z s room-view

  -- A word of the table is that of the state's words.
  word-view : (a : ℕ) → get_or t a 0 ≡ get_or (encode z s) a 0
  word-view a = ap (λ (ws : List ℕ). get_or ws a 0) means.words

  -- A vector of the table, by its words one behind the other.
  row-view : (at : ℕ → ℕ) (f : ℕ → ℕ) → ((j : ℕ) → at 0 + j ≡ at j) → at 0 + z.n ≤ size z → ((j : ℕ) → j < z.n → get_or t (at j) 0 ≡ f j)
      → part t (at 0) z.n ≡ row z.n f
  row-view at f along fits word =
      part-row t (at 0) z.n 0 f (omega (arith, length-view)) (λ j l. ap (λ m. get_or t m 0) (along j) ∙ word j l)

  -- ---- each server's vector, count and log

  module _ (i : ℕ) (h : i < z.n) where
    pub vector_at-view : (j : ℕ) → j < z.n → get_or t (vector_at z i j) 0 ≡ s.vector i j
    vector_at-view j l = word-view (vector_at z i j) ∙ vector-encode z s i h j l

    pub vector-view : part t (vector_at z i 0) z.n ≡ row z.n (s.vector i)
    unfolding vector_at
    vector-view = row-view (vector_at z i) (s.vector i) (λ j. omega arith) (vector-within z i h) vector_at-view

    pub count-view : get_or t (count_at z i) 0 ≡ length (s.log i)
    count-view = word-view (count_at z i) ∙ count-encode z s i h

    pub log-view : log_part z t i ≡ places z.l (s.log i)
    log-view = ap (λ (ws : List ℕ). log_part z ws i) means.words ∙ log_part-encode z s room-view i h

    pub entries-view : entries (get_or t (count_at z i) 0) (log_part z t i) ≡ s.log i
    entries-view = ap₂ (λ c (ws : List ℕ). entries c ws) count-view log-view ∙ entries-places z.l (s.log i)

  module _ (k : ℕ) (h : k < z.p) where
    -- ---- each open slot's words

    module _ (q : Session) (e : s.slot k ≡ opened q) where
      pub guarantees-view : get_or t (guarantees_at z k) 0 ≡ suc q.guarantees
      guarantees-view = word-view (guarantees_at z k) ∙ guarantees-encode z s room-view k h q e

      pub last_view : get_or t (last_used_at z k) 0 ≡ q.last_used
      last_view = word-view (last_used_at z k) ∙ last_used-encode z s room-view k h q e

      pub read_at-view : (j : ℕ) → j < z.n → get_or t (read_at z k j) 0 ≡ q.read_vector j
      read_at-view j l = word-view (read_at z k j) ∙ read-encode z s room-view k h q e j l

      pub read_view : part t (read_at z k 0) z.n ≡ row z.n q.read_vector
      unfolding read_at
      read_view = row-view (read_at z k) q.read_vector (λ j. omega arith) (read-within z k h) read_at-view

      pub write_at-view : (j : ℕ) → j < z.n → get_or t (write_at z k j) 0 ≡ q.write_vector j
      write_at-view j l = word-view (write_at z k j) ∙ write-encode z s room-view k h q e j l

      pub write_view : part t (write_at z k 0) z.n ≡ row z.n q.write_vector
      unfolding write_at
      write_view = row-view (write_at z k) q.write_vector (λ j. omega arith) (write-within z k h) write_at-view

    -- ---- whether a slot is open, by its first word

    pub closed-view : s.slot k ≡ closed → get_or t (guarantees_at z k) 0 ≡ 0
    closed-view e = word-view (guarantees_at z k) ∙ closed-encode z s room-view k h e

    -- 0 is a closed slot's,
    pub shut-view : get_or t (guarantees_at z k) 0 ≡ 0 → s.slot k ≡ closed
    shut-view none = go (s.slot k) refl
      where
        go : (o : Slot) → s.slot k ≡ o → s.slot k ≡ closed
        go closed e = e
        go (opened q) e = absurd (omega (arith, none, guarantees-view q e))

    -- and any other word an open one's.
    pub open-view : (get_or t (guarantees_at z k) 0 ≡ 0 → ⊥) → s.slot k ≡ opened (session (s.slot k))
    unfolding session
    open-view some = go (s.slot k) refl
      where
        go : (o : Slot) → s.slot k ≡ o → s.slot k ≡ opened (session (s.slot k))
        go closed e = absurd (some (closed-view e))
        go (opened q) e = e ∙ ap (λ o. opened (session o)) (sym e)
