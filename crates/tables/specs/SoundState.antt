-- A sound state, by membership: the form of rules b to f in which the theorems use them. `sound-exactly` in MeaningLaws.antt says that a
-- table passes the tests of Sound.antt exactly if it is the words of such a state. Assumes nothing.
use Rattle.std.specs.Prelude.{ℕ, suc, ◌<◌, ◌≤◌, [], ◌⊎◌, ◌≡◌, length}
use Rattle.words.specs.Lists.{In}
use Rattle.logs.specs.Write.{Write}
use Rattle.logs.specs.Ascending.{Ascending}
use Rattle.logs.specs.Witness.{Witness, Timed}
use Rattle.tables.specs.Size.{Size, items, sums}
use Rattle.tables.specs.State.{State, Session, Slot, closed, opened}

-- f, of an open slot. `own j` is server j's own vector at j.
pub record SoundSession (n : ℕ) (own : ℕ → ℕ) (q : Session) : Type 0 where
  pub chosen : q.guarantees < sums
  pub used : q.last_used ≤ n
  pub read_below : (j : ℕ) → q.read_vector j ≤ own j
  pub write_below : (j : ℕ) → q.write_vector j ≤ own j

abbrev pub SoundSlot : ℕ → (ℕ → ℕ) → Slot → Type 0
SoundSlot n own closed = Unit {0}
SoundSlot n own (opened q) = SoundSession n own q

pub record SoundState (z : Size) (s : State) : Type 0 where
  -- b: as many writes as there are places, at most
  pub room : (i : ℕ) → length (s.log i) ≤ z.l
  -- c
  pub origins : (i : ℕ) (w : Write) → In w (s.log i) → w.origin < z.n
  pub items_fit : (i : ℕ) (w : Write) → In w (s.log i) → w.item < items
  pub ascending : (i : ℕ) → Ascending (s.log i)
  pub started : (i : ℕ) (w : Write) → In w (s.log i) → 1 ≤ w.clock
  pub gapless : (i : ℕ) (w : Write) → In w (s.log i) → (c : ℕ) → w.clock ≡ suc (suc c) → Timed (s.log i) (suc c)
  -- d
  pub covered : (i : ℕ) (w : Write) → In w (s.log i) → w.clock ≤ s.vector i w.origin
  pub attained : (i j : ℕ) → (s.vector i j ≡ 0) ⊎ Witness (s.log i) j (s.vector i j)
  -- e
  pub home : (i : ℕ) (w : Write) → In w (s.log i) → In w (s.log w.origin)
  pub complete : (i : ℕ) (w : Write) → In w (s.log w.origin) → w.clock ≤ s.vector i w.origin → In w (s.log i)
  -- f
  pub slots : (k : ℕ) → SoundSlot z.n (λ j. s.vector j j) (s.slot k)
  -- there is nothing past the last server and the last slot
  pub no_server : (i : ℕ) → z.n ≤ i → s.log i ≡ []
  pub no_slot : (k : ℕ) → z.p ≤ k → s.slot k ≡ closed
