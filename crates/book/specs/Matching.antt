-- When a book matches a state: the same writes at each server, and for each open slot sets of writes that its vectors stand for.
-- Assumes nothing.
use Rattle.std.specs.Prelude.{ℕ, ◌≤◌, List, ◌⊎◌, ◌≡◌, length}
use Rattle.words.specs.Lists.{In, SameMembers}
use Rattle.logs.specs.Write.{Write}
use Rattle.logs.specs.Witness.{Witness}
use Rattle.tables.specs.State.{Session, Slot, closed, opened, State}
use Rattle.rules.specs.Choice.{start_of}
use Rattle.book.specs.Book.{BookSession, BookSlot, shut, live, Book, held}

-- A clock is 0, or that of a write of the set from origin j.
abbrev pub Reached : List Write → ℕ → ℕ → Type 0
Reached set j clock = (clock ≡ 0) ⊎ Witness set j clock

-- A vector stands for a set of writes (002, section 5).
pub record Covers (s : State) (set : List Write) (v : ℕ → ℕ) : Type 0 where
  -- each write of the set is one that its origin made
  pub real : (w : Write) → In w set → In w (s.log w.origin)
  -- no component is less than a clock of its origin in the set, and none is more than the greatest of them
  pub above : (w : Write) → In w set → w.clock ≤ v w.origin
  pub reached : (j : ℕ) → Reached set j (v j)

-- The same guarantees, the search starts at the same server, and the vectors stand for the sets.
pub record MatchingSession (s : State) (q : Session) (r : BookSession) : Type 0 where
  pub chosen : q.guarantees ≡ r.guarantees
  pub used : start_of q ≡ r.start
  pub read_covers : Covers s r.read_set q.read_vector
  pub write_covers : Covers s r.write_set q.write_vector

-- Both are open and their sessions match, or neither is.
abbrev pub MatchingSlot : State → Slot → BookSlot → Type 0
MatchingSlot s closed shut = Unit {0}
MatchingSlot s closed (live r) = ⊥
MatchingSlot s (opened q) shut = ⊥
MatchingSlot s (opened q) (live r) = MatchingSession s q r

-- Each server holds the same writes, in whatever order, and as many; and each slot matches.
pub record Matching (s : State) (b : Book) : Type 0 where
  pub members : (i : ℕ) → SameMembers (s.log i) (held b i)
  pub sizes : (i : ℕ) → length (s.log i) ≡ length (held b i)
  pub slots : (k : ℕ) → MatchingSlot s (s.slot k) (b.slot k)
