-- An answer as the code gives it, and the promise of a step of each kind on a sound table: the answer, and every word of the table, are those of
-- the rules. Assumes nothing.
use Rattle.std.specs.Prelude.{ℕ, ◌+◌, ◌<◌, ◌≤◌, List, ◌≡◌, Result, Ok, Err, length}
use Rattle.words.specs.Lists.{In}
use Rattle.logs.specs.Write.{Write}
use Rattle.logs.specs.Ascending.{Ascending}
use Rattle.tables.specs.Size.{Size}
use Rattle.tables.specs.State.{State}
use Rattle.tables.specs.Shape.{shape}
use Rattle.tables.specs.Layout.{encode, decode}
use Rattle.tables.specs.Meaning.{Means}
use Rattle.tables.specs.Refused.{code_of}
use Rattle.tables.specs.declared.refusal.Refusal.{Refusal}
use Rattle.views.specs.declared.Store.{Store}
use Rattle.rules.specs.Step.{Op, refused}
use Rattle.rules.specs.Step as rules
use Rattle.rules.specs.Rules.{Outcome, obeyed}
use Rattle.kinds.specs.declared.Answer.{Answer}

-- 01, "Steps": "An answer is five words: code, server, origin, clock, value." A step that is done has code 0; "A refused step answers its
-- code and four zeros".
abbrev pub answer_of : Result Answer Refusal → rules.Answer
answer_of (Ok r) = record { code = 0; server = r.server; origin = r.origin; clock = r.clock; value = r.value }
answer_of (Err refusal) = refused (code_of refusal)

-- ---- the words of a table

-- The table is sound: its words are those of the state that they decode to.
abbrev pub Held : Size → List ℕ → Type 0
Held z t = Means z (decode z t) t

-- Writes that a server can take in: they have room, stand in write order, and come from servers that there are.
pub record Fitting (z : Size) (s : State) (i : ℕ) (ws : List Write) : Type 0 where
  pub fit : length (s.log i) + length ws ≤ z.l
  pub ordered : Ascending ws
  pub origins : (w : Write) → In w ws → w.origin < z.n

-- An answer and a table's words are those of an outcome.
pub record Came (z : Size) (o : Outcome) (r : rules.Answer) (left : List ℕ) : Type 0 where
  pub answer_is : r ≡ o.answer
  pub table_is : left ≡ encode z o.state

-- What is asked of the table is done as the rules say.
abbrev pub Obeyed : Size → List ℕ → Op → rules.Answer → List ℕ → Type 0
Obeyed z t o r left = Came z (obeyed z (decode z t) o) r left

-- ---- a table that is changed

abbrev pub size_in : Store → Size
size_in s = shape s.sizes

-- The state that its words decode to.
abbrev pub state_in : Store → State
state_in s = decode (size_in s) s.words.now

abbrev pub Sound : Store → Type 0
Sound s = Held (size_in s) s.words.now

-- It is the same words that are lent, and they have the same sizes.
pub record Kept (s left : Store) : Type 0 where
  pub words : left.words.ghost_name ≡ s.words.ghost_name
  pub sizes : left.sizes ≡ s.sizes

-- Its words become those of a state.
pub record Becomes (s : Store) (p : State) (left : Store) : Type 0 where
  pub kept : Kept s left
  pub table_is : left.words.now ≡ encode (size_in s) p

-- An answer and its words come from an outcome.
pub record Comes (s : Store) (o : Outcome) (r : rules.Answer) (left : Store) : Type 0 where
  pub kept : Kept s left
  pub came : Came (size_in s) o r left.words.now

-- What is asked of it is done as the rules say.
abbrev pub Obeys : Store → Op → rules.Answer → Store → Type 0
Obeys s o r left = Comes s (obeyed (size_in s) (state_in s) o) r left
