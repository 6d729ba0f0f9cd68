-- What the code's functions that print promise: bytes put at a place of a buffer. Assumes nothing.
use Rattle.std.specs.Prelude.{ℕ, ◌+◌, List, [], ◌∷◌, ◌++◌, ◌≡◌, length, get_or}
use Rattle.std.specs.Borrow.{MutBor}
use Rattle.words.specs.Lists.{splice}
use Rattle.lines.specs.Line.{numbers}
use Rattle.printing.specs.declared.Page.{Page}

-- These bytes stand in the buffer from a place on, all others being as they were; and the place behind them.
pub record Puts (out : List ℕ) (at : ℕ) (bytes : List ℕ) (r : ℕ) (left : List ℕ) : Type 0 where
  pub written : left ≡ splice at (length bytes) out bytes
  pub next : r ≡ at + length bytes

-- A page of this buffer on which nothing has been put.
pub record Empty (bytes : MutBor (List ℕ)) (p : Page) : Type 0 where
  pub same : p.bytes.ghost_name ≡ bytes.ghost_name
  pub bytes_are : p.bytes.now ≡ bytes.now
  pub len_is : p.len ≡ 0

-- These bytes have been put on a page, behind those that were there; it is a page of the same buffer.
pub record Adds (before : Page) (bytes : List ℕ) (after : Page) : Type 0 where
  pub same : after.bytes.ghost_name ≡ before.bytes.ghost_name
  pub long : length after.bytes.now ≡ length before.bytes.now
  pub puts : Puts before.bytes.now before.len bytes after.len after.bytes.now

-- The line of the five words from a place on.
unfoldable pub line_at : List ℕ → ℕ → List ℕ
line_at ws at = numbers (get_or ws at 0) (get_or ws (at + 1) 0 ∷ get_or ws (at + 2) 0 ∷ get_or ws (at + 3) 0 ∷ get_or ws (at + 4) 0 ∷ [])

-- The line of five words.
unfoldable pub word_line : List ℕ → List ℕ
word_line ws = numbers (get_or ws 0 0) (get_or ws 1 0 ∷ get_or ws 2 0 ∷ get_or ws 3 0 ∷ get_or ws 4 0 ∷ [])

-- The lines of a list of words, five numbers on each; fewer than five at the end are none.
unfoldable pub word_lines : List ℕ → List ℕ
word_lines [] = []
word_lines (a ∷ []) = []
word_lines (a ∷ b ∷ []) = []
word_lines (a ∷ b ∷ c ∷ []) = []
word_lines (a ∷ b ∷ c ∷ d ∷ []) = []
word_lines (a ∷ b ∷ c ∷ d ∷ e ∷ ws) = numbers a (b ∷ c ∷ d ∷ e ∷ []) ++ word_lines ws

-- The same of words cut into fives.
unfoldable pub five_lines : List (List ℕ) → List ℕ
five_lines [] = []
five_lines (ws ∷ wss) = word_line ws ++ five_lines wss
