-- What the code's functions that answer a script promise, and how much room they need. Assumes nothing.
use Rattle.std.specs.Prelude.{ℕ, ◌≤◌, Bool, ◌&&◌, List, ◌++◌, ◌≡◌, leb, length, drop, Result, Ok, Err}
use Rattle.tables.specs.Size.{Size}
use Rattle.tables.specs.Make.{fresh}
use Rattle.rules.specs.Step.{Answer, steps_of}
use Rattle.rules.specs.Calls.{walk}
use Rattle.script.specs.Reply.{Reply}
use Rattle.script.specs.declared.NoRoom.{NoRoom}

-- The answers of a list of steps on a fresh table.
unfoldable pub answers_of : Size → List ℕ → List Answer
answers_of z steps = (walk (fresh z) (steps_of steps)).answers

-- Room for the largest table of a script, for 512 steps and their answers, and for an answer's line 55 bytes: five numbers of at most ten
-- digits, four spaces and a line feed.
pub record Room (table steps answers out : List ℕ) : Type 0 where
  pub for_table : 9012 ≤ length table
  pub for_steps : 2560 ≤ length steps
  pub for_answers : 2560 ≤ length answers
  pub for_out : 28160 ≤ length out

-- The same as a test.
unfoldable pub roomy : (table steps answers out : List ℕ) → Bool
roomy table steps answers out =
    leb 9012 (length table) && (leb 2560 (length steps) && (leb 2560 (length answers) && leb 28160 (length out)))

-- What `reply` answers, as 01's code and how many bytes the reply has.
abbrev pub code_of : Result ℕ NoRoom → ℕ
code_of (Ok count) = 0
code_of (Err e) = 8

abbrev pub count_of : Result ℕ NoRoom → ℕ
count_of (Ok count) = count
count_of (Err e) = 0

-- The reply stands at the front of the buffer, whose other bytes are as they were. The code is 0, the count the reply's length.
pub record Replied (text out : List ℕ) (code count : ℕ) (left : List ℕ) : Type 0 where
  pub bytes : List ℕ
  pub is_reply : Reply text bytes
  pub code_is : code ≡ 0
  pub count_is : count ≡ length bytes
  pub written : left ≡ bytes ++ drop (length bytes) out

-- 01, "Answer codes": 8, "a length doesn't fit". There are no bytes of a reply, and every buffer keeps what it held.
pub record Misfits (table steps answers out : List ℕ) (code count : ℕ) (table' steps' answers' out' : List ℕ) : Type 0 where
  pub code_is : code ≡ 8
  pub count_is : count ≡ 0
  pub table_kept : table' ≡ table
  pub steps_kept : steps' ≡ steps
  pub answers_kept : answers' ≡ answers
  pub out_kept : out' ≡ out

-- The promise of `reply`: with room the reply to the text; without, 8 and nothing altered. What table, steps and answers hold after a reply
-- is not promised: they are room to work in.
pub record ReplyPromise (text table steps answers out : List ℕ) (code count : ℕ) (table' steps' answers' out' : List ℕ) : Type 0 where
  pub with_room : Room table steps answers out → Replied text out code count out'
  pub without : (Room table steps answers out → ⊥) → Misfits table steps answers out code count table' steps' answers' out'
  pub within : count ≤ length out'
