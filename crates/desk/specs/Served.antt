-- What the program's functions promise: of what the buffers hold, for any input and output; and of the bytes that were read and written, where
-- these are known. Of standard input and output std knows none. Assumes nothing.
use Rattle.std.specs.Prelude.{ℕ, ◌≤◌, List, ◌≡◌, Option, length, take}
use Rattle.std.specs.Io.KnownBytes.{Appends}
use Rattle.script.specs.Reply.{Reply}
use Rattle.script.specs.Promised.{Replied, ReplyPromise}

-- The promise of `serve`, for any buffers: `read` counts bytes at the front of the text's buffer as it is left, and the reply is to these.
pub record ServePromise (table steps answers out : List ℕ) (read code count : ℕ) (text' table' steps' answers' out' : List ℕ) : Type 0 where
  pub within : read ≤ length text'
  pub replied : ReplyPromise (take read text') table steps answers out code count table' steps' answers' out'

-- The promise of `work`, whose arrays have room: some text of `read` bytes has got its reply.
pub record WorkPromise (read code count : ℕ) : Type 0 where
  pub text : List ℕ
  pub out : List ℕ
  pub left : List ℕ
  pub read_is : read ≡ length text
  pub few : read ≤ 16385
  pub replied : Replied text out code count left

-- The reply to the whole input stands behind what the output held before, and nothing else.
pub record Answered (input : List ℕ) (before after : Option (List ℕ)) : Type 0 where
  pub bytes : List ℕ
  pub is_reply : Reply input bytes
  pub written : Appends before after bytes
