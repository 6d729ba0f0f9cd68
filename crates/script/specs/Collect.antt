-- The reply as the code finds it: the first line, then line after line. ReplyLaws.antt says that this is the one reply of Reply.antt.
-- Assumes nothing.
use Rattle.std.specs.Prelude.{ℕ, zero, suc, cond, List, [], ◌∷◌, ltb, length, Option, None, Some}
use Rattle.tables.specs.Size.{Size}
use Rattle.tables.specs.Make.{fresh}
use Rattle.rules.specs.Step.{Step}
use Rattle.rules.specs.Calls.{walk}
use Rattle.lines.specs.Read.{Got, read_step, read_sizes}
use Rattle.script.specs.Reply.{most_bytes, most_steps, admissible, answer_lines, too_long, bad_line}

-- What a text says: these sizes and steps, or that the line of this number is bad, or more lines than there is room for.
pub data Collected : Type 0 where
  whole : Size → List Step → Collected
  bad_at : ℕ → Collected
  longer : Collected

-- With the line of one step before.
unfoldable pub push : Step → Collected → Collected
push x (whole z xs) = whole z (x ∷ xs)
push x (bad_at k) = bad_at (suc k)
push x longer = longer

-- The first step stands on line 2.
unfoldable pub onto : Option (Got Step) → (List ℕ → Collected) → Collected
onto None further = bad_at 2
onto (Some g) further = push g.value (further g.rest)

-- At the end of the text that is all.
unfoldable pub unless_ended : Size → List ℕ → Collected → Collected
unless_ended z [] further = whole z []
unless_ended z (b ∷ bs) further = further

-- Behind a first line of these sizes, with room for so many steps.
unfoldable pub collect : Size → ℕ → List ℕ → Collected
collect z zero bs = unless_ended z bs longer
collect z (suc room) bs = unless_ended z bs (onto (read_step bs) (λ rest. collect z room rest))

-- The sizes of a first line.
unfoldable pub sizes_of : Step → Size
sizes_of x = record { n = x.a; l = x.b; p = x.c }

-- From the first line on.
unfoldable pub collect_from : Option (Got Step) → Collected
collect_from None = bad_at 1
collect_from (Some g) = cond (admissible (sizes_of g.value)) (collect (sizes_of g.value) most_steps g.rest) (bad_at 1)

unfoldable pub reply_for : Collected → List ℕ
reply_for (whole z xs) = answer_lines (walk (fresh z) xs).answers
reply_for (bad_at k) = bad_line k
reply_for longer = too_long

unfoldable pub reply_to : List ℕ → List ℕ
reply_to text = cond (ltb most_bytes (length text)) too_long (reply_for (collect_from (read_sizes text)))
