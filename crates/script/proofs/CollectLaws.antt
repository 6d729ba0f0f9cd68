-- Collecting finds exactly what it says: all lines, a bad one, or more than there is room for. Assumes nothing.
use Rattle.std.proofs.lemmas.Option.{none-some}
use Prim.Native.Nat.{ℕ, zero, suc, ◌+◌, ◌-◌, ◌<◌}
use mathlib.Core.List.{List, [], ◌∷◌, ◌++◌, append-nil, append_assoc}
use Rattle.std.specs.Prelude.{Option, None, Some, ◌≡◌}
use Rattle.std.proofs.Math.Path.{refl, ap}
use Rattle.std.proofs.Common.{sym, ◌∙◌, subst, subst₂, arith}
use Rattle.std.proofs.Math.ListN.{length}
use Rattle.tables.specs.Size.{Size}
use Rattle.rules.specs.Step.{Step}
use Rattle.lines.specs.Line.{StepLine}
use Rattle.lines.specs.Read.{Got, read_step}
use Rattle.lines.proofs.ReadLaws.{read-step, step-read}
use Rattle.script.specs.Reply.{StepLines, no_lines, next_line, BadNext}
use Rattle.script.specs.Collect.{Collected, whole, bad_at, longer, push, onto, unless_ended, collect}
use Rattle.script.specs.CollectLaws.{Says, all_good, goes_on, one_bad}

-- A bad line behind one step more.
pub bad-further : (x : Step) (xs : List Step) → bad_at (length (x ∷ xs) + 2) ≡ bad_at (suc (length xs + 2))
bad-further x xs = ap bad_at (omega arith)

-- ---- collecting says what holds

-- With one line before.
says-push : {z : Size} {room : ℕ} {x : Step} {line rest : List ℕ} {o : Collected} → StepLine x line → Says z room rest o → Says z (suc room) (line ++ rest) (push x o)
unfolding push
says-push said (all_good lines fit) = all_good (next_line said lines) (omega arith)
says-push {z} {room} {x} {line} said (one_bad {xs = xs} {front = front} {rest = rest} lines fit bad) =
    subst₂ (Says z (suc room)) (append_assoc line front rest) (bad-further x xs)
    (one_bad (next_line said lines) (omega arith) bad)
says-push {z} {room} {line} said (goes_on {front = front} rest lines fill there) =
    subst (λ text. Says z (suc room) text longer) (append_assoc line front rest)
    (goes_on rest (next_line said lines) (ap suc fill) there)

-- Where no line is read, none is spelled.
unread-bad : (b : ℕ) (bs : List ℕ) → read_step (b ∷ bs) ≡ None → BadNext (b ∷ bs)
unread-bad b bs e =
    record {
      is_there = omega arith;
      is_bad = λ x line more said is. none-some _ (sym e ∙ (ap read_step is ∙ step-read said more));
    }

-- Whatever is collected holds of the text.
pub collect-says : (z : Size) (room : ℕ) (text : List ℕ) → Says z room text (collect z room text)
unfolding collect unless_ended onto
collect-says z zero [] = all_good no_lines (omega arith)
collect-says z zero (b ∷ bs) = goes_on (b ∷ bs) no_lines refl (omega arith)
collect-says z (suc room) [] = all_good no_lines (omega arith)
collect-says z (suc room) (b ∷ bs) = next (read_step (b ∷ bs)) refl (λ rest. collect-says z room rest)
  where
    next : (o : Option (Got Step)) → read_step (b ∷ bs) ≡ o → ((rest : List ℕ) → Says z room rest (collect z room rest))
        → Says z (suc room) (b ∷ bs) (onto o (λ rest. collect z room rest))
    next None e later = one_bad no_lines (omega arith) (unread-bad b bs e)
    next (Some g) e later =
        let said = read-step (b ∷ bs) g e in
        subst (λ text. Says z (suc room) text (push g.value (collect z room g.rest))) (sym said.is) (says-push said.spells (later g.rest))

-- ---- what holds is collected

-- Where no line is spelled, none is read.
bad-unread : (text : List ℕ) → BadNext text → read_step text ≡ None
bad-unread text bad = go (read_step text) refl
  where
    go : (o : Option (Got Step)) → read_step text ≡ o → read_step text ≡ None
    go None e = e
    go (Some g) e =
        let said = read-step text g e in
        absurd (bad.is_bad g.value said.line g.rest said.spells said.is)

module _ (z : Size) where
  -- A line that is read.
  pub collect-read : (room : ℕ) (text : List ℕ) (g : Got Step) → read_step text ≡ Some g → collect z (suc room) text ≡ push g.value (collect z room g.rest)
  unfolding collect unless_ended onto read_step
  collect-read room [] g e = absurd (none-some g e)
  collect-read room (b ∷ bs) g e = ap (λ o. onto o (λ rest. collect z room rest)) e

  -- Behind the lines of some steps it ends as it does from there on, and each step is pushed before that.
  collect-lines : (outcome : List Step → Collected) → ((x : Step) (xs : List Step) → outcome (x ∷ xs) ≡ push x (outcome xs))
      → {xs : List Step} {front : List ℕ} → StepLines xs front → (room left : ℕ) (rest : List ℕ) → room ≡ length xs + left
      → collect z left rest ≡ outcome [] → collect z room (front ++ rest) ≡ outcome xs
  collect-lines outcome pushes no_lines room left rest e ends =
      let all : room ≡ left = omega arith in
      ap (λ r. collect z r rest) all ∙ ends
  collect-lines outcome pushes (next_line said lines) zero left rest e ends = absurd (omega arith)
  collect-lines outcome pushes (next_line {x = x} {line = line} {xs = xs} {text = text} said lines) (suc room) left rest e ends =
      ap (collect z (suc room)) (append_assoc line text rest)
      ∙ (collect-read room (line ++ (text ++ rest)) _ (step-read said (text ++ rest))
      ∙ (ap (push x) (collect-lines outcome pushes lines room left rest (omega arith) ends) ∙ sym (pushes x xs)))

  -- The three endings: the text is at its end,
  pub collect-ended : (room : ℕ) → collect z room [] ≡ whole z []
  unfolding collect unless_ended
  collect-ended zero = refl
  collect-ended (suc room) = refl

  -- no line is read,
  pub collect-unread : (room : ℕ) (text : List ℕ) → 0 < length text → read_step text ≡ None → collect z (suc room) text ≡ bad_at 2
  unfolding collect unless_ended onto
  collect-unread room [] there e = absurd (omega arith)
  collect-unread room (b ∷ bs) there e = ap (λ o. onto o (λ rest. collect z room rest)) e

  -- or there is no room.
  pub collect-full : (text : List ℕ) → 0 < length text → collect z 0 text ≡ longer
  unfolding collect unless_ended
  collect-full [] there = absurd (omega arith)
  collect-full (b ∷ bs) there = refl

  -- Whatever holds of a text is what is collected.
  pub says-collect : {room : ℕ} {text : List ℕ} {o : Collected} → Says z room text o → collect z room text ≡ o
  unfolding push
  says-collect {room} (all_good {xs = xs} {text = text} lines fit) =
      let left = room - length xs in
      ap (collect z room) (sym (append-nil text)) ∙ collect-lines (whole z) (λ x xs. refl) lines room left [] (omega arith) (collect-ended left)
  says-collect {room} (one_bad {xs = xs} {rest = rest} lines fit bad) =
      let left = room - suc (length xs) in
      collect-lines (λ xs. bad_at (length xs + 2)) bad-further lines room (suc left) rest (omega arith) (collect-unread left rest bad.is_there (bad-unread rest bad))
  says-collect {room} (goes_on rest lines fill there) =
      collect-lines (λ xs. longer) (λ x xs. refl) lines room 0 rest (omega arith) (collect-full rest there)
