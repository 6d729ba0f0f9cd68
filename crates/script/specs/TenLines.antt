-- 01, "The desk program": the ten rows as text. The rows are written out in rules/Rows.antt alone; their text is spelled here from them. That it
-- is answered as it should be, and one row byte by byte, stands in proofs/TenLines.antt. Assumes nothing.
use Rattle.std.specs.Prelude.{ℕ, cond, List, [], ◌∷◌, ◌++◌, eqb}
use Rattle.rules.specs.Step.{Step}
use Rattle.rules.specs.Rows.{small, ten_steps}
use Rattle.lines.specs.Line.{fields, size_line}

-- The line of a step of these rows: o, w, r or x, and its numbers.
abbrev pub line_of : Step → List ℕ
line_of x =
    cond (eqb x.kind 1) (111 ∷ fields (x.a ∷ x.b ∷ []))
    (cond (eqb x.kind 4) (119 ∷ fields (x.a ∷ x.b ∷ x.c ∷ x.d ∷ []))
    (cond (eqb x.kind 3) (114 ∷ fields (x.a ∷ x.b ∷ x.c ∷ []))
    (120 ∷ fields (x.a ∷ x.b ∷ x.c ∷ []))))

abbrev pub lines_of : List Step → List ℕ
lines_of [] = []
lines_of (x ∷ xs) = line_of x ++ lines_of xs

-- Input `2 4 1` and then the ten step lines.
abbrev pub ten_in : List ℕ
ten_in = size_line small ++ lines_of ten_steps
