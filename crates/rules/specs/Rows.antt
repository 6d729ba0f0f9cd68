-- 01, "The desk program": the ten rows, as one list. That they hold of the rules is one statement, in proofs/Rows.antt. Assumes nothing.
use Rattle.std.specs.Prelude.{ℕ, List, [], ◌∷◌, map}
use Rattle.tables.specs.Size.{Size}
use Rattle.rules.specs.Step.{Step, Answer}

-- A row: the step's five words, and the answer's.
pub record Row : Type 0 where
  pub kind : ℕ
  pub a : ℕ
  pub b : ℕ
  pub c : ℕ
  pub d : ℕ
  pub code : ℕ
  pub server : ℕ
  pub origin : ℕ
  pub clock : ℕ
  pub value : ℕ

abbrev pub line : (kind a b c d code server origin clock value : ℕ) → Row
line kind a b c d code server origin clock value =
    record { kind = kind; a = a; b = b; c = c; d = d; code = code; server = server; origin = origin; clock = clock; value = value }

-- Input `2 4 1`, and then row by row: the one place where the rows are written out.
abbrev pub rows : List Row
rows =
    line 1 0 1 0 0 0 0 0 0 0
    ∷ line 4 0 7 50 1 0 0 0 1 50
    ∷ line 3 0 7 2 0 6 0 0 0 0
    ∷ line 5 0 1 9 0 0 1 0 0 1
    ∷ line 3 0 7 2 0 0 1 0 1 50
    ∷ line 4 0 7 60 2 0 1 1 2 60
    ∷ line 4 0 7 70 1 0 0 0 2 70
    ∷ line 3 0 7 1 0 6 0 0 0 0
    ∷ line 5 1 0 9 0 0 0 1 0 1
    ∷ line 3 0 7 3 0 0 0 1 2 60
    ∷ []

-- What a row asks, and what it gets.
abbrev pub asks : Row → Step
asks r = record { kind = r.kind; a = r.a; b = r.b; c = r.c; d = r.d }

abbrev pub gets : Row → Answer
gets r = record { code = r.code; server = r.server; origin = r.origin; clock = r.clock; value = r.value }

-- Of all ten.
abbrev pub ten_steps : List Step
ten_steps = map asks rows

abbrev pub ten_answers : List Answer
ten_answers = map gets rows

-- The same in words, in the order in which a row has them, whatever order `step_words` and `answer_words` may have.
abbrev pub asked_words : List Row → List ℕ
asked_words [] = []
asked_words (r ∷ rs) = r.kind ∷ r.a ∷ r.b ∷ r.c ∷ r.d ∷ asked_words rs

abbrev pub answered_words : List Row → List ℕ
answered_words [] = []
answered_words (r ∷ rs) = r.code ∷ r.server ∷ r.origin ∷ r.clock ∷ r.value ∷ answered_words rs

abbrev pub small : Size
small = record { n = 2; l = 4; p = 1 }
