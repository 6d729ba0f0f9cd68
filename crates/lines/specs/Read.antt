-- Reading numbers and lines, byte by byte: what the code does. ReadLaws.antt says that this finds exactly the spellings of Line.antt.
-- Assumes nothing.
use Rattle.std.specs.Prelude.{ℕ, zero, suc, ◌+◌, ◌-◌, ◌*◌, Bool, false, cond, ◌&&◌, List, [], ◌∷◌, leb, eqb, get_or, drop, Option, None, Some}
use Rattle.rules.specs.Step.{Step}
use Rattle.lines.specs.Decimal.{greatest}

-- What was read, and the text behind it.
pub record Got (A : Type 0) : Type 0 where
  pub value : A
  pub rest : List ℕ

-- Goes on behind what was read.
unfoldable pub chain : {A B : Type 0} → Option (Got A) → (A → List ℕ → Option (Got B)) → Option (Got B)
chain None f = None
chain (Some g) f = f g.value g.rest

-- Does the text begin with this byte?
unfoldable pub begins : ℕ → List ℕ → Bool
begins byte [] = false
begins byte (b ∷ bs) = eqb b byte

-- ---- numbers

unfoldable pub is_digit : ℕ → Bool
is_digit b = leb 48 b && leb b 57

-- The digits behind those that say `sofar`.
unfoldable pub more : ℕ → List ℕ → Option (Got ℕ)
more sofar [] = Some (record { value = sofar; rest = [] })
more sofar (b ∷ bs) =
    cond
    (is_digit b)
    (cond (leb (sofar * 10 + (b - 48)) greatest) (more (sofar * 10 + (b - 48)) bs) None)
    (Some (record { value = sofar; rest = b ∷ bs }))

-- A number. A leading 0 is all of it.
unfoldable pub read_number : List ℕ → Option (Got ℕ)
read_number [] = None
read_number (b ∷ bs) = cond (is_digit b) (cond (eqb b 48) (Some (record { value = 0; rest = bs })) (more (b - 48) bs)) None

-- A number behind a space.
unfoldable pub read_field : List ℕ → Option (Got ℕ)
read_field bs = cond (begins 32 bs) (read_number (drop 1 bs)) None

-- ---- lines

unfoldable pub prepend : ℕ → Option (Got (List ℕ)) → Option (Got (List ℕ))
prepend x None = None
prepend x (Some g) = Some (record { value = x ∷ g.value; rest = g.rest })

-- So many numbers, each behind a space, and a line feed.
unfoldable pub read_fields : ℕ → List ℕ → Option (Got (List ℕ))
read_fields zero bs = cond (begins 10 bs) (Some (record { value = []; rest = drop 1 bs })) None
read_fields (suc k) bs = chain (read_field bs) (λ x rest. prepend x (read_fields k rest))

-- The kind of step that a letter stands for, or 0; and how many numbers follow.
unfoldable pub kind_of : ℕ → ℕ
kind_of letter =
    cond (eqb letter 111) 1
    (cond (eqb letter 99) 2
    (cond (eqb letter 114) 3
    (cond (eqb letter 119) 4
    (cond (eqb letter 120) 5
    0))))

unfoldable pub count_of : ℕ → ℕ
count_of kind =
    cond (eqb kind 1) 2
    (cond (eqb kind 2) 1
    (cond (eqb kind 3) 3
    (cond (eqb kind 4) 4
    (cond (eqb kind 5) 3
    0))))

-- The step of a kind with these arguments, those that are not there being 0.
unfoldable pub step_with : ℕ → List ℕ → Step
step_with kind xs = record { kind = kind; a = get_or xs 0 0; b = get_or xs 1 0; c = get_or xs 2 0; d = get_or xs 3 0 }

-- A step of a kind, from behind its letter on.
unfoldable pub read_arguments : ℕ → List ℕ → Option (Got Step)
read_arguments kind bs = chain (read_fields (count_of kind) bs) (λ xs rest. Some (record { value = step_with kind xs; rest = rest }))

-- A step's line.
unfoldable pub read_step : List ℕ → Option (Got Step)
read_step [] = None
read_step (b ∷ bs) = cond (eqb (kind_of b) 0) None (read_arguments (kind_of b) bs)

-- The first line, as a step of kind 0 with N, L and P for its arguments: from behind N on, and the whole line.
unfoldable pub read_sizes_behind : ℕ → List ℕ → Option (Got Step)
read_sizes_behind n bs = chain (read_fields 2 bs) (λ xs rest. Some (record { value = step_with 0 (n ∷ xs); rest = rest }))

unfoldable pub read_sizes : List ℕ → Option (Got Step)
read_sizes bs = chain (read_number bs) read_sizes_behind

-- The line at a place of a text: at its start that of the sizes, elsewhere a step's.
unfoldable pub read_line : List ℕ → ℕ → Option (Got Step)
read_line text at = cond (eqb at 0) (read_sizes text) (read_step (drop at text))
