-- The lines of a script and of what the desk program prints. Assumes nothing.
use Rattle.std.specs.Prelude.{ℕ, ◌≤◌, List, [], ◌∷◌, ◌++◌}
use Rattle.tables.specs.Size.{Size}
use Rattle.rules.specs.Step.{Step}
use Rattle.lines.specs.Decimal.{decimal, greatest}

-- 01, "The desk program": "Single spaces, each line ended by a line feed". A space is the byte 32, a line feed 10.
unfoldable pub fields : List ℕ → List ℕ
fields [] = 10 ∷ []
fields (x ∷ xs) = 32 ∷ (decimal x ++ fields xs)

-- A line of numbers.
unfoldable pub numbers : ℕ → List ℕ → List ℕ
numbers x xs = decimal x ++ fields xs

-- "Line 1: N L P."
unfoldable pub size_line : Size → List ℕ
size_line z = numbers z.n (z.l ∷ z.p ∷ [])

-- What a line can say of a number: "up to 4294967295".
abbrev pub Fits : ℕ → Type 0
Fits x = x ≤ greatest

-- "Then lines `o slot guarantees`, `c slot`, `r slot item reach`, `w slot item value reach`, `x from to most`." The letters o, c, r, w
-- and x are the bytes 111, 99, 114, 119 and 120. A line is good exactly if it is the spelling of a step.
pub data StepLine : Step → List ℕ → Type 0 where
  opens : (slot guarantees : ℕ) → Fits slot → Fits guarantees
      → StepLine (record { kind = 1; a = slot; b = guarantees; c = 0; d = 0 }) (111 ∷ fields (slot ∷ guarantees ∷ []))
  closes : (slot : ℕ) → Fits slot
      → StepLine (record { kind = 2; a = slot; b = 0; c = 0; d = 0 }) (99 ∷ fields (slot ∷ []))
  reads : (slot item reach : ℕ) → Fits slot → Fits item → Fits reach
      → StepLine (record { kind = 3; a = slot; b = item; c = reach; d = 0 }) (114 ∷ fields (slot ∷ item ∷ reach ∷ []))
  writes : (slot item value reach : ℕ) → Fits slot → Fits item → Fits value → Fits reach
      → StepLine (record { kind = 4; a = slot; b = item; c = value; d = reach }) (119 ∷ fields (slot ∷ item ∷ value ∷ reach ∷ []))
  exchanges : (source target most : ℕ) → Fits source → Fits target → Fits most
      → StepLine (record { kind = 5; a = source; b = target; c = most; d = 0 }) (120 ∷ fields (source ∷ target ∷ most ∷ []))
