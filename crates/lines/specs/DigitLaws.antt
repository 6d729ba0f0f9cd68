-- A text that begins with no digit, and one that begins with a number's spelling. That reading finds exactly these stands in proofs/DigitLaws.antt. Assumes nothing.
use Rattle.std.specs.Prelude.{ℕ, ◌+◌, ◌≤◌, ◌<◌, false, List, [], ◌∷◌, ◌++◌, ◌≡◌}
use Rattle.lines.specs.Decimal.{decimal, greatest}
use Rattle.lines.specs.Read.{Got, is_digit}

-- A text that does not begin with a digit.
pub data NoDigit : List ℕ → Type 0 where
  ends : NoDigit []
  other : {b : ℕ} {bs : List ℕ} → is_digit b ≡ false → NoDigit (b ∷ bs)

-- A text that begins with the digit of this value, and what stands behind it.
abbrev pub DigitAhead : List ℕ → ℕ → List ℕ → Type 0
DigitAhead bs d rest = (bs ≡ (48 + d) ∷ rest) × (d < 10)

-- What the reading of a number found.
abbrev pub Spelled : List ℕ → Got ℕ → Type 0
Spelled bs g = (bs ≡ decimal g.value ++ g.rest) × (g.value ≤ greatest)
