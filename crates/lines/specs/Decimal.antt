-- A number as text. Assumes nothing.
use Rattle.std.specs.Prelude.{ℕ, zero, suc, ◌+◌, ◌/◌, ◌%◌, cond, List, [], ◌∷◌, ◌++◌, ltb}

-- The digits of x, the most significant first; "0" to "9" are the bytes 48 to 57. A number below 10 is one digit; any other has the
-- digits of its tenth before its last. No number has more than k + 1 digits if k is at least the number.
unfoldable pub digits : ℕ → ℕ → List ℕ
digits zero x = (48 + x) ∷ []
digits (suc k) x = cond (ltb x 10) ((48 + x) ∷ []) (digits k (x / 10) ++ ((48 + x % 10) ∷ []))

-- 01, "The desk program": "decimals without leading zeros (0 itself is "0")".
unfoldable pub decimal : ℕ → List ℕ
decimal x = digits x x

-- "up to 4294967295".
abbrev pub greatest : ℕ
greatest = 4294967295
