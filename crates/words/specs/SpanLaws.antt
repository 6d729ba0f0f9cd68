-- What code lends of a slice, from one place to another, as a part. Assumes nothing.
use Rattle.std.specs.Prelude.{ℕ, ◌+◌, ◌-◌, List, ◌≡◌, take, drop}
use Rattle.std.proofs.Common.{ap₂, arith}
use Rattle.words.specs.Lists.{part}

-- From a, as far as k elements go.
pub span : {A : Type 0} (xs : List A) {from to a : ℕ} (k : ℕ) → from ≡ a → to ≡ from + k → take (to - from) (drop from xs) ≡ part xs a k
unfolding part
span xs {from} {to} k begins ends =
    let count : to - from ≡ k = omega arith in
    ap₂ (λ n m. take n (drop m xs)) count begins
