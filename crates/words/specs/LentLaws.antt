-- What code lends of a slice, from one place to another: how many elements that is, and what the slice is when they come back changed.
-- Assumes nothing.
use Rattle.std.specs.Prelude.{ℕ, ◌+◌, ◌-◌, ◌≤◌, List, ◌++◌, ◌≡◌, refl, length, take, drop}
use Rattle.std.proofs.Common.{◌∙◌, ap, ap₂, arith}
use Rattle.words.specs.Lists.{splice}
use Rattle.words.specs.PartLaws.{length_part}
use Rattle.words.specs.SpanLaws.{span}
use Rattle.words.specs.SpliceLaws.{length-splice}

-- Lent from a, as far as k elements go, and left as the borrower says.
pub lent : {A : Type 0} (xs : List A) {left new : List A} {from to a : ℕ} (k : ℕ) → from ≡ a → to ≡ from + k → left ≡ new
    → take from xs ++ (left ++ drop (to - from) (drop from xs)) ≡ splice a k xs new
unfolding splice
lent xs {left} {new} {from} {to} {a} k begins ends so =
    let count : to - from ≡ k = omega arith in
    ap₂ (λ n m. take m xs ++ (left ++ drop n (drop m xs))) count begins ∙ ap (λ r. take a xs ++ (r ++ drop k (drop a xs))) so

-- So many are lent.
pub length-lent : {A : Type 0} (xs : List A) {from to a : ℕ} (k : ℕ) → from ≡ a → to ≡ from + k → to ≤ length xs → length (take (to - from) (drop from xs)) ≡ k
length-lent {A} xs {a = a} k begins ends fits = ap (λ (r : List A). length r) (span xs k begins ends) ∙ length_part xs a k (omega arith)

-- If as many come back, the slice has as many elements as before.
pub length_back : {A : Type 0} (xs left : List A) {from to a : ℕ} (k : ℕ) → from ≡ a → to ≡ from + k → to ≤ length xs → length left ≡ length (take (to - from) (drop from xs))
    → length (take from xs ++ (left ++ drop (to - from) (drop from xs))) ≡ length xs
length_back {A} xs left {a = a} k begins ends fits many =
    ap (λ (r : List A). length r) (lent xs k begins ends refl) ∙ length-splice a k xs left (omega arith) (many ∙ length-lent xs k begins ends fits)
