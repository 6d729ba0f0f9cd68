-- `serve` meets its contract. Assumes nothing.
use Rattle.std.proofs.Common.{◌≡◌, ◌<◌, ◌≤◌, ◌⊎◌, inl, inr, ℕ, List, [], ◌++◌, Ok, Err, Some, None, IfSome, OnOk, Option, Result, arith, ap, sym, ◌∙◌, length, take, append-nil, length-take-le, take_all}
use Rattle.std.proofs.Math.Nat.{eq-or-lt_of_le}
use Rattle.std.proofs.Math.Seq.{take-append_seam}
use Rattle.std.specs.Io.KnownBytes.{Consumes, IsAtEnd}
use Rattle.std.specs.Result.{result_unwrap_or}
use Rattle.script.specs.declared.NoRoom.{NoRoom}
use Rattle.script.specs.Promised.{count_of}
use Rattle.desk.proofs.serve.Goals as goal

-- The first bytes, of which there are n if any stand behind them.
front : (xs bs ys : List ℕ) (n : ℕ) → xs ≡ bs ++ ys → (length bs < n → ys ≡ []) → (length bs ≡ n) ⊎ (length bs < n) → bs ≡ take n xs
front xs bs ys n is end (inl full) = sym (ap (take n) is ∙ ap (λ k. take k (bs ++ ys)) (sym full) ∙ take-append_seam bs ys)
front xs bs ys n is end (inr less) =
    let all : xs ≡ bs = is ∙ ap (λ k. bs ++ k) (end less) ∙ append-nil bs in
    sym all ∙ sym (take_all n xs (omega (arith, ap length all, less)))

-- What was read is what a text of this length can hold of the input.
filled : {T E : Type 0} (old new : Option (List ℕ)) (r : Result T E) (text : List ℕ) (read : ℕ) → read ≤ length text → OnOk r (Consumes old new (take read text))
    → OnOk r (read < length text → IsAtEnd new) → OnOk r (IfSome old (λ xs. take read text ≡ take (length text) xs))
filled None new (Ok u) text read within is end = tt
filled (Some xs) None (Ok u) text read within is end = absurd is
filled (Some xs) (Some ys) (Ok u) text read within is end =
    let long = length-take-le read text within in
    front xs (take read text) ys (length text) is (λ less. end (omega (arith, long, less))) (eq-or-lt_of_le (omega (arith, long, within)))
filled old new (Err e) text read within is end = tt

-- How many bytes the reply has.
counted : (r : Result ℕ NoRoom) {count : ℕ} → count ≡ result_unwrap_or r 0 → count ≡ count_of r
counted (Ok n) e = e
counted (Err e) f = f

pub returns : goal.returns
returns g c =
    let read = c.fill-read in
    record {
      served = record { within = read.ensures.within; replied = c.reply-replied.ensures };
      input = filled _ _ read.result.1 read.new.text read.result.0 read.ensures.within read.ensures.bytes read.ensures.end;
      output = rw (counted c.reply-replied.result c.unwrap_or-count.ensures) at c.write_all-written.ensures.bytes;
    }
