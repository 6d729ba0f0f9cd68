-- `read_at` meets its contract. Assumes nothing.
use Rattle.std.proofs.Common.{◌≡◌, ℕ, ◌++◌, Ok, Err, IfOk, List, Option, Result, arith, ap, sym, ◌∙◌, subst, length, take, drop, drop_at, length-take-le}
use borrow.Rule.Slice.PartMut.{take_put}
use lib.Seq.{take-append-le}
use Rattle.std.specs.Io.{ReadsAtMost}
use Rattle.std.specs.Io.KnownBytes.{Consumes, ReadConsumes}
use Rattle.desk.proofs.reading.read_at.Goals as goal

-- What was read into a part stands behind the front.
in-place : {E : Type 0} (a b : Option (List ℕ)) (r : Result ℕ E) (front part rest : List ℕ) (at : ℕ) → length front ≡ at → ReadsAtMost r part → ReadConsumes a b r part
    → IfOk r (λ n. Consumes a b (take n (drop at (front ++ (part ++ rest)))))
in-place a b (Ok n) front part rest at long fits read =
    subst (Consumes a b) (sym (ap (take n) (drop_at front (part ++ rest) at long) ∙ take-append-le n part rest fits.0)) read.0
in-place a b (Err e) front part rest at long fits read = tt

pub returns-clause-front : goal.returns-clause-front
returns-clause-front g c = take_put _ _ c.args.text.now _ (omega (arith, c.requires))

pub returns-clause-bytes : goal.returns-clause-bytes
returns-clause-bytes g c =
    in-place _ _ c.read.result _ c.read.new.buf _ c.args.at (length-take-le _ c.args.text.now (omega (arith, c.requires))) c.read.ensures.bound c.read.ensures.bytes
