use borrow.Author.Rules.{rules}
use Rattle.logs.proofs.SaidLaws.{said-origin}
use Rattle.logs.specs.Log.{follow}
use Rattle.logs.specs.Stored.{write_of}
use Rattle.filing.specs.SendingLaws.{follow-entry}
use Rattle.vectors.specs.Vector.{vector_of}
use Rattle.words.specs.RowLaws.{row-get_or}
use Prim.Native.Nat.{ℕ, ◌<◌}
use mathlib.Core.Path.{◌≡◌}
use mathlib.Core.Path.{refl, sym}
use native.Mathlib.Omega.{arith}
use Rattle.filing.proofs.sending.follow.Goals as goal

pub loop-w-init : goal.loop-w-init
unfolding follow
loop-w-init c = (refl, sym (row-get_or _ 0 _ refl))

within : {j n size : ℕ} → j < n → size ≡ n → j < size
within h e = omega (arith, h, e)

pub bounds-vector-w : goal.bounds-vector-w
bounds-vector-w c = within (said-origin write_of c.args.batch.now c.loop-w.w-index _ _ refl c.loop-w-test.true c.requires) c.loop-w.invariant.0

pub loop-w-preserved : goal.loop-w-preserved
loop-w-preserved c = (
  search rules,
  follow-entry _ c.args.batch.now c.loop-w.w-index _ (vector_of c.args.vector.now) c.loop-w-test.true
      (said-origin write_of c.args.batch.now c.loop-w.w-index _ _ refl c.loop-w-test.true c.requires) c.loop-w.invariant.1,
)
