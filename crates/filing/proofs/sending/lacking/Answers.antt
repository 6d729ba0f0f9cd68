use borrow.Author.Rules.{rules}
use Rattle.logs.specs.Log.{lacking}
use Rattle.logs.specs.Places.{write_in}
use Rattle.logs.specs.Stored.{write_of}
use Rattle.logs.proofs.SaidLaws.{said-origin, said-put, length-said}
use Rattle.filing.specs.SendingLaws.{lacking-sent, lacking-passed, lacking-take, lacking-least, lacking-all}
use Rattle.words.specs.Lists.{keep}
use lib.ListN.{take}
use mathlib.Core.List.{map}
use mathlib.Core.Path.{refl, ◌∙◌, ap₂}
use native.Mathlib.Omega.{arith}
use Rattle.filing.proofs.sending.lacking.Goals.{then-vector-w, else-vector-w}
use Rattle.filing.proofs.sending.lacking.Goals as goal

pub loop-place-init : goal.loop-place-init
unfolding lacking keep
loop-place-init c = (search rules, refl, refl)

pub returns-then-k-batch-clause-how_many : goal.returns-then-k-batch-clause-how_many
returns-then-k-batch-clause-how_many c =
    let at = c.loop-place in
    omega (arith, length-said write_of at.k at.batch at.invariant.0, lacking-least _ _ at.place-index _ at.invariant.2)

pub returns-then-k-batch-clause-which : goal.returns-then-k-batch-clause-which
returns-then-k-batch-clause-which c =
    let at = c.loop-place in
    lacking-take _ _ at.place-index _ at.invariant.2 at.k (length-said write_of at.k at.batch at.invariant.0)

pub bounds-vector-w : goal.bounds-vector-w
bounds-vector-w c = said-origin write_in c.args.log.now c.loop-place.place-index _ (write_of c.from-w.result) c.from-w.ensures c.loop-place-test.true c.requires

pub loop-place-preserved : goal.loop-place-preserved
loop-place-preserved c =
    let at = c.loop-place in
    elim c.if-vector-w.branch [
      | then-vector-w w ↦ (search rules, search rules, ap₂ (λ k b. map write_of (take k b)) w.k-is w.batch-is ∙ (said-put write_of at.k at.batch _ (search rules) ∙ lacking-sent _ _ at.place-index _ at.invariant.2 c.loop-place-test.true _ _ c.from-w.ensures w.if-vector-w.true))
      | else-vector-w w ↦ (search rules, search rules, ap₂ (λ k b. map write_of (take k b)) w.k-is w.batch-is ∙ lacking-passed _ _ at.place-index _ at.invariant.2 c.loop-place-test.true _ _ c.from-w.ensures w.if-vector-w.false)
    ]

pub returns-clause-how_many : goal.returns-clause-how_many
returns-clause-how_many c =
    let at = c.loop-place in
    omega (arith, length-said write_of at.k at.batch at.invariant.0, lacking-all _ _ at.place-index _ at.invariant.2 (search rules))

pub returns-clause-which : goal.returns-clause-which
returns-clause-which c =
    let at = c.loop-place in
    lacking-take _ _ at.place-index _ at.invariant.2 at.k (length-said write_of at.k at.batch at.invariant.0)
