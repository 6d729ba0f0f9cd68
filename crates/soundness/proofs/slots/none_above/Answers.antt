-- `slots::none_above` meets its contract: every component is asked.
use Rattle.std.proofs.Common.{refl, rules, tests}
use Rattle.tables.specs.Shape.{shape}
use Rattle.std.proofs.Math.Dec.{leb}
use Rattle.tables.specs.Layout.{decode}
use Rattle.vectors.specs.Vector.{vector_of}
use Rattle.words.specs.RangeLaws.{all_of_range}
use Rattle.soundness.specs.Shares.{none_above}
use Rattle.soundness.proofs.slots.none_above.Goals as goal

pub returns : goal.returns
unfolding none_above
returns c =
    let z = shape c.args.view.now.sizes in
    let t = c.args.view.now.words.now in
    all_of_range z.n (λ j. leb (vector_of c.args.vector.now j) ((decode z t).vector j j)) _ _ _ c.all.ensures.ran refl (λ x b q k. search (rules, tests))
