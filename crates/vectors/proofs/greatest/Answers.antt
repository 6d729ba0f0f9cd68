-- `vectors::greatest` meets its contract: of the words one after another, the larger of each and those before it.
use Rattle.std.proofs.Common.{rules, arith, max, ◌≡◌}
use Rattle.std.proofs.lemmas.Iterator.{YieldsList-from_slice}
use Rattle.std.proofs.lemmas.Iterator.Consumers.{fold_from_yields_List}
use Rattle.vectors.specs.VectorLaws.{greatest-fold}
use Rattle.vectors.proofs.greatest.Goals as goal

pub returns : goal.returns
returns c =
    let a = c.args.a.now in
    let most =
    fold_from_yields_List _ max _ c.fold.result c.fold.ensures.ran (YieldsList-from_slice a cc)
    (λ m x b q k. let turn : b ≡ max x.now m = search rules in (search rules, omega (arith, turn)))
    in
    omega (arith, most, greatest-fold 0 a)
