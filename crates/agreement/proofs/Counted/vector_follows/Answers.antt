-- `Counted::vector_follows` meets its contract: every component is asked.
use Rattle.std.proofs.Common.{refl, rules, tests}
use Rattle.tables.specs.Shape.{shape}
use Rattle.words.specs.RangeLaws.{all_of_range}
use Rattle.agreement.specs.Shares.{follows}
use Rattle.agreement.proofs.Counted.vector_follows.Goals as goal

pub returns : goal.returns
returns c =
    let z = shape c.args.self.now.view.sizes in
    let t = c.args.self.now.view.words.now in
    all_of_range z.n (follows z t c.args.i) _ _ _ c.all.ensures.ran refl (λ x b q k. search (rules, tests))
