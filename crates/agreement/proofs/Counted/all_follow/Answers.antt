-- `Counted::all_follow` meets its contract: every server's vector is asked.
use Rattle.std.proofs.Common.{refl, rules, tests}
use Rattle.tables.specs.Shape.{shape}
use Rattle.tables.specs.Sound.{rule_d}
use Rattle.words.specs.Tests.{all}
use Rattle.words.specs.RangeLaws.{all_of_range}
use Rattle.agreement.specs.Shares.{follows}
use Rattle.agreement.proofs.Counted.all_follow.Goals as goal

pub returns : goal.returns
unfolding rule_d follows
returns c =
    let z = shape c.args.self.now.view.sizes in
    let t = c.args.self.now.view.words.now in
    all_of_range z.n (λ i. all z.n (follows z t i)) _ _ _ c.all.ensures.ran refl (λ x b q k. search (rules, tests))
