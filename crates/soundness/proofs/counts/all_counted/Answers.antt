-- `counts::all_counted` meets its contract: every server is asked.
use Rattle.std.proofs.Common.{refl, rules, tests}
use Rattle.tables.specs.Shape.{shape}
use Rattle.tables.specs.Sound.{rule_b}
use Rattle.words.specs.RangeLaws.{all_of_range}
use Rattle.soundness.specs.Shares.{counted}
use Rattle.soundness.proofs.counts.all_counted.Goals as goal

pub returns : goal.returns
unfolding rule_b counted
returns c =
    let z = shape c.args.view.now.sizes in
    let t = c.args.view.now.words.now in
    all_of_range z.n (counted z t) _ _ _ c.all.ensures.ran refl (λ x b q k. search (rules, tests))
