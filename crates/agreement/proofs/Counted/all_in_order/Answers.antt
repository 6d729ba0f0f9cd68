-- `Counted::all_in_order` meets its contract: every log is asked.
use Rattle.std.proofs.Common.{refl, rules, tests}
use Rattle.tables.specs.Shape.{shape}
use Rattle.tables.specs.Sound.{rule_c}
use Rattle.words.specs.RangeLaws.{all_of_range}
use Rattle.agreement.specs.Shares.{in_order}
use Rattle.agreement.proofs.Counted.all_in_order.Goals as goal

pub returns : goal.returns
unfolding rule_c in_order
returns c =
    let z = shape c.args.self.now.view.sizes in
    let t = c.args.self.now.view.words.now in
    all_of_range z.n (in_order z t) _ _ _ c.all.ensures.ran refl (λ x b q k. search (rules, tests))
