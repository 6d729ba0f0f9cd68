-- `Counted::all_agree` meets its contract: every server's log is asked.
use Rattle.std.proofs.Common.{refl, rules, tests}
use Rattle.tables.specs.Shape.{shape}
use Rattle.tables.specs.Sound.{rule_e}
use Rattle.words.specs.Tests.{all}
use Rattle.words.specs.RangeLaws.{all_of_range}
use Rattle.agreement.specs.Shares.{agrees_with}
use Rattle.agreement.proofs.Counted.all_agree.Goals as goal

pub returns : goal.returns
unfolding rule_e agrees_with
returns c =
    let z = shape c.args.self.now.view.sizes in
    let t = c.args.self.now.view.words.now in
    all_of_range z.n (λ i. all z.n (agrees_with z t i)) _ _ _ c.all.ensures.ran refl (λ x b q k. search (rules, tests))
