-- `slots::all_hold` meets its contract: every slot is asked.
use Rattle.std.proofs.Common.{refl, rules, tests}
use Rattle.tables.specs.Shape.{shape}
use Rattle.tables.specs.Sound.{rule_f}
use Rattle.words.specs.RangeLaws.{all_of_range}
use Rattle.soundness.specs.Shares.{slot_holds}
use Rattle.soundness.proofs.slots.all_hold.Goals as goal

pub returns : goal.returns
unfolding rule_f slot_holds
returns c =
    let z = shape c.args.view.now.sizes in
    let t = c.args.view.now.words.now in
    all_of_range z.p (slot_holds z t) _ _ _ c.all.ensures.ran refl (λ x b q k. search (rules, tests))
