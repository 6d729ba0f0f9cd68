-- `slots::slot_holds` meets its contract: the slot's first word says whether it is closed.
use Rattle.soundness.specs.ReadLaws.{closed-holds, open-holds}
use Rattle.soundness.proofs.slots.slot_holds.Goals as goal

pub returns-then-guarantees-eq0 : goal.returns-then-guarantees-eq0
returns-then-guarantees-eq0 c = closed-holds _ _ _ c.guarantees.ensures c.slot.ensures c.if-guarantees-eq0.true c.all_zero.ensures

pub returns-else-guarantees-eq0 : goal.returns-else-guarantees-eq0
returns-else-guarantees-eq0 c = open-holds _ _ _ c.guarantees.ensures c.if-guarantees-eq0.false c.open_slot_holds.ensures
