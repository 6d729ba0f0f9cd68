-- `kinds::sessions::open_slot` meets its contract: both answers are the rules'.
use Rattle.std.proofs.Common.{rules, refl}
use Rattle.kinds.specs.SessionLaws.{open_done, open-refused}
use Rattle.rules.specs.Step.{done}
use Rattle.kinds.proofs.sessions.open_slot.Goals as goal

pub returns-then-guarantees-ne0 : goal.returns-then-guarantees-ne0
returns-then-guarantees-ne0 c = record { kept = search rules; came = open-refused c.requires.0 _ c.requires.1 (search rules) _ c.if-guarantees-ne0.true refl }

pub returns : goal.returns
unfolding done
returns c = record { kept = search rules; came = open_done c.requires.0 _ c.requires.1 {first = c.guarantees.result} (search rules) _ (search rules) c.slot_at.ensures.is (search rules) }
