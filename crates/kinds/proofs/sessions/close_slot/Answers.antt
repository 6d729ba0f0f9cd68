-- `kinds::sessions::close_slot` meets its contract: both answers are the rules'.
use Rattle.std.proofs.Common.{rules, refl}
use Rattle.kinds.specs.SessionLaws.{close-done, close-refused}
use Rattle.rules.specs.Step.{done}
use Rattle.kinds.proofs.sessions.close_slot.Goals as goal

pub returns-then-guarantees-eq0 : goal.returns-then-guarantees-eq0
returns-then-guarantees-eq0 c = record { kept = search rules; came = close-refused c.requires.0 _ c.requires.1 (search rules) c.if-guarantees-eq0.true refl }

pub returns : goal.returns
unfolding done
returns c = record { kept = search rules; came = close-done c.requires.0 _ c.requires.1 {first = c.guarantees.result} (search rules) (search rules) c.slot_at-at.ensures.is refl c.clear.ensures (search rules) }
