-- `script::messages::too_long` meets its contract: the bytes are those of `too long`.
use Rattle.script.specs.Reply.{too_long}
use Rattle.script.proofs.messages.too_long.Goals as goal

pub returns : goal.returns
unfolding too_long
returns c = c.put.ensures
