-- `Asking::is_current` meets its contract.
use Rattle.choice.proofs.AskingLaws.{asking-had, reads-long, writes-long, both-met, first-failed}
use Rattle.choice.proofs.Asking.is_current.Goals as goal

pub meets-requires : goal.meets-requires
meets-requires c = reads-long (asking-had c.args.self.now.asks) _ c.requires c.vector-vector.ensures c.read_vector.ensures

pub write_vector-requires : goal.write_vector-requires
write_vector-requires c = (asking-had c.args.self.now.asks).below

pub meets-requires-then-meets : goal.meets-requires-then-meets
meets-requires-then-meets c = writes-long (asking-had c.args.self.now.asks) _ c.requires c.vector-vector.ensures c.write_vector.ensures

pub returns-then-meets : goal.returns-then-meets
returns-then-meets c =
    both-met (asking-had c.args.self.now.asks) _ c.requires _ _ c.if-meets.true c.vector-vector.ensures c.read_vector.ensures c.meets.ensures
    c.vector-vector.ensures c.write_vector.ensures c.meets-then-meets.ensures

pub returns-else-meets : goal.returns-else-meets
returns-else-meets c = first-failed (asking-had c.args.self.now.asks) _ c.requires _ _ c.if-meets.false c.vector-vector.ensures c.read_vector.ensures c.meets.ensures
