-- `slots::open_slot_holds` meets its contract: a slot's vectors have N components.
use Rattle.std.proofs.Common.{ap, ◌∙◌, length}
use Rattle.soundness.specs.ReadLaws.{read_length, write-length}
use Rattle.soundness.proofs.slots.open_slot_holds.Goals as goal

pub none_above-requires : goal.none_above-requires
none_above-requires c = ap length c.read_vector.ensures ∙ read_length c.args.view.now.laid _ c.requires

pub none_above-requires-then-none_above : goal.none_above-requires-then-none_above
none_above-requires-then-none_above c = ap length c.write_vector.ensures ∙ write-length c.args.view.now.laid _ c.requires
