-- `applying::apply` meets its contract, kind by kind: in range it is done, and else refused.
use Rattle.std.proofs.Common.{refl, sym, ◌∙◌, arith}
use Rattle.applying.specs.KindLaws.{kind_1, kind_2, kind_3, kind_4, kind_5, kind-other, open-range, close-range, read-range, write-range, exchange-range, in-range, out_of_range, step-applied, nothing-applied}
use Rattle.applying.specs.Asked.{step_of}
use Rattle.applying.proofs.apply.Goals as goal

pub open_slot-requires : goal.open_slot-requires
open_slot-requires c =
    let range = open-range _ _ (sym c.open_in_range.ensures ∙ c.if-open_in_range.true) in
    (c.requires, range.0, range.1)

pub returns-in-1 : goal.returns-in-1
returns-in-1 c = step-applied c.requires _ (kind_1 _ _ c.in-1.is ∙ in-range _ c.open_in_range.ensures c.if-open_in_range.true) c.open_slot.ensures

pub returns-in-1-to-5 : goal.returns-in-1-to-5
returns-in-1-to-5 c = nothing-applied c.requires _ (kind_1 _ _ c.in-1.is ∙ out_of_range _ c.open_in_range.ensures c.if-open_in_range.false) refl

pub close_slot-requires : goal.close_slot-requires
close_slot-requires c = (c.requires, close-range _ _ (sym c.close_in_range.ensures ∙ c.if-close_in_range.true))

pub returns-in-2 : goal.returns-in-2
returns-in-2 c = step-applied c.requires _ (kind_2 _ _ c.in-2.is ∙ in-range _ c.close_in_range.ensures c.if-close_in_range.true) c.close_slot.ensures

pub returns-in-1-to-5-2 : goal.returns-in-1-to-5-2
returns-in-1-to-5-2 c = nothing-applied c.requires _ (kind_2 _ _ c.in-2.is ∙ out_of_range _ c.close_in_range.ensures c.if-close_in_range.false) refl

pub read-requires : goal.read-requires
read-requires c = (c.requires, read-range _ _ (sym c.read_in_range.ensures ∙ c.if-read_in_range.true))

pub returns-in-3 : goal.returns-in-3
returns-in-3 c = step-applied c.requires _ (kind_3 _ _ c.in-3.is ∙ in-range _ c.read_in_range.ensures c.if-read_in_range.true) c.read.ensures

pub returns-in-1-to-5-3 : goal.returns-in-1-to-5-3
returns-in-1-to-5-3 c = nothing-applied c.requires _ (kind_3 _ _ c.in-3.is ∙ out_of_range _ c.read_in_range.ensures c.if-read_in_range.false) refl

pub write-requires : goal.write-requires
write-requires c = (c.requires, write-range _ _ (sym c.write_in_range.ensures ∙ c.if-write_in_range.true))

pub returns-in-4 : goal.returns-in-4
returns-in-4 c = step-applied c.requires _ (kind_4 _ _ c.in-4.is ∙ in-range _ c.write_in_range.ensures c.if-write_in_range.true) c.write.ensures

pub returns-in-1-to-5-4 : goal.returns-in-1-to-5-4
returns-in-1-to-5-4 c = nothing-applied c.requires _ (kind_4 _ _ c.in-4.is ∙ out_of_range _ c.write_in_range.ensures c.if-write_in_range.false) refl

pub exchange-requires : goal.exchange-requires
exchange-requires c =
    let range = exchange-range _ _ (sym c.exchange_in_range.ensures ∙ c.if-exchange_in_range.true) in
    (c.requires, range.0, range.1)

pub returns-in-5 : goal.returns-in-5
returns-in-5 c = step-applied c.requires _ (kind_5 _ _ c.in-5.is ∙ in-range _ c.exchange_in_range.ensures c.if-exchange_in_range.true) c.exchange.ensures

pub returns-in-1-to-5-5 : goal.returns-in-1-to-5-5
returns-in-1-to-5-5 c = nothing-applied c.requires _ (kind_5 _ _ c.in-5.is ∙ out_of_range _ c.exchange_in_range.ensures c.if-exchange_in_range.false) refl

-- Every other kind.
pub returns-in_default : goal.returns-in_default
returns-in_default c =
    nothing-applied c.requires _ (kind-other _ (step_of c.args.x) (omega arith) (omega arith) (omega arith) (omega arith) (omega arith)) refl
